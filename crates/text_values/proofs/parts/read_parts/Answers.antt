-- The next part is there with its values, or a line is missing.
use Rattle.std.proofs.Common.{◌≡◌, ℕ, ◌+◌, ◌*◌, ◌-◌, ◌<◌, ◌≤◌, true, List, [], ◌++◌, length, get_or, drop, take, ℤ, refl, sym, ap, subst, ◌∙◌, arith, rules, length-append, length-drop, length-take, Some}
use mathlib.Core.Option.{Option as Read, none, some}
use lib.Seq.{length-take-le, take-append-add, take-append-le}
use borrow.Author.Tests.{eqb-true}
use borrow.Rule.Slice.PartMut.{put_mid}
use Rattle.protocol.specs.declared.Settings.{Settings}
use Rattle.protocol.specs.declared.Parts.{Parts}
use Rattle.protocol.specs.Settings.{settings_refusal}
use Rattle.protocol.proofs.Tests.{every_at}
use Rattle.text_format.specs.Text.{Shape, Spot, shape_size, spots}
use Rattle.text_format.specs.Lines.{read_values}
use Rattle.text_parts.specs.Parts.{table_count, as_shape, part_of, lengths_are}
use Rattle.text_parts.specs.Flat as Flat
use Rattle.text_parts.specs.Flat.{total}
use Rattle.text_parts.proofs.Flat.{start_next}
use Rattle.text_parts.proofs.Cells.{spots-count}
use Rattle.text_parts.proofs.Counted.{part_of_holds}
use Rattle.text_values.specs.Parts.{part_spots, Took}
use Rattle.text_lines.proofs.Values.{prefix, prefix-nothing, prefix-prefix, values-done}
use Rattle.text_lines.proofs.Follow.{values-room}
use Rattle.text_values.proofs.Cells.{taken-missed, taken-found, took-missed, took-done, took-place}
use Rattle.text_values.proofs.Wants.{part_count, spots_from, spots-from_next, spots-from-end, spots-from_one, values-then, values-never}
use Rattle.text_values.proofs.parts.read_parts.Goals as goal

prefix-none : (vs : List ℤ) → prefix vs none ≡ none
unfolding prefix
prefix-none vs = refl

-- what is asked of the settings, of the place that is read from and of the room for values
abbrev Asked : Settings → ℕ → List ℕ → List ℤ → Type 0
Asked S from text lent = (settings_refusal S ≡ 0) × (from ≤ length text) × (length text ≤ 8 * length lent)

-- what the loop keeps of the lines, where that is given
abbrev Left : Settings → Parts → List ℕ → ℕ → List ℤ → ℕ → ℕ → ℕ → Type 0
Left S P text from values start at part =
    (at ≤ length text) × (start + length (spots_from S P part) ≡ length (part_spots S P))
    × (read_values (part_spots S P) (drop from text) ≡ prefix (take start values) (read_values (spots_from S P part) (drop at text)))

-- one part more
stored_next : (values last behind : List ℤ) (start size : ℕ) → start ≤ length values → size ≤ length last
    → take (start + size) (take start values ++ (last ++ behind)) ≡ take start values ++ take size last
stored_next values last behind start size h k =
    ap (λ n. take (n + size) (take start values ++ (last ++ behind))) (sym (length-take-le start values h))
    ∙ take-append-add (take start values) (last ++ behind) size ∙ ap (λ l. take start values ++ l) (take-append-le size last behind k)

-- the part that is read
module _ (S : Settings) (P : Parts) (part size : ℕ) (b : Shape) (few : part < part_count) (b-is : b ≡ part_of S P part) (size-is : size ≡ shape_size b) where
  abbrev spots_here : List Spot
  spots_here = spots b

  abbrev spots_next : List Spot
  spots_next = spots_from S P (part + 1)

  count_is : size ≡ length spots_here
  count_is = size-is ∙ sym (spots-count b)

  -- where the tables have their lengths, the next one begins behind this part
  start-behind : (start : ℕ) → 1 ≤ part → (n : List ℕ) → lengths_are (part_of S P) n ≡ true → start ≡ Flat.start n (part - 1) → start + size ≡ Flat.start n (part + 1 - 1)
  unfolding lengths_are
  start-behind start one n f e =
      let k = part - 1 in
      let long : size ≡ get_or n k 0 = size-is ∙ ap shape_size (b-is ∙ ap (part_of S P) {x = part} {y = k + 1} (omega arith)) ∙ sym (eqb-true _ _ (every_at table_count _ f k (omega arith))) in
      (λ j. e j + long j) ∙ sym (start_next n k) ∙ ap (Flat.start n) {x = k + 1} {y = part + 1 - 1} (omega arith)

  module _ (text : List ℕ) (from at start : ℕ) (lent values : List ℤ) (g : Asked S from text lent) (same : length values ≡ length lent) (left : Left S P text from values start at part) where
    abbrev whole : Read (List ℤ × List ℕ)
    whole = read_values (part_spots S P) (drop from text)

    next_spots : spots_from S P part ≡ spots_here ++ spots_next
    next_spots = spots-from_next S P part few ∙ ap (λ x. spots x ++ spots_next) (sym (b-is ∙ part_of_holds S P g.0 part))

    counts : length (spots_from S P part) ≡ size + length spots_next
    counts = ap length next_spots ∙ length-append spots_here spots_next ∙ ap (λ n. n + length spots_next) (sym count_is)

    here : whole ≡ prefix (take start values) (read_values (spots_here ++ spots_next) (drop at text))
    here = left.2 ∙ ap (λ ss. prefix (take start values) (read_values ss (drop at text))) next_spots

    -- where there is no room, not all lines are there
    crowded : length values < start + size → whole ≡ none
    crowded h = by whole refl
      where
        by : (o : Read (List ℤ × List ℕ)) → whole ≡ o → whole ≡ none
        by none e = e
        by (some (vs, rest)) e = absurd (omega (arith, values-room (part_spots S P) (drop from text) vs rest e, length-drop from text, counts, left.1, g.2, same))

    missing : read_values spots_here (drop at text) ≡ none → whole ≡ none
    missing e = here ∙ ap (prefix (take start values)) (values-never spots_here spots_next (drop at text) e) ∙ prefix-none _

    module _ (last behind : List ℤ) (next : ℕ) (room : start ≤ length values) (long : size ≤ length last) (took : Took text at spots_here (Some next) last) where
      more : Left S P text from (take start values ++ (last ++ behind)) (start + size) next (part + 1)
      more =
          let (vs, rest, found, next-is) = taken-found text (read_values spots_here (drop at text)) next took.answer in
          let on = took-place text at spots_here last vs rest found in
          let stored : take size last ≡ vs = ap (λ n. take n last) count_is ∙ took.stored vs rest found in (
            omega (arith, next-is),
            omega (arith, counts, left.1),
            here ∙ ap (prefix (take start values)) (values-then spots_here spots_next (drop at text) vs rest found)
                ∙ prefix-prefix (take start values) vs _
                ∙ (λ j. prefix (take start values ++ sym stored j) (read_values spots_next ((sym on ∙ ap (λ n. drop n text) (sym next-is)) j)))
                ∙ ap (λ l. prefix l (read_values spots_next (drop next text))) (sym (stored_next values last behind start size room long)),
          )

pub loop-part-init : goal.loop-part-init
unfolding Flat.start
loop-part-init c =
    let a = c.args in
    let one = spots-from_one a.settings a.parts in
    record {
      room = omega arith;
      starts = λ n f. refl;
      left = λ g. (g.1, omega (arith, ap length one), ap (λ ss. read_values ss (drop a.from a.text.now)) one ∙ sym (prefix-nothing _));
    }

pub returns-then-size-values-clause-lines : goal.returns-then-size-values-clause-lines
returns-then-size-values-clause-lines c g =
    let a = c.args in
    let l = c.loop-part in
    took-missed a.text.now a.from _ _
    (crowded a.settings a.parts l.part c.size-size.result (as_shape c.shape_of-shape.result) (omega arith) c.shape_of-shape.ensures c.size-size.ensures a.text.now a.from l.at l.start a.values.now l.values g
    (search rules) (l.invariant.left g) (omega arith))

pub returns-in_err-at-clause-lines : goal.returns-in_err-at-clause-lines
returns-in_err-at-clause-lines c g =
    let a = c.args in
    let l = c.loop-part in
    let values = put_mid l.start (length l.values - l.start) l.values c.read_part.new.values in
    let left = l.invariant.left g in
    let none_here = taken-missed a.text.now _ (c.in_err-at.ensures left.0).answer in
    let missed = missing a.settings a.parts l.part c.size-size.result (as_shape c.shape_of-shape.result) (omega arith) c.shape_of-shape.ensures c.size-size.ensures a.text.now a.from l.at l.start a.values.now l.values g
    (search rules) left none_here in
    subst (λ r. Took a.text.now a.from (part_spots a.settings a.parts) r values) (sym c.from_residual.ensures) (took-missed a.text.now a.from _ values missed)

pub loop-part-preserved : goal.loop-part-preserved
loop-part-preserved c =
    let a = c.args in
    let l = c.loop-part in
    let size = c.size-size.result in
    let b = as_shape c.shape_of-shape.result in
    let last = c.read_part.new.values in
    let few : l.part < part_count = omega arith in
    let fits : l.start + size ≤ length l.values = omega arith in
    let long : length last ≡ length l.values - l.start = c.read_part.auto.values ∙ simp (length-take, length-drop) (omega arith) in
    record {
      room = simp (length-append, length-take, length-drop) (omega arith);
      starts = λ n f. start-behind a.settings a.parts l.part size b few c.shape_of-shape.ensures c.size-size.ensures l.start (omega arith) n f (l.invariant.starts n f);
      left = λ g.
          let left = l.invariant.left g in
          more a.settings a.parts l.part size b few c.shape_of-shape.ensures c.size-size.ensures a.text.now a.from l.at l.start a.values.now l.values g (search rules) left
          last _ c.in_ok-at.at (omega arith) (omega arith) (c.in_ok-at.ensures left.0);
    }

pub returns-clause-lines : goal.returns-clause-lines
returns-clause-lines c g =
    let l = c.loop-part in
    let a = c.args in
    let end : l.part ≡ part_count = omega arith in
    let none_left : spots_from a.settings a.parts l.part ≡ [] = ap (spots_from a.settings a.parts) end ∙ spots-from-end a.settings a.parts in
    let (within, count, left) = l.invariant.left g in
    took-done a.text.now a.from (part_spots a.settings a.parts) l.values l.start l.at (omega (arith, count, ap length none_left)) within
    (values-done _ (take l.start l.values) (drop l.at a.text.now) (left ∙ ap (λ ss. prefix (take l.start l.values) (read_values ss (drop l.at a.text.now))) none_left))

pub returns-clause-room : goal.returns-clause-room
unfolding total
returns-clause-room c _ n f =
    let l = c.loop-part in
    omega (arith, l.invariant.room, l.invariant.starts n f, ap (λ k. Flat.start n (k - 1)) {x = l.part} {y = part_count} (omega arith))
