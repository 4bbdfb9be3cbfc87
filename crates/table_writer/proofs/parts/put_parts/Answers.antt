-- A table that has the length of its part is the part's values.
use Rattle.std.proofs.Common.{ℤ, ◌≡◌, true, ◌<◌, ◌+◌, ◌-◌, ◌++◌, List, ℕ, length, get_or, take, drop, refl, sym, ap, ◌∙◌, arith, length-drop}
use Rattle.std.proofs.lemmas.Result.{err_from_is_err_and}
use Rattle.std.proofs.lemmas.List.{drop-drop}
use borrow.Author.Tests.{eqb-true}
use Rattle.protocol.proofs.Tests.{every_at}
use Rattle.text_format.specs.Text.{Shape, shape_size}
use Rattle.text_parts.specs.Parts.{table_count, part_of, lengths_are}
use Rattle.text_parts.specs.Flat.{start, piece}
use Rattle.text_parts.proofs.Flat.{start_next, start_most}
use Rattle.table_writer.specs.Put.{part_text}
use Rattle.table_writer.specs.Tables.{parted, behind_text}
use Rattle.table_writer.proofs.WholeText.{parted_next, parted_longer}
use Rattle.table_writer.proofs.parts.put_parts.Goals as goal

pub loop-k-init : goal.loop-k-init
unfolding start parted
loop-k-init c = (refl, λ _. refl)

pub split_at-requires : goal.split_at-requires
split_at-requires c =
    let l = c.loop-k in
    let n = c.args.lengths in
    omega (arith, ap length l.invariant.0, length-drop (start n l.k) c.args.values.now, start_most n l.k (omega arith), c.requires)

-- a table of the length of its part
length-sized : (b : ℕ → Shape) (n : List ℕ) (k : ℕ) → k < table_count → lengths_are b n ≡ true → get_or n k 0 ≡ shape_size (b (k + 1))
unfolding lengths_are
length-sized b n k h fits = eqb-true _ _ (every_at table_count _ fits k h)

-- one part more behind a text
grown : (b : ℕ → Shape) (v : ℕ → List ℤ) (k : ℕ) (start text : List ℕ) (c : Shape) (w : List ℤ) → text ≡ parted b v k start → c ≡ b k → w ≡ v k
    → text ++ part_text c w ≡ parted b v (k + 1) start
grown b v k start text c w e f g = (λ j. e j ++ part_text (f j) (g j)) ∙ sym (parted_next b v k start)

pub returns-in_err-put_part : goal.returns-in_err-put_part
returns-in_err-put_part c =
    let l = c.loop-k in
    let a = c.args in
    let n = a.lengths in
    let vs = a.values.now in
    let shape_is = c.shape_of-shape.ensures in
    let piece_is = c.split_at.ensures.front ∙ ap (take (get_or n l.k 0)) l.invariant.0 in
    let p = err_from_is_err_and c.from_residual.result c.from_residual.ensures.1 in
    λ fits.
    let sized = length-sized (part_of a.settings a.parts) n l.k (omega arith) fits in
    let (long, over) = c.in_err-put_part.ensures (c.split_at.ensures.front_len ∙ sized ∙ sym (ap shape_size shape_is)) in
    let whole = grown (λ i. part_of a.settings a.parts (i + 1)) (λ i. piece n i vs) l.k a.text.now l.text _ _ (l.invariant.1 fits) shape_is piece_is in
    let longer = parted_longer (λ i. part_of a.settings a.parts (i + 1)) (λ i. piece n i vs) (l.k + 1) (table_count - (l.k + 1)) a.text.now in
    let most = ap (λ k. length (behind_text a.settings a.parts n vs k a.text.now)) {x = l.k + 1 + (table_count - (l.k + 1))} {y = table_count} (omega arith) in
    rw (p.1, p.2) (long, omega (arith, over, ap length whole, longer, most))

pub loop-k-preserved : goal.loop-k-preserved
loop-k-preserved c =
    let l = c.loop-k in
    let a = c.args in
    let n = a.lengths in
    let vs = a.values.now in
    let shape_is = c.shape_of-shape.ensures in
    let piece_is = c.split_at.ensures.front ∙ ap (take (get_or n l.k 0)) l.invariant.0 in (
      c.split_at.ensures.back ∙ ap (drop (get_or n l.k 0)) l.invariant.0
          ∙ drop-drop (get_or n l.k 0) (start n l.k) vs
          ∙ ap (λ k. drop k vs) (sym (start_next n l.k)),
      λ fits.
          let sized = length-sized (part_of a.settings a.parts) n l.k (omega arith) fits in
          c.in_ok-put_part.ensures (c.split_at.ensures.front_len ∙ sized ∙ sym (ap shape_size shape_is))
          ∙ grown (λ i. part_of a.settings a.parts (i + 1)) (λ i. piece n i vs) l.k a.text.now l.text _ _ (l.invariant.1 fits) shape_is piece_is,
    )
