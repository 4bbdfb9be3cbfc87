-- What is left of both tables in a round may be folded, and every row of a key is.
use mathlib.Core.Path.{◌≡◌, sym, ap, ◌∙◌, subst}
use mathlib.Core.List.{List, ◌++◌, append-nil}
use Prim.Native.Nat.{ℕ, ◌+◌, ◌*◌, ◌-◌, ◌<◌, ◌≤◌}
use borrow.Rule.Slice.PartMut.{put_mid}
use native.Mathlib.Nat as Nat
use native.Mathlib.Omega.{arith}
use lib.IntN.{ℤ}
use lib.ListN.{length, get_or, take, drop, length-append, length-drop}
use lib.Seq.{length-take-le}
use Rattle.protocol.specs.declared.Settings.{Settings}
use Rattle.protocol.specs.Basic.{tabulate, flat}
use Rattle.protocol.specs.Settings.{cells}
use Rattle.protocol.specs.Opening.{half_left, fold_key, fold_residues}
use Rattle.protocol.specs.Rows.{key_row, stacked, fold_keys}
use Rattle.protocol.specs.Calls.{fold_refusal}
use Rattle.protocol.proofs.Inputs.{settings-valid}
use Rattle.protocol.proofs.Reading.{row_inside, tabulate_ext}
use Rattle.protocol.proofs.Rows.{key-cells, key_row-length}
use Rattle.sizes.proofs.Limits.{degree_least, degree_most}
use Rattle.residues.specs.Lists.{filled}
use Rattle.residues.proofs.Fill.{filled-behind}
use Rattle.prover_refusals.proofs.Given.{FoldGiven, first_row, fold_key_holds, fold_given}
use Rattle.folds.specs.Folds as residues
use Rattle.message_folds.specs.Messages as messages
use Rattle.plain_products.specs.Rowwise.{row_places}
use Rattle.round_products.proofs.Halves.{left_halves, halves-inside, half_most_lem, left_most}
use Rattle.plain_products.proofs.Rowwise.{empty, part-turn}
use Rattle.round_products.proofs.Rowwise.{lent_row, Written, written_all}
use Rattle.prover.specs.Rowwise.{KeysGiven}

-- ---- the message

pub message_foldable : (S : Settings) (t e : ℕ) (key : List ℕ) (message : List ℤ) → FoldGiven S t e key message → messages.Foldable S.degree (half_left S t) e message
message_foldable S t e key message g =
    let ok = g.tables.settings in
    record {
      degree = omega (arith, degree_least S ok);
      degree_most = degree_most S ok;
      elements = half_most_lem S ok t g.turn;
      exponent = g.exponent_below;
      long = omega (arith, halves-inside S ok t g.turn, g.tables.message_long);
      room = record { each = λ j m. omega (arith, left_most S ok t g.turn, g.small_left j (omega (arith, left_halves S ok t g.turn))) };
    }

-- ---- the key, G before the fold

-- a part that was lent is handed back
pub part_length : (at n : ℕ) (l last : List ℕ) → at + n ≤ length l → length last ≡ length (take n (drop at l)) → length (put_mid at n l last) ≡ length l
part_length at n l last h e =
    length-append (take at l) (last ++ drop n (drop at l))
    ∙ omega (
      arith,
      length-take-le at l (omega arith),
      length-append last (drop n (drop at l)),
      e,
      length-take-le n (drop at l) (omega (arith, length-drop at l)),
      length-drop at l,
      length-drop n (drop at l),
    )

pub keys_given : (S : Settings) (t e : ℕ) (key : List ℕ) (message : List ℤ) → fold_refusal S t e key message ≡ 0 → KeysGiven S t key
keys_given S t e key message z =
    let (ok, long) = fold_key_holds S key message t e z in
    record { allowed = ok; long = long; rows_given = λ r h. (fold_given S key message t e z r h).tables.key_given; turn = (fold_given S key message t e z 0 (first_row S ok)).turn }

-- a row behind what is written is as it was
row_kept : (S : Settings) (F : ℕ → ℕ) (r : ℕ) (G s : List ℕ) → s ≡ filled F (r * cells S) G → key_row S s r ≡ key_row S G r
unfolding key_row
row_kept S F r G s e = tabulate_ext (cells S) (λ p _. ap (λ l. get_or l (r * cells S + p) 0) e ∙ filled-behind F (r * cells S) G 0 (r * cells S + p) (omega arith))

module _ (S : Settings) (t e : ℕ) (G : List ℕ) (g : KeysGiven S t G) where
  abbrev folds : ℕ → List ℕ
  folds r = fold_key S t e (key_row S G r)

  row_foldable : (r : ℕ) → r < S.rows → residues.Foldable S.modulus S.degree (half_left S t) 0 0 (key_row S G r)
  row_foldable r h =
      let ok = settings-valid S g.allowed in
      let inside = halves-inside S ok t g.turn in
      record {
        degree = omega (arith, degree_least S ok);
        degree_most = degree_most S ok;
        elements = half_most_lem S ok t g.turn;
        down = omega arith;
        residues = record { long = omega (arith, inside, key_row-length S G r); each = λ k m. (g.rows_given r h).each (0 + k) (omega (arith, inside)) };
      }

  pub fold_row_holds : {r from : ℕ} {s : List ℕ} → Written S (cells S) folds G r from from s → r < S.rows → length s ≡ length G → (m n : ℕ) → m ≡ cells S → n ≡ half_left S t → (last : List ℕ)
      → length last ≡ length (take (from + m - from) (drop from s))
      → (residues.Foldable S.modulus S.degree n 0 0 (take (from + m - from) (drop from s)) → last ≡ fold_residues S.modulus S.degree n e (take (from + m - from) (drop from s)))
      → Written S (cells S) folds G (r + 1) (from + m) (from + m) (put_mid from (from + m - from) s last)
  unfolding fold_key
  fold_row_holds {r} {from} {s} w h same m n em en last long wrote =
      let at : from ≡ r * cells S = w.from_is in
      let size : from + m - from ≡ cells S = omega (arith, em) in
      let next : from + m ≡ (r + 1) * cells S = omega (arith, at, em, Nat.add-mul r 1 (cells S)) in
      let row : take (from + m - from) (drop from s) ≡ key_row S G r =
      (λ i. take (size i) (drop (at i) s)) ∙ lent_row S s r (same ∙ g.long) h ∙ row_kept S (row_places (cells S) folds) r G s w.is in
      let is : last ≡ folds r =
      wrote (subst (λ k. residues.Foldable S.modulus S.degree n 0 0 k) (sym row) (subst (λ k. residues.Foldable S.modulus S.degree k 0 0 (key_row S G r)) (sym en) (row_foldable r h)))
      ∙ (λ i. fold_residues S.modulus S.degree (en i) e (row i)) in
      record {
        from_is = next;
        at-is = next;
        is = (λ i. put_mid (at i) (size i) s last)
            ∙ part-turn (cells S) folds r G s (omega (arith, row_inside (cells S) S.rows r h, key-cells S, g.long)) w.is last (long ∙ ap length row ∙ key_row-length S G r) is;
      }

  pub folded_all : {r from : ℕ} {s : List ℕ} → Written S (cells S) folds G r from from s → r ≡ S.rows → s ≡ fold_keys S t e G
  unfolding fold_keys stacked flat filled
  folded_all w e-is =
      written_all S (cells S) folds G w e-is
      ∙ ap (λ l. tabulate (S.rows * cells S) (row_places (cells S) folds) ++ l) (empty (drop (S.rows * cells S) G) (length-drop (S.rows * cells S) G ∙ omega (arith, key-cells S, g.long)))
      ∙ append-nil _
