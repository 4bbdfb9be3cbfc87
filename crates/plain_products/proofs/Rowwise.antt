-- Tables that are written row by row, and the parts of tables as the code is handed them back.
--
--   put-tail, put_first, put_same, put-length
--                                 a part of a table from a place on, handed back: in general, with a front that was written, as it was; its length
--   put-part                      a part of a table, handed back
--   row_turn, part-turn           one row more is written
use mathlib.Core.Path.{◌≡◌, refl, sym, ap, ◌∙◌}
use mathlib.Core.List.{List, [], ◌∷◌, ◌++◌, append-nil}
use Prim.Native.Nat.{ℕ, ◌+◌, ◌*◌, ◌-◌, ◌≤◌}
use borrow.Rule.Slice.PartMut.{put_mid}
use native.Mathlib.Nat as Nat
use native.Mathlib.Omega.{arith}
use lib.ListN.{length, get_or, take, drop, length-append, length-drop, take-append-drop}
use lib.Seq.{length-take-le}
use Rattle.protocol.proofs.Reading.{cell-element, cell-place, tabulate_own}
use Rattle.residues.specs.Lists.{filled, spliced}
use Rattle.residues.proofs.Parts.{tail_all, tail-length}
use Rattle.residues.proofs.Splice.{spliced-twice}
use Rattle.plain_products.specs.Rowwise.{element_places, row_places}

-- ---- what a callee wrote into a part of a table, handed back

pub empty : (l : List ℕ) → length l ≡ 0 → l ≡ []
empty [] e = refl
empty (x ∷ l) e = absurd (omega (arith, e))

pub put-tail : (at : ℕ) (l q : List ℕ) → put_mid at (length l - at) l q ≡ take at l ++ q
put-tail at l q = ap (λ r. take at l ++ r) (ap (λ r. q ++ r) (empty (drop (length l - at) (drop at l)) (length-drop (length l - at) (drop at l) ∙ omega (arith, length-drop at l))) ∙ append-nil q)

pub put_first : (f : ℕ → ℕ) (at d : ℕ) (l last : List ℕ) → last ≡ filled f d (take (length l - at) (drop at l)) → put_mid at (length l - at) l last ≡ spliced f at d l
unfolding spliced filled
put_first f at d l last e = put-tail at l last ∙ ap (λ x. take at l ++ x) (e ∙ ap (filled f d) (tail_all at l))

pub put_same : (at : ℕ) (l last : List ℕ) → last ≡ take (length l - at) (drop at l) → put_mid at (length l - at) l last ≡ l
put_same at l last e = put-tail at l last ∙ ap (λ x. take at l ++ x) (e ∙ tail_all at l) ∙ take-append-drop at l

pub put-length : (at : ℕ) (l last : List ℕ) → at ≤ length l → length last ≡ length (take (length l - at) (drop at l)) → length (put_mid at (length l - at) l last) ≡ length l
put-length at l last h e = ap length (put-tail at l last) ∙ length-append (take at l) last ∙ omega (arith, length-take-le at l h, e, tail-length at l)

pub put-part : (at n : ℕ) (l last : List ℕ) → length last ≡ n → put_mid at n l last ≡ spliced (element_places last) at n l
unfolding spliced
put-part at n l last e = ap (λ x. take at l ++ (x ++ drop n (drop at l))) (sym (tabulate_own n last 0 e))

-- ---- one row more

module _ (d : ℕ) (f : ℕ → List ℕ) (r : ℕ) (l s : List ℕ) (room : r * d + d ≤ length l) (is : s ≡ filled (row_places d f) (r * d) l) where
  row_written : spliced (element_places (f r)) (r * d) d s ≡ filled (row_places d f) ((r + 1) * d) l
  unfolding filled spliced
  row_written =
      (λ i. spliced (element_places (f r)) (sym (Nat.zero-add (r * d)) i) d (is i))
      ∙ spliced-twice (row_places d f) (element_places (f r)) 0 (r * d) d l (omega arith) (λ k h i. get_or (f (sym (cell-element d r k h) i)) (sym (cell-place d r k h) i) 0)
      ∙ ap (λ n. filled (row_places d f) n l) {x = r * d + d} {y = (r + 1) * d} (omega (arith, Nat.add-mul r 1 d))

  -- its callee was lent what stands from there on
  pub row_turn : (last : List ℕ) → last ≡ filled (element_places (f r)) d (take (length s - r * d) (drop (r * d) s))
      → put_mid (r * d) (length s - r * d) s last ≡ filled (row_places d f) ((r + 1) * d) l
  row_turn last e = put_first (element_places (f r)) (r * d) d s last e ∙ row_written

  -- its callee was lent that row
  pub part-turn : (last : List ℕ) → length last ≡ d → last ≡ f r → put_mid (r * d) d s last ≡ filled (row_places d f) ((r + 1) * d) l
  part-turn last long e = put-part (r * d) d s last long ∙ ap (λ x. spliced (element_places x) (r * d) d s) e ∙ row_written
