-- The fold of a table, the first half being moved down before.
use mathlib.Core.Path.{◌≡◌, refl, sym, ap, ◌∙◌}
use mathlib.Core.List.{List, ◌++◌}
use Prim.Native.Nat.{ℕ, ◌+◌, ◌*◌, ◌/◌, ◌%◌, ◌<◌, ◌≤◌}
use native.Mathlib.Nat as Nat
use native.Mathlib.Omega.{arith}
use lib.IntN.{pos, ◌+ℤ◌}
use lib.ListN.{length, get_or, take, drop}
use lib.Seq.{get_or-drop}
use Rattle.protocol.specs.Basic.{flat}
use Rattle.protocol.specs.Element.{width, modulo, residue_at}
use Rattle.protocol.specs.Opening.{fold_residues}
use Rattle.protocol.proofs.Agreement.{rotate_same}
use Rattle.protocol.proofs.Reading.{row_inside}
use Rattle.protocol.proofs.Rotation.{rotate-mod}
use Rattle.residues.specs.Lists.{spliced, spliced_rows}
use Rattle.folds.specs.Folds.{half_most, folded, fold_down, folded_at, fold_halves, Halves, Foldable}
use Rattle.residues.proofs.Splice.{spliced-inside, spliced_ext, spliced-over}
use Rattle.residues.proofs.Parts.{residues-part, residues-alike, residues_kept, as_was, same_long}

-- a half has few numbers
pub few : (d h : ℕ) → d ≤ width → h ≤ half_most → h * d ≤ half_most * width
few d h ld lh = Nat.mul-le-mul {n₂ = half_most} {m₂ = width} lh ld

-- coefficient k of element i from a place on
at_place : (d : ℕ) (t : List ℕ) (at i k : ℕ) → residue_at d (drop at t) i k ≡ pos (get_or t (at + (i * d + k)) 0)
unfolding residue_at
at_place d t at i k = ap pos (get_or-drop at t (i * d + k) 0)

-- ---- the first half moved down, and then the fold

module _ (q d h e from to : ℕ) (t t₁ : List ℕ) (f : Foldable q d h from to t) (is : t₁ ≡ spliced (λ k. get_or t (from + k) 0) to (h * d) t) where
  all_inside : from + 2 * (h * d) ≤ length t
  all_inside = f.residues.long

  moved_at : (k : ℕ) → k < h * d → get_or t₁ (to + k) 0 ≡ get_or t (from + k) 0
  moved_at k m = ap (λ s. get_or s (to + k) 0) is ∙ spliced-inside (λ i. get_or t (from + i) 0) to (h * d) t (omega (arith, f.down, all_inside)) k m

  kept_at : (x : ℕ) → from + h * d ≤ x → get_or t₁ x 0 ≡ get_or t x 0
  kept_at x m = as_was (λ k. get_or t (from + k) 0) to (h * d) t t₁ (omega (arith, f.down, all_inside)) is x (omega (arith, f.down))

  pub halves : Halves q (h * d) to (from + h * d) t₁
  halves = record {
    first = residues-alike q (h * d) from to (residues-part q (2 * (h * d)) from (h * d) from f.residues (omega arith) (omega arith))
        (omega (arith, f.down, all_inside, same_long _ to (h * d) t t₁ (omega (arith, f.down, all_inside)) is))
        moved_at;
    last = residues_kept _ to (h * d) t t₁ (omega (arith, f.down, all_inside)) is q (h * d) (from + h * d)
        (residues-part q (2 * (h * d)) from (h * d) (from + h * d) f.residues (omega arith) (omega arith)) (omega (arith, f.down));
  }

  same_cell : (i k : ℕ) → i < h → k < d → folded_at q d e to (from + h * d) t₁ i k ≡ folded q d h e (drop from t) i k
  unfolding folded
  same_cell i k li lk = λ a. modulo q (
      (ap pos (moved_at (i * d + k) (omega (arith, row_inside d h i li))) ∙ sym (at_place d t from i k)) a
      +ℤ rotate_same f.degree e (λ j l.
      ap pos (kept_at (from + h * d + (i * d + j)) (omega arith) ∙ ap (λ n. get_or t n 0) (omega (arith, Nat.add-mul h i d)))
      ∙ sym (at_place d t from (h + i) j)) k a)

  pub fold_done : fold_halves q d h e to (from + h * d) t₁ ≡ fold_down q d h e from to t
  unfolding fold_halves
  fold_done =
      ap (spliced_rows (folded_at q d e to (from + h * d) t₁) to d h) is
      ∙ spliced-over (λ k. get_or t (from + k) 0) _ to (h * d) t (omega (arith, f.down, all_inside))
      ∙ spliced_ext _ (λ p. folded q d h e (drop from t) (p / d) (p % d)) to (h * d) t
      (λ p m. same_cell (p / d) (p % d) ((Nat.div-lt_iff_lt-mul f.degree).1 m) (Nat.mod-lt p f.degree))
      ∙ unfold spliced fold_down flat in refl

-- the exponent counts on the circle of 2d places
pub fold_once : (q d h e from to : ℕ) (t : List ℕ) → fold_down q d h (e % (2 * d)) from to t ≡ fold_down q d h e from to t
unfolding fold_down folded
fold_once q d h e from to t = λ v.
    take to t ++ (flat d h (λ i k. modulo q (residue_at d (drop from t) i k +ℤ rotate-mod d e (residue_at d (drop from t) (h + i)) k v)) ++ drop (h * d) (drop to t))

pub fold_in_place : (q d h e : ℕ) (t : List ℕ) → fold_down q d h e 0 0 t ≡ fold_residues q d h e t
unfolding fold_down folded fold_residues
fold_in_place q d h e t = refl
