-- Folds of flat tables of residues.
--
--   half_most               128: how many elements a half has at most
--   folded q d h e G i k    coefficient k of element i of the table G of 2h elements after a fold by X^e
--   fold_down q d h e ..    the table t in which the fold of the 2h elements from place `from` on stands from place `to` on
--   fold_halves q d h e ..  the table t in which h elements from place `to` on have X^e times the h elements from place `second` on added
--   signed_sum q negative .. the sum of two residues, or their difference
--   Halves q n to second t  the n numbers of each half are residues
--   Foldable q d h ..       may it be folded so: the fold stays inside the table, writes no place that it reads later, and the numbers are residues
use Rattle.std.specs.Prelude.{Bool, List, ◌++◌, ℕ, ◌+◌, ◌*◌, ◌<◌, ◌≤◌, get_or, take, drop, pos, ◌+ℤ◌}
use Rattle.protocol.specs.Basic.{flat}
use Rattle.protocol.specs.Element.{width, modulo, rotate, residue_at}
use Rattle.residues.specs.Lists.{spliced_rows}
use Rattle.residues.specs.Residues.{Residues, signed}

-- 2^7: the deepest table has 2^8 elements
abbrev pub half_most : ℕ
half_most = 128

-- x + y modulo q, or x − y
abbrev pub signed_sum : ℕ → Bool → ℕ → ℕ → ℕ
signed_sum q negative x y = modulo q (pos x +ℤ signed negative (pos y))

unfoldable pub folded : ℕ → ℕ → ℕ → ℕ → List ℕ → ℕ → ℕ → ℕ
folded q d h e G i k = modulo q (residue_at d G i k +ℤ rotate d e (residue_at d G (h + i)) k)

unfoldable pub fold_down : ℕ → ℕ → ℕ → ℕ → ℕ → ℕ → List ℕ → List ℕ
fold_down q d h e from to t = take to t ++ (flat d h (folded q d h e (drop from t)) ++ drop (h * d) (drop to t))

-- coefficient k of element i of h folded elements, of which one half stands from place `to` on and the other from place `second` on
abbrev pub folded_at : ℕ → ℕ → ℕ → ℕ → ℕ → List ℕ → ℕ → ℕ → ℕ
folded_at q d e to second t i k = modulo q (pos (get_or t (to + (i * d + k)) 0) +ℤ rotate d e (λ j. pos (get_or t (second + (i * d + j)) 0)) k)

unfoldable pub fold_halves : ℕ → ℕ → ℕ → ℕ → ℕ → ℕ → List ℕ → List ℕ
fold_halves q d h e to second t = spliced_rows (folded_at q d e to second t) to d h t

pub record Halves (q n to second : ℕ) (t : List ℕ) : Type 0 where
  pub first : Residues q n to t
  pub last : Residues q n second t

pub record Foldable (q d h from to : ℕ) (t : List ℕ) : Type 0 where
  pub degree : 0 < d
  pub degree_most : d ≤ width
  pub elements : h ≤ half_most
  pub down : to ≤ from
  pub residues : Residues q (2 * (h * d)) from t
