-- How an element that is passed by value is read, and what depends on its first d places alone.
use Rattle.std.proofs.Common.{◌≡◌, ℕ, ◌+◌, ◌*◌, ◌<◌, ◌≤◌, List, ◌++◌, length, get_or, pos, ap, ◌∙◌, arith}
use native.Mathlib.Nat as Nat
use lib.ListN.{get_or-append}
use Rattle.protocol.specs.Basic.{tabulate}
use Rattle.protocol.specs.Element.{padded, residue, residue_at}
use Rattle.protocol.proofs.Reading.{tabulate_at, tabulate_length, tabulate_ext}
use Rattle.residues.specs.Elements.{element_at}

pub padded_at : (d : ℕ) (f : ℕ → ℕ) (k : ℕ) → k < d → get_or (padded d (tabulate d f)) k 0 ≡ f k
unfolding padded
padded_at d f k h = get_or-append (tabulate d f) _ 0 k (omega (arith, tabulate_length d f)) ∙ tabulate_at d f 0 k h

pub element-residue : (d : ℕ) (t : List ℕ) (i k : ℕ) → k < d → residue (element_at d t i) k ≡ residue_at d t i k
unfolding residue residue_at element_at
element-residue d t i k h = ap pos (padded_at d (λ j. get_or t (i * d + j) 0) k h)

-- the first element stays where something stands behind the table
pub element-front : (d : ℕ) (t rest : List ℕ) → d ≤ length t → element_at d (t ++ rest) 0 ≡ element_at d t 0
unfolding element_at
element-front d t rest h = ap (padded d) (tabulate_ext d (λ k l. get_or-append t rest 0 (0 * d + k) (omega (arith, Nat.zero-mul d))))
