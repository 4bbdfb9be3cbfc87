-- The fold of a message, as its definition has it.
use mathlib.Core.Path.{◌≡◌}
use mathlib.Core.List.{List}
use Prim.Native.Nat.{ℕ, ◌+◌, ◌*◌, ◌/◌, ◌%◌, ◌≤◌}
use native.Mathlib.Nat as Nat
use native.Mathlib.Omega.{arith}
use lib.IntN.{ℤ, pos, ◌+ℤ◌}
use lib.ListN.{get_or}
use Rattle.protocol.specs.Basic.{flat}
use Rattle.protocol.specs.Element.{width, rotate, signed_at}
use Rattle.protocol.specs.Opening.{fold_signed}
use Rattle.residues.specs.Lists.{spliced, spliced_rows}
use Rattle.residues.proofs.Splice.{spliced_ext}
use Rattle.residues.proofs.Turns.{turned_cell}
use Rattle.message_folds.specs.Messages.{half_most}

-- a half has few numbers
pub few : (d h : ℕ) → d ≤ width → h ≤ half_most → h * d ≤ half_most * width
few d h ld lh = Nat.mul-le-mul {n₂ = half_most} {m₂ = width} lh ld

pub folded : (d h e : ℕ) (m : List ℤ) → spliced_rows (turned_cell (pos 0) (λ x. x) (λ x. x) d e 0 (h * d) m) 0 d h m ≡ fold_signed d h e m
unfolding fold_signed flat spliced signed_at
folded d h e m =
    spliced_ext _ (λ p. signed_at d m (p / d) (p % d) +ℤ rotate d e (signed_at d m (h + p / d)) (p % d)) 0 (h * d) m
    (λ p l v. get_or m (Nat.zero-add (p / d * d + p % d) v) (pos 0) +ℤ rotate d e (λ j. get_or m (place (p / d) j v) (pos 0)) (p % d))
  where
    place : (i j : ℕ) → h * d + (i * d + j) ≡ (h + i) * d + j
    place i j = omega (arith, Nat.add-mul h i d)
