-- Numbers of 64 bits that are whole numbers modulo 2^64.
use Rattle.std.proofs.Common.{◌≡◌, ℕ, ◌+◌, ◌-◌, ◌%◌, ◌^◌, ◌<◌, pos, ◌+ℤ◌, neg_ℤ, arith}
use native.Mathlib.Decide.{dec_lt}
use Rattle.protocol.specs.Element.{modulo}
use Rattle.residues.proofs.Signs.{by, minus-below, minus-above}

-- y − x
pub word_less : (y x : ℕ) → y < 2 ^ 64 → x < 2 ^ 64 → (y + (2 ^ 64 - x)) % 2 ^ 64 ≡ modulo (2 ^ 64) (pos y +ℤ neg_ℤ (pos x))
word_less y x ly lx = elim (dec_lt y x) [
  | yes l ↦ by (y + (2 ^ 64 - x)) (omega arith) (minus-below (2 ^ 64) (omega arith) y x l lx)
  | no g ↦ by (y - x) (omega arith) (minus-above (2 ^ 64) (omega arith) y x (omega arith) ly)
]
