-- A product modulo 12289 without a division: the share of z in 12289, in parts of 65536, says how many times 12289 goes into x·z, or one less.
use Rattle.std.proofs.Common.{◌≡◌, ℕ, ◌+◌, ◌*◌, ◌/◌, ◌<◌, ◌≤◌, arith}
use native.Mathlib.Nat as NatL

pub record Shares (z share x : ℕ) : Type 0 where
  pub most : x * z ≤ 805294080
  pub low : x * share * 12289 ≤ x * z * 65536
  pub high : x * z * 65536 ≤ x * share * 12289 + x * 12289

pub shares : (z share x : ℕ) → z < 12289 → share ≡ z * 65536 / 12289 → x < 65536 → Shares z share x
shares z share x small is short = record {
  most = NatL.mul-le-mul {n₁ = x} {m₁ = z} {n₂ = 65535} {m₂ = 12288} (omega arith) (omega arith);
  low = omega (arith, by_x (share * 12289) (z * 65536) (omega arith), NatL.mul_assoc x share 12289, NatL.mul_assoc x z 65536);
  high = omega (arith, by_x (z * 65536) (share * 12289 + 12289) (omega arith), NatL.mul_assoc x z 65536, NatL.mul_assoc x share 12289, NatL.mul-add x (share * 12289) 12289);
}
  where
    by_x : (a b : ℕ) → a ≤ b → x * a ≤ x * b
    by_x a b h = NatL.mul-le-mul {n₁ = x} {m₁ = a} {n₂ = x} {m₂ = b} (omega arith) h
