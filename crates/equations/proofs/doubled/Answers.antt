use mathlib.Core.Path.{◌≡◌, ap, ◌∙◌}
use Prim.Native.Nat.{ℕ, ◌+◌, ◌*◌, ◌%◌, ◌<◌}
use native.Mathlib.Nat as Nat
use native.Mathlib.Omega.{arith}
use Rattle.protocol.proofs.Modulo.{times_mod}
use Rattle.equations.proofs.doubled.Goals as goal

twice : (q n s : ℕ) → 0 < q → s ≡ n % q → (s + s) % q ≡ 2 * n % q
twice q n s p e = ap (λ m. m % q) {x = s + s} {y = 2 * s} (omega arith) ∙ ap (λ m. 2 * m % q) e ∙ times_mod q p 2 n

pub returns : goal.returns
returns c = λ h.
    let a = c.args in
    let p : 0 < a.q = omega (arith, h.left) in
    let sum = c.plus-s.ensures h in
    let below : c.plus-s.result < a.q = omega (arith, sum, Nat.mod-lt (a.x + a.y) p) in
    c.plus.ensures (record { left = below; right = below }) ∙ twice a.q (a.x + a.y) _ p sum
