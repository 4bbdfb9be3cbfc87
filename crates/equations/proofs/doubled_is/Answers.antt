use mathlib.Core.Path.{◌≡◌, sym, ap, ◌∙◌}
use Prim.Native.Nat.{ℕ, ◌+◌, ◌*◌, ◌%◌, ◌<◌}
use native.Mathlib.Nat as Nat
use lib.Dec.{eqb}
use Rattle.protocol.proofs.Modulo.{times_mod}
use Rattle.equations.proofs.doubled_is.Goals as goal

-- of numbers that are reduced first
reduced : (q x y : ℕ) → 0 < q → 2 * (x % q + y % q) % q ≡ 2 * (x + y) % q
reduced q x y p = sym (times_mod q p 2 (x % q + y % q)) ∙ ap (λ n. 2 * n % q) (sym (Nat.add-mod x y q)) ∙ times_mod q p 2 (x + y)

pub returns : goal.returns
returns c =
    let s = c in
    let a = s.args in
    ap (λ n. eqb n a.z) (c.doubled-2.ensures (record { left = Nat.mod-lt a.x s.requires; right = Nat.mod-lt a.y s.requires }) ∙ reduced a.q a.x a.y s.requires)
