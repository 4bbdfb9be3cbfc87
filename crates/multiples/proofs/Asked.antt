-- `(0..n).all(f)` is `every n f`, where what f answers is known of the places below n.
use Rattle.std.proofs.Common.{◌≡◌, ℕ, ◌<◌, Bool, true, false, get_or, length, refl, sym, ◌∙◌, subst, arith}
use mathlib.Core.Bool.{false≢true}
use native.Mathlib.Nat.{zero-add}
use Rattle.std.specs.Bool.{MatchBool}
use Rattle.std.specs.List.{AllWithin, HoldsAt, range_with_len}
use Rattle.std.proofs.lemmas.List.FromFn.{length-range_with_len, get_or-range_with_len}
use Rattle.protocol.specs.Basic.{every}
use Rattle.protocol.proofs.Tests.{every_at, every-intro}

at : (n k : ℕ) → k < n → get_or (range_with_len 0 n) k 0 ≡ k
at n k l = get_or-range_with_len 0 n k 0 l ∙ zero-add k

pub every_inside : (n : ℕ) (f : ℕ → Bool) (r : Bool)
    → MatchBool r (AllWithin (λ i. i < n → f i ≡ true) (range_with_len 0 n) 0 (length (range_with_len 0 n))) ((k : ℕ) × (k < length (range_with_len 0 n)) × HoldsAt (λ i. i < n → f i ≡ false) (range_with_len 0 n) k)
    → r ≡ every n f
every_inside n f true h = sym (every-intro (λ k l. subst (λ i. i < n → f i ≡ true) (at n k l) (h k 0 (omega arith) (omega (arith, length-range_with_len 0 n))) l))
every_inside n f false (k, l, fails-there) = sym (fails (every n f) refl)
  where
    below : k < n
    below = omega (arith, l, length-range_with_len 0 n)

    fails : (b : Bool) → every n f ≡ b → every n f ≡ false
    fails true e = absurd (false≢true (sym (subst (λ i. i < n → f i ≡ false) (at n k below) (fails-there 0) below) ∙ every_at n f e k below))
    fails false e = e
