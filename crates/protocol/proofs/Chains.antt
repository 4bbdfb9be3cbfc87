-- What a chain of iterators answers, as the definitions say it.
--
--   every_asked  `(0..n).all(f)` is `every n f`, by the cases that `cases_from_all` gives
--   from_zero    what `0..n` yields, for `cases_from_all`
--   all_is       `t.iter().all(f)` is `all f t`; z is any value
use Rattle.std.proofs.Common.{◌≡◌, ℕ, ◌<◌, Bool, true, false, List, IsTrue, ◌↔◌, All, length, get_or, refl, sym, ap, ◌∙◌, arith}
use Rattle.std.specs.declared.ops.Range.{Range}
use mathlib.Core.Bool.{false≢true}
use native.Mathlib.Nat.{zero-add}
use Rattle.std.specs.Bool.{MatchBool}
use Rattle.std.specs.List.{AllWithin, HoldsAt, range_with_len}
use Rattle.std.proofs.iter.Yields.{nat_range_steps}
use Rattle.std.proofs.lemmas.Iterator.{YieldsList, YieldsList-from_range}
use Rattle.std.proofs.lemmas.List.FromFn.{length-range_with_len, get_or-range_with_len}
use Rattle.protocol.specs.Basic.{every, all}
use Rattle.protocol.proofs.Tests.{every_at, every-intro, same_test, all_at, all_intro}

pub all_is : {A : Type 0} (f : A → Bool) (t : List A) (z : A) {r : Bool} → (IsTrue r ↔ All (λ x. IsTrue (f x)) t) → r ≡ all f t
all_is f t z {r} h = same_test (λ e. all_intro f t z (λ k l. h.0 e k z l)) (λ e. h.1 (λ k d l. all_at f t d e k l))

at : (n k : ℕ) → k < n → get_or (range_with_len 0 n) k 0 ≡ k
at n k l = get_or-range_with_len 0 n k 0 l ∙ zero-add k

pub every_asked : (n : ℕ) (f : ℕ → Bool) (r : Bool)
    → MatchBool r (AllWithin (λ i. f i ≡ true) (range_with_len 0 n) 0 (length (range_with_len 0 n))) ((k : ℕ) × (k < length (range_with_len 0 n)) × HoldsAt (λ i. f i ≡ false) (range_with_len 0 n) k)
    → r ≡ every n f
every_asked n f true h = sym (every-intro (λ k l. sym (ap f (at n k l)) ∙ h k 0 (omega arith) (omega (arith, length-range_with_len 0 n))))
every_asked n f false (k, l, fails-there) = sym (fails (every n f) refl)
  where
    below : k < n
    below = omega (arith, l, length-range_with_len 0 n)

    fails : (b : Bool) → every n f ≡ b → every n f ≡ false
    fails true e = absurd (false≢true (sym (sym (ap f (at n k below)) ∙ fails-there 0) ∙ every_at n f e k below))
    fails false e = e

-- the source of `(0..n)`
pub from_zero : (n : ℕ) {s : Range ℕ} → s ≡ record { start = 0; end = n } → YieldsList nat_range_steps (λ x. x) s (range_with_len 0 n)
from_zero n e = YieldsList-from_range 0 n n e (omega arith)
