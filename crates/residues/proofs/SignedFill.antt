-- The laws of Fill over zeros that are whole numbers: elements of whole numbers that are passed by value.
use Rattle.std.proofs.Common.{◌≡◌, ℕ, ◌+◌, ◌<◌, List, length, get_or, set, replicate, ℤ, pos, sym, ◌∙◌, arith, ext_get_or}
use native.Mathlib.Nat as Nat
use lib.ListN.{length-replicate}
use Rattle.protocol.specs.Basic.{tabulate}
use Rattle.protocol.specs.Element.{width, signed_zeros, padded_signed}
use Rattle.residues.proofs.Fill.{filled, filled_none, filled-turn, filled-end, filled_at, filled-length, replicate_at, filled-replicate}

pub signed-zeros-length : (n : ℕ) → length (signed_zeros n) ≡ n
unfolding signed_zeros
signed-zeros-length n = length-replicate n (pos 0)

pub signed-zeros_at : (n k : ℕ) → get_or (signed_zeros n) k (pos 0) ≡ pos 0
unfolding signed_zeros
signed-zeros_at n k = replicate_at (pos 0) n k

pub signed-fill-none : (n : ℕ) (f : ℕ → ℤ) → replicate n (pos 0) ≡ filled f 0 (signed_zeros n)
unfolding signed_zeros
signed-fill-none n f = filled_none f (replicate n (pos 0))

pub signed-fill_more : (n : ℕ) (f : ℕ → ℤ) (k : ℕ) (x : ℤ) (a : List ℤ) → a ≡ filled f k (signed_zeros n) → k < n → x ≡ f k → set a k x ≡ filled f (k + 1) (signed_zeros n)
signed-fill_more n f k x a e h v = filled-turn f k (signed_zeros n) e v (omega (arith, signed-zeros-length n))

-- an element that is passed by value
pub padded-filled : (d : ℕ) (f : ℕ → ℤ) → padded_signed d (tabulate d f) ≡ filled f d (signed_zeros width)
unfolding padded_signed signed_zeros
padded-filled d f = sym (filled-replicate (pos 0) f width d)

pub signed-element-done : (f : ℕ → ℤ) (k d : ℕ) (a : List ℤ) → a ≡ filled f k (signed_zeros width) → k ≡ d → a ≡ padded_signed d (tabulate d f)
signed-element-done f k d a e h = filled-end f (signed_zeros width) e h ∙ sym (padded-filled d f)

-- ---- zeros

-- a list that is filled with zeros to its end
pub filled-signed-zeros : (l : List ℤ) → filled (λ _. pos 0) (length l) l ≡ signed_zeros (length l)
filled-signed-zeros l =
    ext_get_or (pos 0) _ (signed_zeros (length l)) (long ∙ sym (signed-zeros-length (length l)))
    (λ k h. filled_at (λ _. pos 0) (length l) l (pos 0) k (omega (arith, long)) ∙ sym (signed-zeros_at (length l) k))
  where
    long : length (filled (λ _. pos 0) (length l) l) ≡ length l
    long = filled-length (λ _. pos 0) (length l) l (Nat.le_refl _)
