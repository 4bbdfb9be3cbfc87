-- What sums of two tables ask of them.
--
--   Room n l             the first n numbers of l are small enough that the sum of two of them is a signed number of 32 bits
--   Long n first ..      both tables have n numbers, and there is room for n sums
--   Summed z allowed sum by n first second sums out   `out` is `sums`, but for the sums of the first n numbers of both tables, by a way `by` to add; z is read behind their ends
--   part s l             the list l from place s on, as the code lends it
use Rattle.std.specs.Prelude.{◌≡◌, Bool, false, List, ℕ, ◌-◌, ◌^◌, ◌<◌, ◌≤◌, ℤ, pos, nat_abs, length, get_or, take, drop}
use Rattle.protocol.specs.Basic.{Provided}
use Rattle.residues.specs.Lists.{filled}

pub record Room (n : ℕ) (l : List ℤ) : Type 0 where
  pub each : (j : ℕ) → j < n → nat_abs (get_or l j (pos 0)) < 2 ^ 30

pub record Long (n first second sums : ℕ) : Type 0 where
  pub first-long : n ≤ first
  pub second_long : n ≤ second
  pub room : n ≤ sums

abbrev pub Summed : {T S : Type 0} → T → (S → T → T → Type 0) → (S → Bool → T → T → T) → S → ℕ → List T → List T → List T → List T → Type 0
Summed z allowed sum by n first second sums out =
    Provided (Long n (length first) (length second) (length sums))
    (Provided ((p : ℕ) → p < n → allowed by (get_or first p z) (get_or second p z)) (out ≡ filled (λ p. sum by false (get_or first p z) (get_or second p z)) n sums))

abbrev pub part {ℓ} : {A : Type ℓ} → ℕ → List A → List A
part s l = take (length l - s) (drop s l)
