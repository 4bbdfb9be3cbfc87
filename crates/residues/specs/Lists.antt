-- Lists that a loop writes from a place on.
--
--   filled f n l             the list l with its first n entries replaced by f 0, f 1, …
--   spliced f at n l         the list l with the n entries from place `at` on replaced by f 0, f 1, …
--   spliced_rows F at d n l  the flat list l with n elements of d entries from place `at` on replaced, entry k of element i by F i k
use Rattle.std.specs.Prelude.{ℕ, ◌*◌, ◌/◌, ◌%◌, List, ◌++◌, take, drop}
use Rattle.protocol.specs.Basic.{tabulate}

module _ {ℓ} {A : Type ℓ} where
  unfoldable pub filled : (ℕ → A) → ℕ → List A → List A
  filled f n l = tabulate n f ++ drop n l

  unfoldable pub spliced : (ℕ → A) → ℕ → ℕ → List A → List A
  spliced f at n l = take at l ++ (tabulate n f ++ drop n (drop at l))

  abbrev pub spliced_rows : (ℕ → ℕ → A) → ℕ → ℕ → ℕ → List A → List A
  spliced_rows F at d n l = spliced (λ p. F (p / d) (p % d)) at (n * d) l
