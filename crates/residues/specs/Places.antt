-- Numbers of a list to which others of the same list are added. The places are a set, so that it is the code's own affair in which order it goes.
--
--   Among D n x              x is in one of the first n of the sets D
--   Line at step n x         x is one of n places from `at` on that are `step` apart
--   Grid n step gap m x      x is on one of m such lines, which begin `gap` apart
--   Disjoint D n             no place is in two of the first n of the sets D
--   Apart D from to long     the places of D, counted from `from` on, are inside a list of that length, and behind all of them, counted from `to` on
--   SecondRow d e s          X^e·a is two rows of a, with different signs, of which the second begins at place s
--   Added z B f from to ..   `out` is the list l with f x y at the places of D, counted from `to` on: x stood there, y as far from `from` on; f is known
--                            of numbers that B allows, and z is read behind the end
use Rattle.std.specs.Prelude.{◌≡◌, ℕ, ◌+◌, ◌-◌, ◌*◌, ◌<◌, ◌≤◌, List, length, ◌≢◌, slice_index_or}

abbrev pub Among : (ℕ → ℕ → Type 0) → ℕ → ℕ → Type 0
Among D n x = (i : ℕ) × (i < n) × D i x

abbrev pub Line : ℕ → ℕ → ℕ → ℕ → Type 0
Line at step n = Among (λ i x. x ≡ at + i * step) n

abbrev pub Grid : ℕ → ℕ → ℕ → ℕ → ℕ → Type 0
Grid n step gap m = Among (λ j. Line (j * gap) step n) m

abbrev pub Disjoint : (ℕ → ℕ → Type 0) → ℕ → Type 0
Disjoint D n = (i j x : ℕ) → i < j → j < n → D i x → D j x → ⊥

pub record Apart (D : ℕ → Type 0) (from to long : ℕ) : Type 0 where
  pub inside : (x : ℕ) → D x → from + x < long
  pub before : (x y : ℕ) → D x → D y → to + x < from + y

pub record SecondRow (d e s : ℕ) : Type 0 where
  pub low : e < d → s ≡ e
  pub high : d ≤ e → s ≡ e - d

pub record Added {A : Type 0} (z : A) (B : A → A → Type 0) (f : A → A → A) (from to : ℕ) (D : ℕ → Type 0) (l out : List A) : Type 0 where
  pub long : length out ≡ length l
  pub done : (x : ℕ) → D x → B (slice_index_or l (to + x) z) (slice_index_or l (from + x) z) → slice_index_or out (to + x) z ≡ f (slice_index_or l (to + x) z) (slice_index_or l (from + x) z)
  pub kept : (p : ℕ) → ((x : ℕ) → D x → p ≢ to + x) → slice_index_or out p z ≡ slice_index_or l p z
