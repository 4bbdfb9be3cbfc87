-- A list from a place on.
use mathlib.Core.Path.{◌≡◌, ap, sym, ◌∙◌}
use mathlib.Core.List.{List, ◌∷◌}
use Prim.Native.Nat.{ℕ, ◌+◌, ◌<◌}
use native.Mathlib.Numerals.{add-one}
use lib.ListN.{length, get_or, drop}
use lib.Seq.{drop-cons}

module _ {ℓ} {A : Type ℓ} where
  pub from_cons : (l : List A) (i : ℕ) (z : A) → i < length l → drop i l ≡ get_or l i z ∷ drop (i + 1) l
  from_cons l i z h = drop-cons l i z h ∙ ap (λ n. get_or l i z ∷ drop n l) (sym (add-one i))
