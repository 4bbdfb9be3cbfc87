-- Elements of a flat list, read as parts of it.
use mathlib.Core.Path.{◌≡◌, ap, ◌∙◌}
use mathlib.Core.List.{List}
use Prim.Native.Nat.{ℕ, ◌+◌, ◌*◌, ◌<◌, ◌≤◌}
use native.Mathlib.Omega.{arith}
use lib.ListN.{get_or, take, drop}
use lib.Seq.{get_or-take, get_or-drop}
use lib.IntN.{ℤ, pos}
use Rattle.protocol.specs.Element.{signed, signed_at}

module _ (x k : ℕ) (m : List ℤ) where
  pub part-entry : (j : ℕ) → j < k → get_or (take k (drop x m)) j (pos 0) ≡ get_or m (x + j) (pos 0)
  part-entry j h = get_or-take k (drop x m) j (pos 0) h ∙ get_or-drop x m j (pos 0)

  -- where it begins at an element
  pub part-signed : (d i : ℕ) → x ≡ i * d → d ≤ k → (j : ℕ) → j < d → signed (take k (drop x m)) j ≡ signed_at d m i j
  unfolding signed signed_at
  part-signed d i is le j h = part-entry j (omega arith) ∙ ap (λ y. get_or m (y + j) (pos 0)) is
