-- A tree whose vectors can be worked out in 64 bits.
--
--   vector_room                1,024: the most numbers of a vector where the growth is within its limit (GrowthTest)
--   Extractable S E finals     challenges E and leaves `finals` of a full tree: exponents, three different ones at each node, within n·B, and no growth over the limit
use Rattle.std.specs.Prelude.{◌≢◌, List, ℕ, ◌*◌, ◌<◌, ◌≤◌, ℤ}
use Rattle.protocol.specs.declared.Settings.{Settings}
use Rattle.protocol.specs.Settings.{size}
use Rattle.protocol.specs.Layout.{nodes, tree_challenges, leaf_cells, exponent_count}
use Rattle.protocol.specs.Tree.{challenge, growth, growth_limit}
use Rattle.protocol.specs.Inputs.{Valid, Below, Within}

abbrev pub vector_room : ℕ
vector_room = 1024

pub record Extractable (S : Settings) (E : List ℕ) (finals : List ℤ) : Type 0 where
  pub valid : Valid S
  pub challenges : Below (exponent_count S) (tree_challenges S) E
  pub different : (k : ℕ) → k < nodes S → (challenge E k 0 ≢ challenge E k 1) × (challenge E k 0 ≢ challenge E k 2) × (challenge E k 1 ≢ challenge E k 2)
  pub within : Within (size S * S.bound) (leaf_cells S) finals
  pub limited : growth S ≤ growth_limit
