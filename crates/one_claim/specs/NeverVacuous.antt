-- Demand 3 is never vacuous: there is a run of the moves for every message and every list of challenges, of the definitions and of the functions, and a full tree for every choice of
-- three different challenges at every node.
--
--   ThreeEach S E               three different exponents at every branching node
--   HonestTree S G M E          what is owed of that tree
--   NeverVacuous                all of that, and that there is such a choice of challenges, for all settings
use Rattle.std.specs.Prelude.{◌≢◌, List, ℕ, ◌<◌, ℤ}
use Rattle.protocol.specs.declared.Settings.{Settings}
use Rattle.protocol.specs.declared.Session.{Session}
use Rattle.protocol.specs.Layout.{key_cells, tree_challenges, exponent_count}
use Rattle.protocol.specs.Settings.{cells}
use Rattle.protocol.specs.Inputs.{Valid, Below, Within}
use Rattle.protocol.specs.Opening.{commitment}
use Rattle.protocol.specs.Rows.{key_row, at_rows}
use Rattle.protocol.specs.Tree.{challenge, nodes}
use Rattle.protocol.specs.HonestTree.{honest_table, honest_finals}
use Rattle.one_claim.specs.Demand3.{State, Run, begun, moves, FullTree, FoldsOf}
use Rattle.one_claim.specs.Performed.{Performance}

pub record ThreeEach (S : Settings) (E : List ℕ) : Type 0 where
  pub below : Below (exponent_count S) (tree_challenges S) E
  pub different : (k : ℕ) → k < nodes S → (challenge E k 0 ≢ challenge E k 1) × (challenge E k 0 ≢ challenge E k 2) × (challenge E k 1 ≢ challenge E k 2)

pub record HonestTree (S : Settings) (G : List ℕ) (M : List ℤ) (E : List ℕ) : Type 0 where
  pub full : FullTree S G (at_rows S (λ r. commitment S (key_row S G r) M)) (honest_table S E G M) E (honest_finals S E M)
  pub folds : FoldsOf S E (honest_finals S E M) M

pub record NeverVacuous : Type 0 where
  pub some_run : (S : Settings) (G : List ℕ) (M : List ℤ) (E : List ℕ) (r : Session) → (st : State) × Run S E (moves S.depth) (begun M G r) st
  pub some_performance : (S : Settings) (G : List ℕ) (M : List ℤ) (E : List ℕ) (r : Session) → (st : State) × Performance S E (moves S.depth) (begun M G r) st
  pub honest_tree : (S : Settings) (G : List ℕ) (M : List ℤ) (E : List ℕ) → Valid S → Below S.modulus (key_cells S) G → Within S.bound (cells S) M → ThreeEach S E → HonestTree S G M E
  pub some_challenges : (S : Settings) → Valid S → (E : List ℕ) × ThreeEach S E
