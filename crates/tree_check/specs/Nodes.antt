-- The check of a tree node by node, as the code goes through it, row by row.
--
--   tree_row S rounds          the round polynomials of a row, from the part of the table that begins with the row
--   Folding S h space          the key of a node that is h steps above the leaves can be folded in a list of `space` numbers
--   RootFolding S key space    so can the root's, of `key` numbers, behind room for half of it
--   RootFolded S e key ws      the list ws, up to the length of the key, has the key folded by X^e in its second half
--   Tables S rounds finals     a full tree has so many numbers in a row's part of the rounds and in its table of final elements
--   Round S k rounds           node k has a round, which stands in a row's part of `rounds` numbers
--   Reduced S l                every number of the list l is a residue
--   Read S h rounds ws         so is every number of the rounds, and of the key of a node that is h steps above the leaves: the second half of ws
--   Sized S C key ..           the settings are allowed, and the tables of all rows and the commitment by value have so many numbers
--   TreeGiven S key ..         the settings are allowed, key and rounds are residues, and all tables have their lengths
--   leaf_met S finals j ..     is the end met at leaf j, with its claim and the folded key
--   child_accepted S .. h k j  is every path accepted that goes from node k, h steps above the leaves and with this key, to its child j
use Rattle.std.specs.Prelude.{◌≡◌, Bool, List, ℕ, suc, ◌+◌, ◌*◌, ◌-◌, ◌^◌, ◌<◌, ◌≤◌, ℤ, length, get_or, take, drop}
use Rattle.protocol.specs.declared.Settings.{Settings}
use Rattle.protocol.specs.Element.{signed, residue_at}
use Rattle.protocol.specs.Settings.{settings_refusal, cells}
use Rattle.protocol.specs.Opening.{fold_key}
use Rattle.protocol.specs.Inputs.{Below}
use Rattle.protocol.specs.Nodes.{Alike}
use Rattle.protocol.specs.Transcript.{end_met}
use Rattle.protocol.specs.Layout.{rows_width, key_cells, item_cells, polynomial_at, tree_challenges, tree_round_cells, leaf_cells}
use Rattle.protocol.specs.Tree.{child, challenge, nodes, leaf}
use Rattle.protocol.specs.TreeCheck.{claim_to, tree_accepted}
use Rattle.equations.specs.Items.{row_table}

abbrev pub tree_row : Settings → List ℕ → List ℕ
tree_row S rounds = row_table S (tree_challenges S) rounds

pub record Folding (S : Settings) (h space : ℕ) : Type 0 where
  pub allowed : settings_refusal S ≡ 0
  pub up : 0 < h
  pub height : h ≤ S.depth
  pub space_is : space ≡ 2 * (2 ^ h * S.degree)

pub record RootFolding (S : Settings) (key space : ℕ) : Type 0 where
  pub allowed : settings_refusal S ≡ 0
  pub up : 0 < S.depth
  pub key_long : key ≡ cells S
  pub room : 2 ^ (S.depth - 1) * S.degree + key ≤ space

pub record Tables (S : Settings) (rounds finals : ℕ) : Type 0 where
  pub allowed : settings_refusal S ≡ 0
  pub rounds_long : tree_round_cells S + S.degree ≤ rounds + item_cells S
  pub finals_long : finals ≡ leaf_cells S

pub record Round (S : Settings) (k rounds : ℕ) : Type 0 where
  pub allowed : settings_refusal S ≡ 0
  pub index : k ≤ 3280
  pub branching : k < nodes S
  pub inside : polynomial_at S k + 2 * item_cells S + S.degree ≤ rounds

abbrev pub Reduced : Settings → List ℕ → Type 0
Reduced S l = (j : ℕ) → get_or l j 0 < S.modulus

pub record RootFolded (S : Settings) (e : ℕ) (key ws : List ℕ) : Type 0 where
  pub alike : Alike (2 ^ (S.depth - 1) * S.degree) (drop (2 ^ (S.depth - 1) * S.degree) (take (length key) ws)) (fold_key S 0 e key)
  pub below : Reduced S (drop (2 ^ (S.depth - 1) * S.degree) (take (length key) ws))

pub record Read (S : Settings) (h : ℕ) (rounds ws : List ℕ) : Type 0 where
  pub rounds_below : Reduced S rounds
  pub key_below : Reduced S (drop (2 ^ h * S.degree) ws)

pub record Sized (S : Settings) (commitment key rounds finals : ℕ) : Type 0 where
  pub allowed : settings_refusal S ≡ 0
  pub commitment-long : commitment ≡ rows_width
  pub key_long : key ≡ key_cells S
  pub rounds_long : rounds ≡ tree_round_cells S
  pub finals_long : finals ≡ leaf_cells S

pub record TreeGiven (S : Settings) (key rounds : List ℕ) (finals : List ℤ) : Type 0 where
  pub allowed : settings_refusal S ≡ 0
  pub key_below : Below S.modulus (key_cells S) key
  pub rounds_below : Below S.modulus (tree_round_cells S) rounds
  pub finals_long : length finals ≡ leaf_cells S

module _ (S : Settings) where
  unfoldable pub leaf_met : List ℤ → ℕ → List ℕ → List ℕ → Bool
  leaf_met finals j claim folded = end_met S claim (signed (leaf S finals j)) (residue_at S.degree folded 0)

  module _ (rounds E : List ℕ) (finals : List ℤ) (h k : ℕ) (key : List ℕ) where
    unfoldable pub child_accepted : ℕ → Bool
    child_accepted j = tree_accepted S rounds E finals (h - 1) (child k j) (suc (S.depth - h)) (claim_to S rounds E k j) (fold_key S (S.depth - h) (challenge E k j) key)
