-- The check of a whole tree node by node: each node hands its next claim and its folded key to its children, so that no fold is done twice.
-- The definitions accept a tree path by path (PROTOCOL 7.3, refusal 13); proofs/TreeCheck shows that the two are one test.
--
--   node_element S rounds k j          c_j of node k
--   claim_to S rounds E k j            the claim that node k hands to its child j
--   node_holds S rounds k claim        does the round of node k hold
--   leaf_accepted S finals k ..        is the end met at the leaf that has number k, with its claim and the folded key
--   tree_accepted S rounds .. h k t    is every path accepted from node k on, which is h steps above the leaves, with t rounds done, its claim and the folded key
use Rattle.std.specs.Prelude.{Bool, ◌&&◌, List, ℕ, zero, suc, ◌+◌, ◌*◌, ◌-◌, ℤ}
use Rattle.protocol.specs.declared.Settings.{Settings}
use Rattle.protocol.specs.Element.{Element, signed, residue_at}
use Rattle.protocol.specs.Opening.{fold_key}
use Rattle.protocol.specs.Transcript.{round_holds, next_claim, end_met}
use Rattle.protocol.specs.Tree.{child, challenge, nodes, leaf}

module _ (S : Settings) where
  open S use {degree as d}

  unfoldable pub node_element : List ℕ → ℕ → ℕ → Element
  node_element rounds k j = residue_at d rounds (3 * k + j)

  unfoldable pub claim_to : List ℕ → List ℕ → ℕ → ℕ → List ℕ
  claim_to rounds E k j = next_claim S (challenge E k j) (node_element rounds k 0) (node_element rounds k 1) (node_element rounds k 2)

  unfoldable pub node_holds : List ℕ → ℕ → List ℕ → Bool
  node_holds rounds k claim = round_holds S claim (node_element rounds k 0) (node_element rounds k 2)

  unfoldable pub leaf_accepted : List ℤ → ℕ → List ℕ → List ℕ → Bool
  leaf_accepted finals k claim folded = end_met S claim (signed (leaf S finals (k - nodes S))) (residue_at d folded 0)

  unfoldable pub tree_accepted : List ℕ → List ℕ → List ℤ → ℕ → ℕ → ℕ → List ℕ → List ℕ → Bool
  tree_accepted rounds E finals zero k t claim key = leaf_accepted finals k claim key
  tree_accepted rounds E finals (suc h) k t claim key =
      node_holds rounds k claim
      && (tree_accepted rounds E finals h (child k 0) (suc t) (claim_to rounds E k 0) (fold_key S t (challenge E k 0) key)
      && (tree_accepted rounds E finals h (child k 1) (suc t) (claim_to rounds E k 1) (fold_key S t (challenge E k 1) key)
      && tree_accepted rounds E finals h (child k 2) (suc t) (claim_to rounds E k 2) (fold_key S t (challenge E k 2) key)))
