-- What the extractor's answer is worth, in terms of the call: where it is 0, w is a relaxed opening; and it is 0 for every full tree whose growth is within the limit.
use mathlib.Core.Path.{◌≡◌, sym, ap, ◌∙◌, subst}
use mathlib.Core.Bool.{true}
use mathlib.Core.List.{List, map}
use Prim.Native.Nat.{ℕ, ◌<◌, ◌≤◌}
use lib.IntN.{ℤ, pos, ◌*ℤ◌}
use lib.ListN.{length}
use Rattle.protocol.specs.declared.Settings.{Settings}
use Rattle.protocol.specs.Element.{value_row}
use Rattle.protocol.specs.Layout.{key_cells}
use Rattle.protocol.specs.Settings.{cells}
use Rattle.protocol.specs.Rows.{key_row}
use Rattle.protocol.specs.Tree.{growth, growth_limit}
use Rattle.protocol.specs.Judge.{slack, Opens}
use Rattle.protocol.specs.Calls.{judge_answer}
use Rattle.protocol.specs.Inputs.{Valid, Below, Within}
use Rattle.protocol.specs.Promises.{Extracted}
use Rattle.one_claim.specs.Demand3.{FullTree, FoldsOf, ExtractionClaim}
use Rattle.claims.proofs.Extractor.{extraction-claim}
use Rattle.refusals.proofs.GivenTree.{extract_given}

-- w opens 4^L times every row's commitment, within (8·d²)^L·B, as the judge says; and it is 4^L·m where all leaves are folds of m
pub record RelaxedOpening (S : Settings) (C key E : List ℕ) (finals w : List ℤ) : Type 0 where
  pub opens : (i : ℕ) → i < S.rows → Opens S (key_row S key i) (value_row C i) (slack S) w
  pub in_bound : Within (growth S) (cells S) w
  pub judge_says_yes : judge_answer S C (slack S) key w ≡ record { refusal = 0; yes = true }
  pub exact : (m : List ℤ) → FoldsOf S E finals m → w ≡ map (λ x. pos (slack S) *ℤ x) m

module _ (S : Settings) (C key rounds E : List ℕ) (finals w : List ℤ) (r : ℕ) (w' : List ℤ) (call : Extracted S C key rounds E finals w r w') where
  pub extracted_opens : r ≡ 0 → RelaxedOpening S C key E finals w'
  extracted_opens z = record {
    opens = λ i h. subst (Opens S (key_row S key i) (value_row C i) (slack S)) (sym call.w_exit) (claim.opens i h);
    in_bound = subst (Within (growth S) (cells S)) (sym call.w_exit) claim.in_bound;
    judge_says_yes = ap (judge_answer S C (slack S) key) call.w_exit ∙ claim.judge_says_yes;
    exact = λ m f. call.w_exit ∙ claim.exact m f;
  }
    where
      claim : ExtractionClaim S key C rounds E finals w
      claim = let g = extract_given S C key rounds E finals w (sym call.refusal ∙ z) in extraction-claim S g.settings key C rounds E finals w g.key_below g.tree g.room g.w_long

  pub full_tree_extracted : Valid S → Below S.modulus (key_cells S) key → FullTree S key C rounds E finals → growth S ≤ growth_limit → length w ≡ cells S → r ≡ 0
  full_tree_extracted ok below tree room long = call.refusal ∙ (extraction-claim S ok key C rounds E finals w below tree room long).not_refused
