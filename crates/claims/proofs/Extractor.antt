-- Demand 3's claim on trees: the extractor refuses no full tree, and what it gives is the root's vector, within its bound, opens 4^L times every row's commitment, satisfies the judge,
-- and is 4^L·m where the leaves are folds of m. Where the growth is beyond its limit, judge and extractor refuse every full tree by 14.
use mathlib.Core.Path.{◌≡◌, sym, ap, ◌∙◌, subst}
use mathlib.Core.Logic.{◌≢◌}
use mathlib.Core.Bool.{true, false, not}
use mathlib.Core.List.{List, [], ◌∷◌}
use Prim.Native.Nat.{ℕ, ◌*◌, ◌<◌, ◌≤◌}
use native.Mathlib.Nat as Nat
use native.Mathlib.Omega.{arith}
use borrow.Author.Tests.{eq-eqb, ne_eqb, le-leb, lt-leb, lt-ltb}
use lib.Dec.{eqb}
use lib.ListN.{length}
use lib.IntN.{ℤ}
use Rattle.protocol.specs.declared.Settings.{Settings}
use Rattle.protocol.specs.Basic.{every, first, unless, granted}
use Rattle.protocol.specs.Element.{signed, value_row}
use Rattle.protocol.specs.Layout.{key_cells, tree_challenges, tree_round_cells, exponent_count}
use Rattle.protocol.specs.Settings.{size, cells, has_length, all_below, residue_element, residue_rows, exponent, exponents}
use Rattle.protocol.specs.Transcript.{accepted}
use Rattle.protocol.specs.Rows.{key_row}
use Rattle.protocol.specs.Tree.{nodes, leaves, leaf, path, row_path, challenge, apart, root_vector, growth, growth_limit, growth_allowed}
use Rattle.protocol.specs.Judge.{slack, slack_allowed, opens, judged, Opens}
use Rattle.protocol.specs.Calls.{every_path, extract_refusal, extract_exit, judge_refusal, judge_answer}
use Rattle.protocol.specs.Inputs.{Valid, Below, Within}
use Rattle.one_claim.specs.Demand3.{FullTree, ExtractionClaim}
use Rattle.protocol.proofs.Tests.{and_intro, every-intro, first_nothing}
use Rattle.protocol.proofs.Refusals.{first_passes, first_holds, first_fails}
use Rattle.protocol.proofs.Inputs.{valid-settings, below_tested, below_sized, within_tested}
use Rattle.protocol.proofs.Acceptance.{accepted-test}
use Rattle.protocol.proofs.CommonDivisor.{power_of_four}
use Rattle.claims.proofs.Bounds.{Bounded}
use Rattle.protocol.proofs.Ranges.{accepted-commitment}
use Rattle.claims.proofs.Honest.{degree-positive, modulus-positive}
use Rattle.claims.proofs.Weights.{Triple, node-triple}
use Rattle.claims.proofs.Extraction.{extracts}
use Rattle.claims.proofs.Exactness.{exact}
use Rattle.claims.proofs.Growth.{root-within}

-- 1 ≤ 4^L ≤ 65,536 for L ≤ 8, and 4^L shares no factor with an odd number
slack-allowed : (S : Settings) → Valid S → slack_allowed S (slack S) ≡ true
unfolding slack_allowed slack
slack-allowed S ok =
    and_intro (and_intro
    (le-leb _ _ (Nat.one-le-pow S.depth 4 (omega arith)))
    (le-leb _ _ (Nat.pow-le-pow_right (omega arith) ok.depth_most)))
    (eq-eqb _ _ (power_of_four S.depth S.modulus ok.modulus_odd))

differ : (a b : ℕ) → a ≢ b → not (eqb a b) ≡ true
differ a b ne = ap not (ne_eqb a b ne)

module _ (S : Settings) (ok : Valid S) (G C rounds E : List ℕ) (finals : List ℤ) (key-ok : Below S.modulus (key_cells S) G) (tree : FullTree S G C rounds E finals) where
  open S use {degree as d, depth as L, modulus as q}

  abbrev root : List ℤ
  root = root_vector S E finals

  paths_accepted : every_path S C G rounds E finals ≡ true
  unfolding every_path
  paths_accepted = every-intro (λ j l. every-intro (λ r h. accepted-test S (key_row S G r) _ (tree.accepted r h j l)))

  challenges-apart : every (nodes S) (apart E) ≡ true
  unfolding apart
  challenges-apart = every-intro (λ k l. let t = tree.different k l in and_intro (and_intro (differ _ _ t.0) (differ _ _ t.1)) (differ _ _ t.2))

  some-leaf : 0 < leaves S
  unfolding leaves
  some-leaf = Nat.one-le-pow L 3 (omega arith)

  commitment-tested : residue_rows S C ≡ true
  unfolding residue_rows residue_element row_path path
  commitment-tested = every-intro (λ r h. every-intro (λ k l. lt-ltb _ _ (accepted-commitment S (modulus-positive S ok) (key_row S G r) _ (tree.accepted r h 0 some-leaf) k l)))

  triples : (k : ℕ) → k < nodes S → Triple d (challenge E k 0) (challenge E k 1) (challenge E k 2)
  triples = node-triple S E tree.challenges_below tree.different

  -- ---- the root's vector

  leaf_small : (j : ℕ) → j < leaves S → Bounded d (size S * S.bound) (signed (leaf S finals j))
  unfolding row_path path
  leaf_small j l = (tree.accepted 0 ok.rows_least j l).in_bound

  in_bound : Within (growth S) (cells S) root
  in_bound = root-within S ok.log (sym ok.degree_is) (degree-positive S ok) E finals triples leaf_small

  root-opens : (r : ℕ) → r < S.rows → Opens S (key_row S G r) (value_row C r) (slack S) root
  root-opens = extracts S ok.log (sym ok.degree_is) ok.modulus_odd C G rounds E finals triples paths_accepted

  -- ---- the tests before 14 pass

  module _ (w : List ℤ) (long : length w ≡ cells S) where
    pub judge-tests : (c : ℕ) → judge_refusal S C c G w ≡ first (unless 14 (growth_allowed S) ∷ unless 15 (slack_allowed S c) ∷ [])
    unfolding judge_refusal all_below has_length
    judge-tests c =
        first_passes _ _ (valid-settings S ok)
        ∙ first_holds 7 _ _ (and_intro (below_sized q (key_cells S) G key-ok) (eq-eqb _ _ long))
        ∙ first_holds 8 _ _ (and_intro (below_tested q (key_cells S) G key-ok) commitment-tested)

    pub extract-tests : extract_refusal S C G rounds E finals w ≡ first (unless 14 (growth_allowed S) ∷ [])
    unfolding extract_refusal all_below exponents exponent has_length
    extract-tests =
        first_passes _ _ (valid-settings S ok)
        ∙ first_holds 7 _ _ (and_intro (and_intro (and_intro (and_intro
        (below_sized q (key_cells S) G key-ok)
        (below_sized q (tree_round_cells S) rounds tree.rounds_below))
        (below_sized (exponent_count S) (tree_challenges S) E tree.challenges_below))
        (eq-eqb _ _ tree.finals_long))
        (eq-eqb _ _ long))
        ∙ first_holds 8 _ _ (and_intro (and_intro (below_tested q (key_cells S) G key-ok) commitment-tested) (below_tested q (tree_round_cells S) rounds tree.rounds_below))
        ∙ first_holds 10 _ _ (below_tested (exponent_count S) (tree_challenges S) E tree.challenges_below)
        ∙ first_holds 12 _ _ challenges-apart
        ∙ first_holds 13 _ _ paths_accepted

    -- beyond 2^62 judge and extractor refuse every full tree by 14, whatever the slack
    pub growth-refused : growth_limit < growth S → ((c : ℕ) → judge_refusal S C c G w ≡ 14) × (extract_refusal S C G rounds E finals w ≡ 14)
    unfolding growth_allowed
    growth-refused over = let past : growth_allowed S ≡ false = lt-leb _ _ over in (λ c. judge-tests c ∙ first_fails 13 _ _ past, extract-tests ∙ first_fails 13 _ _ past)

    -- up to 2^62 they refuse none
    pub growth-passed : growth S ≤ growth_limit → ((c : ℕ) → slack_allowed S c ≡ true → judge_refusal S C c G w ≡ 0) × (extract_refusal S C G rounds E finals w ≡ 0)
    unfolding growth_allowed
    growth-passed room =
        let small : growth_allowed S ≡ true = le-leb _ _ room in
        (λ c a. judge-tests c ∙ first_holds 14 _ _ small ∙ first_holds 15 _ _ a ∙ first_nothing, extract-tests ∙ first_holds 14 _ _ small ∙ first_nothing)

  -- ---- within 2^62

  module _ (room : growth S ≤ growth_limit) where
    judge_granted : judge_refusal S C (slack S) G root ≡ 0
    judge_granted = (growth-passed root in_bound.long room).0 (slack S) (slack-allowed S ok)

    judge_yes_holds : judged S G C (slack S) root ≡ true
    unfolding judged opens
    judge_yes_holds = and_intro (every-intro (λ r h. every-intro (λ k l. eq-eqb _ _ (root-opens r h k l)))) (within_tested (growth S) (cells S) root in_bound)

    judge_says : judge_answer S C (slack S) G root ≡ record { refusal = 0; yes = true }
    unfolding judge_answer granted
    judge_says = λ i. record { refusal = judge_granted i; yes = granted (judge_granted i) (judge_yes_holds i) false }

    module _ (w : List ℤ) (long : length w ≡ cells S) where
      extract-granted : extract_refusal S C G rounds E finals w ≡ 0
      extract-granted = (growth-passed w long room).1

      exit_root : extract_exit S C G rounds E finals w ≡ root
      unfolding extract_exit granted
      exit_root = ap (λ n. granted n root w) extract-granted

      claimed : ExtractionClaim S G C rounds E finals w
      claimed = record {
        not_refused = extract-granted;
        is_root_vector = exit_root;
        in_bound = subst (Within (growth S) (cells S)) (sym exit_root) in_bound;
        opens = λ r h. subst (Opens S (key_row S G r) (value_row C r) (slack S)) (sym exit_root) (root-opens r h);
        judge_says_yes = ap (judge_answer S C (slack S) G) exit_root ∙ judge_says;
        exact = λ m f. exit_root ∙ exact S ok.log (sym ok.degree_is) E finals m triples f.long f.each;
      }

pub extraction-claim : (S : Settings) → Valid S → (G C rounds E : List ℕ) (finals w : List ℤ)
    → Below S.modulus (key_cells S) G → FullTree S G C rounds E finals → growth S ≤ growth_limit → length w ≡ cells S
    → ExtractionClaim S G C rounds E finals w
extraction-claim S ok G C rounds E finals w key-ok tree room long = claimed S ok G C rounds E finals key-ok tree room w long
