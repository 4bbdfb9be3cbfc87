-- What is known of the extractor's input where nothing is refused: it is a full tree, every path of it accepted, whose vectors stay within 2^62.
--
--   number_least           a refusal's number is not 0
--   tree_sized S key ..    refusal 7's test; Lengths S key .. is the same as a statement
--   TreeGiven S C ..       where the tests before the verifier pass
--   ExtractGiven S C ..    where nothing is refused
use mathlib.Core.Path.{◌≡◌, sym, ap, ◌∙◌}
use mathlib.Core.Logic.{◌≢◌}
use mathlib.Core.Bool.{Bool, true, ◌&&◌, not, false≢true}
use mathlib.Core.List.{List, [], ◌∷◌}
use Prim.Native.Nat.{ℕ, ◌<◌, ◌≤◌}
use native.Mathlib.Omega.{arith}
use borrow.Author.Tests.{eq-eqb, eqb-true, leb-true}
use lib.Dec.{eqb}
use lib.IntN.{ℤ}
use lib.ListN.{length}
use Rattle.protocol.specs.declared.Settings.{Settings}
use Rattle.protocol.specs.declared.Refusal.{Refusal}
use Rattle.protocol.specs.declared.Refusal.TheVariants.{Long, Text, Degree, Depth, Modulus, Bound, Size, Residue, Tall, Challenge, Turn, Twin, Branch, Growth, Slack}
use Rattle.protocol.specs.declared.Refusal.TheVariants as Code
use Rattle.protocol.specs.Refusal.{number}
use Rattle.protocol.specs.Basic.{every}
use Rattle.protocol.specs.Settings.{settings_refusal, cells, has_length, all_below, residue_rows, exponent, exponents}
use Rattle.protocol.specs.Layout.{key_cells, nodes, leaves, tree_round_cells, tree_challenges, leaf_cells, exponent_count}
use Rattle.protocol.specs.Transcript.{accepted}
use Rattle.protocol.specs.Rows.{key_row}
use Rattle.protocol.specs.Tree.{row_path, challenge, apart, growth, growth_limit, growth_allowed}
use Rattle.protocol.specs.Calls.{every_path, tree_tests, tree_refusal, extract_refusal}
use Rattle.protocol.specs.Inputs.{Valid, Below}
use Rattle.one_claim.specs.Demand3.{FullTree}
use Rattle.protocol.proofs.Tests.{and_split, every_at}
use Rattle.protocol.proofs.Inputs.{settings-valid, tested-below}
use Rattle.protocol.proofs.Refusals.{front-joined, none-refused}
use Rattle.protocol.proofs.Acceptance.{accepted_states}
pub use Rattle.ranges.proofs.Numbers.{number_least}

abbrev pub tree_sized : Settings → List ℕ → List ℕ → List ℕ → List ℤ → List ℤ → Bool
tree_sized S key rounds E finals w =
    has_length (key_cells S) key && has_length (tree_round_cells S) rounds && has_length (tree_challenges S) E && has_length (leaf_cells S) finals && has_length (cells S) w

pub record Lengths (S : Settings) (key rounds E : List ℕ) (finals w : List ℤ) : Type 0 where
  pub key_long : length key ≡ key_cells S
  pub rounds_long : length rounds ≡ tree_round_cells S
  pub challenges-long : length E ≡ tree_challenges S
  pub finals_long : length finals ≡ leaf_cells S
  pub w_long : length w ≡ cells S

abbrev Apart : List ℕ → ℕ → Type 0
Apart E k = (challenge E k 0 ≢ challenge E k 1) × (challenge E k 0 ≢ challenge E k 2) × (challenge E k 1 ≢ challenge E k 2)

pub record TreeGiven (S : Settings) (C key rounds E : List ℕ) (finals w : List ℤ) : Type 0 where
  pub allowed : settings_refusal S ≡ 0
  pub lengths : Lengths S key rounds E finals w
  pub key_below : Below S.modulus (key_cells S) key
  pub rounds_below : Below S.modulus (tree_round_cells S) rounds
  pub challenges_below : Below (exponent_count S) (tree_challenges S) E
  pub different : (k : ℕ) → k < nodes S → Apart E k

pub record ExtractGiven (S : Settings) (C key rounds E : List ℕ) (finals w : List ℤ) : Type 0 where
  pub settings : Valid S
  pub key_below : Below S.modulus (key_cells S) key
  pub tree : FullTree S key C rounds E finals
  pub room : growth S ≤ growth_limit
  pub w_long : length w ≡ cells S

differ : (a b : ℕ) → not (eqb a b) ≡ true → a ≢ b
differ a b t e = false≢true (sym (ap not (eq-eqb a b e)) ∙ t)

node-apart : (E : List ℕ) (k : ℕ) → apart E k ≡ true → Apart E k
unfolding apart
node-apart E k t =
    let (two, last) = and_split t in
    let (one, other) = and_split two in
    (differ _ _ one, differ _ _ other, differ _ _ last)

module _ (S : Settings) (key rounds E : List ℕ) (finals w : List ℤ) where
  sized-lengths : tree_sized S key rounds E finals w ≡ true → Lengths S key rounds E finals w
  unfolding has_length
  sized-lengths t =
      let (to-finals, of-w) = and_split t in
      let (to-challenges, of-finals) = and_split to-finals in
      let (to-rounds, of-challenges) = and_split to-challenges in
      let (of_key, of-rounds) = and_split to-rounds in
      record { key_long = eqb-true _ _ of_key; rounds_long = eqb-true _ _ of-rounds; challenges-long = eqb-true _ _ of-challenges; finals_long = eqb-true _ _ of-finals; w_long = eqb-true _ _ of-w }

module _ (S : Settings) (C key rounds E : List ℕ) (finals w : List ℤ) where
  pub tree_given : tree_refusal S C key rounds E finals w ≡ 0 → TreeGiven S C key rounds E finals w
  unfolding tree_refusal all_below exponents exponent has_length
  tree_given z =
      let (r16, (t7, (t8, (t10, (t12, _))))) = none-refused ((6, _) ∷ (7, _) ∷ (9, _) ∷ (11, _) ∷ []) z in
      let l = sized-lengths S key rounds E finals w t7 in
      let (two, of-rounds) = and_split {a = all_below S key && residue_rows S C} {b = all_below S rounds} t8 in
      let (of_key, of-commitment) = and_split {a = all_below S key} {b = residue_rows S C} two in
      record {
        allowed = r16;
        lengths = l;
        key_below = tested-below S.modulus (key_cells S) key (eq-eqb _ _ l.key_long) of_key;
        rounds_below = tested-below S.modulus (tree_round_cells S) rounds (eq-eqb _ _ l.rounds_long) of-rounds;
        challenges_below = tested-below (exponent_count S) (tree_challenges S) E (eq-eqb _ _ l.challenges-long) t10;
        different = λ k h. node-apart E k (every_at (nodes S) (apart E) t12 k h);
      }

  pub extract_given : extract_refusal S C key rounds E finals w ≡ 0 → ExtractGiven S C key rounds E finals w
  unfolding extract_refusal tree_refusal every_path growth_allowed
  extract_given z =
      let (early, (t13, (t14, _))) = none-refused ((12, _) ∷ (13, _) ∷ []) (sym (front-joined (tree_tests S C key rounds E finals w) _) ∙ z) in
      let g = tree_given early in
      record {
        settings = settings-valid S g.allowed;
        key_below = g.key_below;
        tree = record {
          rounds_below = g.rounds_below;
          challenges_below = g.challenges_below;
          finals_long = g.lengths.finals_long;
          different = g.different;
          accepted = λ r l j h.
              let row = every_at (leaves S) (λ j. every S.rows (λ r. accepted S (key_row S key r) (row_path S C rounds E finals r j))) t13 j h in
              accepted_states S (key_row S key r) _ (every_at S.rows (λ r. accepted S (key_row S key r) (row_path S C rounds E finals r j)) row r l);
        };
        room = leb-true _ _ t14;
        w_long = g.lengths.w_long;
      }
