-- The rounds of a row of a transcript, one after the other, and its acceptance from the claim after them. Of a claim only the first d places count.
use mathlib.Core.Path.{◌≡◌, refl, sym, ap, ◌∙◌}
use mathlib.Core.Bool.{true, false, ◌&&◌}
use mathlib.Core.List.{List}
use Prim.Native.Nat.{ℕ, zero, suc, ◌+◌, ◌*◌, ◌<◌, ◌≤◌}
use native.Mathlib.Nat as Nat
use native.Mathlib.Numerals.{add-one}
use native.Mathlib.Omega.{arith}
use lib.IntN.{ℤ}
use lib.ListN.{length, get_or}
use Rattle.protocol.specs.declared.Settings.{Settings}
use Rattle.protocol.specs.Basic.{every}
use Rattle.protocol.specs.Element.{residue_at, signed}
use Rattle.protocol.specs.Layout.{item_cells, item_of, round_items}
use Rattle.protocol.specs.Transcript.{Transcript, round_holds, next_claim, final_bounded, end_met, folded_key, element, claim_after, holds_at, closes, accepted}
use Rattle.protocol.proofs.Inputs.{settings-valid}
use Rattle.protocol.proofs.Reading.{tabulate_at}
use Rattle.protocol.proofs.Refusals.{and_fails_left}
use Rattle.protocol.proofs.Agreement.{Same, Alike, claim_same, round_same, end_same, every_ext}
use Rattle.residues.specs.Elements.{element_at}
use Rattle.residues.proofs.Padding.{padded_at}
use Rattle.equations.specs.Given.{RoundRead, ClaimRead}
use Rattle.equations.specs.Items.{row_element, row_table}
use Rattle.equations.proofs.Items.{items-cells, table-element}
use Rattle.transcripts.specs.Given.{whole, lent_row, RoundsGiven}

module _ (S : Settings) (rounds : List ℕ) (y x : ℕ) (g : RoundsGiven S rounds y) (is : x ≡ y) (t : ℕ) (l : t < S.depth) where
  pub round-read : RoundRead S t x (length rounds)
  round-read = record {
    allowed = g.allowed;
    index = omega (arith, (settings-valid S g.allowed).depth_most);
    inside = omega (arith, g.rounds_long, items-cells S (round_items S), Nat.mul-le-mul_right (item_cells S) three, Nat.add-mul (3 * t) 3 (item_cells S));
    claim_long = omega (arith, g.claim_long);
  }
    where
      three : 3 * t + 3 ≤ 3 * S.depth
      three = omega arith

  pub claim-read : ClaimRead S t x rounds
  claim-read = record { of_round = round-read; below = λ j _. g.rounds_below j }

-- ---- a round, from the items of the row as the code lends them

module _ (S : Settings) (C rounds E : List ℕ) (t : ℕ) (l : t < S.depth) where
  open S use {degree as d}

  abbrev items : List ℕ
  items = row_table S (round_items S) rounds

  lent : (j : ℕ) → j < 3 → Same d (row_element S rounds (item_of t j)) (residue_at d items (item_of t j))
  lent j h k m = sym (table-element S (round_items S) rounds (item_of t j) (omega arith) k m)

  pub round_is : (claim : List ℕ) → Alike d claim (claim_after S (whole C items E) t)
      → round_holds S claim (row_element S rounds (item_of t 0)) (row_element S rounds (item_of t 2)) ≡ holds_at S (whole C items E) t
  unfolding holds_at element
  round_is claim s = round_same S (lent 0 (omega arith)) (lent 1 (omega arith)) (lent 2 (omega arith)) claim _ s

  pub claim-goes-on : {e : ℕ} → e ≡ get_or E t 0 → (claim : List ℕ)
      → Alike d claim (next_claim S e (row_element S rounds (item_of t 0)) (row_element S rounds (item_of t 1)) (row_element S rounds (item_of t 2)))
      → Alike d claim (claim_after S (whole C items E) (t + 1))
  unfolding claim_after element
  claim-goes-on {e} is claim s k h =
      s k h
      ∙ ap (λ c. get_or c k 0) (claim_same S (lent 0 (omega arith)) (lent 1 (omega arith)) (lent 2 (omega arith)) e)
      ∙ ap (λ x. get_or (next_claim S x (residue_at d items (item_of t 0)) (residue_at d items (item_of t 1)) (residue_at d items (item_of t 2))) k 0) is
      ∙ ap (λ n. get_or (claim_after S (whole C items E) n) k 0) (sym (add-one t))

-- ---- the whole check, from a claim that begins as the commitment does

module _ (S : Settings) (C C' rounds E : List ℕ) (f : List ℤ) (is : C' ≡ element_at S.degree C 0) where
  open S use {degree as d, depth as L}

  abbrev T : Transcript
  T = lent_row S C rounds E f

  abbrev R : List ℕ
  R = row_table S (round_items S) rounds

  same : Alike d C' T.commitment
  unfolding element_at lent_row
  same k l =
      ap (λ x. get_or x k 0) is
      ∙ padded_at d (λ j. get_or C (0 * d + j) 0) k l
      ∙ ap (λ x. get_or C x 0) (omega (arith, Nat.zero-mul d))
      ∙ sym (tabulate_at d (λ k. get_or C k 0) 0 k l)

  claims_same : (t : ℕ) → Alike d (claim_after S (whole C' R E) t) (claim_after S T t)
  unfolding claim_after element lent_row
  claims_same zero = same
  claims_same (suc t) = λ k l. refl

  round-held : (t : ℕ) → holds_at S (whole C' R E) t ≡ holds_at S T t
  unfolding holds_at element lent_row
  round-held t = round_same S {c1 = residue_at d R (item_of t 1)} (λ k l. refl) (λ k l. refl) (λ k l. refl) _ _ (claims_same t)

  rounds-held : every L (holds_at S (whole C' R E)) ≡ every L (holds_at S T)
  rounds-held = every_ext L (λ t _. round-held t)

  pub rejects : every L (holds_at S (whole C' R E)) ≡ false → (key : List ℕ) → false ≡ accepted S key T
  unfolding accepted
  rejects e key = sym (and_fails_left _ _ (sym rounds-held ∙ e))

  pub ends : every L (holds_at S (whole C' R E)) ≡ true → (key claim : List ℕ) → Alike d claim (claim_after S (whole C' R E) L)
      → end_met S claim (signed f) (folded_key S key E) ≡ accepted S key T
  unfolding accepted closes end_met lent_row
  ends e key claim s =
      end_same S {f = signed f} {G = folded_key S key E} (λ _ _. refl) (λ _ _. refl) claim (claim_after S T L) (λ k l. s k l ∙ claims_same L k l)
      ∙ ap (λ b. b && (final_bounded S (signed f) && closes S key T)) (sym e ∙ rounds-held)
