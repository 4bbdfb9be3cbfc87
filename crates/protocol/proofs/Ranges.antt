-- What an opening gives is residues, of the right lengths: commitment, round elements, claims, folded key, final element.
use mathlib.Core.Path.{◌≡◌, sym, ap, ◌∙◌, subst}
use mathlib.Core.List.{List}
use Prim.Native.Nat.{ℕ, zero, suc, ◌*◌, ◌/◌, ◌%◌, ◌<◌}
use native.Mathlib.Decide.{dec_lt}
use native.Mathlib.Omega.{arith}
use lib.ListN.{length, get_or, get_or-eq_default, get_or-append}
use lib.IntN.{ℤ, pos}
use Rattle.protocol.specs.declared.Settings.{Settings}
use Rattle.protocol.specs.Basic.{flat}
use Rattle.protocol.specs.Element.{Element, signed, signed_at, coefficients, reduced, padded, padded_signed}
use Rattle.protocol.specs.Settings.{cells}
use Rattle.protocol.specs.Opening.{commitment, round_element, round_table, message_after, key_after, final_element}
use Rattle.protocol.specs.Transcript.{Transcript, doubled, ending, next_claim, claim_after, Accepted}
use Rattle.protocol.specs.Inputs.{Below}
use Rattle.protocol.proofs.Reading.{tabulate_length, tabulate_at}
use Rattle.protocol.proofs.Modulo.{reduced_at, modulo-lt}
use Rattle.protocol.proofs.OpeningLaws.{key-length, key_below}

pub below-everywhere : (m n : ℕ) (t : List ℕ) → 0 < m → Below m n t → (j : ℕ) → get_or t j 0 < m
below-everywhere m n t pm b j = elim (dec_lt j n) [
  | yes l ↦ b.each j l
  | no g ↦ subst (λ x. x < m) (sym (get_or-eq_default t 0 {n = j} (omega (arith, b.long)))) pm
]

pub reduced-below : (q : ℕ) → 0 < q → (d : ℕ) (a : Element) → Below q d (reduced q d a)
unfolding reduced
reduced-below q pq d a = record { long = tabulate_length d _; each = λ k l. subst (λ x. x < q) (sym (reduced_at q d a k l)) (modulo-lt q pq (a k)) }

-- an element that is passed by value begins with its coefficients
pub padded_at : (d : ℕ) (l : List ℕ) (k : ℕ) → k < length l → get_or (padded d l) k 0 ≡ get_or l k 0
unfolding padded
padded_at d l k h = get_or-append l _ 0 k h

pub padded-signed_at : (d : ℕ) (l : List ℤ) (k : ℕ) → k < length l → signed (padded_signed d l) k ≡ signed l k
unfolding padded_signed signed
padded-signed_at d l k h = get_or-append l _ (pos 0) k h

module _ (S : Settings) (pq : 0 < S.modulus) where
  open S use {degree as d, depth as L, modulus as q}

  pub commitment-below : (key : List ℕ) (message : List ℤ) → Below q d (commitment S key message)
  unfolding commitment
  commitment-below key message = reduced-below q pq d _

  pub round-below : (t : ℕ) (key : List ℕ) (message : List ℤ) (j : ℕ) → Below q d (round_element S t key message j)
  unfolding round_element
  round-below t key message j = reduced-below q pq d _

  pub rounds_below : (E key : List ℕ) (message : List ℤ) → Below q (3 * L * d) (round_table S E key message)
  unfolding round_table flat
  rounds_below E key message = record {
    long = tabulate_length (3 * L * d) _;
    each =
        λ i l. subst (λ x. x < q) (sym (tabulate_at (3 * L * d) _ 0 i l))
        (below-everywhere q d _ pq (round-below (i / d / 3) (key_after S E (i / d / 3) key) (message_after S E (i / d / 3) message) (i / d % 3)) (i % d));
  }

  pub claim-below : (T : Transcript) → ((k : ℕ) → k < d → get_or T.commitment k 0 < q) → (t k : ℕ) → k < d → get_or (claim_after S T t) k 0 < q
  unfolding claim_after next_claim
  claim-below T b zero = b
  claim-below T b (suc t) = (reduced-below q pq d _).each

  pub key_residues : (E : List ℕ) (t : ℕ) (key : List ℕ) → Below q (cells S) key → Below q (cells S) (key_after S E t key)
  key_residues E t key b = record { long = key-length S E t key b.long; each = λ i l. key_below S E pq t key (below-everywhere q (cells S) key pq b) i }

  -- an accepted transcript starts at residues: with rounds by the first of them, with none by the end
  pub accepted-commitment : (key : List ℕ) (T : Transcript) → Accepted S key T → (k : ℕ) → k < d → get_or T.commitment k 0 < q
  unfolding claim_after doubled ending
  accepted-commitment key T a k l = elim (dec_lt 0 L) [
    | yes some ↦ subst (λ x. x < q) (a.every_round 0 some k l) (modulo-lt q pq _)
    | no none ↦
        let bare : 0 ≡ L = omega arith in
        subst (λ x. x < q) (sym (ap (λ t. get_or (claim_after S T t) k 0) bare ∙ a.at-end k l)) (modulo-lt q pq _)
  ]

module _ (S : Settings) (message : List ℤ) where
  pub last_length : length (final_element S message) ≡ S.degree
  unfolding final_element coefficients
  last_length = tabulate_length S.degree _

  pub last_at : (k : ℕ) → k < S.degree → signed (final_element S message) k ≡ signed_at S.degree message 0 k
  unfolding final_element coefficients signed
  last_at k l = tabulate_at S.degree _ (pos 0) k l

  pub last_padded_at : (k : ℕ) → k < S.degree → signed (padded_signed S.degree (final_element S message)) k ≡ signed_at S.degree message 0 k
  last_padded_at k l = padded-signed_at S.degree (final_element S message) k (omega (arith, last_length)) ∙ last_at k l
