-- Completeness: the transcript of a message within B is accepted, whatever the key and the challenges.
use mathlib.Core.Path.{◌≡◌, refl, sym, ap, ◌∙◌, subst}
use mathlib.Core.List.{List}
use Prim.Native.Nat.{ℕ, ◌*◌, ◌-◌, ◌%◌, ◌^◌, ◌<◌, ◌≤◌}
use native.Mathlib.Nat as Nat
use native.Mathlib.Omega.{arith}
use lib.ListN.{get_or}
use lib.IntN.{ℤ, pos, nat_abs}
use Rattle.algebra.specs.Integers.{ofℕ}
use Rattle.algebra.specs.Residues.{Zmod}
use Rattle.algebra.specs.Inner as I
use Rattle.protocol.specs.declared.Settings.{Settings}
use Rattle.protocol.specs.Element.{signed, signed_at, residue_at}
use Rattle.protocol.specs.Settings.{size, cells, half}
use Rattle.protocol.specs.Opening.{inner, commitment, message_after, key_after}
use Rattle.protocol.specs.Transcript.{Transcript, doubled, ending, folded_key, element, claim_after, transcript_of, Accepted}
use Rattle.claims.proofs.Readings.{read_ext}
use Rattle.claims.proofs.Bounds.{last_bound}
use Rattle.protocol.proofs.Ranges.{reduced-below, claim-below, last_at}
use Rattle.claims.proofs.Claims.{sent, doubled-honest, claim-honest}
use Rattle.claims.proofs.Checks.{Q, read_s, equation-round, equation-end}

module _ (S : Settings) (p : 0 < S.degree) (pq : 0 < S.modulus) (key : List ℕ) (message : List ℤ) (E C : List ℕ) (f : List ℤ)
    (same_commitment : (k : ℕ) → k < S.degree → get_or C k 0 ≡ get_or (commitment S key message) k 0)
    (same_last : (k : ℕ) → k < S.degree → signed f k ≡ signed_at S.degree (message_after S E S.depth message) 0 k) where
  open S use {degree as d, depth as L, modulus as q, bound as B}

  abbrev T : Transcript
  T = sent S key message E C f

  start-below : (k : ℕ) → k < d → get_or C k 0 < q
  unfolding commitment
  start-below k l = subst (λ m. m < q) (sym (same_commitment k l)) ((reduced-below q pq d _).each k l)

  rounds-met : q % 2 ≡ 1 → (t : ℕ) → t < L → (k : ℕ) → k < d → doubled S (element S T t 0) (element S T t 2) k ≡ get_or (claim_after S T t) k 0
  rounds-met odd t l = equation-round S p pq (claim_after S T t) (element S T t 0) (element S T t 2) (claim-below S pq T start-below t)
      (doubled-honest S p pq key message E C f t l odd ∙ sym (claim-honest S p pq key message E C f same_commitment t (omega arith)))

  end-met : (k : ℕ) → k < d → get_or (claim_after S T L) k 0 ≡ ending S (signed f) (folded_key S key E) k
  end-met = equation-end S p pq (claim_after S T L) (signed f) (folded_key S key E) (claim-below S pq T start-below L)
      (claim-honest S p pq key message E C f same_commitment L (Nat.le_refl L) ∙ ap ((Q S p pq).mul (ofℕ (Q S p pq) (half S ^ L))) one_left)
    where
      u : ℕ → (Q S p pq).C
      u i = read_s S p pq (signed_at d (message_after S E L message) i)

      v : ℕ → (Q S p pq).C
      v i = read_s S p pq (residue_at d (key_after S E L key) i)

      one_left : I.inner (Q S p pq) (2 ^ (L - L)) u v ≡ (Q S p pq).mul (read_s S p pq (signed f)) (v 0)
      one_left = ap (λ m. I.inner (Q S p pq) (2 ^ m) u v) (Nat.sub_self L) ∙ I.inner-one (Q S p pq) u v ∙ ap (λ x. (Q S p pq).mul x (v 0)) (sym (read_ext (Zmod q pq) d p same_last))

  bound-met : ((j : ℕ) → j < cells S → nat_abs (get_or message j (pos 0)) ≤ B) → (k : ℕ) → k < d → nat_abs (signed f k) ≤ size S * B
  bound-met small k l = subst (λ z. nat_abs z ≤ size S * B) (sym (same_last k l)) (last_bound S p E message small k l)

  -- whatever stands from place d on in commitment and final element
  pub complete-beyond : q % 2 ≡ 1 → ((j : ℕ) → j < cells S → nat_abs (get_or message j (pos 0)) ≤ B) → Accepted S key T
  complete-beyond odd small = record { every_round = rounds-met odd; in_bound = bound-met small; at-end = end-met }

-- PROTOCOL 2.6 and 3.7
pub complete : (S : Settings) → 0 < S.degree → S.modulus % 2 ≡ 1 → (key : List ℕ) (message : List ℤ) (E : List ℕ)
    → ((j : ℕ) → j < cells S → nat_abs (get_or message j (pos 0)) ≤ S.bound) → Accepted S key (transcript_of S key message E)
unfolding transcript_of
complete S p odd key message E small = complete-beyond S p (omega arith) key message E _ _ (λ k l. refl) (last_at S (message_after S E S.depth message)) odd small
