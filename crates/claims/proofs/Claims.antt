-- The round elements and the claims of an opening, in the ring over ℤ/q: after t rounds the claim is half^t·⟨m, G⟩ over what is left of both tables.
-- Of the commitment only the places below d matter, and the final element not at all.
use mathlib.Core.Path.{◌≡◌, sym, ap, ap₂, ◌∙◌}
use mathlib.Core.List.{List}
use Prim.Native.Nat.{ℕ, zero, suc, ◌+◌, ◌-◌, ◌%◌, ◌^◌, ◌<◌, ◌≤◌}
use native.Mathlib.Nat as Nat
use native.Mathlib.Numerals.{add-one}
use native.Mathlib.Omega.{arith}
use lib.ListN.{get_or}
use lib.IntN.{ℤ, pos}
use Rattle.algebra.specs.Ring as R
use Rattle.algebra.specs.Ring.{CommRing}
use Rattle.algebra.specs.Integers.{ints, fromℤ, ofℕ}
use Rattle.algebra.specs.Solver.{con, ◌⊕◌ as ◌:+◌, ◌⊗◌ as ◌:*◌, ◌≐◌}
use Rattle.algebra.specs.Certificate.{◌·⟨◌⟩◌, ◌⇐◌, done, combine}
use Rattle.algebra.specs.Residues.{Zmod}
use Rattle.algebra.specs.Negacyclic.{negacyclic}
use Rattle.algebra.specs.Inner as I
use Rattle.protocol.specs.declared.Settings.{Settings}
use Rattle.protocol.specs.Element.{Element, times, signed_at, residue, residue_at}
use Rattle.protocol.specs.Settings.{size, half}
use Rattle.protocol.specs.Opening.{inner, round_table, second, cross, half_left, commitment, round_element, message_after, key_after}
use Rattle.protocol.specs.Transcript.{Transcript, element, claim_after}
use Rattle.protocol.proofs.Modulo.{reduced_at}
use Rattle.claims.proofs.Readings.{read-plus, read-times, read-inner, readq-modulo, readq-entries}
use Rattle.protocol.proofs.OpeningLaws.{half_left-power, twice_power, round_at}
use Rattle.claims.proofs.Tables.{message-folds, key-folds}
use Rattle.claims.proofs.Checks.{Q, read_s, X^S, two_half, half-power-suc, read-next_claim}

-- what an opening sends, with a commitment C and a final element f
abbrev pub sent : Settings → List ℕ → List ℤ → List ℕ → List ℕ → List ℤ → Transcript
sent S key message E C f = record { commitment = C; rounds = round_table S E key message; challenges = E; last = f }

module _ (S : Settings) (p : 0 < S.degree) (pq : 0 < S.modulus) (key : List ℕ) (message : List ℤ) (E C : List ℕ) (f : List ℤ) where
  open S use {degree as d, depth as L, modulus as q}
  open negacyclic (Zmod S.modulus pq) S.degree p use {C as A, add as ◌⊕◌, mul as ◌⊗◌}

  infixl 60 ◌⊕◌
  infixl 70 ◌⊗◌
  abbrev K : CommRing
  K = Zmod q pq

  abbrev RQ : CommRing
  RQ = Q S p pq

  abbrev rd : Element → A
  rd = read_s S p pq

  abbrev T : Transcript
  T = sent S key message E C f

  -- the elements of both tables after t rounds, and half^t, in the ring
  abbrev u : ℕ → ℕ → A
  u t i = rd (signed_at d (message_after S E t message) i)

  abbrev v : ℕ → ℕ → A
  v t i = rd (residue_at d (key_after S E t key) i)

  abbrev half^ : ℕ → A
  half^ t = ofℕ RQ (half S ^ t)

  -- how many elements a half has in round t + 1
  abbrev n : ℕ → ℕ
  n t = 2 ^ (L - suc t)

  -- ---- the round elements

  honest : (t j : ℕ) → t < L → j < 3 → rd (element S T t j) ≡ half^ (suc t) ⊗ rd (cross d (n t) (signed_at d (message_after S E t message)) (residue_at d (key_after S E t key)) j)
  unfolding element residue_at
  honest t j lt lj =
      readq-modulo q pq d p whole (λ k lk. ap pos (round_at S E key message t j k lt lj lk ∙ unfold round_element in reduced_at q d whole k lk))
      ∙ read-times K d p _ _
      ∙ (λ i. half^ (add-one t i) ⊗ rd (cross d (half_left-power S t lt i) (signed_at d (message_after S E t message)) (residue_at d (key_after S E t key)) j))
    where
      whole : Element
      whole = times (pos (half S ^ (t + 1))) (cross d (half_left S t) (signed_at d (message_after S E t message)) (residue_at d (key_after S E t key)) j)

  module _ (t : ℕ) (lt : t < L) where
    c0_honest : rd (element S T t 0) ≡ half^ (suc t) ⊗ I.inner RQ (n t) (u t) (v t)
    unfolding cross
    c0_honest = honest t 0 lt (omega arith) ∙ ap (λ x. half^ (suc t) ⊗ x) (read-inner K d p (n t) _ _)

    c1_honest : rd (element S T t 1) ≡ half^ (suc t) ⊗ (I.inner RQ (n t) (u t) (λ i. v t (n t + i)) ⊕ I.inner RQ (n t) (λ i. u t (n t + i)) (v t))
    unfolding cross second
    c1_honest = honest t 1 lt (omega arith) ∙ ap (λ x. half^ (suc t) ⊗ x) (read-plus K d p _ _ ∙ ap₂ ◌⊕◌ (read-inner K d p (n t) _ _) (read-inner K d p (n t) _ _))

    c2_honest : rd (element S T t 2) ≡ half^ (suc t) ⊗ I.inner RQ (n t) (λ i. u t (n t + i)) (λ i. v t (n t + i))
    unfolding cross second
    c2_honest = honest t 2 lt (omega arith) ∙ ap (λ x. half^ (suc t) ⊗ x) (read-inner K d p (n t) _ _)

    -- c0 + r·c1 + r²·c2 is half^(t+1)·⟨m0 + r·m1, G0 + r·G1⟩
    next_honest : rd (residue (claim_after S T (suc t))) ≡ half^ (suc t) ⊗ I.inner RQ (n t) (u (suc t)) (v (suc t))
    unfolding claim_after
    next_honest =
        read-next_claim S p pq e (element S T t 0) (element S T t 1) (element S T t 2)
        ∙ combine RQ (ints RQ) 8
        (λ P r A B D c0 c1 c2. c0 :+ r :* c1 :+ r :* (r :* c2) ≐ P :* (A :+ r :* B :+ r :* r :* D) ⇐ con (pos 1) ·⟨ c0 ≐ P :* A ⟩ r ·⟨ c1 ≐ P :* B ⟩ (r :* r) ·⟨ c2 ≐ P :* D ⟩ done) tt
        (half^ (suc t)) (X^S S p pq e) _ _ _ _ _ _ c0_honest c1_honest c2_honest
        ∙ ap (λ x. half^ (suc t) ⊗ x)
        (sym (I.inner-fold RQ (n t) (X^S S p pq e) (u t) (λ i. u t (n t + i)) (v t) (λ i. v t (n t + i)))
        ∙ sym (I.inner-ext RQ (n t) (message-folds S E t K p message lt) (key-folds S E t pq p key lt)))
      where
        e : ℕ
        e = get_or E t 0

    -- 2·(c0 + c2) is half^t·⟨m, G⟩
    pub doubled-honest : q % 2 ≡ 1 → ofℕ RQ 2 ⊗ (rd (element S T t 0) ⊕ rd (element S T t 2)) ≡ half^ t ⊗ I.inner RQ (2 ^ (L - t)) (u t) (v t)
    doubled-honest odd =
        combine RQ (ints RQ) 8
        (λ W P H P' A D c0 c2. W :* (c0 :+ c2) ≐ P :* (A :+ D) ⇐ W ·⟨ c0 ≐ P' :* A ⟩ W ·⟨ c2 ≐ P' :* D ⟩ (W :* (A :+ D)) ·⟨ P' ≐ P :* H ⟩ (P :* (A :+ D)) ·⟨ W :* H ≐ con (pos 1) ⟩ done) tt
        (ofℕ RQ 2) (half^ t) (ofℕ RQ (half S)) (half^ (suc t)) _ _ _ _ c0_honest c2_honest (half-power-suc S p pq t) (two_half S p pq odd)
        ∙ ap (λ x. half^ t ⊗ x) (sym (ap (λ m. I.inner RQ m (u t) (v t)) (twice_power L t lt) ∙ I.inner-split RQ (n t) (n t) (u t) (v t)))

  -- ---- the claims

  start-honest : ((k : ℕ) → k < d → get_or C k 0 ≡ get_or (commitment S key message) k 0) → rd (residue (claim_after S T 0)) ≡ half^ 0 ⊗ I.inner RQ (2 ^ (L - 0)) (u 0) (v 0)
  unfolding claim_after commitment size message_after key_after
  start-honest same =
      readq-entries q pq d p whole C (λ k l. same k l ∙ reduced_at q d whole k l)
      ∙ read-inner K d p (2 ^ L) _ _
      ∙ sym (ap₂ ◌⊗◌ (ap (ofℕ RQ) (Nat.pow-zero (half S)) ∙ (fromℤ RQ).on_one) (ap (λ m. I.inner RQ (2 ^ m) (u 0) (v 0)) (Nat.sub-zero L)) ∙ R.one-mul RQ _)
    where
      whole : Element
      whole = inner d (2 ^ L) (signed_at d message) (residue_at d key)

  pub claim-honest : ((k : ℕ) → k < d → get_or C k 0 ≡ get_or (commitment S key message) k 0) → (t : ℕ) → t ≤ L → rd (residue (claim_after S T t)) ≡ half^ t ⊗ I.inner RQ (2 ^ (L - t)) (u t) (v t)
  claim-honest same zero l = start-honest same
  claim-honest same (suc t) l = next_honest t l
