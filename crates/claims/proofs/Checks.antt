-- What a verifier works out, in the ring over ℤ/q: 2·(c0 + c2), the next claim, the last equation; and that half is the inverse of 2.
use mathlib.Core.Path.{◌≡◌, sym, ap, ap₂, ◌∙◌}
use mathlib.Core.List.{List}
use Prim.Native.Nat.{ℕ, suc, ◌+◌, ◌*◌, ◌/◌, ◌%◌, ◌^◌, ◌<◌}
use native.Mathlib.Nat as Nat
use native.Mathlib.Omega.{arith}
use lib.ListN.{get_or}
use lib.IntN.{pos}
use Rattle.algebra.specs.Ring as R
use Rattle.algebra.specs.Ring.{CommRing}
use Rattle.algebra.specs.Integers.{fromℤ, ofℕ, ofℕ-mul, ofℕ-add}
use Rattle.algebra.specs.Residues.{Zmod, ofℕ-res, res-modulus}
use Rattle.algebra.specs.Scalars.{ofℕ_vanish}
use Rattle.algebra.specs.Negacyclic.{negacyclic, X^}
use Rattle.protocol.specs.declared.Settings.{Settings}
use Rattle.protocol.specs.Element.{Element, rotate, product, plus, times, residue}
use Rattle.protocol.specs.Settings.{half}
use Rattle.protocol.specs.Transcript.{doubled, next_claim, ending}
use Rattle.claims.proofs.Readings.{readq, read-plus, read-times, read-rotate, read-product, readq-entries, entries-readq, readq-reduced}

module _ (S : Settings) (p : 0 < S.degree) (pq : 0 < S.modulus) where
  open S use {degree as d, depth as L, modulus as q}

  -- the ring over ℤ/q, and reading in it
  abbrev pub Q : CommRing
  Q = negacyclic (Zmod S.modulus pq) S.degree p

  abbrev pub read_s : Element → (negacyclic (Zmod S.modulus pq) S.degree p).C
  read_s = readq S.modulus pq S.degree p

  abbrev pub X^S : ℕ → (negacyclic (Zmod S.modulus pq) S.degree p).C
  X^S = X^ (Zmod S.modulus pq) S.degree p

  open negacyclic (Zmod S.modulus pq) S.degree p use {C, 1#, add as ◌⊕◌, mul as ◌⊗◌}

  infixl 60 ◌⊕◌
  infixl 70 ◌⊗◌
  -- 2·half is 1 modulo an odd q
  pub two_half : q % 2 ≡ 1 → ofℕ Q 2 ⊗ ofℕ Q (half S) ≡ 1#
  unfolding half
  two_half odd = sym (ofℕ-mul Q 2 ((q + 1) / 2)) ∙ ap (ofℕ Q) twice ∙ ofℕ-add Q q 1
      ∙ ap₂ ◌⊕◌ (ofℕ_vanish (Zmod q pq) d p q (ofℕ-res q pq q ∙ res-modulus q pq)) (fromℤ Q).on_one ∙ R.zero-add Q 1#
    where
      twice : 2 * ((q + 1) / 2) ≡ q + 1
      twice = omega arith

  pub half-power-suc : (t : ℕ) → ofℕ Q (half S ^ suc t) ≡ ofℕ Q (half S ^ t) ⊗ ofℕ Q (half S)
  half-power-suc t = ap (ofℕ Q) (Nat.pow-suc (half S) t) ∙ ofℕ-mul Q (half S ^ t) (half S)

  -- PROTOCOL 3.2
  pub read-next_claim : (e : ℕ) (c0 c1 c2 : Element) → read_s (residue (next_claim S e c0 c1 c2)) ≡ read_s c0 ⊕ X^S e ⊗ read_s c1 ⊕ X^S e ⊗ (X^S e ⊗ read_s c2)
  unfolding next_claim plus
  read-next_claim e c0 c1 c2 = readq-reduced q pq d p (plus (plus c0 (rotate d e c1)) (rotate d e (rotate d e c2)))
      ∙ read-plus (Zmod q pq) d p (plus c0 (rotate d e c1)) (rotate d e (rotate d e c2))
      ∙ ap₂ ◌⊕◌ (read-plus (Zmod q pq) d p c0 (rotate d e c1) ∙ ap (λ x. read_s c0 ⊕ x) (turned c1)) (turned (rotate d e c2) ∙ ap (λ x. X^S e ⊗ x) (turned c2))
    where
      turned : (c : Element) → read_s (rotate d e c) ≡ X^S e ⊗ read_s c
      turned c = read-rotate (Zmod q pq) d p e c

  module _ (claim : List ℕ) where
    -- PROTOCOL 3.1
    module _ (c0 c2 : Element) where
      doubled-read : read_s (times (pos 2) (plus c0 c2)) ≡ ofℕ Q 2 ⊗ (read_s c0 ⊕ read_s c2)
      doubled-read = read-times (Zmod q pq) d p (pos 2) (plus c0 c2) ∙ ap (λ x. ofℕ Q 2 ⊗ x) (read-plus (Zmod q pq) d p c0 c2)

      pub round-equation : ((k : ℕ) → k < d → doubled S c0 c2 k ≡ get_or claim k 0) → ofℕ Q 2 ⊗ (read_s c0 ⊕ read_s c2) ≡ read_s (residue claim)
      unfolding doubled times plus
      round-equation e = sym (readq-entries q pq d p (times (pos 2) (plus c0 c2)) claim (λ k l. sym (e k l)) ∙ doubled-read)

      pub equation-round : ((k : ℕ) → k < d → get_or claim k 0 < q) → ofℕ Q 2 ⊗ (read_s c0 ⊕ read_s c2) ≡ read_s (residue claim) → (k : ℕ) → k < d → doubled S c0 c2 k ≡ get_or claim k 0
      unfolding doubled times plus
      equation-round below e k l = sym (entries-readq q pq d p (times (pos 2) (plus c0 c2)) claim below (sym (doubled-read ∙ e)) k l)

    -- PROTOCOL 3.3, the last equation
    module _ (f G : Element) where
      ended : Element
      ended = times (pos (half S ^ L)) (product d f G)

      ending-read : read_s ended ≡ ofℕ Q (half S ^ L) ⊗ (read_s f ⊗ read_s G)
      unfolding ended
      ending-read = read-times (Zmod q pq) d p (pos (half S ^ L)) _ ∙ ap (λ x. ofℕ Q (half S ^ L) ⊗ x) (read-product (Zmod q pq) d p f _)

      pub end-equation : ((k : ℕ) → k < d → get_or claim k 0 ≡ ending S f G k) → read_s (residue claim) ≡ ofℕ Q (half S ^ L) ⊗ (read_s f ⊗ read_s G)
      unfolding ending ended times
      end-equation e = readq-entries q pq d p ended claim e ∙ ending-read

      pub equation-end : ((k : ℕ) → k < d → get_or claim k 0 < q) → read_s (residue claim) ≡ ofℕ Q (half S ^ L) ⊗ (read_s f ⊗ read_s G) → (k : ℕ) → k < d
          → get_or claim k 0 ≡ ending S f G k
      unfolding ending ended times
      equation-end below e k l = entries-readq q pq d p ended claim below (e ∙ sym ending-read) k l
