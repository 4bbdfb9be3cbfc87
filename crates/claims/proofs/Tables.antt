-- Tables after folds: what their elements are in the ring.
--   Folds K d p h e m m'   in the ring over K, the first h elements of m' are m_i + X^e·m_(h+i)
use mathlib.Core.Path.{◌≡◌, ap, ◌∙◌}
use mathlib.Core.List.{List}
use Prim.Native.Nat.{ℕ, suc, ◌+◌, ◌-◌, ◌^◌, ◌<◌}
use lib.ListN.{get_or}
use lib.IntN.{ℤ}
use Rattle.algebra.specs.Ring.{CommRing}
use Rattle.algebra.specs.Residues.{Zmod}
use Rattle.algebra.specs.Negacyclic.{negacyclic, X^}
use Rattle.protocol.specs.declared.Settings.{Settings}
use Rattle.protocol.specs.Element.{Element, rotate, signed_at, residue_at}
use Rattle.protocol.specs.Opening.{fold_signed, fold_residues, half_left, message_after, key_after}
use Rattle.protocol.proofs.OpeningLaws.{folded, signed-fold, residue-fold, half_left-power, message-suc, key-suc}
use Rattle.claims.proofs.Readings.{read, read_ext, read-plus, read-rotate, readq-modulo}

module _ (K : CommRing) (d : ℕ) (p : 0 < d) where
  abbrev pub Folds : ℕ → ℕ → (ℕ → Element) → (ℕ → Element) → Type 0
  Folds h e m m' = (i : ℕ) → i < h → read K d p (m' i) ≡ (negacyclic K d p).add (read K d p (m i)) ((negacyclic K d p).mul (X^ K d p e) (read K d p (m (h + i))))

  read-folded : (h e : ℕ) (m : ℕ → Element) (i : ℕ) → read K d p (folded d h e m i) ≡ (negacyclic K d p).add (read K d p (m i)) ((negacyclic K d p).mul (X^ K d p e) (read K d p (m (h + i))))
  unfolding folded
  read-folded h e m i = read-plus K d p (m i) (rotate d e (m (h + i))) ∙ ap ((negacyclic K d p).add (read K d p (m i))) (read-rotate K d p e (m (h + i)))

pub signed-folds : (K : CommRing) (d : ℕ) (p : 0 < d) (h e : ℕ) (m : List ℤ) → Folds K d p h e (signed_at d m) (signed_at d (fold_signed d h e m))
signed-folds K d p h e m i l = read_ext K d p (λ k lk. signed-fold d h e m i k l lk) ∙ read-folded K d p h e (signed_at d m) i

pub residue-folds : (q : ℕ) (pq : 0 < q) (d : ℕ) (p : 0 < d) (h e : ℕ) (G : List ℕ) → Folds (Zmod q pq) d p h e (residue_at d G) (residue_at d (fold_residues q d h e G))
residue-folds q pq d p h e G i l = readq-modulo q pq d p (folded d h e (residue_at d G) i) (λ k lk. residue-fold q d h e G i k l lk) ∙ read-folded (Zmod q pq) d p h e (residue_at d G) i

-- ---- the tables of an opening

module _ (S : Settings) (E : List ℕ) (t : ℕ) where
  open S use {degree as d, depth as L, modulus as q}

  -- the elements that are left are the fold of those before
  pub message-folds : (K : CommRing) (p : 0 < d) (message : List ℤ) → t < L
      → Folds K d p (2 ^ (L - suc t)) (get_or E t 0) (signed_at d (message_after S E t message)) (signed_at d (message_after S E (suc t) message))
  message-folds K p message l = rw (message-suc S E t message, ← half_left-power S t l) (signed-folds K d p (half_left S t) (get_or E t 0) (message_after S E t message))

  pub key-folds : (pq : 0 < q) (p : 0 < d) (key : List ℕ) → t < L
      → Folds (Zmod q pq) d p (2 ^ (L - suc t)) (get_or E t 0) (residue_at d (key_after S E t key)) (residue_at d (key_after S E (suc t) key))
  key-folds pq p key l = rw (key-suc S E t key, ← half_left-power S t l) (residue-folds q pq d p (half_left S t) (get_or E t 0) (key_after S E t key))
