-- Folds by all challenges are one sum of rotated elements, over any table: of whole numbers as they are, or modulo q.
-- What is compared is v of a number; v is any reading that sums and signs respect.
use Rattle.std.proofs.Common.{◌≡◌, ℕ, zero, suc, ◌+◌, ◌-◌, ◌*◌, ◌/◌, ◌%◌, ◌^◌, ◌<◌, List, get_or, ℤ, pos, ◌+ℤ◌, neg_ℤ, sym, refl, ap, ◌∙◌, ap₂, arith}
use native.Mathlib.Nat as Nat
use lib.IntN.{+ℤ_idl, +ℤ_idr, +ℤ_assoc, +ℤ_comm, neg_ℤ-+ℤ}
use Rattle.protocol.specs.declared.Settings.{Settings}
use Rattle.protocol.specs.Basic.{sum}
use Rattle.protocol.specs.Element.{Element, modulo, flips, around, rotate, residue_at}
use Rattle.protocol.specs.Opening.{fold_residues, fold_key, key_after}
use Rattle.protocol.proofs.SumLaws.{sum-split}
use Rattle.protocol.proofs.Modulo.{modulo_add, modulo_neg, modulo_again}
use Rattle.protocol.proofs.Reading.{flat-front}
use Rattle.protocol.proofs.Rotation.{rotate-plus}
use Rattle.residues.proofs.Around.{rotate-rotate}
use Rattle.protocol.proofs.Agreement.{sum-ext}
use Rattle.protocol.proofs.Paths.{half_left-height}
use Rattle.folded_keys.specs.Turns.{turn, at_bit, turned_sum}

-- ---- exponents

module _ (w : ℕ → ℕ) (s j : ℕ) (l : j < 2 ^ s) where
  pub turn_first : turn w (suc s) j ≡ turn w s j
  unfolding turn
  turn_first = (λ i. turn w s (Nat.mod-eq_of_lt l i) + Nat.div-eq_of_lt l i * w s) ∙ omega (arith, Nat.zero-mul (w s))

  pub turn_second : turn w (suc s) (2 ^ s + j) ≡ turn w s j + w s
  unfolding turn
  turn_second =
      let m : (2 ^ s + j) % 2 ^ s ≡ j = Nat.add-mod_left (2 ^ s) j ∙ Nat.mod-eq_of_lt l in
      let h : (2 ^ s + j) / 2 ^ s ≡ 1 = Nat.add-div_left j (omega arith) ∙ ap (λ x. x + 1) (Nat.div-eq_of_lt l) in
      (λ i. turn w s (m i) + h i * w s) ∙ omega (arith, Nat.one-mul (w s))

-- ---- sums of whole numbers

four : (a b c d : ℤ) → (a +ℤ b) +ℤ (c +ℤ d) ≡ (a +ℤ c) +ℤ (b +ℤ d)
four a b c d =
    +ℤ_assoc a b (c +ℤ d)
    ∙ ap (λ x. a +ℤ x) (sym (+ℤ_assoc b c d) ∙ ap (λ x. x +ℤ d) (+ℤ_comm b c) ∙ +ℤ_assoc c b d)
    ∙ sym (+ℤ_assoc a c (b +ℤ d))

sum_both : (n : ℕ) (f g : ℕ → ℤ) → sum n (λ i. f i +ℤ g i) ≡ sum n f +ℤ sum n g
unfolding sum
sum_both zero f g = sym (+ℤ_idl (pos 0))
sum_both (suc n) f g = ap (λ x. x +ℤ (f n +ℤ g n)) (sum_both n f g) ∙ four (sum n f) (sum n g) (f n) (g n)

flips-add : (n : ℕ) (a b : ℤ) → flips n (a +ℤ b) ≡ flips n a +ℤ flips n b
unfolding flips
flips-add zero a b = refl
flips-add (suc n) a b = ap neg_ℤ (flips-add n a b) ∙ neg_ℤ-+ℤ (flips n a) (flips n b)

rotate-add : (d e : ℕ) (a b : Element) (k : ℕ) → rotate d e (λ i. a i +ℤ b i) k ≡ rotate d e a k +ℤ rotate d e b k
unfolding rotate around
rotate-add d e a b k = flips-add _ _ _

-- ---- folds

module _ {A : Type 0} (v : ℤ → A)
    (add : (a a' b b' : ℤ) → v a ≡ v a' → v b ≡ v b' → v (a +ℤ b) ≡ v (a' +ℤ b'))
    (neg : (a a' : ℤ) → v a ≡ v a' → v (neg_ℤ a) ≡ v (neg_ℤ a'))
    (d : ℕ) (p : 0 < d) where
  sum-reads : (n : ℕ) (f g : ℕ → ℤ) → ((i : ℕ) → i < n → v (f i) ≡ v (g i)) → v (sum n f) ≡ v (sum n g)
  unfolding sum
  sum-reads zero f g e = refl
  sum-reads (suc n) f g e = add _ _ _ _ (sum-reads n f g (λ i l. e i (omega arith))) (e n (omega arith))

  flips-reads : (n : ℕ) (a b : ℤ) → v a ≡ v b → v (flips n a) ≡ v (flips n b)
  unfolding flips
  flips-reads zero a b e = e
  flips-reads (suc n) a b e = neg _ _ (flips-reads n a b e)

  rotate-reads : (e : ℕ) (a b : Element) → ((k : ℕ) → k < d → v (a k) ≡ v (b k)) → (k : ℕ) → v (rotate d e a k) ≡ v (rotate d e b k)
  unfolding rotate around
  rotate-reads e a b s k = flips-reads _ _ _ (s _ (Nat.mod-lt _ p))

  -- the tables T 0, T 1, … are each the fold of the one before; w s is the exponent of the fold that leaves 2^s elements
  module _ (L : ℕ) (w : ℕ → ℕ) (T : ℕ → ℕ → Element)
      (folds : (s t : ℕ) → s + suc t ≡ L → (i k : ℕ) → i < 2 ^ s → k < d → v (T (suc t) i k) ≡ v (T t i k +ℤ rotate d (w s) (T t (2 ^ s + i)) k)) where
    module _ (s t k : ℕ) (l : k < d) where
      abbrev F : ℕ → ℤ
      F j = rotate d (turn w (suc s) j) (T t j) k

      halves : sum (2 ^ s) (λ j. rotate d (turn w s j) (λ i. T t j i +ℤ rotate d (w s) (T t (2 ^ s + j)) i) k) ≡ sum (2 ^ suc s) F
      halves =
          sum-ext (2 ^ s) (λ j b.
          rotate-add d (turn w s j) (T t j) (rotate d (w s) (T t (2 ^ s + j))) k
          ∙ ap₂ ◌+ℤ◌
          (ap (λ n. rotate d n (T t j) k) (sym (turn_first w s j b)))
          (rotate-rotate d p (turn w s j) (w s) (T t (2 ^ s + j)) k ∙ ap (λ n. rotate d n (T t (2 ^ s + j)) k) (sym (turn_second w s j b))))
          ∙ sum_both (2 ^ s) F (λ j. F (2 ^ s + j))
          ∙ sym (sum-split (2 ^ s) (2 ^ s) F)
          ∙ ap (λ n. sum n F) (sym (Nat.two-pow-succ s))

    pub turns : (s t : ℕ) → s + t ≡ L → (k : ℕ) → k < d → v (T L 0 k) ≡ v (sum (2 ^ s) (λ j. rotate d (turn w s j) (T t j) k))
    unfolding sum turn
    turns zero t e k l =
        ap v (sym (
        +ℤ_idl (rotate d 0 (T t 0) k)
        ∙ rotate-plus d 0 (T t 0) k (omega arith) l (omega arith)
        ∙ (λ i. T ((sym (Nat.zero-add t) ∙ e) i) 0 (Nat.sub-zero k i))))
    turns (suc s) t e k l =
        turns s (suc t) (omega (arith, e)) k l
        ∙ sum-reads (2 ^ s) _ _ (λ j b. rotate-reads (turn w s j) _ _ (λ i m. folds s t (omega (arith, e)) j i b m) k)
        ∙ ap v (halves s t k l)

-- ---- keys

module _ (S : Settings) (pq : 0 < S.modulus) (pd : 0 < S.degree) (E key : List ℕ) where
  open S use {degree as d, depth as L, modulus as q}

  add : (a a' b b' : ℤ) → modulo q a ≡ modulo q a' → modulo q b ≡ modulo q b' → modulo q (a +ℤ b) ≡ modulo q (a' +ℤ b')
  add a a' b b' x y = modulo_add q pq a b ∙ (λ i. (x i + y i) % q) ∙ sym (modulo_add q pq a' b')

  neg : (a a' : ℤ) → modulo q a ≡ modulo q a' → modulo q (neg_ℤ a) ≡ modulo q (neg_ℤ a')
  neg a a' x = modulo_neg q pq a ∙ ap (λ y. (q - y) % q) x ∙ sym (modulo_neg q pq a')

  T : ℕ → ℕ → Element
  T t = residue_at d (key_after S E t key)

  again : (z : ℤ) → modulo q (pos (modulo q z)) ≡ modulo q z
  again z = ap (modulo q) (sym (+ℤ_idr (pos (modulo q z)))) ∙ modulo_again q pq z (pos 0) ∙ ap (modulo q) (+ℤ_idr z)

  folds : (s t : ℕ) → s + suc t ≡ L → (i k : ℕ) → i < 2 ^ s → k < d → modulo q (T (suc t) i k) ≡ modulo q (T t i k +ℤ rotate d (at_bit L E s) (T t (2 ^ s + i)) k)
  unfolding T residue_at key_after fold_key fold_residues
  folds s t e i k li lk =
      let h = half_left-height S s t (omega (arith, e)) in
      let at : L - suc s ≡ t = omega (arith, e) in
      ap (λ x. modulo q (pos x)) (flat-front d _ _ _ 0 i k (rw h li) lk)
      ∙ again _
      ∙ (λ z. modulo q (T t i k +ℤ rotate d (get_or E (sym at z) 0) (T t (h z + i)) k))

  -- G' as one sum
  pub key-turns : (k : ℕ) → k < d → modulo q (residue_at d (key_after S E L key) 0 k) ≡ modulo q (turned_sum S E (residue_at d key) (2 ^ L) k)
  unfolding turned_sum T key_after
  key-turns k l = turns (modulo q) add neg d pd L (at_bit L E) T folds L 0 (Nat.add-zero L) k l
