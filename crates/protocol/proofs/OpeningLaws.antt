-- The tables of an opening after folds: what their elements are, which numbers stay, how long they are, and how many elements are left.
--   folded d h e m i   element i of a fold by X^e of 2h elements, over whole numbers
use mathlib.Core.Path.{◌≡◌, refl, sym, ap, ap₂, ◌∙◌, subst}
use mathlib.Core.List.{List, ◌++◌}
use Prim.Native.Nat.{ℕ, zero, suc, ◌+◌, ◌*◌, ◌-◌, ◌/◌, ◌%◌, ◌^◌, ◌<◌, ◌≤◌}
use native.Mathlib.Nat as Nat
use native.Mathlib.Decide.{dec_lt}
use native.Mathlib.Numerals.{add-one}
use native.Mathlib.Omega.{arith}
use lib.ListN.{length, get_or, drop, length-append, length-drop, get_or-append}
use lib.Pow as Pow
use lib.IntN.{ℤ, pos}
use Rattle.protocol.specs.declared.Settings.{Settings}
use Rattle.protocol.specs.Basic.{flat}
use Rattle.protocol.specs.Element.{Element, modulo, rotate, plus, signed_at, residue_at}
use Rattle.protocol.specs.Settings.{size, cells}
use Rattle.protocol.specs.Opening.{fold_signed, fold_residues, left, half_left, fold_message, fold_key, message_after, key_after, round_element, round_table}
use Rattle.protocol.proofs.Reading.{flat-length, flat_at, flat-front, store-behind, tabulate_at}
use Rattle.protocol.proofs.Modulo.{modulo-lt}

-- ---- one fold

-- element i of a fold by X^e, over whole numbers
unfoldable pub folded : ℕ → ℕ → ℕ → (ℕ → Element) → ℕ → Element
folded d h e m i = plus (m i) (rotate d e (m (h + i)))

pub signed-fold : (d h e : ℕ) (m : List ℤ) (i k : ℕ) → i < h → k < d → signed_at d (fold_signed d h e m) i k ≡ folded d h e (signed_at d m) i k
unfolding fold_signed signed_at folded plus
signed-fold d h e m i k = flat-front d h _ _ (pos 0) i k

pub residue-fold : (q d h e : ℕ) (G : List ℕ) (i k : ℕ) → i < h → k < d → residue_at d (fold_residues q d h e G) i k ≡ pos (modulo q (folded d h e (residue_at d G) i k))
unfolding fold_residues residue_at folded plus
residue-fold q d h e G i k li lk = ap pos (flat-front d h _ _ 0 i k li lk)

-- ---- what stands behind the first h elements, and the length

module _ {ℓ} {A : Type ℓ} (d h : ℕ) (F : ℕ → ℕ → A) (t : List A) where
  front-behind : (j : ℕ) (z : A) → h * d ≤ j → get_or (flat d h F ++ drop (h * d) t) j z ≡ get_or t j z
  unfolding flat
  front-behind j z l = store-behind (h * d) _ t z j l

  front_length : h * d ≤ length t → length (flat d h F ++ drop (h * d) t) ≡ length t
  front_length l = omega (arith, length-append (flat d h F) (drop (h * d) t), length-drop (h * d) t, flat-length d h F)

  -- what holds of the new numbers and of the old ones holds of all
  front_each : (P : A → Type 0) (z : A) → ((i k : ℕ) → P (F i k)) → ((j : ℕ) → P (get_or t j z)) → (j : ℕ) → P (get_or (flat d h F ++ drop (h * d) t) j z)
  unfolding flat
  front_each P z new old j = elim (dec_lt j (h * d)) [
    | yes l ↦ subst P (sym (get_or-append (flat d h F) (drop (h * d) t) z j (omega (arith, flat-length d h F)) ∙ tabulate_at (h * d) _ z j l)) (new _ _)
    | no g ↦ subst P (sym (front-behind j z (omega arith))) (old j)
  ]

module _ (d h e : ℕ) (m : List ℤ) where
  pub signed-fold-behind : (j : ℕ) → h * d ≤ j → get_or (fold_signed d h e m) j (pos 0) ≡ get_or m j (pos 0)
  unfolding fold_signed
  signed-fold-behind j l = front-behind d h _ m j (pos 0) l

  pub signed-fold-length : h * d ≤ length m → length (fold_signed d h e m) ≡ length m
  unfolding fold_signed
  signed-fold-length l = front_length d h _ m l

module _ (q d h e : ℕ) (G : List ℕ) where
  pub residue-fold-behind : (j : ℕ) → h * d ≤ j → get_or (fold_residues q d h e G) j 0 ≡ get_or G j 0
  unfolding fold_residues
  residue-fold-behind j l = front-behind d h _ G j 0 l

  pub residue-fold-length : h * d ≤ length G → length (fold_residues q d h e G) ≡ length G
  unfolding fold_residues
  residue-fold-length l = front_length d h _ G l

  -- a fold of residues is residues
  pub residue-fold-below : 0 < q → ((j : ℕ) → get_or G j 0 < q) → (j : ℕ) → get_or (fold_residues q d h e G) j 0 < q
  unfolding fold_residues
  residue-fold-below pq r = front_each d h _ G (λ n. n < q) 0 (λ i k. modulo-lt q pq _) r

-- ---- the tables of an opening

-- 2^L elements after t halvings
half-power : (L t : ℕ) → t ≤ L → 2 ^ L / 2 ^ t ≡ 2 ^ (L - t)
half-power L t l = ap (λ n. 2 ^ n / 2 ^ t) whole ∙ ap (λ n. n / 2 ^ t) (Pow.pow-add 2 (L - t) t) ∙ Pow.shl-shr (2 ^ (L - t)) t
  where
    whole : L ≡ L - t + t
    whole = omega arith

pub twice_power : (L t : ℕ) → t < L → 2 ^ (L - t) ≡ 2 ^ (L - suc t) + 2 ^ (L - suc t)
twice_power L t l = ap (λ n. 2 ^ n) down ∙ Nat.two-pow-succ (L - suc t)
  where
    down : L - t ≡ suc (L - suc t)
    down = omega arith

module _ (S : Settings) where
  open S use {degree as d, depth as L, modulus as q}

  pub left_power : (t : ℕ) → t ≤ L → left S t ≡ 2 ^ (L - t)
  unfolding left size
  left_power t l = half-power L t l

  pub half_left-power : (t : ℕ) → t < L → half_left S t ≡ 2 ^ (L - suc t)
  unfolding half_left size
  half_left-power t l = ap (λ n. 2 ^ L / 2 ^ n) (add-one t) ∙ half-power L (suc t) l

  pub left_inside : (t : ℕ) → left S t * d ≤ cells S
  unfolding left cells
  left_inside t = Nat.mul-le-mul_right d (Nat.div-le_self (size S) (2 ^ t))

  half_left-inside : (t : ℕ) → half_left S t * d ≤ cells S
  unfolding half_left left
  half_left-inside t = left_inside (t + 1)

  module _ (E : List ℕ) (t : ℕ) where
    pub message-suc : (message : List ℤ) → message_after S E (suc t) message ≡ fold_signed d (half_left S t) (get_or E t 0) (message_after S E t message)
    unfolding message_after fold_message
    message-suc message = refl

    pub key-suc : (key : List ℕ) → key_after S E (suc t) key ≡ fold_residues q d (half_left S t) (get_or E t 0) (key_after S E t key)
    unfolding key_after fold_key
    key-suc key = refl

  module _ (E : List ℕ) where
    pub message-length : (t : ℕ) (message : List ℤ) → length message ≡ cells S → length (message_after S E t message) ≡ cells S
    message-length zero message n = unfold message_after in n
    message-length (suc t) message n =
        ap length (message-suc E t message) ∙ signed-fold-length d (half_left S t) (get_or E t 0) _ (omega (arith, half_left-inside t, message-length t message n)) ∙ message-length t message n

    pub key-length : (t : ℕ) (key : List ℕ) → length key ≡ cells S → length (key_after S E t key) ≡ cells S
    key-length zero key n = unfold key_after in n
    key-length (suc t) key n = ap length (key-suc E t key) ∙ residue-fold-length q d (half_left S t) (get_or E t 0) _ (omega (arith, half_left-inside t, key-length t key n)) ∙ key-length t key n

    pub key_below : 0 < q → (t : ℕ) (key : List ℕ) → ((j : ℕ) → get_or key j 0 < q) → (j : ℕ) → get_or (key_after S E t key) j 0 < q
    key_below pq zero key r j = unfold key_after in r j
    key_below pq (suc t) key r j = subst (λ G. get_or G j 0 < q) (sym (key-suc E t key)) (residue-fold-below q d (half_left S t) (get_or E t 0) _ pq (key_below pq t key r) j)

  -- folds read only the challenges of their rounds
  module _ (E F : List ℕ) where
    pub key-challenges : (key : List ℕ) (t : ℕ) → ((i : ℕ) → i < t → get_or E i 0 ≡ get_or F i 0) → key_after S E t key ≡ key_after S F t key
    unfolding key_after
    key-challenges key zero e = refl
    key-challenges key (suc t) e = ap₂ (fold_key S t) (e t (omega arith)) (key-challenges key t (λ i h. e i (omega arith)))

    pub message-challenges : (message : List ℤ) (t : ℕ) → ((i : ℕ) → i < t → get_or E i 0 ≡ get_or F i 0) → message_after S E t message ≡ message_after S F t message
    unfolding message_after
    message-challenges message zero e = refl
    message-challenges message (suc t) e = ap₂ (fold_message S t) (e t (omega arith)) (message-challenges message t (λ i h. e i (omega arith)))

  -- element 3t + j of the round elements is c_j of round t + 1
  pub round_at : (E key : List ℕ) (message : List ℤ) (t j k : ℕ) → t < L → j < 3 → k < d
      → get_or (round_table S E key message) ((3 * t + j) * d + k) 0 ≡ get_or (round_element S t (key_after S E t key) (message_after S E t message) j) k 0
  unfolding round_table
  round_at E key message t j k lt lj lk =
      flat_at d (3 * L) _ 0 (3 * t + j) k (omega arith) lk ∙ (λ i. get_or (round_element S (round i) (key_after S E (round i) key) (message_after S E (round i) message) (which i)) k 0)
    where
      round : (3 * t + j) / 3 ≡ t
      round = omega arith

      which : (3 * t + j) % 3 ≡ j
      which = omega arith
