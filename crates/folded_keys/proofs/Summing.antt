-- The sum of a key's rotated elements, element after element, and that it is the first element of the folded key.
use Rattle.std.proofs.Common.{◌≡◌, ℕ, zero, suc, ◌+◌, ◌-◌, ◌*◌, ◌%◌, ◌^◌, ◌<◌, ◌≤◌, List, length, get_or, pos, ◌+ℤ◌, sym, ap, ◌∙◌, subst, add-one, arith}
use native.Mathlib.Nat as Nat
use native.Mathlib.Decide.{dec_lt}
use Rattle.protocol.specs.declared.Settings.{Settings}
use Rattle.protocol.specs.Basic.{sum}
use Rattle.protocol.specs.Element.{modulo, rotate, residue, residue_at}
use Rattle.protocol.specs.Layout.{exponent_count}
use Rattle.protocol.specs.Opening.{key_after}
use Rattle.protocol.proofs.Modulo.{modulo-lt, modulo_again}
use Rattle.residues.specs.Lists.{spliced}
use Rattle.rotations.specs.Values.{plus_turned}
use Rattle.residues.proofs.Around.{rotate-mod}
use Rattle.residues.proofs.Parts.{tail_at}
use Rattle.residues.proofs.Splice.{spliced-before, spliced-inside}
use Rattle.protocol.proofs.Agreement.{Alike, sum-ext, rotate_same}
use Rattle.protocol.proofs.Ranges.{key_residues, below-everywhere}
use Rattle.folded_keys.specs.Given.{KeyGiven}
use Rattle.folded_keys.specs.Turns.{turn, at_bit, turned_sum, OnCircle, Turned, Turning, ElementRead, Added, Summable, Summed}
use Rattle.equations.proofs.Polynomials.{part, part-residues}
use Rattle.equations.proofs.Ready.{ready}
use Rattle.folded_keys.proofs.KeyTurns.{turn_first, turn_second, key-turns}

-- ---- exponents

pub pow-few : (s : ℕ) → s < 8 → 2 ^ s ≤ 128
pow-few s l = Nat.pow-le-pow_right {n = 2} (omega arith) {i = s} {j = 7} (omega arith)

module _ (c L : ℕ) (pc : 0 < c) (E : List ℕ) where
  pub turned_none : (x : List ℕ) → get_or x 0 0 ≡ 0 → Turned c L E 0 x
  unfolding turn
  turned_none x e zero l = e ∙ sym (Nat.zero-mod (c))
  turned_none x e (suc j) l = absurd (omega arith)

  module _ (s : ℕ) (x : List ℕ) (t : Turned c L E s x) (m e : ℕ) (is_m : m ≡ 2 ^ s) (is-e : e ≡ at_bit L E s % c) where
    pub on-circle : OnCircle (c) m e x
    on-circle = record {
      more = omega (arith, is-e, Nat.mod-lt (at_bit L E s) {m = c} (omega arith));
      each = λ j l. omega (arith, t j (omega (arith, is_m)), Nat.mod-lt (turn (at_bit L E) s j) {m = c} (omega arith));
    }

    pub turned_more : m + m ≤ length x → (x' : List ℕ) → x' ≡ spliced (λ j. (get_or x j 0 + e) % c) m m x → Turned c L E (s + 1) x'
    turned_more room x' f j l = subst (λ r. get_or x' j 0 ≡ turn (at_bit L E) r j % c) (sym (add-one s)) (elim (dec_lt j m) [
      | yes b ↦ ap (λ y. get_or y j 0) f ∙ spliced-before _ m m x (omega arith) j b ∙ t j (omega (arith, is_m)) ∙ ap (λ y. y % c) (sym (turn_first (at_bit L E) s j (omega (arith, is_m))))
      | no b ↦
          let i = j - m in
          let low : i < m = omega (arith, is_m, l, Nat.two-pow-succ s, ap (λ r. 2 ^ r) (add-one s)) in
          ap (λ y. get_or y j 0) f
          ∙ ap (λ y. get_or (spliced (λ j. (get_or x j 0 + e) % c) m m x) y 0) {y = m + i} (omega arith)
          ∙ spliced-inside _ m m x (omega arith) i low
          ∙ (λ z. (t i (omega (arith, is_m)) z + is-e z) % c)
          ∙ sym (Nat.add-mod (turn (at_bit L E) s i) (at_bit L E s) (c))
          ∙ ap (λ y. y % c) (sym (turn_second (at_bit L E) s i (omega (arith, is_m))))
          ∙ ap (λ y. turn (at_bit L E) (suc s) y % c) {x = 2 ^ s + i} {y = j} (omega (arith, is_m))
    ])

module _ (S : Settings) where
  open S use {degree as d, depth as L, modulus as q}

  -- ---- one element

  module _ (m i : ℕ) (key sums : List ℕ) (g : ElementRead S m i key sums) where
    pub turning : Turning S m (part (i * d) key) sums
    turning = record {
      degree = omega (arith, (ready S g.allowed).degree_least);
      degree_most = (ready S g.allowed).degree_most;
      added = part-residues q (i * d) d key g.inside (λ j _. g.key_below j);
      own = record { long = omega (arith, g.room); each = λ k l. subst (λ x. get_or sums x 0 < m) (sym (Nat.zero-add k)) (g.own k l) };
    }

  -- sums modulo m, to which an element was added
  pub added_is : (m i : ℕ) (key sums : List ℕ) → 0 < d → d ≤ length sums → (x : List ℕ) {e : ℕ} → e ≡ get_or x i 0 → (sums' : List ℕ) →
      sums' ≡ spliced (plus_turned m d e (part (i * d) key) 0 sums) 0 d sums → Added m S key x i sums sums'
  unfolding residue residue_at
  added_is m i key sums pd room x {e} is sums' f k l =
      ap (λ s. get_or s k 0) f
      ∙ ap (λ j. get_or (spliced (plus_turned m d e (part (i * d) key) 0 sums) 0 d sums) j 0) (sym (Nat.zero-add k))
      ∙ spliced-inside _ 0 d sums (omega arith) k l
      ∙ ap (λ j. modulo m (pos (get_or sums j 0) +ℤ rotate d e (residue (part (i * d) key)) k)) (Nat.zero-add k)
      ∙ ap (λ z. modulo m (pos (get_or sums k 0) +ℤ z)) (
      rotate_same {d = d} pd e {b = residue_at d key i} (λ j b. ap pos (tail_at (i * d) key j 0)) k
      ∙ ap (λ n. rotate d n (residue_at d key i) k) is)

  -- ---- all of them

  module _ (n : ℕ) (key sums₀ : List ℕ) (g : Summable S n key sums₀) (x : List ℕ) where
    pub summed-none : (m : ℕ) → Summed m S key x 0 sums₀
    unfolding sum modulo
    summed-none m k l = g.empty k l ∙ sym (Nat.zero-mod m)

    one_inside : (i : ℕ) → i < n → i * d + d ≤ length key
    one_inside i l = let one_more : i + 1 ≤ n = omega arith in omega (arith, g.inside, Nat.mul-le-mul_right d one_more, Nat.add-mul i 1 d, Nat.one-mul d)

    pub summed_more : (m i : ℕ) → 0 < m → (sums : List ℕ) → Summed m S key x i sums → (sums' : List ℕ) → Added m S key x i sums sums' → Summed m S key x (i + 1) sums'
    unfolding sum
    summed_more m i pm sums s sums' a k b =
        a k b
        ∙ ap (λ y. modulo m (pos y +ℤ rotate d (get_or x i 0) (residue_at d key i) k)) (s k b)
        ∙ modulo_again m pm (sum i (λ j. rotate d (get_or x j 0) (residue_at d key j) k)) (rotate d (get_or x i 0) (residue_at d key i) k)
        ∙ ap (λ n. modulo m (sum n (λ j. rotate d (get_or x j 0) (residue_at d key j) k))) (sym (add-one i))

    module _ (m : ℕ) (pm : 0 < m) (i : ℕ) (l : i < n) (sums : List ℕ) (long : length sums ≡ length sums₀) (s : Summed m S key x i sums) where
      pub element-read : ElementRead S m i key sums
      element-read = record {
        allowed = g.allowed;
        inside = one_inside i l;
        key_below = g.key_below;
        room = omega (arith, g.room);
        own = λ k b. subst (λ y. y < m) (sym (s k b)) (modulo-lt m pm _);
      }

  -- ---- the folded key

  pub folded-is : (E : List ℕ) → 0 < d → (key : List ℕ) → KeyGiven S key E → (x : List ℕ) → Turned (exponent_count S) L E L x → (n : ℕ) → n ≡ 2 ^ L → (sums : List ℕ) →
      Summed q S key x n sums → Alike d sums (key_after S E L key)
  unfolding turned_sum residue_at
  folded-is E pd key g x t n is sums s k l =
      let pq : 0 < q = omega (arith, (ready S g.allowed).modulus_least) in
      s k l
      ∙ ap (λ m. modulo q (sum m (λ j. rotate d (get_or x j 0) (residue_at d key j) k))) is
      ∙ ap (modulo q) (sum-ext (2 ^ L) (λ j b. ap (λ e. rotate d e (residue_at d key j) k) (t j b) ∙ rotate-mod d (turn (at_bit L E) L j) (residue_at d key j) k))
      ∙ sym (key-turns S pq pd E key k l)
      ∙ unfold modulo in Nat.mod-eq_of_lt (below-everywhere q _ _ pq (key_residues S pq E L key g.key_below) (0 * d + k))
      ∙ ap (λ y. get_or (key_after S E L key) y 0) (omega (arith, Nat.zero-mul d))
