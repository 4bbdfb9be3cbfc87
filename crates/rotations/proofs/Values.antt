-- The value of a polynomial at X^e: multiples X^e·a that are added to an element, one after the other.
use Rattle.std.proofs.Common.{◌≡◌, ℕ, ◌+◌, ◌-◌, ◌*◌, ◌%◌, ◌<◌, ◌≤◌, Bool, not, ltb, List, ◌++◌, length, get_or, take, drop, pos, ◌+ℤ◌, sym, ap, ◌∙◌, subst, arith, length-drop, length-take-le, get_or-drop, get_or-take}
use native.Mathlib.Nat as Nat
use Rattle.protocol.specs.Element.{Element, modulo, rotate, residue}
use Rattle.protocol.specs.Basic.{tabulate}
use Rattle.protocol.proofs.Reading.{tabulate_ext, tabulate_add}
use Rattle.protocol.proofs.Modulo.{modulo-lt, modulo_again}
use Rattle.rotations.specs.Values.{Summands, plus_turned, value_at, Coefficients}
use Rattle.residues.specs.Lists.{spliced}
use Rattle.residues.specs.Places.{SecondRow}
use Rattle.residues.specs.Residues.{BothBelow, signed}
use Rattle.residues.proofs.Around.{rotate-mod, rotate-rotate}
use Rattle.residues.proofs.Turns.{front-turn, back_turn}
use Rattle.residues.proofs.Splice.{spliced-inside, spliced_ext, spliced-again}
use Rattle.residues.proofs.Parts.{residues-written, tail_at}
use Rattle.residues.proofs.Adding.{both, Allowed}

-- ---- X^e·a added to an element: x and y are its two rows, u and v what becomes of them

module _ (sum : Bool → ℕ → ℕ → ℕ) (allowed : ℕ → ℕ → Type 0) (q d e s : ℕ) (most : e < 2 * d) (inside : s ≤ d) (row : SecondRow d e s) (a out : List ℕ) (there : d ≤ length a)
    (long : length out ≡ d) (is : (n : Bool) (x y : ℕ) → sum n x y ≡ modulo q (pos x +ℤ signed n (pos y)))
    (may : (j k : ℕ) → j < d → k < d → allowed (get_or out j 0) (get_or a k 0)) where
  abbrev tail : List ℕ
  tail = take (length a - (d - s)) (drop (d - s) a)

  module _ (x u : List ℕ) (lx : length x ≡ s) (ax : (k z : ℕ) → k < s → get_or x k z ≡ get_or out k z)
      (ex : Allowed 0 allowed (sum (ltb e d)) x tail → u ≡ tabulate (length x) (both 0 allowed (sum (ltb e d)) x tail)) where
    front_is : (k : ℕ) → k < s → both 0 allowed (sum (ltb e d)) x tail k ≡ plus_turned q d e a 0 out k
    unfolding residue
    front_is k h =
        is _ _ _
        ∙ (λ i. modulo q (pos ((ax k 0 h ∙ ap (λ n. get_or out n 0) (sym (Nat.zero-add k))) i) +ℤ signed (ltb e d) (pos (tail_at (d - s) a k 0 i))))
        ∙ (λ i. modulo q (pos (get_or out (0 + k) 0) +ℤ front-turn d e s most row (residue a) k h i))

    pub front-done : u ≡ tabulate s (plus_turned q d e a 0 out)
    front-done =
        ex (λ j h. let b : j < s = omega (arith, h, lx) in
        subst (λ n. allowed n (get_or tail j 0)) (sym (ax j 0 b)) (subst (allowed (get_or out j 0)) (sym (tail_at (d - s) a j 0)) (may j (d - s + j) (omega arith) (omega arith))))
        ∙ ap (λ n. tabulate n (both 0 allowed (sum (ltb e d)) x tail)) lx
        ∙ tabulate_ext s front_is

  module _ (y v : List ℕ) (ly : length y + s ≡ length out) (ay : (k z : ℕ) → get_or y k z ≡ get_or out (s + k) z)
      (ey : Allowed 0 allowed (sum (not (ltb e d))) y a → v ≡ tabulate (length y) (both 0 allowed (sum (not (ltb e d))) y a)) where
    back_is : (k : ℕ) → k < d - s → both 0 allowed (sum (not (ltb e d))) y a k ≡ plus_turned q d e a 0 out (s + k)
    unfolding residue
    back_is k h =
        is _ _ _
        ∙ (λ i. modulo q (pos ((ay k 0 ∙ ap (λ n. get_or out n 0) (sym (Nat.zero-add (s + k)))) i) +ℤ signed (not (ltb e d)) (pos (get_or a k 0))))
        ∙ (λ i. modulo q (pos (get_or out (0 + (s + k)) 0) +ℤ back_turn d e s most row (residue a) k h i))

    pub back-done : v ≡ tabulate (d - s) (λ k. plus_turned q d e a 0 out (s + k))
    back-done =
        ey (λ j h. subst (λ n. allowed n (get_or a j 0)) (sym (ay j 0)) (may (s + j) j (omega (arith, h, ly)) (omega (arith, h, ly))))
        ∙ ap (λ n. tabulate n (both 0 allowed (sum (not (ltb e d))) y a)) {y = d - s} (omega (arith, ly))
        ∙ tabulate_ext (d - s) back_is

  pub both-done : (u v : List ℕ) → u ≡ tabulate s (plus_turned q d e a 0 out) → v ≡ tabulate (d - s) (λ k. plus_turned q d e a 0 out (s + k)) → u ++ v ≡ tabulate d (plus_turned q d e a 0 out)
  both-done u v eu ev = (λ i. eu i ++ ev i) ∙ sym (tabulate_add s (d - s) (plus_turned q d e a 0 out)) ∙ ap (λ n. tabulate n (plus_turned q d e a 0 out)) {y = d} (omega arith)

-- an element of a table to which such a multiple is added, as it is handed back
module _ (q d e to : ℕ) (a out s : List ℕ) (room : to + d ≤ length out) where
  abbrev Placed : ℕ → Type 0
  Placed m = s ≡ tabulate d (plus_turned q d e a 0 (take m (drop to out))) → take to out ++ (s ++ drop m (drop to out)) ≡ spliced (plus_turned q d e a to out) to d out

  placed_at : Placed d
  unfolding spliced
  placed_at h = ap (λ t. take to out ++ (t ++ drop d (drop to out)))
      (h ∙ tabulate_ext d (λ k b. ap (λ x. modulo q (pos x +ℤ rotate d e (residue a) k)) (ap (λ n. get_or (take d (drop to out)) n 0) (Nat.zero-add k) ∙ get_or-take d (drop to out) k 0 b ∙ get_or-drop to out k 0)))

  pub placed : {m : ℕ} → m ≡ d → Placed m
  placed e = subst Placed (sym e) placed_at

  -- the element is as long as that, and of residues where that is
  pub element_long : {m : ℕ} → m ≡ d → length (take m (drop to out)) ≡ d
  element_long e = ap (λ n. length (take n (drop to out))) e ∙ length-take-le d (drop to out) (omega (arith, length-drop to out))

  pub element_may : {m : ℕ} → m ≡ d → Summands q d 0 a to out → (j k : ℕ) → j < d → k < d → BothBelow q (get_or (take m (drop to out)) j 0) (get_or a k 0)
  element_may e h j k b l = record {
    left = omega (arith, ap (λ n. get_or (take n (drop to out)) j 0) e ∙ get_or-take d (drop to out) j 0 b ∙ get_or-drop to out j 0, h.own.each j b);
    right = omega (arith, h.added.each k l, ap (λ n. get_or a n 0) (Nat.zero-add k));
  }

-- ---- an element, then its multiple of c1, then that of c2

module _ (q d e : ℕ) (pd : 0 < d) (c0 c1 c2 out t₀ t₁ : List ℕ) (c : Coefficients q d c0 c1 c2) (once twice : ℕ) (long : d ≤ length out)
    (o : once ≡ e % (2 * d)) (w : twice ≡ (once + once) % (2 * d)) (is₀ : t₀ ≡ spliced (λ k. get_or c0 k 0) 0 d out) where
  abbrev copied : ℕ → ℕ
  copied k = get_or c0 k 0

  pub first_summands : Summands q d 0 c1 0 t₀
  first_summands = record { added = c.second; own = residues-written copied 0 d out t₀ (omega arith) is₀ q (λ k h. omega (arith, c.first.each k h, ap (λ n. get_or c0 n 0) (Nat.zero-add k))) }

  module _ (is₁ : t₁ ≡ spliced (plus_turned q d once c1 0 t₀) 0 d t₀) where
    long₀ : 0 + d ≤ length t₀
    long₀ = first_summands.own.long

    pub second_summands : Summands q d 0 c2 0 t₁
    second_summands = record { added = c.third; own = residues-written (plus_turned q d once c1 0 t₀) 0 d t₀ t₁ long₀ is₁ q (λ k h. modulo-lt q c.modulus _) }

    first_at : (k : ℕ) → k < d → pos (get_or t₀ (0 + k) 0) ≡ residue c0 k
    unfolding residue
    first_at k h = ap pos (ap (λ l. get_or l (0 + k) 0) is₀ ∙ spliced-inside copied 0 d out (omega arith) k h)

    rotate_once : (a : Element) (k : ℕ) → rotate d once a k ≡ rotate d e a k
    rotate_once a k = ap (λ n. rotate d n a k) o ∙ rotate-mod d e a k

    rotate-twice : (a : Element) (k : ℕ) → rotate d twice a k ≡ rotate d e (rotate d e a) k
    rotate-twice a k =
        ap (λ n. rotate d n a k) w
        ∙ rotate-mod d (once + once) a k
        ∙ sym (rotate-rotate d pd once once a k)
        ∙ rotate_once (rotate d once a) k
        ∙ (λ i. rotate d e (λ j. rotate_once a j i) k)

    second_at : (k : ℕ) → k < d → pos (get_or t₁ (0 + k) 0) ≡ pos (modulo q (residue c0 k +ℤ rotate d e (residue c1) k))
    second_at k h =
        ap pos
        (ap (λ l. get_or l (0 + k) 0) is₁
        ∙ spliced-inside (plus_turned q d once c1 0 t₀) 0 d t₀ (omega arith) k h
        ∙ (λ i. modulo q (first_at k h i +ℤ rotate_once (residue c1) k i)))

    pub value-done : spliced (plus_turned q d twice c2 0 t₁) 0 d t₁ ≡ spliced (value_at q d e (residue c0) (residue c1) (residue c2)) 0 d out
    unfolding value_at
    value-done =
        spliced_ext (plus_turned q d twice c2 0 t₁) (value_at q d e (residue c0) (residue c1) (residue c2)) 0 d t₁
        (λ k h.
        (λ i. modulo q (second_at k h i +ℤ rotate-twice (residue c2) k i))
        ∙ modulo_again q c.modulus (residue c0 k +ℤ rotate d e (residue c1) k) (rotate d e (rotate d e (residue c2)) k))
        ∙ ap (spliced (value_at q d e (residue c0) (residue c1) (residue c2)) 0 d) (is₁ ∙ ap (spliced (plus_turned q d once c1 0 t₀) 0 d) is₀)
        ∙ spliced-again _ _ d (spliced copied 0 d out)
        ∙ spliced-again _ _ d out
