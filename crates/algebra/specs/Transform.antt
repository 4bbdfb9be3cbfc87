-- Values of polynomials, and at which elements of a ring the number-theoretic transform takes them.
-- ψ is an element of K whose power H is −1. A block of 2^D places stands for an element modulo X^(2^D) − ψ^e. ψ^(e/2) and ψ^(e/2 + H) are the two square roots of
-- ψ^e, so a block at e splits into blocks of half the length at e/2 and at e/2 + H; the block at H stands for an element modulo X^d + 1. All the way down, a
-- block is one value at a root of X^(2^D) − ψ^e.
--
--   value n f x     f 0 + f 1·x + … + f (n − 1)·x^(n − 1)
--   leaf H D e j    place j of a transformed block at e of 2^D places holds the value at ψ to this power
use Rattle.std.specs.Prelude.{◌≡◌, refl, pos}
use Rattle.std.proofs.Math.Path.{sym, ap}
use Rattle.std.proofs.Common.{ap₂, ◌∙◌, arith}
use Prim.Native.Nat.{ℕ, zero, suc, ◌+◌, ◌*◌, ◌-◌, ◌/◌, ◌^◌, ◌<◌, ◌≤◌}
use Rattle.std.proofs.Math.Nat as NatL
use Rattle.std.proofs.Math.Decide.{dec_lt}
use Rattle.algebra.specs.Ring as R
use Rattle.algebra.specs.Ring.{CommRing, two, pow, pow-add}
use Rattle.algebra.specs.Sum.{sum, sum-ext, sum-add, sum-mul, sum_swap, sum-split, sum_first}
use Rattle.algebra.specs.Integers.{ints}
use Rattle.algebra.specs.Solver.{con, neg, ◌⊕◌ as ◌:+◌, ◌⊗◌ as ◌:*◌, ◌≐◌, ring}
use Rattle.algebra.specs.Certificate.{◌·⟨◌⟩◌, ◌⇐◌, done, combine}

unfoldable pub value : (K : CommRing) → ℕ → (ℕ → K.C) → K.C → K.C
value K n f x = sum K n (λ i. K.mul (f i) (pow K x i))

unfoldable pub leaf : ℕ → ℕ → ℕ → ℕ → ℕ
leaf H zero e j = e
leaf H (suc D) e j = elim (dec_lt j (2 ^ D)) [ yes _ ↦ leaf H D (e / 2) j | no _ ↦ leaf H D (e / 2 + H) (j - 2 ^ D) ]

-- ---- values

module _ (K : CommRing) where
  open K use {C, 1#, add as ◌⊕◌, mul as ◌⊗◌, neg as ⊖◌}

  infixl 60 ◌⊕◌
  infixl 70 ◌⊗◌
  infix 80 ⊖◌
  pub value_ext : (n : ℕ) {f g : ℕ → C} (x : C) → ((i : ℕ) → i < n → f i ≡ g i) → value K n f x ≡ value K n g x
  unfolding value
  value_ext n x e = sum-ext K n (λ i h. ap (λ t. t ⊗ pow K x i) (e i h))

  pub value_one : (f : ℕ → C) (x : C) → value K 1 f x ≡ f 0
  unfolding value sum pow
  value_one f x = R.zero-add K _ ∙ K.mul-one (f 0)

  pub value-add : (n : ℕ) (f g : ℕ → C) (x : C) → value K n (λ i. f i ⊕ g i) x ≡ value K n f x ⊕ value K n g x
  unfolding value
  value-add n f g x = sum-ext K n (λ i _. R.add-mul K (f i) (g i) (pow K x i)) ∙ sum-add K n _ _

  pub value-mul : (n : ℕ) (c : C) (f : ℕ → C) (x : C) → value K n (λ i. c ⊗ f i) x ≡ c ⊗ value K n f x
  unfolding value
  value-mul n c f x = sum-ext K n (λ i _. K.mul_assoc c (f i) (pow K x i)) ∙ sum-mul K n c _

  pub value-sum : (n m : ℕ) (F : ℕ → ℕ → C) (x : C) → value K n (λ k. sum K m (λ i. F i k)) x ≡ sum K m (λ i. value K n (F i) x)
  unfolding value
  value-sum n m F x = sum-ext K n (λ k _. K.mul_comm _ _ ∙ sym (sum-mul K m (pow K x k) _) ∙ sum-ext K m (λ i _. K.mul_comm _ _)) ∙ sum_swap K n m _

  -- where x^d is −1 and the sign changes every d places, to go on by n places is to divide by x^n
  module _ (d : ℕ) (x : C) (turn : pow K x d ≡ ⊖ 1#) (g : ℕ → C) (round : (k : ℕ) → g (k + d) ≡ ⊖ g k) where
    abbrev on : ℕ → C
    on n = value K d (λ k. g (k + n)) x

    on_next : (n : ℕ) → x ⊗ on (suc n) ≡ on n
    unfolding value
    on_next n = R.add_cancel K (h 0) (ap (λ t. h 0 ⊕ t) (sym (sum-mul K d x _) ∙ sum-ext K d (λ k _. step k)) ∙ sym (sum_first K d h) ∙ unfold sum in (K.add_comm _ _ ∙ ap (λ t. t ⊕ sum K d h) ends))
      where
        h : ℕ → C
        h k = g (k + n) ⊗ pow K x k

        step : (k : ℕ) → x ⊗ (g (k + suc n) ⊗ pow K x k) ≡ h (suc k)
        step k = unfold pow in ap (λ m. x ⊗ (g m ⊗ pow K x k)) {y = suc k + n} (omega arith) ∙ ring K (ints K) 3 (λ x c r. x :* (c :* r) ≐ c :* (r :* x)) tt x _ (pow K x k)

        ends : h d ≡ h 0
        ends = ap₂ ◌⊗◌ (ap g {y = 0 + n + d} (omega arith) ∙ round (0 + n)) turn
            ∙ ring K (ints K) 2 (λ c o. neg c :* neg o ≐ c :* o) tt (g (0 + n)) 1#
            ∙ ap (λ t. g (0 + n) ⊗ t) (unfold pow in refl)

    on_any : (n : ℕ) → pow K x n ⊗ on n ≡ value K d g x
    unfolding pow
    on_any zero = R.one-mul K _ ∙ value_ext d x (λ k _. ap g (NatL.add-zero k))
    on_any (suc n) = K.mul_assoc _ _ _ ∙ ap (λ t. pow K x n ⊗ t) (on_next n) ∙ on_any n

    whole : pow K x (d + d) ≡ 1#
    whole = pow-add K x d d ∙ ap₂ ◌⊗◌ turn turn ∙ ring K (ints K) 1 (λ o. neg o :* neg o ≐ o :* o) tt 1# ∙ K.mul-one 1#

    pub value-turn : (j : ℕ) → j ≤ d + d → value K d (λ k. g (k + (d + d - j))) x ≡ pow K x j ⊗ value K d g x
    value-turn j h = sym (R.one-mul K _)
        ∙ ap (λ t. t ⊗ on (d + d - j)) (sym whole ∙ ap (pow K x) {y = j + (d + d - j)} (omega arith) ∙ pow-add K x j (d + d - j))
        ∙ K.mul_assoc _ _ _
        ∙ ap (λ t. pow K x j ⊗ t) (on_any (d + d - j))

  -- the upper half is brought down by x^h
  pub value-halves : (h : ℕ) (f : ℕ → C) (x : C) → value K (h + h) f x ≡ value K h (λ i. f i ⊕ pow K x h ⊗ f (h + i)) x
  unfolding value
  value-halves h f x =
      sum-split K h h _
      ∙ sym (sum-add K h _ _)
      ∙ sum-ext K h (λ i _. ap (λ t. f i ⊗ pow K x i ⊕ f (h + i) ⊗ t) (pow-add K x h i)
      ∙ ring K (ints K) 4 (λ a b p r. a :* r :+ b :* (p :* r) ≐ (a :+ p :* b) :* r) tt (f i) (f (h + i)) (pow K x h) (pow K x i))

  -- ---- one level of the transform

  -- down: where x^h is z, a block with its upper half brought down by z has the same value
  pub value-split : (h : ℕ) (f : ℕ → C) (x z : C) → pow K x h ≡ z → value K (h + h) f x ≡ value K h (λ i. f i ⊕ z ⊗ f (h + i)) x
  value-split h f x z e = value-halves h f x ∙ ap (λ t. value K h (λ i. f i ⊕ t ⊗ f (h + i)) x) e

  -- up: two blocks come from the halves F and G of one, and have a factor P; their sum, and their difference times u, are 2P times the halves
  module _ (x y P F G z z' : C) (first : x ≡ P ⊗ (F ⊕ z ⊗ G)) (second : y ≡ P ⊗ (F ⊕ z' ⊗ G)) (opposite : z' ≡ ⊖ z) where
    pub join_first : x ⊕ y ≡ P ⊗ two K ⊗ F
    unfolding two
    join_first = combine K (ints K) 7 (λ x y P F G z z'.
        x :+ y ≐ P :* con (pos 2) :* F
        ⇐ con (pos 1) ·⟨ x ≐ P :* (F :+ z :* G) ⟩ con (pos 1) ·⟨ y ≐ P :* (F :+ z' :* G) ⟩ (P :* G) ·⟨ z' ≐ neg z ⟩ done) tt
        x y P F G z z' first second opposite

    pub join_second : (u : C) → u ⊗ z ≡ ⊖ 1# → u ⊗ (y ⊕ ⊖ x) ≡ P ⊗ two K ⊗ G
    unfolding two
    join_second u inverse = combine K (ints K) 8 (λ x y P F G z z' u.
        u :* (y :+ neg x) ≐ P :* con (pos 2) :* G
        ⇐ neg u ·⟨ x ≐ P :* (F :+ z :* G) ⟩ u ·⟨ y ≐ P :* (F :+ z' :* G) ⟩ (P :* G :* u) ·⟨ z' ≐ neg z ⟩ neg (con (pos 2) :* P :* G) ·⟨ u :* z ≐ neg (con (pos 1)) ⟩ done) tt
        x y P F G z z' u first second opposite inverse

-- ---- the roots

pub leaf-zero : (H e j : ℕ) → leaf H 0 e j ≡ e
unfolding leaf
leaf-zero H e j = refl

pub leaf_first : (H D e j : ℕ) → j < 2 ^ D → leaf H (suc D) e j ≡ leaf H D (e / 2) j
unfolding leaf
leaf_first H D e j l = elim (dec_lt j (2 ^ D)) as (λ c. elim c as (λ _. ℕ) [ yes _ ↦ leaf H D (e / 2) j | no _ ↦ leaf H D (e / 2 + H) (j - 2 ^ D) ] ≡ leaf H D (e / 2) j) [
  | yes _ ↦ refl
  | no n ↦ absurd (n l)
]

pub leaf_second : (H D e j : ℕ) → leaf H (suc D) e (2 ^ D + j) ≡ leaf H D (e / 2 + H) j
unfolding leaf
leaf_second H D e j = elim (dec_lt (2 ^ D + j) (2 ^ D))
    as (λ c. elim c as (λ _. ℕ) [ yes _ ↦ leaf H D (e / 2) (2 ^ D + j) | no _ ↦ leaf H D (e / 2 + H) (2 ^ D + j - 2 ^ D) ] ≡ leaf H D (e / 2 + H) j) [
      | yes l ↦ absurd (omega arith)
      | no _ ↦ ap (leaf H D (e / 2 + H)) (omega arith)
    ]

-- a multiple of 2^(D + 1), and its half, as multiples of 2^D
even : (D n t : ℕ) → n ≡ t * 2 ^ suc D → n ≡ t * 2 * 2 ^ D
even D n t h = h ∙ ap (λ m. t * m) (NatL.pow-suc 2 D ∙ NatL.mul_comm (2 ^ D) 2) ∙ sym (NatL.mul_assoc t 2 (2 ^ D))

halved : (D n t : ℕ) → n ≡ t * 2 ^ suc D → n / 2 ≡ t * 2 ^ D
halved D n t h = omega (arith, even D n t h, NatL.mul_right_comm t 2 (2 ^ D))

paired : (D n t : ℕ) → n ≡ t * 2 ^ suc D → n / 2 + n / 2 ≡ n
paired D n t h = omega (arith, even D n t h, NatL.mul_right_comm t 2 (2 ^ D))

module _ (K : CommRing) (psi : K.C) (H : ℕ) (turn : pow K psi H ≡ K.neg K.1#) where
  open K use {C, 1#, mul as ◌⊗◌, neg as ⊖◌}

  infixl 70 ◌⊗◌
  infix 80 ⊖◌
  pub opposite : (e : ℕ) → pow K psi (e + H) ≡ ⊖ pow K psi e
  opposite e = pow-add K psi e H ∙ ap (λ t. pow K psi e ⊗ t) turn ∙ R.mul-neg K _ _ ∙ ap ⊖◌ (K.mul-one _)

  -- what squares to ψ^e, as ψ^(e/2) and ψ^(e/2 + H) do
  doubled : (x : C) (D e : ℕ) → e / 2 + e / 2 ≡ e → pow K x (2 ^ D) ⊗ pow K x (2 ^ D) ≡ pow K psi (e / 2) ⊗ pow K psi (e / 2) → pow K x (2 ^ suc D) ≡ pow K psi e
  doubled x D e v h = ap (pow K x) (NatL.two-pow-succ D) ∙ pow-add K x (2 ^ D) (2 ^ D) ∙ h ∙ sym (pow-add K psi (e / 2) (e / 2)) ∙ ap (pow K psi) v

  squares : (e : ℕ) → pow K psi (e + H) ⊗ pow K psi (e + H) ≡ pow K psi e ⊗ pow K psi e
  squares e = ap₂ ◌⊗◌ (opposite e) (opposite e) ∙ ring K (ints K) 1 (λ x. neg x :* neg x ≐ x :* x) tt (pow K psi e)

  abbrev Root : ℕ → ℕ → ℕ → Type 0
  Root D e j = pow K (pow K psi (leaf H D e j)) (2 ^ D) ≡ pow K psi e

  root-step : (D e j : ℕ) → e / 2 + e / 2 ≡ e → j < 2 ^ suc D → (j < 2 ^ D → Root D (e / 2) j) → (2 ^ D ≤ j → Root D (e / 2 + H) (j - 2 ^ D)) → Root (suc D) e j
  root-step D e j v l low high = elim (dec_lt j (2 ^ D)) [
    | yes b ↦ ap (λ n. pow K (pow K psi n) (2 ^ suc D)) (leaf_first H D e j b) ∙ doubled _ D e v (ap₂ ◌⊗◌ (low b) (low b))
    | no b ↦ let s : 2 ^ D ≤ j = omega arith in
        ap (λ n. pow K (pow K psi n) (2 ^ suc D)) (ap (leaf H (suc D) e) {y = 2 ^ D + (j - 2 ^ D)} (omega arith) ∙ leaf_second H D e (j - 2 ^ D))
        ∙ doubled _ D e v (ap₂ ◌⊗◌ (high s) (high s) ∙ squares (e / 2))
  ]

  -- where e and H are multiples of 2^D, the power 2^D of a place's root is ψ^e
  pub leaf-root : (D e j s t : ℕ) → H ≡ s * 2 ^ D → e ≡ t * 2 ^ D → j < 2 ^ D → pow K (pow K psi (leaf H D e j)) (2 ^ D) ≡ pow K psi e
  unfolding leaf pow
  leaf-root zero e j s t hs ht l = R.one-mul K _
  leaf-root (suc D) e j s t hs ht l = root-step D e j (paired D e t ht) l
      (λ b. leaf-root D (e / 2) j (s * 2) t (even D H s hs) (halved D e t ht) b)
      (λ b. leaf-root D (e / 2 + H) (j - 2 ^ D) (s * 2) (t + s * 2) (even D H s hs)
      (ap₂ ◌+◌ (halved D e t ht) (even D H s hs) ∙ sym (NatL.add-mul t (s * 2) (2 ^ D))) (omega (arith, NatL.two-pow-succ D)))
