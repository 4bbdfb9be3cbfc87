-- How large the numbers of the extractor become: at a node h steps above the leaves its vector is within (4·d²)^h·n·B, at the root within (8·d²)^L·B; and no sum on the way to it is larger than that.
--   height_bound S h   (4·d²)^h·n·B
use mathlib.Core.Path.{◌≡◌, sym, ap, ◌∙◌, subst, subst₂}
use mathlib.Core.List.{List}
use Prim.Native.Nat.{ℕ, zero, suc, ◌+◌, ◌*◌, ◌-◌, ◌/◌, ◌%◌, ◌^◌, ◌<◌, ◌≤◌}
use native.Mathlib.Nat as Nat
use native.Mathlib.Omega.{arith}
use lib.ListN.{get_or}
use lib.IntN.{ℤ, pos, nat_abs, ◌+ℤ◌}
use Rattle.algebra.specs.Magnitude.{nat_abs-add, weight}
use Rattle.protocol.specs.declared.Settings.{Settings}
use Rattle.protocol.specs.Element.{Element, rotate, plus, signed, signed_at}
use Rattle.protocol.specs.Settings.{size, cells}
use Rattle.protocol.specs.Tree.{child, challenge, mu, share, joined, combined, nodes, leaves, leaf, vector, root_vector, growth_factor, growth}
use Rattle.protocol.specs.Inputs.{Within}
use Rattle.protocol.proofs.GrowthTest.{square}
use Rattle.claims.proofs.Bounds.{Bounded, rotate-bounded}
use Rattle.protocol.proofs.Numbering.{AtDepth, root-depth, child-depth}
use Rattle.protocol.proofs.Paths.{depth-branching, depth-leaf}
use Rattle.claims.proofs.Vectors.{halves, signed_first, joined-low, joined-high, vector-length}
use Rattle.claims.proofs.Weights.{Triple}
use Rattle.claims.proofs.Norms.{running, running-bounded, product-bounded, mu_weight}
use Rattle.claims.proofs.Parity.{node-weight}

-- ---- the bound at a height

mul_power : (x y h : ℕ) → x ^ h * y ^ h ≡ (x * y) ^ h
mul_power x y zero = simp Nat.pow-zero
mul_power x y (suc h) = simp Nat.pow-suc (omega (arith, ap (λ n. n * (x * y)) (mul_power x y h)))

module _ (S : Settings) where
  open S use {degree as d, depth as L, bound as B}

  unfoldable pub height_bound : ℕ → ℕ
  height_bound h = (d * d * 4) ^ h * (size S * B)

  pub height_bound-zero : height_bound 0 ≡ size S * B
  unfolding height_bound
  height_bound-zero = simp (Nat.pow-zero, Nat.one-mul)

  pub height_bound-suc : (h : ℕ) → height_bound (suc h) ≡ d * d * 4 * height_bound h
  unfolding height_bound
  height_bound-suc h = ap (λ n. n * (size S * B)) (Nat.pow-succ' (d * d * 4) h) ∙ Nat.mul_assoc (d * d * 4) _ _

  -- at the root it is (8·d²)^L·B
  pub height_bound-root : height_bound L ≡ growth S
  unfolding height_bound growth growth_factor size
  height_bound-root = sym (Nat.mul_assoc ((d * d * 4) ^ L) (2 ^ L) B) ∙ ap (λ n. n * B) (mul_power (d * d * 4) 2 L ∙ ap (λ n. n ^ L) factor)
    where
      factor : d * d * 4 * 2 ≡ 8 * d ^ 2
      factor = omega (arith, square d)

  pub height_bound-le : 0 < d → (h : ℕ) → h ≤ L → height_bound h ≤ growth S
  height_bound-le p h l =
      subst (λ n. height_bound h ≤ n) height_bound-root (unfold height_bound in Nat.mul-le-mul_right (size S * B) (Nat.pow-le-pow_right (Nat.mul-pos (Nat.mul-pos p p) (omega arith)) l))

-- ---- a node's vector from those of its children: each share is within its own weight times the children's bound

three-add : (x y z : ℤ) {A₁ A₂ A₃ : ℕ} → nat_abs x ≤ A₁ → nat_abs y ≤ A₂ → nat_abs z ≤ A₃ → nat_abs (x +ℤ y +ℤ z) ≤ A₁ + A₂ + A₃
three-add x y z hx hy hz = omega (arith, nat_abs-add (x +ℤ y) z, nat_abs-add x y)

three-bounded : (d : ℕ) (x y z : Element) {A₁ A₂ A₃ : ℕ} → Bounded d A₁ x → Bounded d A₂ y → Bounded d A₃ z → Bounded d (A₁ + A₂ + A₃) (plus (plus x y) z)
unfolding plus
three-bounded d x y z hx hy hz k l = three-add (x k) (y k) (z k) (hx k l) (hy k l) (hz k l)

three-mul : (W₁ W₂ W₃ M : ℕ) → W₁ * M + W₂ * M + W₃ * M ≡ (W₁ + W₂ + W₃) * M
three-mul W₁ W₂ W₃ M = sym (Nat.add-mul (W₁ + W₂) W₃ M ∙ ap (λ n. n + W₃ * M) (Nat.add-mul W₁ W₂ M))

-- a share, every sum on the way to it, and its rotations
module _ (d : ℕ) (p : 0 < d) (M : ℕ) (m v : List ℤ) (i : ℕ) (b : Bounded d M (signed_at d v i)) where
  share-running : (k n : ℕ) → k < d → n ≤ d → nat_abs (running d (signed m) (signed_at d v i) k n) ≤ weight d (signed m) * M
  share-running = running-bounded d p M (signed m) (signed_at d v i) b

  pub share-bounded : Bounded d (weight d (signed m) * M) (share d m v i)
  unfolding share
  share-bounded = product-bounded d p M (signed m) (signed_at d v i) b

  pub share-turned : (e : ℕ) → Bounded d (weight d (signed m) * M) (rotate d e (share d m v i))
  share-turned e = rotate-bounded d p _ e _ share-bounded

module _ (d : ℕ) (p : 0 < d) (n a b c M : ℕ) (m₁ m₂ m₃ v₁ v₂ v₃ : List ℤ)
    (b₁ : (i : ℕ) → i < n → Bounded d M (signed_at d v₁ i)) (b₂ : (i : ℕ) → i < n → Bounded d M (signed_at d v₂ i)) (b₃ : (i : ℕ) → i < n → Bounded d M (signed_at d v₃ i)) where
  abbrev all : ℕ
  all = weight d (signed m₁) * M + weight d (signed m₂) * M + weight d (signed m₃) * M

  joined-bounded : (i : ℕ) → i < n + n → Bounded d all (signed_at d (joined d n a b c m₁ m₂ m₃ v₁ v₂ v₃) i)
  joined-bounded = halves (λ i. Bounded d all (signed_at d (joined d n a b c m₁ m₂ m₃ v₁ v₂ v₃) i)) n
      (λ i l k lk. subst (λ z. nat_abs z ≤ all) (sym (joined-low d n a b c m₁ m₂ m₃ v₁ v₂ v₃ i k l lk))
      (three-bounded d (share d m₁ v₁ i) (share d m₂ v₂ i) (share d m₃ v₃ i)
      (share-bounded d p M m₁ v₁ i (b₁ i l)) (share-bounded d p M m₂ v₂ i (b₂ i l)) (share-bounded d p M m₃ v₃ i (b₃ i l)) k lk))
      (λ i l k lk. subst (λ z. nat_abs z ≤ all) (sym (joined-high d n a b c m₁ m₂ m₃ v₁ v₂ v₃ i k l lk))
      (three-bounded d (rotate d a (share d m₁ v₁ i)) (rotate d b (share d m₂ v₂ i)) (rotate d c (share d m₃ v₃ i))
      (share-turned d p M m₁ v₁ i (b₁ i l) a) (share-turned d p M m₂ v₂ i (b₂ i l) b) (share-turned d p M m₃ v₃ i (b₃ i l) c) k lk))

-- ---- the vectors of a tree whose leaves are within n·B, with three different exponents at each node

module _ (S : Settings) (D : ℕ) (power : 2 ^ D ≡ S.degree) (p : 0 < S.degree) (E : List ℕ) (finals : List ℤ)
    (triples : (k : ℕ) → k < nodes S → Triple S.degree (challenge E k 0) (challenge E k 1) (challenge E k 2))
    (small : (j : ℕ) → j < leaves S → Bounded S.degree (size S * S.bound) (signed (leaf S finals j))) where
  open S use {degree as d, depth as L, bound as B}

  -- three shares at a node: together within the bound of the next height
  pub node-grows : (h k t : ℕ) → suc (h + t) ≡ L → AtDepth t k → let c = challenge E k in
      mu_weight d (c 0) (c 1) (c 2) * height_bound S h + mu_weight d (c 1) (c 0) (c 2) * height_bound S h + mu_weight d (c 2) (c 0) (c 1) * height_bound S h ≤ height_bound S (suc h)
  node-grows h k t e a = omega (
    arith,
    three-mul (mu_weight d (challenge E k 0) (challenge E k 1) (challenge E k 2)) (mu_weight d (challenge E k 1) (challenge E k 0) (challenge E k 2))
        (mu_weight d (challenge E k 2) (challenge E k 0) (challenge E k 1)) (height_bound S h),
    Nat.mul-le-mul_right (height_bound S h) (node-weight D d power p (triples k (depth-branching S t h k e a))),
    height_bound-suc S h,
    Nat.mul_assoc 4 (d * d) (height_bound S h),
  )

  pub vector-bounded : (h k t : ℕ) → h + t ≡ L → AtDepth t k → (i : ℕ) → i < 2 ^ h → Bounded d (height_bound S h) (signed_at d (vector S E finals h k) i)
  unfolding vector combined
  vector-bounded zero k t e a i l = λ x lx.
      let f : i ≡ 0 = omega arith in
      subst₂ (λ z M. nat_abs z ≤ M) (sym (ap (λ i. signed_at d (leaf S finals (k - nodes S)) i x) f ∙ signed_first d (leaf S finals (k - nodes S)) x)) (sym (height_bound-zero S))
      (small (k - nodes S) (depth-leaf S k (subst (λ t. AtDepth t k) (omega arith) a)) x lx)
  vector-bounded (suc h) k t e a i l = λ x lx.
      let f : h + suc t ≡ L = omega arith in
      Nat.le_trans (joined-bounded d p (2 ^ h) _ _ _ (height_bound S h) _ _ _ _ _ _
      (vector-bounded h (child k 0) (suc t) f (child-depth t k 0 (omega arith) a))
      (vector-bounded h (child k 1) (suc t) f (child-depth t k 1 (omega arith) a))
      (vector-bounded h (child k 2) (suc t) f (child-depth t k 2 (omega arith) a))
      i (omega (arith, Nat.two-pow-succ h)) x lx) (node-grows h k t (omega arith) a)

  -- PROTOCOL 5.6, at the root
  pub root-within : Within (growth S) (cells S) (root_vector S E finals)
  unfolding root_vector cells size signed_at
  root-within = record {
    long = vector-length S E finals L 0;
    each = λ j l. subst₂ (λ n M. nat_abs (get_or (root_vector S E finals) n (pos 0)) ≤ M) (Nat.div-add-mod' j d) (height_bound-root S)
        (vector-bounded L 0 0 (Nat.add-zero L) root-depth (j / d) ((Nat.div-lt_iff_lt-mul p).1 l) (j % d) (Nat.mod-lt j p));
  }

  -- ---- the sums on the way to a node's vector: its three shares, each after some of its terms

  module _ (h k t : ℕ) (e : suc (h + t) ≡ L) (a : AtDepth t k) (i x : ℕ) (li : i < 2 ^ h) (lx : x < d) where
    abbrev c : ℕ → ℕ
    c j = challenge E k j

    abbrev term : ℕ → ℕ → ℕ → ℕ → ℤ
    term j o u n = running d (signed (mu d (c j) (c o) (c u))) (signed_at d (vector S E finals h (child k j)) i) x n

    term-bounded : (j o u n : ℕ) → j < 3 → n ≤ d → nat_abs (term j o u n) ≤ mu_weight d (c j) (c o) (c u) * height_bound S h
    term-bounded j o u n lj ln = share-running d p (height_bound S h) (mu d (c j) (c o) (c u)) (vector S E finals h (child k j)) i
        (vector-bounded h (child k j) (suc t) (omega arith) (child-depth t k j lj a) i li) x n lx ln

    pub node-three : (n₁ n₂ n₃ : ℕ) → n₁ ≤ d → n₂ ≤ d → n₃ ≤ d → nat_abs (term 0 1 2 n₁ +ℤ term 1 0 2 n₂ +ℤ term 2 0 1 n₃) ≤ growth S
    node-three n₁ n₂ n₃ l₁ l₂ l₃ =
        Nat.le_trans (three-add (term 0 1 2 n₁) (term 1 0 2 n₂) (term 2 0 1 n₃)
        (term-bounded 0 1 2 n₁ (omega arith) l₁) (term-bounded 1 0 2 n₂ (omega arith) l₂) (term-bounded 2 0 1 n₃ (omega arith) l₃))
        (Nat.le_trans (node-grows h k t e a) (height_bound-le S p (suc h) (omega arith)))
