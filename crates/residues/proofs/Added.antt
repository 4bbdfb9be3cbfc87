-- Numbers that are added to others of the same list, set after set of places, and the two rows of every element that X^e·a is made of.
use Rattle.std.proofs.Common.{◌≡◌, ℕ, ◌+◌, ◌*◌, ◌%◌, ◌<◌, ◌≤◌, List, length, get_or, set, sym, refl, ap, ◌∙◌, subst, arith, length-set, get_or-set_other, get_or-set_same}
use native.Mathlib.Nat as Nat
use native.Mathlib.Decide.{dec_lt}
use Rattle.protocol.proofs.Reading.{row_inside, cell-place}
use Rattle.residues.specs.Places.{Among, Line, Grid, Disjoint, Apart, Added}

-- ---- other words for the same places

module _ {D E : ℕ → Type 0} (there : (x : ℕ) → D x → E x) (back : (x : ℕ) → E x → D x) where
  apart_same : {from to long : ℕ} → Apart D from to long → Apart E from to long
  apart_same p = record { inside = λ x e. p.inside x (back x e); before = λ x y e g. p.before x y (back x e) (back y g) }

  added_same : {A : Type 0} {z : A} {B : A → A → Type 0} {f : A → A → A} {from to : ℕ} {l out : List A} → Added z B f from to D l out → Added z B f from to E l out
  added_same a = record { long = a.long; done = λ x e. a.done x (back x e); kept = λ p h. a.kept p (λ x d. h x (there x d)) }

-- ---- one place

pub added_one : {A : Type 0} {z : A} {B : A → A → Type 0} {f : A → A → A} {from to : ℕ} (x : ℕ) (l : List A) (v : A) → to + x < length l
    → (B (get_or l (to + x) z) (get_or l (from + x) z) → v ≡ f (get_or l (to + x) z) (get_or l (from + x) z)) → Added z B f from to (λ y. y ≡ x) l (set l (to + x) v)
added_one {z = z} {B = B} {f = f} {from = from} {to = to} x l v h is = record {
  long = length-set l (to + x) v;
  done = λ y e. subst (λ n. B (get_or l (to + n) z) (get_or l (from + n) z) → get_or (set l (to + x) v) (to + n) z ≡ f (get_or l (to + n) z) (get_or l (from + n) z)) (sym e)
      (λ b. get_or-set_same l (to + x) v z h ∙ is b);
  kept = λ p other. get_or-set_other l (to + x) p v z (other x refl);
}

-- ---- one set after the other: a loop over the sets

module _ {A : Type 0} {z : A} {B : A → A → Type 0} {f : A → A → A} {from to : ℕ} (D : ℕ → ℕ → Type 0) where
  pub among_none : (l : List A) → Added z B f from to (Among D 0) l l
  among_none l = record { long = refl; done = λ x d. absurd (omega (arith, d.1)); kept = λ p h. refl }

  pub among_all : (n i : ℕ) {l out : List A} → i ≤ n → n ≤ i → Added z B f from to (Among D i) l out → Added z B f from to (Among D n) l out
  among_all n i {l} {out} less most = subst (λ m. Added z B f from to (Among D m) l out) (omega arith)

  module _ (n i : ℕ) {l out : List A} (fresh : Disjoint D n) (apart : Apart (Among D n) from to (length l)) (h : i < n) (a : Added z B f from to (Among D i) l out) where
    -- set i is inside the list, and what it reads and writes is as it was
    pub now_apart : Apart (D i) from to (length out)
    now_apart = record { inside = λ x d. omega (arith, apart.inside x (i, h, d), a.long); before = λ x y d w. apart.before x y (i, h, d) (i, h, w) }

    pub now-inside : (x : ℕ) → D i x → (from + x < length out) × (to + x < length out)
    now-inside x d = (now_apart.inside x d, Nat.lt_trans (now_apart.before x x d d) (now_apart.inside x d))

    own : (x : ℕ) → D i x → get_or out (to + x) z ≡ get_or l (to + x) z
    own x d = a.kept (to + x) (λ y w e. fresh w.0 i x w.1 h (subst (D w.0) (omega arith) w.2) d)

    other : (x : ℕ) → D i x → get_or out (from + x) z ≡ get_or l (from + x) z
    other x d = a.kept (from + x) (λ y w e. Nat.lt_irrefl (to + y) (omega (arith, apart.before y x (w.0, omega (arith, w.1), w.2) (i, h, d))))

    pub among_more : {next : List A} → Added z B f from to (D i) out next → Added z B f from to (Among D (i + 1)) l next
    among_more b = record {
      long = b.long ∙ a.long;
      done = λ x w c. elim (dec_lt w.0 i) [
        | yes less ↦ b.kept (to + x) (λ y d e. fresh w.0 i x less h w.2 (subst (D i) (omega arith) d)) ∙ a.done x (w.0, less, w.2) c
        | no last ↦
            let d : D i x = subst (λ j. D j x) (omega (arith, w.1)) w.2 in
            b.done x d (subst (λ v. B v (get_or out (from + x) z)) (sym (own x d)) (subst (λ v. B (get_or l (to + x) z) v) (sym (other x d)) c)) ∙ λ t. f (own x d t) (other x d t)
      ];
      kept = λ p w. b.kept p (λ x d. w x (i, omega arith, d)) ∙ a.kept p (λ x d. w x (d.0, omega (arith, d.1), d.2));
    }

-- ---- lines and grids

-- the places of a line
pub line-fresh : (at step n : ℕ) → 0 < step → Disjoint (λ i x. x ≡ at + i * step) n
line-fresh at step n p i j x less most a b = Nat.lt_irrefl x (omega (arith, row_inside step j i less))

-- the rows and the columns of a grid, of which a row takes at most the whole width
pub rows_fresh : (d h m : ℕ) → m ≤ d → Disjoint (λ i. Line (i * d) 1 m) h
rows_fresh d h m w i j x less most a b = Nat.lt_irrefl x (omega (arith, row_inside d j i less, a.1, a.2, b.2))

pub columns-fresh : (d h m : ℕ) → m ≤ d → Disjoint (λ k. Line (k * 1) d h) m
columns-fresh d h m w k j x less most a b = Nat.lt_irrefl k (omega (
  arith,
  sym (cell-place d a.0 k (omega arith)),
  ap (λ n. n % d) {x = a.0 * d + k} {y = b.0 * d + j} (omega (arith, a.2, b.2)),
  cell-place d b.0 j (omega arith),
))

-- a grid that is gone through by the lines that cross it
turn : (n step gap m x : ℕ) → Grid n step gap m x → Grid m gap step n x
turn n step gap m x g = (g.2.0, g.2.1, (g.0, g.1, omega (arith, g.2.2)))

module _ (n step gap m : ℕ) {from to : ℕ} where
  pub crossed_apart : {long : ℕ} → Apart (Grid n step gap m) from to long → Apart (Grid m gap step n) from to long
  crossed_apart = apart_same (turn n step gap m) (turn m gap step n)

  pub crossed-added : {A : Type 0} {z : A} {B : A → A → Type 0} {f : A → A → A} {l out : List A} → Added z B f from to (Grid n step gap m) l out → Added z B f from to (Grid m gap step n) l out
  crossed-added = added_same (turn n step gap m) (turn m gap step n)
