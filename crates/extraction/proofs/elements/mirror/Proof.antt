-- The loop keeps: the first k places of each half are a's, with their signs.
use mathlib.Core.Path.{◌≡◌, refl, sym, ap, ◌∙◌, subst}
use mathlib.Core.List.{List}
use Prim.Native.Nat.{ℕ, ◌+◌, ◌*◌, ◌-◌, ◌^◌, ◌<◌, ◌≤◌}
use native.Mathlib.Decide.{ℕ_discrete}
use native.Mathlib.Omega.{arith}
use borrow.Author.Rules.{rules}
use lib.ListN.{length, get_or, set, length-set}
use lib.Seq.{get_or-set_same, get_or-set_other}
use lib.IntN.{ℤ, pos, neg_ℤ, nat_abs, +ℤ_idl}
use mir.Syntax.{w64}
use Rattle.algebra.specs.Magnitude.{nat_abs-neg}
use Rattle.ranges.proofs.Magnitude.{through-bits}
use Rattle.extraction.proofs.elements.mirror.Statement.{statement}
use Rattle.extraction.proofs.elements.mirror.Tie as tie

-- place j of each half
abbrev Halves : ℕ → List ℤ → List ℤ → ℕ → Type 0
Halves d a x j = (get_or x j (pos 0) ≡ neg_ℤ (get_or a j (pos 0))) × (get_or x (d + j) (pos 0) ≡ get_or a j (pos 0))

abbrev invariant-loop-k : tie.invariant-loop-k
invariant-loop-k d a x₀ k₀ x k = (k ≤ d) × (length x ≡ length x₀) × ((j : ℕ) → j < k → Halves d a x j)

abbrev decreases-loop-k : tie.decreases-loop-k
decreases-loop-k d a x₀ k₀ x k = d - k

-- a turn over plain variables: z is stored, and then y
module _ (d : ℕ) (x : List ℤ) (k : ℕ) (lt : k < d) (long : 2 * d ≤ length x) (y z : ℤ) where
  abbrev one : List ℤ
  one = set x k z

  abbrev two : List ℤ
  two = set one (d + k) y

  -- every other place is as it was
  other : (j : ℕ) → (j ≡ k → ⊥) → (j ≡ d + k → ⊥) → get_or two j (pos 0) ≡ get_or x j (pos 0)
  other j n₁ n₂ = get_or-set_other one (d + k) j y (pos 0) n₂ ∙ get_or-set_other x k j z (pos 0) n₁

  turn : (a : List ℤ) → y ≡ get_or a k (pos 0) → z ≡ neg_ℤ (get_or a k (pos 0)) → ((j : ℕ) → j < k → Halves d a x j) → (j : ℕ) → j < k + 1 → Halves d a two j
  turn a ey ez h j l = elim (ℕ_discrete j k) [
    | yes e ↦ subst (Halves d a two) (sym e) (
      get_or-set_other one (d + k) k y (pos 0) (λ e. omega arith) ∙ get_or-set_same x k z (pos 0) (omega arith) ∙ ez,
      get_or-set_same one (d + k) y (pos 0) (omega (arith, length-set x k z)) ∙ ey,
    )
    | no n ↦ (other j n (λ e. omega arith) ∙ (h j (omega arith)).0, other (d + j) (λ e. omega arith) (λ e. omega arith) ∙ (h j (omega arith)).1)
  ]

loop-k-init : tie.Need-loop-k-init invariant-loop-k decreases-loop-k
loop-k-init c = (omega arith, refl, λ j h. absurd (omega arith))

minus-requires : tie.Need-minus-requires invariant-loop-k decreases-loop-k
minus-requires c κs =
    let g = c in let k = c.loop-k.k in
    subst (λ z. nat_abs z < 2 ^ 63) (sym (+ℤ_idl _ ∙ ap neg_ℤ (through-bits w64 (get_or g.args.a.now k (pos 0)) c.y-1.given)))
    (omega (arith, g.requires.within k (omega arith), nat_abs-neg (get_or g.args.a.now k (pos 0))))

loop-k-preserved : tie.Need-loop-k-preserved invariant-loop-k decreases-loop-k
loop-k-preserved c =
    let l = c.loop-k in let a = c.args in
    let long : 2 * a.d ≤ length l.x = omega (arith, c.requires.long_to, l.invariant.1) in
    let here = through-bits w64 (get_or a.a.now l.k (pos 0)) c.y-1.given in (
      omega arith,
      simp length-set (search rules),
      turn a.d l.x l.k (omega arith) long _ _ a.a.now here
          (through-bits w64 c.minus.result c.minus.type_inv ∙ c.minus.ensures ∙ +ℤ_idl _ ∙ ap neg_ℤ here) l.invariant.2,
    )

returns : tie.Need-returns invariant-loop-k decreases-loop-k
returns c = let l = c.loop-k in record { front = λ k h. (l.invariant.2 k (omega arith)).0; back = λ k h. (l.invariant.2 k (omega arith)).1 }

bounds-x-d : tie.Need-bounds-x-d invariant-loop-k decreases-loop-k
bounds-x-d c = simp length-set (search rules)

pub mirror_spec : {M : Type 1} → statement M
mirror_spec =
    tie.close
    (tie.spec invariant-loop-k decreases-loop-k loop-k-init (λ c. search rules) (λ c. search rules) minus-requires (λ c. search rules) (λ c. search rules) (λ c. search rules)
    (λ c. search rules) bounds-x-d (λ c. search rules) (λ c. search rules) loop-k-preserved (λ c. search rules) returns)
