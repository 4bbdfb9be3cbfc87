-- The loop keeps: after j doublings e is 2^j·k on the circle, which was not d before, and a has been multiplied by j factors.
use mathlib.Core.Path.{◌≡◌, refl, sym, ap, ◌∙◌}
use mathlib.Core.Bool.{false}
use Prim.Native.Nat.{ℕ, ◌+◌, ◌*◌, ◌-◌, ◌%◌, ◌^◌, ◌<◌, ◌≤◌}
use native.Mathlib.Nat as Nat
use native.Mathlib.Decide.{ℕ_discrete}
use native.Mathlib.Omega.{arith}
use borrow.Author.Rules.{rules}
use borrow.Author.Tests.{ne_eqb}
use lib.Dec.{eqb}
use lib.ListN.{length}
use lib.Pow as Pow
use Rattle.protocol.specs.Element.{signed}
use Rattle.protocol.specs.Layout.{width}
use Rattle.residues.proofs.Fill.{filled}
use Rattle.extraction.specs.Steps.{doublings_most, summed, divided}
use Rattle.extraction.proofs.Quotients as Q
use Rattle.extraction.proofs.elements.divide.Statement.{statement}
use Rattle.extraction.proofs.elements.divide.Tie as tie

-- d was not met in the first j places
abbrev Before : ℕ → ℕ → ℕ → Type 0
Before d k j = (i : ℕ) → i < j → eqb (k * 2 ^ i % (2 * d)) d ≡ false

abbrev invariant-loop-j : tie.invariant-loop-j
invariant-loop-j d k a₀ x₀ e₀ j₀ a x e j =
    (j ≤ doublings_most) × (e ≡ k * 2 ^ j % (2 * d)) × (a ≡ filled (summed d k j (signed a₀)) d a₀) × (length a ≡ length a₀) × (length x ≡ length x₀) × Before d k j

abbrev decreases-loop-j : tie.decreases-loop-j
decreases-loop-j d k a₀ x₀ e₀ j₀ a x e j = doublings_most - j

some : (c : tie.Start invariant-loop-j decreases-loop-j) → 0 < c.args.d
some c = omega (arith, c.requires.1.degree_is, Pow.pow_pos c.requires.1.log)

small : (c : tie.Start invariant-loop-j decreases-loop-j) → c.args.d ≤ width
small c = omega (arith, c.requires.1.degree_is, Pow.pow_mono {i = c.requires.1.log} {j = 7} c.requires.1.log_most)

-- where it is not met now either
further : (d k j e : ℕ) → e ≡ k * 2 ^ j % (2 * d) → (e ≡ d → ⊥) → Before d k j → Before d k (j + 1)
further d k j e is ne none i h = elim (ℕ_discrete i j) [
  | yes q ↦ ne_eqb _ _ (λ z. ne (is ∙ ap (λ n. k * 2 ^ n % (2 * d)) (sym q) ∙ z))
  | no q ↦ none i (omega arith)
]

done : (d k j : ℕ) → j ≤ doublings_most → (j < doublings_most → k * 2 ^ j % (2 * d) ≡ d) → Before d k j → summed d k j ≡ divided d k
unfolding divided
done d k j h t none = ap (λ n. summed d k n) (sym (Q.doublings-are d k j h t none))

turn-exponent : (g : tie.Start invariant-loop-j decreases-loop-j) (j e : ℕ) → e ≡ g.args.k * 2 ^ j % (2 * g.args.d) → e < 2 * g.args.d
turn-exponent g j e is = let p : 0 < 2 * g.args.d = omega (arith, some g) in omega (arith, Nat.mod-lt (g.args.k * 2 ^ j) p)

loop-j-init : tie.Need-loop-j-init invariant-loop-j decreases-loop-j
loop-j-init c = (
  omega arith,
  sym (ap (λ n. n % (2 * c.args.d)) (ap (λ n. c.args.k * n) (Nat.pow-zero 2) ∙ Nat.mul-one c.args.k) ∙ Nat.mod-eq_of_lt c.requires.1.exponent),
  unfold summed in Q.filled-own c.args.d c.args.a.now c.requires.1.long,
  refl,
  refl,
  λ i h. absurd (omega arith),
)

shape_of-a-then-e-d : tie.Need-shape_of-a-then-e-d invariant-loop-j decreases-loop-j
shape_of-a-then-e-d c = c.loop-j.invariant.3

shape_of-x-then-e-d : tie.Need-shape_of-x-then-e-d invariant-loop-j decreases-loop-j
shape_of-x-then-e-d c = c.loop-j.invariant.4

returns-then-e-d : tie.Need-returns-then-e-d invariant-loop-j decreases-loop-j
returns-then-e-d c =
    let g = c in let l = c.loop-j in
    l.invariant.2 ∙ ap (λ f. filled (f (signed g.args.a.now)) g.args.d g.args.a.now) (done g.args.d g.args.k l.j l.invariant.0 (λ _. sym l.invariant.1 ∙ c.if-e-d.true) l.invariant.5)

add_own-requires : tie.Need-add_own-requires invariant-loop-j decreases-loop-j
add_own-requires c κs =
    let g = c in let l = c.loop-j in (
      some g.before.before.before.before.before,
      small g.before.before.before.before.before,
      turn-exponent g.before.before.before.before.before l.j l.e l.invariant.1,
      omega (arith, g.requires.0, l.invariant.4),
      Q.sum-summable g.args.d g.args.k (some g.before.before.before.before.before) g.args.a.now l.a l.j l.invariant.2 g.requires.1 l.invariant.3
          (λ i h. further g.args.d g.args.k l.j l.e l.invariant.1 c.if-e-d.false l.invariant.5 i (omega arith)),
    )

overflow_mul-e : tie.Need-overflow_mul-e invariant-loop-j decreases-loop-j
overflow_mul-e c =
    let g = c.before.before.before.before.before.before.before.before in let l = c.loop-j in
    omega (arith, small g, turn-exponent g l.j l.e l.invariant.1)

loop-j-preserved : tie.Need-loop-j-preserved invariant-loop-j decreases-loop-j
loop-j-preserved c =
    let g = c.before.before.before.before.before.before.before.before.before in let l = c.loop-j in let a = c.args in (
      omega arith,
      c.on_circle-e.ensures.0 (some g, small g) ∙ ap (λ n. 2 * n % (2 * a.d)) l.invariant.1 ∙ Q.next-exponent a.d a.k l.j,
      Q.next-sum a.d a.k (some g) a.a.now l.a l.j l.invariant.2 l.e l.invariant.1 _ c.add_own.ensures,
      c.add_own.auto.a ∙ l.invariant.3,
      c.add_own.auto.x ∙ l.invariant.4,
      further a.d a.k l.j l.e l.invariant.1 c.if-e-d.false l.invariant.5,
    )

shape_of-a : tie.Need-shape_of-a invariant-loop-j decreases-loop-j
shape_of-a c = c.loop-j.invariant.3

shape_of-x : tie.Need-shape_of-x invariant-loop-j decreases-loop-j
shape_of-x c = c.loop-j.invariant.4

returns : tie.Need-returns invariant-loop-j decreases-loop-j
returns c =
    let g = c in let l = c.loop-j in
    l.invariant.2 ∙ ap (λ f. filled (f (signed g.args.a.now)) g.args.d g.args.a.now) (done g.args.d g.args.k l.j l.invariant.0 (λ h. absurd (omega arith)) l.invariant.5)

pub divide_spec : {M : Type 1} → statement M
divide_spec =
    tie.close
    (tie.spec invariant-loop-j decreases-loop-j loop-j-init shape_of-a-then-e-d shape_of-x-then-e-d returns-then-e-d add_own-requires overflow_mul-e (λ c κs. search rules) (λ c. search rules)
    (λ c. search rules) loop-j-preserved shape_of-a shape_of-x returns)
