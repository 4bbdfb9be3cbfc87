-- Each loop keeps: the first k numbers are the sums, the others are as they were.
use mathlib.Core.Path.{◌≡◌, refl, sym, ap, ◌∙◌}
use mathlib.Core.Bool.{Bool, true, false}
use mathlib.Core.List.{List}
use Prim.Native.Nat.{ℕ, ◌-◌, ◌≤◌}
use native.Mathlib.Omega.{arith}
use borrow.Author.Rules.{rules}
use lib.IntN.{ℤ}
use lib.ListN.{length, length-set}
use mir.Syntax.{w64}
use Rattle.residues.specs.Residues.{signed}
use Rattle.residues.proofs.Fill.{filled, filled_none, filled-end}
use Rattle.ranges.proofs.Magnitude.{through-bits}
use Rattle.extraction.specs.Steps.{row_added}
use Rattle.extraction.proofs.Sums.{sums, row_room, row_turn}
use Rattle.extraction.proofs.elements.add_row.Statement.{statement}
use Rattle.extraction.proofs.elements.add_row.Tie as tie

abbrev Kept : Bool → ℕ → List ℤ → List ℤ → List ℤ → ℕ → Type 0
Kept negative n x out₀ out k = (k ≤ n) × (out ≡ filled (sums negative x out₀) k out₀) × (length out ≡ length out₀)

abbrev invariant-loop-k : tie.invariant-loop-k
invariant-loop-k negative n x out₀ k₀ out k = Kept true n x out₀ out k

abbrev decreases-loop-k : tie.decreases-loop-k
decreases-loop-k negative n x out₀ k₀ out k = n - k

abbrev invariant-loop-k-2 : tie.invariant-loop-k-2
invariant-loop-k-2 negative n x out₀ k₀ out k = Kept false n x out₀ out k

abbrev decreases-loop-k-2 : tie.decreases-loop-k-2
decreases-loop-k-2 negative n x out₀ k₀ out k = n - k

loop-k-init : tie.Need-loop-k-init invariant-loop-k decreases-loop-k invariant-loop-k-2 decreases-loop-k-2
loop-k-init c = (omega arith, filled_none _ _, refl)

minus-requires : tie.Need-minus-requires invariant-loop-k decreases-loop-k invariant-loop-k-2 decreases-loop-k-2
unfolding signed
minus-requires c κs =
    let l = c.loop-k in let a = c.args in
    row_room true a.n a.x.now a.out.now c.requires l.k (omega arith) l.invariant.1 (through-bits w64 _ c.minus-arg-1.given) (through-bits w64 _ c.minus-arg-in-loop-k-1.given)

loop-k-preserved : tie.Need-loop-k-preserved invariant-loop-k decreases-loop-k invariant-loop-k-2 decreases-loop-k-2
unfolding signed
loop-k-preserved c =
    let l = c.loop-k in let a = c.args in (
      search rules,
      row_turn true a.n a.x.now a.out.now c.requires l.k (omega arith) l.invariant.1 (through-bits w64 _ c.minus-arg-1.given)
          (through-bits w64 _ c.minus-arg-in-loop-k-1.given)
          (through-bits w64 _ c.minus.type_inv ∙ c.minus.ensures),
      simp length-set (search rules),
    )

returns-then-negative : tie.Need-returns-then-negative invariant-loop-k decreases-loop-k invariant-loop-k-2 decreases-loop-k-2
unfolding row_added
returns-then-negative c =
    let at = c in let a = at.args in
    filled-end _ _ c.loop-k.invariant.1 (omega arith) ∙ ap (λ b. filled (sums b a.x.now a.out.now) a.n a.out.now) (sym at.if-negative.true)

plus-requires : tie.Need-plus-requires invariant-loop-k decreases-loop-k invariant-loop-k-2 decreases-loop-k-2
unfolding signed
plus-requires c κs =
    let l = c.loop-k-2 in let a = c.args in
    row_room false a.n a.x.now a.out.now c.requires l.k (omega arith) l.invariant.1 (through-bits w64 _ c.plus-arg-1.given) (through-bits w64 _ c.plus-arg-in-loop-k-2-1.given)

loop-k-2-preserved : tie.Need-loop-k-2-preserved invariant-loop-k decreases-loop-k invariant-loop-k-2 decreases-loop-k-2
unfolding signed
loop-k-2-preserved c =
    let l = c.loop-k-2 in let a = c.args in (
      search rules,
      row_turn false a.n a.x.now a.out.now c.requires l.k (omega arith) l.invariant.1 (through-bits w64 _ c.plus-arg-1.given)
          (through-bits w64 _ c.plus-arg-in-loop-k-2-1.given)
          (through-bits w64 _ c.plus.type_inv ∙ c.plus.ensures),
      simp length-set (search rules),
    )

returns : tie.Need-returns invariant-loop-k decreases-loop-k invariant-loop-k-2 decreases-loop-k-2
unfolding row_added
returns c =
    let at = c in let a = at.args in
    filled-end _ _ c.loop-k-2.invariant.1 (omega arith) ∙ ap (λ b. filled (sums b a.x.now a.out.now) a.n a.out.now) (sym at.if-negative.false)

pub add_row_spec : {M : Type 1} → statement M
add_row_spec =
    tie.close
    (tie.spec invariant-loop-k decreases-loop-k invariant-loop-k-2 decreases-loop-k-2 loop-k-init (λ c. search rules) (λ c. search rules) (λ c. search rules) (λ c. search rules) minus-requires (λ c. search rules)
    (λ c. search rules) (λ c. search rules) (λ c. search rules) loop-k-preserved (λ c. search rules) returns-then-negative (λ c. (omega arith, filled_none _ _, refl)) (λ c. search rules) (λ c. search rules)
    (λ c. search rules) (λ c. search rules) plus-requires (λ c. search rules) (λ c. search rules) (λ c. search rules) (λ c. search rules) loop-k-2-preserved (λ c. search rules) returns)
