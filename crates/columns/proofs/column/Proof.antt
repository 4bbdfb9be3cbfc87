-- The loop keeps: the first j terms are added.
use Rattle.std.proofs.Common.{◌≡◌, ℕ, ◌-◌, ◌≤◌, get_or, ℤ, pos, ◌+ℤ◌, ◌*ℤ◌, sym, ap, ◌∙◌, add-one, arith, rules}
use lib.IntN.{+ℤ_assoc, +ℤ_idr}
use Rattle.protocol.specs.Basic as basic
use Rattle.protocol.specs.Element.{rotate, product, signed}
use Rattle.columns.specs.Columns.{narrow}
use Rattle.columns.proofs.Words.{word, word-own, word_more}
use Rattle.columns.proofs.column.Statement.{statement}
use Rattle.columns.proofs.column.Tie as tie

abbrev invariant-loop-j : tie.invariant-loop-j
invariant-loop-j d k f g s sum₀ j₀ sum j = (j ≤ d) × (sum ≡ word (pos s +ℤ basic.sum j (λ (i : ℕ). get_or f i (pos 0) *ℤ rotate d i (narrow g) k)))

abbrev decreases-loop-j : tie.decreases-loop-j
decreases-loop-j d k f g s sum₀ j₀ sum j = d - j

loop-j-init : tie.Need-loop-j-init invariant-loop-j decreases-loop-j
unfolding basic.sum
loop-j-init c = (omega arith, word-own _ (omega arith) ∙ ap word (sym (+ℤ_idr (pos _))))

loop-j-preserved : tie.Need-loop-j-preserved invariant-loop-j decreases-loop-j
unfolding basic.sum
loop-j-preserved c =
    let l = c.loop-j in
    let a = c.args in
    let F : ℕ → ℤ = λ i. get_or a.f.now i (pos 0) *ℤ rotate a.d i (narrow a.g.now) a.k in (
      omega arith,
      word_more l.sum _ (pos a.s +ℤ basic.sum l.j F) (F l.j) l.invariant.1 c.add_term-sum.ensures
          ∙ ap word (+ℤ_assoc (pos a.s) (basic.sum l.j F) (F l.j))
          ∙ ap (λ n. word (pos a.s +ℤ basic.sum n F)) (sym (add-one l.j)),
    )

returns : tie.Need-returns invariant-loop-j decreases-loop-j
unfolding product signed
returns c =
    let l = c.loop-j in
    let a = c.args in
    l.invariant.1 ∙ ap (λ n. word (pos a.s +ℤ basic.sum n (λ i. get_or a.f.now i (pos 0) *ℤ rotate a.d i (narrow a.g.now) a.k))) (omega arith)

pub column_spec : {M : Type 1} → statement M
column_spec = tie.close (tie.spec invariant-loop-j decreases-loop-j loop-j-init (λ c κs. search rules) (λ c. search rules) (λ c. search rules) loop-j-preserved returns)
