-- The loop keeps: the four sums are those of the first i elements.
use Rattle.std.proofs.Common.{◌≡◌, ◌-◌, ◌≤◌, sym, ap, ◌∙◌, arith, length-set, rules}
use Rattle.residues.proofs.Fill.{filled}
use Rattle.columns.specs.Columns.{add_table}
use Rattle.columns.proofs.Table.{pick, table_none, table-turn, four-written}
use Rattle.columns.proofs.add_elements.Statement.{statement}
use Rattle.columns.proofs.add_elements.Tie as tie

abbrev invariant-loop-i : tie.invariant-loop-i
invariant-loop-i n f g sums a₀ b₀ c₀ e₀ i₀ a b c e i = (i ≤ n) × (add_table f g i sums ≡ filled (pick a b c e) 4 sums)

abbrev decreases-loop-i : tie.decreases-loop-i
decreases-loop-i n f g sums a₀ b₀ c₀ e₀ i₀ a b c e i = n - i

loop-i-init : tie.Need-loop-i-init invariant-loop-i decreases-loop-i
loop-i-init c = let s = c.before.before.before.before.before.before in (omega arith, table_none _ _ s.args.sums.now s.requires.sums)

loop-i-preserved : tie.Need-loop-i-preserved invariant-loop-i decreases-loop-i
loop-i-preserved c =
    let third = c.before in
    let second = third.before in
    let first = second.before in
    let l = first.loop-i in
    let s = first.args in (
      omega arith,
      table-turn s.f.now s.g.now s.sums.now l.i l.a l.b l.c l.e l.invariant.1 _ _ _ _
          first.column-a.ensures second.column-b.ensures third.column-c.ensures c.column-e.ensures,
    )

returns : tie.Need-returns invariant-loop-i decreases-loop-i
returns c =
    let l = c.loop-i in
    let s = c.before.before.before.before.before.before.before.before in
    four-written s.args.sums.now l.a l.b l.c l.e s.requires.sums ∙ sym l.invariant.1 ∙ ap (λ n. add_table s.args.f.now s.args.g.now n s.args.sums.now) (omega arith)

pub add_elements_spec : {M : Type 1} → statement M
add_elements_spec =
    tie.close
    (tie.spec invariant-loop-i decreases-loop-i (λ c. search rules) (λ c. search rules) (λ c. search rules) (λ c. search rules) loop-i-init (λ c. search rules) (λ c. search rules) (λ c. search rules)
    (λ c. search rules) (λ c. search rules) (λ c. search rules) (λ c. search rules) (λ c. search rules) (λ c. search rules) (λ c. search rules)
    (λ c κs. search rules) (λ c κs. search rules) (λ c κs. search rules) (λ c κs. search rules) (λ c. search rules) (λ c. search rules) loop-i-preserved
    (λ c. search rules) (λ c. simp length-set (omega arith)) (λ c. simp length-set (omega arith)) (λ c. simp length-set (omega arith)) (λ c. search rules) returns)
