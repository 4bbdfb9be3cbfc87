-- The refusal, then the bound, then the equation.
use Rattle.std.proofs.Common.{◌≡◌, sym, ap, ◌∙◌, rules}
use Rattle.protocol.specs.Settings.{all_within}
use Rattle.protocol.specs.Tree.{growth}
use Rattle.protocol.specs.Calls.{judge_refusal}
use Rattle.judge.proofs.Answers.{growth-exact, judge_given, judge_refused, judge_done, beyond, within}
use Rattle.judge.proofs.judge.Goals as goal

pub returns-in_err-judge : goal.returns-in_err-judge
returns-in_err-judge c = search (rules, judge_refused)

pub every_row_opens-requires : goal.every_row_opens-requires
every_row_opens-requires c = (judge_given _ _ _ _ _ (sym c.in_ok-judge.ensures)).rows_given (search rules)

pub returns-then-all_within : goal.returns-then-all_within
unfolding all_within
returns-then-all_within c =
    let a = c.args in
    let z : judge_refusal a.settings a.commitment a.c a.key.now a.w.now ≡ 0 = sym c.in_ok-judge.ensures in
    let g = judge_given _ _ _ _ _ z in
    -- the test of the bound is made with the growth itself
    let tested : c.all_within.result ≡ all_within (growth a.settings) a.w.now = c.all_within.ensures ∙ ap (λ n. all_within n a.w.now) (c.growth.ensures g.allowed ∙ growth-exact a.settings g.allowed g.limited) in
    judge_done _ _ _ _ _ z _ (within _ _ _ _ _ _ (sym tested ∙ c.if-all_within.true) c.every_row_opens.ensures)

pub returns-else-all_within : goal.returns-else-all_within
unfolding all_within
returns-else-all_within c =
    let a = c.args in
    let z : judge_refusal a.settings a.commitment a.c a.key.now a.w.now ≡ 0 = sym c.in_ok-judge.ensures in
    let g = judge_given _ _ _ _ _ z in
    let tested : c.all_within.result ≡ all_within (growth a.settings) a.w.now = c.all_within.ensures ∙ ap (λ n. all_within n a.w.now) (c.growth.ensures g.allowed ∙ growth-exact a.settings g.allowed g.limited) in
    judge_done _ _ _ _ _ z _ (c.if-all_within.false ∙ beyond _ _ _ _ _ (sym tested ∙ c.if-all_within.false))
