-- By the refusal that tests the table.
use Rattle.std.proofs.Common.{◌≡◌, ℕ, ◌*◌, ltb, map, sym, ap, ◌∙◌, arith, rules}
use Rattle.protocol.specs.Basic.{all}
use Rattle.protocol.specs.Refusal.{number}
use Rattle.protocol.specs.Settings.{all_below, all_within, exponent, exponents}
use Rattle.text_format.specs.Text.{value_limit, narrow_limit, unsigned}
use Rattle.text_format.proofs.TextLimits.{allowed, exponent-le}
use Rattle.text_parts.specs.Parts.{tested_by}
use Rattle.text_lines.proofs.Looks.{numbered}
use Rattle.table_reader.proofs.Narrow.{below-either}
use Rattle.table_reader.proofs.Refuses.{same-number, untested, tested, tests-residues, tests-bound, tests-exponents, tests-nothing}
use mathlib.Core.Bool.{not, false}
use denote.Enum.Bare.{sameb, differs_true, differs_false}
use Rattle.protocol.specs.declared.Refusal.{Refusal}
use Rattle.protocol.specs.contracts.Refusal.{the_type}
use Rattle.table_reader.proofs.entries.pass.Goals as goal

-- the refusal tests the table
tests_it : (k : ℕ) (test refusal : Refusal) → number test ≡ tested_by k → not (sameb the_type test refusal) ≡ false → tested_by k ≡ number refusal
tests_it k test refusal e f = sym e ∙ ap number (differs_false the_type (search rules) test refusal f)

pub returns-then-ne : goal.returns-then-ne
returns-then-ne c ok =
    untested _ _ _ _ (λ e. differs_true the_type c.in-Some.test c.args.refusal (sym c.ne.ensures ∙ c.if-ne.true) (same-number c.in-Some.test c.args.refusal (c.in-Some.ensures ∙ e)))

pub returns-in-Residue : goal.returns-in-Residue
unfolding all_below
returns-in-Residue c ok =
    let it = tests_it c.args.k c.in-Some.test c.args.refusal c.in-Some.ensures (sym c.ne.ensures ∙ c.if-ne.false) in
    tested _ _ _ _ it _ (c.all_below.ensures ∙ sym (tests-residues _ _ _ (ap number c.in-Residue.is)))

pub returns-in-Tall : goal.returns-in-Tall
unfolding all_within
returns-in-Tall c ok =
    let it = tests_it c.args.k c.in-Some.test c.args.refusal c.in-Some.ensures (sym c.ne.ensures ∙ c.if-ne.false) in
    tested _ _ _ _ it _ (c.all_within.ensures ∙ ap (λ n. all_within n c.args.values.now) c.from.ensures ∙ sym (tests-bound _ _ _ (ap number c.in-Tall.is)))

pub returns-in-Challenge : goal.returns-in-Challenge
unfolding exponents exponent narrow_limit value_limit
returns-in-Challenge c ok =
    let a = c.args in
    let it = tests_it a.k c.in-Some.test a.refusal c.in-Some.ensures (sym c.ne.ensures ∙ c.if-ne.false) in
    let small = exponent-le a.settings (allowed a.settings ok) in
    tested _ _ _ _ it _
    (c.all_below-in-Challenge.ensures ∙ ap (λ n. all (λ x. ltb x n) (map (unsigned value_limit) a.values.now)) (c.from-in-Challenge.ensures ∙ c.exponent_count.ensures ok)
    ∙ below-either (2 * a.settings.degree) value_limit narrow_limit (omega (arith, small)) small a.values.now
    ∙ sym (tests-exponents _ _ _ (ap number c.in-Challenge.is)))

pub returns-in_default-refusal : goal.returns-in_default-refusal
returns-in_default-refusal c ok =
    let r = c.args.refusal in
    let d = c.in_default-refusal in
    let it = tests_it c.args.k c.in-Some.test r c.in-Some.ensures (sym c.ne.ensures ∙ c.if-ne.false) in
    tested _ _ _ _ it _
    (sym (tests-nothing _ _ _ (λ e. d.not-Residue (same-number r Refusal.Residue e)) (λ e. d.not-Tall (same-number r Refusal.Tall e)) (λ e. d.not-Challenge (same-number r Refusal.Challenge e))))

pub returns-in_default : goal.returns-in_default
returns-in_default c ok = untested _ _ _ _ (λ e. numbered c.args.refusal (sym (c.in_default.ensures ∙ e)))
