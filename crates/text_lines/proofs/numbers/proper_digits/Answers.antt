-- The first byte, and where it is a zero the second.
use Rattle.std.proofs.Common.{sym, ap, ◌∙◌, arith, rules}
use borrow.Author.Tests.{ne_eqb}
use mathlib.Core.Bool.{not}
use Rattle.text_lines.proofs.Runs.{first_place, proper_none, proper_large, proper_zero}
use Rattle.text_lines.proofs.numbers.proper_digits.Goals as goal

pub returns-then-not-digit_at : goal.returns-then-not-digit_at
returns-then-not-digit_at c = let a = c.args in sym (proper_none a.text.now a.at (search rules))

pub bounds-text-at : goal.bounds-text-at
bounds-text-at c = let a = c.args in first_place a.text.now a.at (search rules)

pub returns-then-text-at-ne48 : goal.returns-then-text-at-ne48
returns-then-text-at-ne48 c = let a = c.args in ap not (ne_eqb _ _ c.if-text-at-ne48.true) ∙ sym (proper_large a.text.now a.at (search rules) c.if-text-at-ne48.true)

pub overflow_add-at : goal.overflow_add-at
overflow_add-at c = let a = c.args in record { fits = omega (arith, first_place a.text.now a.at (search rules)) }

pub returns-else-text-at-ne48 : goal.returns-else-text-at-ne48
returns-else-text-at-ne48 c = let a = c.args in ap not c.digit_at-else-text-at-ne48.ensures ∙ sym (proper_zero a.text.now a.at (search rules) c.if-text-at-ne48.false)
