-- The length, the first lines, and then what stands behind them.
use Rattle.std.proofs.Common.{◌≡◌, ℕ, ◌≤◌, List, length, leb, sym, ap, ◌∙◌, rules, Result, Err}
use borrow.Author.Tests.{leb-true}
use Rattle.protocol.specs.declared.Settings.{Settings}
use Rattle.protocol.specs.declared.Refusal.{Refusal}
use Rattle.protocol.specs.Basic.{unless}
use Rattle.protocol.specs.Refusal.{number}
use Rattle.protocol.specs.Answers.{as_loaded}
use Rattle.protocol.proofs.Tests.{unless-zero}
use Rattle.text_format.specs.Text.{text_limit, look_refusal, look_answer}
use Rattle.text_lines.proofs.Looks.{numbered, long_refused, shape_refused, settings_refused, settings_looked, look-missing, look-refused, look-granted, header_unfound}
use Rattle.text_lines.proofs.header.read_settings.Goals as goal

refuses : (text : List ℕ) (x : Result Settings Refusal) (r : Refusal) → x ≡ Err r → number r ≡ look_refusal text → as_loaded x ≡ look_answer text
refuses text x r e n = ap as_loaded e ∙ look-refused text r n

short : (text : List ℕ) → 0 ≡ unless 1 (leb (length text) text_limit) → length text ≤ text_limit
short text e = leb-true _ _ (unless-zero 0 _ (sym e))

pub returns-in_err-require : goal.returns-in_err-require
unfolding text_limit
returns-in_err-require c =
    let t = c.args.text.now in
    let r = c.in_err-require.field-0.0 in
    refuses t _ r (search rules) (long_refused t (number r) c.in_err-require.ensures (numbered r))

pub returns-in_default : goal.returns-in_default
unfolding text_limit
returns-in_default c =
    let t = c.args.text.now in
    look-refused t Refusal.Text (sym (look-missing t (short t c.in_ok-require.ensures) (header_unfound t (search rules))))

pub returns-in_err-require-2 : goal.returns-in_err-require-2
unfolding text_limit
returns-in_err-require-2 c =
    let t = c.args.text.now in
    let r = c.in_err-require-2.field-0.0 in
    let shape = c.in_err-require-2.ensures ∙ ap (unless 2) c.all_lines.ensures in
    refuses t _ r (search rules) (shape_refused t (number r) (short t c.in_ok-require.ensures) c.in-Some.begun c.in-Some.ensures shape (numbered r))

pub returns-in_err-allow : goal.returns-in_err-allow
unfolding text_limit
returns-in_err-allow c =
    let t = c.args.text.now in
    let r = c.in_err-allow.field-0.0 in
    let shape = sym c.all_lines.ensures ∙ unless-zero 1 _ (sym c.in_ok-require-2.ensures) in
    refuses t _ r (search rules) (settings_refused t (number r) (short t c.in_ok-require.ensures) c.in-Some.begun c.in-Some.ensures shape c.in_err-allow.ensures)

pub returns : goal.returns
unfolding text_limit
returns c =
    let t = c.args.text.now in
    let b = c.in-Some.begun in
    let shape = sym c.all_lines.ensures ∙ unless-zero 1 _ (sym c.in_ok-require-2.ensures) in
    let few = short t c.in_ok-require.ensures in
    look-granted t b.settings (sym (settings_refused t 0 few b c.in-Some.ensures shape c.in_ok-allow.ensures)) (settings_looked t 0 few b c.in-Some.ensures shape)
