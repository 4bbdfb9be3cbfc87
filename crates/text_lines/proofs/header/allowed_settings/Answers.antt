-- The settings by the first lines, or a first look's refusal.
use Rattle.std.proofs.Common.{◌≡◌, true, false, drop, sym, ap, ◌∙◌, arith, rules}
use Rattle.protocol.specs.declared.Refusal.{Refusal}
use Rattle.protocol.specs.Basic.{unless}
use Rattle.text_format.specs.Text.{text_limit}
use Rattle.text_format.specs.Lines.{present, all_lines}
use Rattle.text_lines.proofs.Looks.{numbered, look_long, shape_refused, settings_refused, look-missing, header_unfound}
use Rattle.text_lines.proofs.Looked.{front_missing, front_refused, begun_refused, begun_granted}
use Rattle.text_lines.proofs.header.allowed_settings.Goals as goal

pub returns-then-text-gt-TEXT_LIMIT-clause-answer : goal.returns-then-text-gt-TEXT_LIMIT-clause-answer
unfolding text_limit
returns-then-text-gt-TEXT_LIMIT-clause-answer c =
    let t = c.args.text.now in
    begun_refused t (record { refusal = Refusal.Long; next = 0 }) (sym (look_long t (omega arith))) (front_missing t (search rules))

pub returns-in_default-clause-answer : goal.returns-in_default-clause-answer
unfolding text_limit
returns-in_default-clause-answer c =
    let t = c.args.text.now in
    begun_refused t (record { refusal = Refusal.Text; next = 0 }) (sym (look-missing t (omega arith) (header_unfound t (search rules)))) (front_missing t (search rules))

pub returns-in_default-allow-clause-answer : goal.returns-in_default-allow-clause-answer
returns-in_default-allow-clause-answer c =
    begun_granted c.args.text.now c.in-Some.begun c.in-Some.ensures (search rules)

pub returns-then-text-gt-TEXT_LIMIT-2-clause-answer : goal.returns-then-text-gt-TEXT_LIMIT-2-clause-answer
unfolding text_limit
returns-then-text-gt-TEXT_LIMIT-2-clause-answer c =
    let t = c.args.text.now in
    let b = c.in-Some.begun in
    let refused = front_refused t b c.in-Some.ensures (λ z. numbered c.in-Err.refusal (c.in-Err.ensures ∙ z)) in
    begun_refused t (record { refusal = Refusal.Long; next = b.next }) (sym (look_long t (omega arith))) refused

pub returns-then-not-all_lines-clause-answer : goal.returns-then-not-all_lines-clause-answer
unfolding text_limit unless
returns-then-not-all_lines-clause-answer c =
    let t = c.args.text.now in
    let b = c.in-Some.begun in
    let refused = front_refused t b c.in-Some.ensures (λ z. numbered c.in-Err.refusal (c.in-Err.ensures ∙ z)) in
    let malformed : present (all_lines (drop b.next t)) ≡ false = search rules in
    begun_refused t (record { refusal = Refusal.Text; next = b.next })
    (shape_refused t 2 (omega arith) b c.in-Some.ensures (sym (ap (unless 2) malformed)) (numbered Refusal.Text)) refused

pub returns-clause-answer : goal.returns-clause-answer
unfolding text_limit
returns-clause-answer c =
    let t = c.args.text.now in
    let b = c.in-Some.begun in
    let r = c.in-Err.refusal in
    let refused = front_refused t b c.in-Some.ensures (λ z. numbered r (c.in-Err.ensures ∙ z)) in
    let formed : present (all_lines (drop b.next t)) ≡ true = search rules in
    begun_refused t (record { refusal = r; next = b.next }) (settings_refused t _ (omega arith) b c.in-Some.ensures formed c.in-Err.ensures) refused
