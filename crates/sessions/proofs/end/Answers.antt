use Rattle.std.proofs.Common.{◌≡◌, ◌∙◌, ◌-◌, ◌&&◌, refl, sym, ap, rules, arith, length, get_or, take, drop, leb}
use Rattle.std.proofs.Math.Dec.{eqb}
use borrow.Author.Tests.{eqb-true}
use Rattle.protocol.specs.Element.{padded_signed}
use Rattle.protocol.specs.Settings.{has_length}
use Rattle.protocol.specs.Session.{end}
use Rattle.protocol.proofs.Tests.{and_split}
use Rattle.slices.specs.Slices.{lent}
use Rattle.slices.proofs.Lent.{lent_fits, lent_degree}
use Rattle.sizes.proofs.Limits.{allowed_degree}
use Rattle.session_records.specs.Records.{session_of, flagged}
use Rattle.verifier.specs.Records.{moved_with}
use Rattle.verifier_refusals.specs.declared.Progress.{Progress}
use Rattle.verifier_refusals.specs.Lent.{record_of}
use Rattle.sessions.specs.Promises.{last_fits, end_on}
use Rattle.sessions.proofs.Claims.{lent_long, claims_lent}
use Rattle.sessions.proofs.Answers.{move_nowhere, move_failed, move_made}
use Rattle.sessions.proofs.end.Goals as goal

pub returns-then-session-ne-RECORD : goal.returns-then-session-ne-RECORD
returns-then-session-ne-RECORD c = move_nowhere _ _ c.args.session.now c.if-session-ne-RECORD.true

pub returns-in_err-refusal : goal.returns-in_err-refusal
unfolding last_fits flagged has_length session_of
returns-in_err-refusal c =
    let a = c.args in
    let S = c.load-before.result.settings in
    let t = a.session.now in
    move_failed _ _ t c.if-session-ne-RECORD.false c.from_residual.result (lent S (eqb (length a.last.now) S.degree && leb (get_or t 6 0) 1) 0) (search rules)
    (ap (λ (s : Progress). lent s.settings (eqb (length a.last.now) s.settings.degree && leb (get_or t 6 0) 1) 0) (c.load-before.ensures c.if-session-ne-RECORD.false))

pub returns : goal.returns
unfolding last_fits end_on flagged has_length session_of
returns c =
    let a = c.args in
    let t = a.session.now in
    let long = c.if-session-ne-RECORD.false in
    let loaded = c.load-before in
    let S = loaded.result.settings in
    let fits = eqb (length a.last.now) S.degree && leb (get_or t 6 0) 1 in
    let passed : lent S fits 0 ≡ 0 = sym c.in_ok-refusal.ensures in
    let is_lent = ap (λ (s : Progress). lent s.settings (eqb (length a.last.now) s.settings.degree && leb (get_or t 6 0) 1) 0) (loaded.ensures long) in
    let whole = eqb-true _ _ (and_split (lent_fits S fits passed)).0 in
    let element = c.wholes-f.ensures (lent_degree S fits passed) whole in
    let places : length c.wholes-f.result ≡ 128 = search rules in
    let is =
    c.end_on-moved.ensures (record { claims-long = lent_long t long; final_long = λ ok. omega (arith, allowed_degree S ok) })
    ∙ ap (λ f. end (record_of loaded.result (take (length t - 15) (drop 15 t))) f a.key.now) element
    ∙ (λ i. end (record_of (loaded.ensures long i) (claims_lent t long i)) (padded_signed (loaded.ensures long i).settings.degree a.last.now) a.key.now) in
    move_made _ _ t long 0 (sym passed ∙ is_lent) refl _ _ _ _ (ap (moved_with c.end_on-moved.result) (sym (claims_lent t long)) ∙ is) c.answer.ensures
