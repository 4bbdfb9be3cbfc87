use Rattle.std.proofs.Common.{◌≡◌, ◌∙◌, sym, rules, arith, length}
use mathlib.Core.Bool.{true≢false}
use borrow.Author.Tests.{eqb-true, eq-eqb}
use Rattle.protocol.specs.Settings.{settings_refusal}
use Rattle.protocol.proofs.Tests.{and_split, and_intro}
use Rattle.sizes.proofs.Limits.{allowed_degree}
use Rattle.transcripts.proofs.RowParts.{flat-accepts}
use Rattle.transcripts.proofs.Answers.{failed}
use Rattle.transcripts.proofs.accepted.Goals as goal
use Rattle.transcripts.proofs.accepted.Goals.{then-is_err-via-then-is_err, then-is_err-via-else-is_err+then-not-sized}

pub every_row_accepted-requires : goal.every_row_accepted-requires
every_row_accepted-requires c =
    let allowed : settings_refusal c.args.settings ≡ 0 = search rules in
    let sized = and_split c.if-not-sized.false in
    let two = and_split sized.0 in
    let long : length c.args.commitment.now ≡ c.item_cells.result = eqb-true _ _ two.0 in
    record {
      allowed = allowed;
      wide = (allowed_degree c.args.settings allowed).0;
      commitment-long = omega (arith, c.item_cells.ensures.0 allowed);
      key_long = eqb-true _ _ two.1 ∙ c.key_cells.ensures allowed;
      rounds_long = eqb-true _ _ sized.1 ∙ c.round_cells.ensures allowed;
    }

pub returns-then-is_err : goal.returns-then-is_err
returns-then-is_err c = λ g e.
    absurd (elim c.then-is_err.branch [
      | then-is_err-via-then-is_err w ↦ failed _ (search rules) (c.allow.ensures ∙ g.allowed)
      | then-is_err-via-else-is_err+then-not-sized w ↦ true≢false (sym (and_intro (and_intro (eq-eqb _ _ (e ∙ sym (c.item_cells.ensures.0 g.allowed)))
          (eq-eqb _ _ (g.key_below.long ∙ sym (c.key_cells.ensures g.allowed)))) (eq-eqb _ _ (g.rounds_below.long ∙ sym (c.round_cells.ensures g.allowed)))) ∙ w.if-not-sized.true)
    ])

pub returns : goal.returns
returns c = λ g _. c.every_row_accepted.ensures g ∙ flat-accepts _ _ _ _ _ _
