use Rattle.std.proofs.Common.{◌≡◌, ◌∙◌, ◌*◌, ◌-◌, ◌<◌, ℕ, List, ap, sym, arith, length, get_or, take, drop}
use Rattle.protocol.specs.declared.Settings.{Settings}
use Rattle.protocol.specs.Element.{width, value_row}
use Rattle.protocol.specs.Settings.{settings_refusal}
use Rattle.protocol.proofs.Reading.{tabulate_at}
use Rattle.residues.specs.Lists.{spliced}
use Rattle.residues.proofs.Parts.{tail_at, tail-length}
use Rattle.residues.proofs.Splice.{spliced_ext}
use Rattle.sizes.proofs.Limits.{allowed_degree}
use Rattle.verifier_refusals.specs.Lent.{lent_rows}
use Rattle.verifier_refusals.proofs.Lent.{lent_at, lent_inside}
use Rattle.row_equations.proofs.RowByRow.{first_rows, rows_none, rows_all, rows_more}
use Rattle.verifier.specs.Records.{row_read}
use Rattle.verifier.proofs.read_rows.Goals as goal

-- a row as it is lent
same : (S : Settings) → settings_refusal S ≡ 0 → (w : ℕ) (C : List ℕ) (i k : ℕ) → i < S.rows → k < S.degree
    → get_or (take (length C - i * w) (drop (i * w) C)) k 0 ≡ get_or (row_read S (lent_rows S w C) i) k 0
same S ok w C i k h l = tail_at (i * w) C k 0 ∙ sym (lent_at S ok w C i k h l) ∙ sym (tabulate_at S.degree (λ k. get_or (value_row (lent_rows S w C) i) k 0) 0 k l)

pub loop-i-init : goal.loop-i-init
loop-i-init c = λ g. g.2 ∙ rows_none _ _

pub loop-i-preserved : goal.loop-i-preserved
loop-i-preserved c = λ g.
    let l = c.loop-i in
    let S = c.args.settings in
    let C = c.args.commitment.now in
    let w = c.args.step in
    let R = lent_rows S w C in
    let to = l.i * width in
    let wide = (allowed_degree S g.0).0 in
    let h : l.i < S.rows = omega arith in
    c.store.ensures (record { there = omega (arith, tail-length (l.i * w) C, lent_inside S g.0 w C g.1 l.i h); room = omega (arith, wide, l.auto.claims, c.requires) })
    ∙ spliced_ext _ (λ k. get_or (row_read S R l.i) k 0) to S.degree l.claims (λ k m. same S g.0 w C l.i k h m)
    ∙ ap (spliced (λ k. get_or (row_read S R l.i) k 0) to S.degree) (l.invariant g)
    ∙ rows_more S (row_read S R) l.i (omega (arith, c.requires.0)) wide

pub returns : goal.returns
returns c = λ g.
    let l = c.loop-i in
    let a = c.args in
    let all : l.i ≡ a.settings.rows = omega arith in
    l.invariant g ∙ ap (first_rows a.settings (row_read a.settings (lent_rows a.settings a.step a.commitment.now))) all ∙ rows_all a.settings _
