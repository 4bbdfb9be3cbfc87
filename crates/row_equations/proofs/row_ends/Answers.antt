use Rattle.std.proofs.Common.{◌∙◌, ◌*◌, sym, subst, arith}
use Rattle.protocol.specs.Element.{width, signed}
use Rattle.protocol.specs.Inputs.{Below}
use Rattle.protocol.specs.Settings.{cells}
use Rattle.protocol.specs.Transcript.{end_met, folded_key}
use Rattle.protocol.proofs.Rows.{key_row-below}
use Rattle.equations.proofs.Ready.{ready}
use Rattle.equations.proofs.Polynomials.{part-long}
use Rattle.equations.proofs.ByValue.{value-part, key_part}
use Rattle.row_equations.proofs.row_ends.Goals as goal

pub overflow_mul-from : goal.overflow_mul-from
overflow_mul-from c = let p = c.requires in let k = key_part c.args.settings p.0 c.args.key.now c.args.i _ (c.cells-n.ensures p.0) p.1 p.4 in omega (arith, k.inside, k.few)

pub overflow_add-to : goal.overflow_add-to
overflow_add-to c = let p = c.requires in let k = key_part c.args.settings p.0 c.args.key.now c.args.i _ (c.cells-n.ensures p.0) p.1 p.4 in omega (arith, k.inside, k.few)

pub offset_bounds-key-from : goal.offset_bounds-key-from
offset_bounds-key-from c = let p = c.requires in let k = key_part c.args.settings p.0 c.args.key.now c.args.i _ (c.cells-n.ensures p.0) p.1 p.4 in omega (arith, k.inside, k.few)

pub slice_bounds-end_holds_for_key-end-2 : goal.slice_bounds-end_holds_for_key-end-2
slice_bounds-end_holds_for_key-end-2 c = let p = c.requires in let k = key_part c.args.settings p.0 c.args.key.now c.args.i _ (c.cells-n.ensures p.0) p.1 p.4 in k.inside

pub returns : goal.returns
returns c = λ g.
    let p = c.requires in let k = key_part c.args.settings p.0 c.args.key.now c.args.i _ (c.cells-n.ensures p.0) p.1 p.4 in
    let a = c.args in
    let S = a.settings in
    c.end_holds_for_key.ensures (record {
      of_key = record {
        allowed = g.allowed;
        key_below = subst (Below S.modulus (cells S)) (sym k.row) (key_row-below S S.modulus a.key.now g.key_below a.i p.1);
        challenges-long = g.challenges-long;
      };
      claim_long = part-long (a.i * width) S.degree a.claims.now (omega (arith, (ready S g.allowed).degree_most, p.2, p.3));
      final_long = g.final_long;
    })
    ∙ λ z. end_met S (value-part a.claims.now a.i z) (signed a.last.now) (folded_key S (k.row z) a.challenges.now)
