use mathlib.Core.Path.{sym, ◌∙◌, subst}
use Prim.Native.Nat.{◌*◌, ◌<◌}
use native.Mathlib.Omega.{arith}
use borrow.Author.Rules.{rules}
use lib.ListN.{length}
use Rattle.protocol.specs.Element.{width}
use Rattle.protocol.specs.Inputs.{Below}
use Rattle.protocol.specs.Judge.{opens}
use Rattle.protocol.specs.Layout.{rows_most}
use Rattle.protocol.specs.Settings.{cells}
use Rattle.protocol.proofs.Inputs.{settings-valid}
use Rattle.protocol.proofs.Rows.{key_row-below}
use Rattle.sizes.proofs.Limits.{degree_most}
use Rattle.equations.proofs.Polynomials.{part-long}
use Rattle.equations.proofs.ByValue.{value-part, KeyPart, key_part}
use Rattle.judge.specs.Scaling.{Reduced}
use Rattle.judge.proofs.key_rows.row_opens.Statement.{statement}
use Rattle.judge.proofs.key_rows.row_opens.Tie as tie

module _ (s : tie.Start) where
  few_rows : s.args.i < rows_most
  few_rows = omega (arith, s.requires.1, (settings-valid s.args.settings s.requires.0.allowed).rows_most_holds)

  -- the row's part of the key
  lent : KeyPart s.args.settings s.args.key.now s.args.i (length s.args.w.now)
  lent = key_part s.args.settings s.requires.0.allowed s.args.key.now s.args.i _ s.requires.0.w_long s.requires.1 s.requires.0.key_given.long

overflow_mul-from : tie.Need-overflow_mul-from
overflow_mul-from c = record { fits = omega (arith, (lent c.before.before).inside, (lent c.before.before).few) }

overflow_add-to : tie.Need-overflow_add-to
overflow_add-to c = record { fits = omega (arith, (lent c.before.before).inside, (lent c.before.before).few) }

slice_bounds-opens-count : tie.Need-slice_bounds-opens-count
slice_bounds-opens-count c = omega (arith, few_rows c.before.before, c.requires.0.commitment-long)

slice_bounds-opens-start : tie.Need-slice_bounds-opens-start
slice_bounds-opens-start c = omega (arith, few_rows c.before.before, c.requires.0.commitment-long)

offset_bounds-key-from : tie.Need-offset_bounds-key-from
offset_bounds-key-from c = record { fits = omega (arith, (lent c.before.before.before).inside, (lent c.before.before.before).few) }

slice_bounds-opens-end-2 : tie.Need-slice_bounds-opens-end-2
slice_bounds-opens-end-2 c = (lent c.before.before.before).inside

opens-requires : tie.Need-opens-requires
opens-requires c κs =
    let s = c.before.before.before.before in
    let p = c.requires in
    let a = c.args in
    let S = a.settings in (
      record {
        allowed = p.0.allowed;
        key_given = subst (Below S.modulus (cells S)) (sym (lent s).row) (key_row-below S S.modulus a.key.now p.0.key_given a.i p.1);
        long = p.0.w_long;
        few = p.0.few;
      },
      part-long (a.i * width) S.degree a.commitment.now (omega (arith, few_rows s, p.0.commitment-long, degree_most S (settings-valid S p.0.allowed))),
      subst (Reduced S.modulus S.degree) (sym (value-part a.commitment.now a.i)) (p.0.commitment_given a.i p.1),
    )

returns : tie.Need-returns
returns c =
    let s = c in
    let a = s.args in
    c.opens.ensures ∙ λ z. opens a.settings ((lent s.before.before.before.before.before).row z) (value-part a.commitment.now a.i z) a.c a.w.now

pub row_opens_spec : {M : Type 1} → statement M
row_opens_spec =
    tie.close
    (tie.spec (λ c. search rules) overflow_mul-from overflow_add-to (λ c. search rules) slice_bounds-opens-count slice_bounds-opens-start (λ c. search rules) offset_bounds-key-from (λ c. search rules)
    (λ c. search rules) slice_bounds-opens-end-2 opens-requires returns)
