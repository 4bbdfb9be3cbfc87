-- The first rows of all elements, then the second ones, which are as they were.
use Rattle.std.proofs.Common.{◌+◌, ◌*◌, pos, ◌∙◌, arith}
use Rattle.residues.specs.Residues.{BothSmall}
use Rattle.residues.proofs.Turns.{first_apart, last_apart, turned-half}
use Rattle.message_folds.proofs.Folding.{folded}
use Rattle.message_folds.proofs.fold_halves.Goals as goal

pub returns : goal.returns
returns c = λ room.
    let a = c.args in
    let r = c.row_start-s in
    let first = c.add_part.ensures (
      c.requires.0,
      c.requires.1,
      c.requires.2,
      r.ensures.0,
      first_apart a.d a.h r.result 0 r.result (a.h * a.d) _ r.ensures.0 (omega arith) (omega arith) (omega (arith, c.requires.4)),
    ) in
    let last = c.add_part-2.ensures (
      c.requires.0,
      c.requires.1,
      c.requires.2,
      omega arith,
      last_apart a.d a.h r.result 0 r.result (a.h * a.d) _ r.ensures.0 (omega arith) (omega arith) (omega (arith, c.requires.4, first.long)),
    ) in
    turned-half (pos 0) (λ x. x) (λ x. x) BothSmall a.d a.h a.e r.result 0 r.result (a.h * a.d) c.requires.3 r.ensures.0 (r.ensures.1 c.requires.3) (omega arith)
    a.message.now _ _
    (omega arith) (omega (arith, c.requires.4)) first last
    (λ x y lx ly. record { left = room.each (0 + x) (omega arith); right = room.each (a.h * a.d + y) (omega arith) })
    ∙ folded a.d a.h a.e a.message.now
