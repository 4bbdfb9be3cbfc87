-- The first rows of all elements, then the second ones, which are as they were.
use Rattle.std.proofs.Common.{pos, refl, arith}
use Rattle.protocol.specs.Element.{modulo}
use Rattle.residues.specs.Residues.{BothBelow}
use Rattle.residues.proofs.Turns.{first_apart, last_apart, turned-half}
use Rattle.folds.specs.Folds.{fold_halves}
use Rattle.folds.proofs.fold_each.Goals as goal

pub returns : goal.returns
unfolding fold_halves
returns c = λ f.
    let r = c.row_start-s in
    let a = c.args in
    let first = c.add_part.ensures (c.requires.0, c.requires.1, c.requires.3, r.ensures.0, first_apart a.d a.h r.result a.to _ a.second _ r.ensures.0 refl c.requires.4 c.requires.5) in
    let last = c.add_part-2.ensures (
      c.requires.0,
      c.requires.1,
      c.requires.3,
      omega arith,
      last_apart a.d a.h r.result a.to _ a.second _ r.ensures.0 refl c.requires.4 (omega (arith, c.requires.5, first.long)),
    ) in
    turned-half 0 pos (modulo a.q) (BothBelow a.q) a.d a.h a.e r.result a.to _ a.second c.requires.2 r.ensures.0 (r.ensures.1 c.requires.2) refl a.t.now _ _
    c.requires.4 c.requires.5 first last
    (λ x y lx ly. record { left = f.first.each x lx; right = f.last.each y ly })
