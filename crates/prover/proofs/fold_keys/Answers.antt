use Rattle.std.proofs.Common.{◌-◌, ◌+◌, refl, ◌∙◌, arith}
use Rattle.round_products.proofs.Rowwise.{written_none, key_room}
use Rattle.prover.proofs.Folding.{part_length, fold_row_holds, folded_all}
use Rattle.prover.proofs.fold_keys.Goals as goal

pub loop-r-init : goal.loop-r-init
loop-r-init c = (omega arith, refl, λ _. written_none _ _ _ _)

pub returns-then-key-from : goal.returns-then-key-from
returns-then-key-from c = λ g.
    let a = c.args in
    let l = c.loop-r in
    absurd (omega (arith, key_room _ _ _ _ (l.invariant.2 g) (omega arith) a.key.now g.long, c.cells-cells.ensures g.allowed, l.invariant.1))

pub loop-r-preserved : goal.loop-r-preserved
loop-r-preserved c =
    let a = c.args in
    let l = c.loop-r in
    let cells = c.cells-cells in
    let call = c.fold_residues in (
      omega (arith, l.invariant.1),
      part_length l.from (l.from + cells.result - l.from) l.key call.new.t (omega arith) call.auto.t ∙ l.invariant.1,
      (λ g.
          fold_row_holds a.settings a.done a.e a.key.now g (l.invariant.2 g) (omega arith) l.invariant.1 _ _ (cells.ensures g.allowed)
          (c.half_left-h.ensures (record { allowed = g.allowed; turn = g.turn })) _ call.auto.t call.ensures),
    )

pub returns : goal.returns
returns c = λ g. folded_all _ _ _ _ g (c.loop-r.invariant.2 g) (omega arith)
