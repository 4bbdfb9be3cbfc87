-- Its two rows, one beside the other.
use Rattle.rotations.proofs.Values.{front-done, back-done, both-done}
use Rattle.rotations.proofs.add_multiple.Goals as goal

pub returns : goal.returns
returns g c = λ q h.
    let a = c.args in
    let e = c.requires.0 in
    let there = c.requires.1 in
    let long = c.requires.2 in
    let r = c.row_start-s in
    let row = r.ensures.1 e in
    let s = c.split_at_mut-first in
    let sum = g.S.Sum.sum a.by in
    let allowed = g.S.Sum.allowed a.by in
    both-done sum allowed q a.d a.e r.result e r.ensures.0 row a.a.now a.out.now there long h.is h.may _ _
    (front-done sum allowed q a.d a.e r.result e r.ensures.0 row a.a.now a.out.now there long h.is h.may s.result.0.now _ s.ensures.front_len s.ensures.by_index.0 c.add_row.ensures)
    (back-done sum allowed q a.d a.e r.result e r.ensures.0 row a.a.now a.out.now there long h.is h.may s.result.1.now _ s.ensures.back_len s.ensures.by_index.1 c.add_row-2.ensures)
