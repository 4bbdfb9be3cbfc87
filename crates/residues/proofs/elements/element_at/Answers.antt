-- What is there of the element is copied over what is read where there is nothing.
use Rattle.std.proofs.Common.{◌-◌, ◌*◌, ◌≤◌, length, take, drop, sym, ◌∙◌, arith}
use Rattle.residues.proofs.Splice.{spliced-none}
use Rattle.residues.proofs.Parts.{tail-length, part}
use Rattle.residues.proofs.elements.element_at.Goals as goal

pub returns-then-at-t : goal.returns-then-at-t
returns-then-at-t g c = λ h. let a = c.args in let z = g.T.Entry.NONE in
    spliced-none _ 0 _ ∙ part z a.d 0 (a.i * a.d) a.t.now (omega arith) h (λ _. omega arith) c.NONE-a.ensures ∙ sym (g.T.Entry.element_is a.d a.t.now a.i)

pub returns : goal.returns
returns g c = λ h.
    let a = c.args in
    let there = c.min-there.result in
    let least = c.min-there.ensures in
    let room : there ≤ length (take (length a.t.now - a.i * a.d) (drop (a.i * a.d) a.t.now)) = omega (arith, tail-length (a.i * a.d) a.t.now, least) in
    c.store.ensures (record { there = room; room = omega (arith, least) })
    ∙ part g.T.Entry.NONE a.d there (a.i * a.d) a.t.now (omega (arith, least)) h (λ l. omega (arith, least)) c.NONE-a.ensures
    ∙ sym (g.T.Entry.element_is a.d a.t.now a.i)
