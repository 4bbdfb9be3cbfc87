use mathlib.Core.Path.{ap, ◌∙◌, subst}
use native.Mathlib.Omega.{arith}
use Rattle.protocol.proofs.Reading.{row_inside}
use Rattle.half_sums.specs.Halves.{messages_of}
use Rattle.batches.specs.Batches.{MessageGiven}
use Rattle.batches.proofs.Batching.{message_at, message-placed, message-sum-placed, sums-size, table-size, least_size}
use borrow.Author.Rules.{rules}
use Rattle.batches.proofs.put_message.Statement.{statement}
use Rattle.batches.proofs.put_message.Tie as tie

overflow_mul-at : tie.Need-overflow_mul-at
overflow_mul-at c = let a = c.args in
    omega (arith, row_inside a.d a.n a.i c.requires.0, least_size a.sums a.d a.n, c.requires.2)

overflow_mul-n : tie.Need-overflow_mul-n
overflow_mul-n c = let a = c.args in
    let s = c.requires in
    let e = sums-size a.sums c.if-sums.true a.d a.n in
    omega (arith, row_inside a.d a.n a.i s.0, e, s.2)

overflow_add-n : tie.Need-overflow_add-n
overflow_add-n c = let a = c.args in
    let s = c.requires in
    let e = sums-size a.sums c.if-sums.true a.d a.n in
    omega (arith, row_inside a.d a.n a.i s.0, e, s.2)

offset_bounds-f-at : tie.Need-offset_bounds-f-at
offset_bounds-f-at c = let a = c.args in
    let s = c.requires in
    let e = table-size a.sums c.if-sums.false a.d a.n in
    omega (arith, row_inside a.d a.n a.i s.0, e, s.2)

slice_bounds-place_message-count : tie.Need-slice_bounds-place_message-count
slice_bounds-place_message-count c = let a = c.args in
    let s = c.requires in
    let e = table-size a.sums c.if-sums.false a.d a.n in
    omega (arith, row_inside a.d a.n a.i s.0, e, s.2)

slice_bounds-place_message-start : tie.Need-slice_bounds-place_message-start
slice_bounds-place_message-start c = let a = c.args in
    let s = c.requires in
    let e = table-size a.sums c.if-sums.false a.d a.n in
    omega (arith, row_inside a.d a.n a.i s.0, e, s.2)

returns-then-sums : tie.Need-returns-then-sums
returns-then-sums c = λ D F z.
    let a = c.args in
    let t = c.if-sums.true in
    let given = subst (λ b. MessageGiven b a.d a.n a.f.now) t z.0 in
    let is = z.3 ∙ ap (λ b. messages_of b a.d a.n a.f.now a.i) t in
    let sum = c.add_message.ensures a.n a.i (
      message_at D a.d a.n a.i a.l z.1 c.requires.0 z.2 a.f.now F _ z.4 given,
      omega (
        arith,
        c.requires.1,
        c.requires.3,
      ),
    ) in
    c.place_message.ensures D F (message-sum-placed D a.d a.n a.i a.l z.1
    c.requires.0 z.2 a.f.now F _ z.4 given is _ sum
    (omega (
      arith,
      c.requires.1,
      c.requires.3,
      c.add_message.auto.m,
    )))

returns-else-sums : tie.Need-returns-else-sums
returns-else-sums c = λ D F z.
    let a = c.args in
    let t = c.if-sums.false in
    let given = subst (λ b. MessageGiven b a.d a.n a.f.now) t z.0 in
    let is = z.3 ∙ ap (λ b. messages_of b a.d a.n a.f.now a.i) t in
    c.place_message-else-sums.ensures D F (message-placed D a.d a.n a.i a.l z.1 c.requires.0 z.2 a.f.now
    F _ z.4 given is)

pub put_message_spec : {M : Type 1} → statement M
put_message_spec =
    tie.close
    (tie.spec overflow_mul-at overflow_mul-n overflow_add-n (λ c κs. search rules) (λ c κs. search rules) offset_bounds-f-at slice_bounds-place_message-count slice_bounds-place_message-start (λ c. search rules)
    (λ c κs. search rules) (λ c. search rules) (λ c. search rules) returns-then-sums (λ c. search rules) returns-else-sums)
