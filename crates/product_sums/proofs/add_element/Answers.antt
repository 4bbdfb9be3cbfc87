use mathlib.Core.Path.{◌≡◌, sym, ap, ◌∙◌}
use Prim.Native.Nat.{ℕ, ◌*◌, ◌<◌}
use native.Mathlib.Omega.{arith}
use Rattle.protocol.specs.Element.{Element, signed}
use Rattle.residues.proofs.Parts.{tail-length}
use Rattle.half_sums.specs.Halves.{messages_of, keys_of}
use Rattle.strands.proofs.Weaving.{place_most}
use Rattle.product_sums.proofs.Rows.{first_known, key_rows, small_element, element-added, message-part, message-sums, message_at, part-inside, addable}
use Rattle.product_sums.proofs.add_element.Goals as goal

pub overflow_mul-at : goal.overflow_mul-at
overflow_mul-at c = omega
    (arith, place_most c.args.shape.degree c.args.shape.elements c.args.i (omega arith) c.requires.0 (omega (arith, c.requires.1)))

pub returns-then-sums : goal.returns-then-sums
returns-then-sums c = λ G F count m z.
    let a = c.args in
    let known = first_known a.shape.sums a.shape.modulus a.shape.degree a.shape.elements a.shape.rows a.shape.stride a.f.now a.g.now G z.0 in
    let t = c.if-sums.true in
    let K : ℕ → Element = λ r. keys_of a.shape.sums a.shape.modulus a.shape.degree a.shape.elements (G r) a.i in
    let ready = c.prepare.ensures G (key_rows a.shape.sums a.shape.modulus a.shape.degree a.shape.elements a.shape.rows a.shape.stride a.f.now a.g.now G z.0, c.requires.1, z.2.key, z.2.strands, z.2.prepared) in
    let sum = c.add_message.ensures a.shape.elements a.i
    (message_at a.shape.sums t a.shape.modulus a.shape.degree a.shape.elements a.i a.f.now (G 0) (z.0.given 0 z.0.some) c.requires.1, z.2.message) in
    let is : (j : ℕ) → j < a.shape.degree → signed _ j ≡ messages_of a.shape.sums a.shape.degree a.shape.elements a.f.now a.i j = λ j l. message-sums a.shape.degree a.shape.elements a.i a.f.now _ sum j l ∙ ap
    (λ b. messages_of b a.shape.degree a.shape.elements a.f.now a.i j) (sym t) in
    element-added a.shape.sums a.shape.modulus a.shape.rows a.shape.degree a.shape.elements m a.i a.f.now z.1 c.requires.1 _ is known.degree F K _ _ _
    (c.add_prepared.ensures F K count m (
      addable a.shape.sums a.shape.modulus a.shape.rows a.shape.degree a.shape.elements m _ _ a.f.now _ (G 0) known z.0.some z.0.most
          (omega (arith, z.2.message, c.add_message.auto.m))
          (small_element a.shape.sums a.shape.modulus a.shape.rows a.shape.degree a.shape.elements m a.i a.f.now z.1 c.requires.1 _ is) z.2.lowers z.2.uppers,
      ready,
      z.3,
    ))

pub returns-then-f-at : goal.returns-then-f-at
returns-then-f-at c = λ G F count m z. let a
    = c.args in
    absurd (omega (
      arith,
      part-inside a.shape.sums c.if-sums.false a.shape.modulus a.shape.degree a.shape.elements a.i a.f.now (G 0)
          (first_known a.shape.sums a.shape.modulus a.shape.degree a.shape.elements a.shape.rows a.shape.stride a.f.now a.g.now G z.0) c.requires.1,
    ))

pub returns : goal.returns
returns c = λ G F count m z.
    let a = c.args in
    let known = first_known a.shape.sums a.shape.modulus a.shape.degree a.shape.elements a.shape.rows a.shape.stride a.f.now a.g.now G z.0 in
    let t = c.if-sums.false in
    let K : ℕ → Element = λ r. keys_of a.shape.sums a.shape.modulus a.shape.degree a.shape.elements (G r) a.i in
    let ready = c.prepare.ensures G
    (key_rows a.shape.sums a.shape.modulus a.shape.degree a.shape.elements a.shape.rows a.shape.stride a.f.now a.g.now G z.0, c.requires.1, z.2.key, z.2.strands, z.2.prepared) in
    let is : (j : ℕ) → j < a.shape.degree → signed _ j ≡ messages_of a.shape.sums a.shape.degree a.shape.elements a.f.now a.i j = λ j l. message-part a.shape.degree a.shape.elements a.i a.f.now j l ∙ ap
    (λ b. messages_of b a.shape.degree a.shape.elements a.f.now a.i j) (sym t) in
    element-added a.shape.sums a.shape.modulus a.shape.rows a.shape.degree a.shape.elements m a.i a.f.now z.1 c.requires.1 _ is known.degree F K _ _ _
    (c.add_prepared-2.ensures F K count m (
      addable a.shape.sums a.shape.modulus a.shape.rows a.shape.degree a.shape.elements m _ _ a.f.now _ (G 0) known z.0.some z.0.most
          (omega (arith, part-inside a.shape.sums t a.shape.modulus a.shape.degree a.shape.elements a.i a.f.now (G 0) known c.requires.1, tail-length (a.i * a.shape.degree) a.f.now))
          (small_element a.shape.sums a.shape.modulus a.shape.rows a.shape.degree a.shape.elements m a.i a.f.now z.1 c.requires.1 _ is) z.2.lowers z.2.uppers,
      ready,
      z.3,
    ))
