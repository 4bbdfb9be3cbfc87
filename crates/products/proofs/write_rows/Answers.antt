use mathlib.Core.Path.{◌≡◌, refl, ap, ◌∙◌}
use Prim.Native.Nat.{ℕ, ◌+◌, ◌*◌, ◌-◌, ◌<◌, ◌≤◌}
use native.Mathlib.Nat as Nat
use native.Mathlib.Omega.{arith}
use lib.ListN.{length, get_or, take, drop}
use Rattle.residues.specs.Lists.{filled}
use Rattle.residues.proofs.Parts.{tail_at, tail-length}
use Rattle.half_sums.specs.Halves.{size_of, messages_of}
use Rattle.plain_products.specs.Sums.{inner_element}
use Rattle.plain_products.specs.Rowwise.{element_places, row_places}
use Rattle.product_sums.proofs.Rows.{known}
use Rattle.plain_products.proofs.Rows.{given_alike}
use Rattle.products.proofs.Rows.{key_given, element-alike, row_stored, written_none, table_room, written_more}
use Rattle.products.proofs.write_rows.Goals as goal

pub loop-init : goal.loop-init
loop-init c = (omega arith, omega arith, λ _ _ _. written_none _ _ _ _ _)

pub returns-then-out-at : goal.returns-then-out-at
returns-then-out-at c = λ f G z. absurd (omega (arith, table_room _ _ _ _ _ (c.loop.invariant.2 f G z) (omega arith) z.1))

pub loop-preserved : goal.loop-preserved
loop-preserved c =
    let a = c.args in
    let l = c.loop in
    let store = c.store in
    let next = c.further-from in (
      next.ensures.0,
      omega arith,
      (λ f G z.
          let w = l.invariant.2 f G z in
          let h : l.counter < a.shape.rows = omega arith in
          let given = z.0.rows in
          let from : l.from ≡ l.counter * a.shape.stride = w.from_is h in
          let row = take (length a.g.now - l.from) (drop l.from a.g.now) in
          let same : (p : ℕ) → p < size_of a.shape.sums a.shape.degree a.shape.elements → get_or row p 0 ≡ get_or (G l.counter) p 0 =
          λ p m. tail_at l.from a.g.now p 0 ∙ ap (λ v. get_or a.g.now (v + p) 0) from ∙ given.alike l.counter p h m in
          let long : size_of a.shape.sums a.shape.degree a.shape.elements ≤ length row = omega (arith, tail-length l.from a.g.now, given.long l.counter h) in
          let here = given_alike 12289 a.shape.degree a.shape.elements f row (G l.counter) a.shape.sums (given.given l.counter h) long same in
          let all = known a.shape.sums 12289 a.shape.degree a.shape.elements f row here in
          let element = c.inner-element.ensures (messages_of a.shape.sums a.shape.degree a.shape.elements f)
          (z.0.suits, z.2, z.3, key_given a.shape.sums 12289 a.shape.degree a.shape.elements f row here refl) in
          written_more a.shape.degree a.shape.rows a.shape.stride (λ i. inner_element a.shape.sums 12289 a.shape.degree a.shape.elements f (G i)) a.out.now w h z.1 _
          (λ m. next.ensures.1 (omega (arith, from, given.long (l.counter + 1) m, Nat.add-mul l.counter 1 a.shape.stride))) store.new.out
          (row_stored 12289 a.shape.degree _ _ _ _ element (store.ensures (record { there = omega (arith, all.degree_most); room = omega (arith, tail-length l.at l.out) }))
          ∙ ap (λ e. filled (element_places e) a.shape.degree (take (length l.out - l.at) (drop l.at l.out))) (element-alike 12289 a.shape.degree a.shape.elements f row (G l.counter) a.shape.sums all.degree same))),
    )

pub returns : goal.returns
returns c = λ f G z.
    let a = c.args in
    let l = c.loop in
    (l.invariant.2 f G z).is ∙ ap (λ m. filled (row_places a.shape.degree (λ i. inner_element a.shape.sums 12289 a.shape.degree a.shape.elements f (G i))) (m * a.shape.degree) a.out.now) {x = l.counter} {y = a.shape.rows} (omega arith)
