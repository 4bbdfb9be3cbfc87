-- The loop keeps: the sums stand for the inner product of the first 16·t elements, and the room may be filled again.
use mathlib.Core.Path.{◌≡◌, refl, sym, ap, ◌∙◌, subst}
use Prim.Native.Nat.{ℕ, ◌+◌, ◌*◌, ◌-◌, ◌/◌, ◌≤◌}
use native.Mathlib.Omega.{arith}
use lib.IntN.{pos}
use lib.ListN.{length, take, drop}
use Rattle.protocol.specs.Basic.{sum}
use Rattle.protocol.specs.Element.{Element, reduced, padded}
use Rattle.protocol.specs.Opening.{inner}
use Rattle.transform.specs.Strands.{Room, Values, Stands}
use Rattle.half_sums.specs.Halves.{keys_of}
use Rattle.batches.specs.Batches.{Suits, KeyGiven, Ready}
use Rattle.batches.proofs.Batching.{batch_stands}
use Rattle.batches.proofs.Sending.{batch_inside}
use borrow.Author.Rules.{rules}
use Rattle.batches.proofs.sum_batches.Statement.{statement}
use Rattle.batches.proofs.sum_batches.Tie as tie

abbrev invariant-loop-t : tie.invariant-loop-t
invariant-loop-t sums level d n x g y₀ s₀ cells t₀ t-end y s t =
    (t ≤ t-end)
    × ((F : ℕ → Element) → Suits 12289 d n level × Ready level d n F x × KeyGiven sums d n g × Room level y₀ × Stands level (λ _. pos 0) 0 s₀
    → Room level y × Stands level (inner d (t * 16) F (keys_of sums 12289 d n g)) t s)
    × (length y ≡ length y₀) × (length s ≡ length s₀)

abbrev decreases-loop-t : tie.decreases-loop-t
decreases-loop-t sums level d n x g y₀ s₀ cells t₀ t-end y s t = t-end - t

overflow_mul-cells : tie.Need-overflow_mul-cells invariant-loop-t decreases-loop-t
overflow_mul-cells c = omega (arith, c.requires.1)

loop-t-init : tie.Need-loop-t-init invariant-loop-t decreases-loop-t
unfolding inner sum
loop-t-init c = (omega arith, (λ F z. (z.3, z.4)), refl, refl)

overflow_mul-at : tie.Need-overflow_mul-at invariant-loop-t decreases-loop-t
overflow_mul-at c = omega (
  arith,
  batch_inside c.args.d c.args.n c.loop-t.t
      c.loop-t-test.true,
  c.requires.2,
)

overflow_add-to : tie.Need-overflow_add-to invariant-loop-t decreases-loop-t
overflow_add-to c = omega (
  arith,
  batch_inside c.args.d c.args.n c.loop-t.t
      c.loop-t-test.true,
  c.requires.2,
)

overflow_mul-t : tie.Need-overflow_mul-t invariant-loop-t decreases-loop-t
overflow_mul-t c = omega (arith, c.requires.0)

fill_key-requires : tie.Need-fill_key-requires invariant-loop-t decreases-loop-t
fill_key-requires c κs = (
  omega (arith, c.loop-t-test.true),
  c.requires.1,
  c.requires.3,
)

offset_bounds-x-at : tie.Need-offset_bounds-x-at invariant-loop-t decreases-loop-t
offset_bounds-x-at c = omega (
  arith,
  batch_inside c.args.d
      c.args.n c.loop-t.t
      c.loop-t-test.true,
  c.requires.2,
)

slice_bounds-add_batch-count : tie.Need-slice_bounds-add_batch-count invariant-loop-t decreases-loop-t
slice_bounds-add_batch-count c = omega arith

slice_bounds-add_batch-start : tie.Need-slice_bounds-add_batch-start invariant-loop-t decreases-loop-t
slice_bounds-add_batch-start c = omega (
  arith,
  batch_inside c.args.d
      c.args.n c.loop-t.t
      c.loop-t-test.true,
  c.requires.2,
)

slice_bounds-add_batch-end : tie.Need-slice_bounds-add_batch-end invariant-loop-t decreases-loop-t
slice_bounds-add_batch-end c = omega (
  arith,
  batch_inside c.args.d
      c.args.n c.loop-t.t
      c.loop-t-test.true,
  c.requires.2,
)

loop-t-preserved : tie.Need-loop-t-preserved invariant-loop-t decreases-loop-t
loop-t-preserved c = let a = c.args in
    let l = c.loop-t in
    let C = a.d * 16 in
    let at = l.t * C in
    let size : at + C - at ≡ C = omega arith in
    let G = keys_of a.sums 12289 a.d a.n a.g.now in
    let fill = c.fill_key in
    let add = c.add_batch in (
      omega arith,
      (λ F z.
          let before = l.invariant.1 F z in
          let full = fill.ensures a.level (z.2, z.0.degree, before.0) in
          let values = subst (λ m. Values a.level (λ i. F (l.t * 16 + i)) (take m (drop at a.x.now))) (sym size)
          (z.1 l.t c.loop-t-test.true) in
          let more = add.ensures (λ i. F (l.t * 16 + i)) (λ i. G (l.t * 16 + i)) (inner a.d (l.t * 16) F G) l.t
          (record {
            most = z.0.most;
            fits = omega (
              arith,
              c.requires.0,
              c.loop-t-test.true,
            );
            x_values = values;
            y_filled =
                full;
            stands = before.1;
          }) in
          (more.0, batch_stands a.level a.d l.t F G _ z.0.degree more.1)),
      add.auto.y ∙ fill.auto.y ∙ l.invariant.2,
      add.auto.sums ∙ l.invariant.3,
    )

returns : tie.Need-returns invariant-loop-t decreases-loop-t
returns c = λ F z.
    let l = c.loop-t in
    let a = c.args in
    let all : l.t * 16 ≡ a.n = omega (arith, z.0.whole) in
    c.finish.ensures _ _ (z.0.most, z.0.degree, (l.invariant.1 F z).1)
    ∙ ap (λ n. padded a.d (reduced 12289 a.d (inner a.d n F (keys_of a.sums 12289 a.d a.n a.g.now)))) all

pub sum_batches_spec : {M : Type 1} → statement M
sum_batches_spec =
    tie.close
    (tie.spec invariant-loop-t decreases-loop-t overflow_mul-cells loop-t-init overflow_mul-at overflow_add-to overflow_mul-t fill_key-requires offset_bounds-x-at slice_bounds-add_batch-count slice_bounds-add_batch-start slice_bounds-add_batch-end (λ c κs. search rules)
    (λ c. search rules) (λ c. search rules) loop-t-preserved (λ c κs. search rules) (λ c. search rules) (λ c. search rules) returns)
