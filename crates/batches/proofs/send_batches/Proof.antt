-- The loop keeps: the first t batches are transformed.
use mathlib.Core.Path.{◌≡◌, refl, sym, ap, ◌∙◌, subst}
use Prim.Native.Nat.{ℕ, ◌+◌, ◌*◌, ◌-◌, ◌≤◌}
use borrow.Rule.Slice.PartMut.{put_mid}
use native.Mathlib.Omega.{arith}
use lib.ListN.{length, take, drop}
use Rattle.powers.specs.Powers.{Below}
use Rattle.transform.specs.Strands.{Room}
use Rattle.half_sums.specs.Halves.{messages_of}
use Rattle.batches.specs.Batches.{Suits, MessageGiven}
use Rattle.batches.proofs.Sending.{batch_inside, part_length, put-length, Begun, begun-none, next_room, begun_more}
use borrow.Author.Rules.{rules}
use Rattle.batches.proofs.send_batches.Statement.{statement}
use Rattle.batches.proofs.send_batches.Tie as tie

abbrev invariant-loop-t : tie.invariant-loop-t
invariant-loop-t sums level d n f x₀ cells t₀ t-end x t =
    (t ≤ t-end) × (length x ≡ length x₀)
    × (Suits 12289 d n level × MessageGiven sums d n f × Below 49156 x₀ → Begun level (d * 16) t (messages_of sums d n f) x)

abbrev decreases-loop-t : tie.decreases-loop-t
decreases-loop-t sums level d n f x₀ cells t₀ t-end x t = t-end - t

overflow_mul-cells : tie.Need-overflow_mul-cells invariant-loop-t decreases-loop-t
overflow_mul-cells c = omega (arith, c.requires.1)

loop-t-init : tie.Need-loop-t-init invariant-loop-t decreases-loop-t
loop-t-init c = (omega arith, refl, λ z. begun-none _ _ _ _ z.2)

overflow_mul-at : tie.Need-overflow_mul-at invariant-loop-t decreases-loop-t
overflow_mul-at c = omega (
  arith,
  batch_inside c.args.d c.args.n c.loop-t.t c.loop-t-test.true,
  c.requires.3,
  c.loop-t.invariant.1,
)

overflow_add-to : tie.Need-overflow_add-to invariant-loop-t decreases-loop-t
overflow_add-to c = omega (
  arith,
  batch_inside c.args.d c.args.n c.loop-t.t c.loop-t-test.true,
  c.requires.3,
  c.loop-t.invariant.1,
)

overflow_mul-t : tie.Need-overflow_mul-t invariant-loop-t decreases-loop-t
overflow_mul-t c = omega (arith, c.requires.0)

offset_bounds-x-at : tie.Need-offset_bounds-x-at invariant-loop-t decreases-loop-t
offset_bounds-x-at c = omega (
  arith,
  batch_inside c.args.d c.args.n c.loop-t.t c.loop-t-test.true,
  c.requires.3,
  c.loop-t.invariant.1,
)

slice_bounds-send_batch-count : tie.Need-slice_bounds-send_batch-count invariant-loop-t decreases-loop-t
slice_bounds-send_batch-count c = omega arith

slice_bounds-send_batch-start : tie.Need-slice_bounds-send_batch-start invariant-loop-t decreases-loop-t
slice_bounds-send_batch-start c = omega (
  arith,
  batch_inside c.args.d c.args.n c.loop-t.t c.loop-t-test.true,
  c.requires.3,
  c.loop-t.invariant.1,
)

slice_bounds-send_batch-end : tie.Need-slice_bounds-send_batch-end invariant-loop-t decreases-loop-t
slice_bounds-send_batch-end c = omega (
  arith,
  batch_inside c.args.d c.args.n c.loop-t.t c.loop-t-test.true,
  c.requires.3,
  c.loop-t.invariant.1,
)

send_batch-requires : tie.Need-send_batch-requires invariant-loop-t decreases-loop-t
send_batch-requires c κs = (omega (arith, c.loop-t-test.true), c.requires.1, c.requires.2)

loop-t-preserved : tie.Need-loop-t-preserved invariant-loop-t decreases-loop-t
loop-t-preserved c = let a = c.args in
    let l = c.loop-t in
    let call = c.send_batch in
    let C = a.d * 16 in
    let at = l.t * C in
    let M = messages_of a.sums a.d a.n a.f.now in
    let size : at + C - at ≡ C = omega arith in
    let room : at + C ≤ length l.x = omega (
      arith,
      batch_inside c.args.d
          c.args.n c.loop-t.t c.loop-t-test.true,
      c.requires.3,
      c.loop-t.invariant.1,
    ) in
    let lent : length call.new.x ≡ C = call.auto.x ∙ ap (λ m. length (take m (drop at l.x))) size ∙ part_length C l.t l.x room in (
      omega arith,
      ap (λ m. length (put_mid at m l.x call.new.x)) size ∙ put-length C l.t l.x call.new.x lent room ∙ l.invariant.1,
      (λ z.
          let begun = l.invariant.2 z in
          let e = ap (λ d. d * 16) z.0.degree in
          let ready = subst (λ m. Room a.level (take m (drop at l.x))) (sym size) (next_room a.level C l.t M l.x begun room e) in
          subst (λ m. Begun a.level C (l.t + 1) M (put_mid at m l.x call.new.x)) (sym size)
          (begun_more a.level C l.t M l.x begun room call.new.x lent (call.ensures (z.1, z.0.degree, z.0.most, ready)))),
    )

returns : tie.Need-returns invariant-loop-t decreases-loop-t
returns c = λ z t h. (c.loop-t.invariant.2 z).done t (omega arith)

pub send_batches_spec : {M : Type 1} → statement M
send_batches_spec =
    tie.close
    (tie.spec invariant-loop-t decreases-loop-t overflow_mul-cells loop-t-init overflow_mul-at overflow_add-to overflow_mul-t offset_bounds-x-at slice_bounds-send_batch-count slice_bounds-send_batch-start slice_bounds-send_batch-end send_batch-requires (λ c. search rules)
    (λ c. search rules) loop-t-preserved (λ c. search rules) returns)
