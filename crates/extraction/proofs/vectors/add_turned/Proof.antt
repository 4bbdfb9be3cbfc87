-- The loop keeps: i elements are added in both places, everything else is as it was.
use mathlib.Core.Path.{◌≡◌, refl, ap, ◌∙◌}
use Prim.Native.Nat.{◌+◌, ◌*◌, ◌-◌, ◌<◌, ◌≤◌}
use native.Mathlib.Omega.{arith}
use borrow.Author.Rules.{rules}
use borrow.Rule.Slice.PartMut.{put_mid}
use lib.ListN.{length}
use Rattle.extraction.specs.Vectors.{turned}
use Rattle.extraction.proofs.Turning.{turned_none, turned-length, in_row, can_mirror, can_add_low, after_low, can_add_high, after_high}
use Rattle.extraction.proofs.vectors.add_turned.Statement.{statement}
use Rattle.extraction.proofs.vectors.add_turned.Tie as tie

abbrev invariant-loop-i : tie.invariant-loop-i
invariant-loop-i d n e f l₀ x₀ cells₀ i₀ l x i = (i ≤ n) × (l ≡ turned d n e f i l₀) × (length l ≡ length l₀) × (length x ≡ length x₀)

abbrev decreases-loop-i : tie.decreases-loop-i
decreases-loop-i d n e f l₀ x₀ cells₀ i₀ l x i = n - i

-- where a turn begins: its element is there, three times
here : (c : tie.In-loop-i invariant-loop-i decreases-loop-i) → let a = c.args in let l = c.loop-i in
    (l.i < a.n) × (l.i * a.d + a.d ≤ a.n * a.d) × (length a.l.now ≡ 3 * (a.n * a.d)) × (length l.l ≡ length a.l.now)
here c =
    let a = c.args in
    let lt : c.loop-i.i < a.n = omega arith in
    (lt, in_row a.d a.n a.e a.f a.l.now c.requires.1 c.loop-i.i lt, c.requires.1.long, c.loop-i.invariant.2)

overflow_mul-cells : tie.Need-overflow_mul-cells invariant-loop-i decreases-loop-i
overflow_mul-cells c = let h = c.requires.1.long in record { fits = omega arith }

loop-i-init : tie.Need-loop-i-init invariant-loop-i decreases-loop-i
loop-i-init c = let a = c.args in (omega arith, turned_none a.d a.n a.e a.f a.l.now c.requires.1, refl, refl)

overflow_mul-at : tie.Need-overflow_mul-at invariant-loop-i decreases-loop-i
overflow_mul-at c = let h = here c in record { fits = omega arith }

offset_bounds-l-at : tie.Need-offset_bounds-l-at invariant-loop-i decreases-loop-i
offset_bounds-l-at c = let h = here c in record { fits = omega arith }

slice_bounds-mirror-count : tie.Need-slice_bounds-mirror-count invariant-loop-i decreases-loop-i
slice_bounds-mirror-count c = let h = here c in omega arith

slice_bounds-mirror-start : tie.Need-slice_bounds-mirror-start invariant-loop-i decreases-loop-i
slice_bounds-mirror-start c = let h = here c in omega arith

mirror-requires : tie.Need-mirror-requires invariant-loop-i decreases-loop-i
mirror-requires c κs =
    let l = c.loop-i in let a = c.args in
    can_mirror a.d a.n a.e a.f a.l.now c.requires.1 l.i (here c.before.before).0 l.invariant.1 l.invariant.2 l.x (omega (arith, c.requires.0, l.invariant.3))

overflow_add-low : tie.Need-overflow_add-low invariant-loop-i decreases-loop-i
overflow_add-low c = let h = here c.before.before.before.before in record { fits = omega arith }

offset_bounds-l-low : tie.Need-offset_bounds-l-low invariant-loop-i decreases-loop-i
offset_bounds-l-low c = let h = here c.before.before.before.before in record { fits = omega arith }

slice_bounds-add_rotated-count : tie.Need-slice_bounds-add_rotated-count invariant-loop-i decreases-loop-i
slice_bounds-add_rotated-count c = let h = here c.before.before.before.before in omega arith

slice_bounds-add_rotated-start : tie.Need-slice_bounds-add_rotated-start invariant-loop-i decreases-loop-i
slice_bounds-add_rotated-start c = let h = here c.before.before.before.before in omega arith

add_rotated-requires : tie.Need-add_rotated-requires invariant-loop-i decreases-loop-i
add_rotated-requires c κs =
    let s = c.mirror in let l = c.loop-i in let a = c.args in
    can_add_low a.d a.n a.e a.f a.l.now c.requires.1 l.i (here c.before.before.before.before.before).0 l.invariant.1 l.invariant.2 (omega (arith, c.requires.0, l.invariant.3, s.auto.x)) s.ensures

-- the list keeps its length in the first sum
after : (c : tie.After-add_rotated invariant-loop-i decreases-loop-i) → let at = c in let a = at.args in let l = at.loop-i in
    let low = a.n * a.d + l.i * a.d in
    length (put_mid low (length l.l - low) l.l c.add_rotated.new.out) ≡ length a.l.now
after c =
    let s = c.mirror in let l = c.loop-i in
    let a = c.args in
    after_low a.d a.n a.e a.f a.l.now c.requires.1 l.i (here c.before.before.before.before.before.before).0 l.invariant.1 l.invariant.2 (omega (arith, c.requires.0, l.invariant.3, s.auto.x)) s.ensures
    c.add_rotated.ensures

overflow_add-high : tie.Need-overflow_add-high invariant-loop-i decreases-loop-i
overflow_add-high c = let h = here c.before.before.before.before.before.before.before in record { fits = omega arith }

offset_bounds-l-high : tie.Need-offset_bounds-l-high invariant-loop-i decreases-loop-i
offset_bounds-l-high c = let h = here c.before.before.before.before.before.before.before in let w = after c.before in record { fits = omega arith }

slice_bounds-add_rotated-count-in-loop-i : tie.Need-slice_bounds-add_rotated-count-in-loop-i invariant-loop-i decreases-loop-i
slice_bounds-add_rotated-count-in-loop-i c = let h = here c.before.before.before.before.before.before.before in let w = after c.before in omega arith

slice_bounds-add_rotated-start-in-loop-i : tie.Need-slice_bounds-add_rotated-start-in-loop-i invariant-loop-i decreases-loop-i
slice_bounds-add_rotated-start-in-loop-i c = let h = here c.before.before.before.before.before.before.before in let w = after c.before in omega arith

add_rotated-requires-in-loop-i : tie.Need-add_rotated-requires-in-loop-i invariant-loop-i decreases-loop-i
add_rotated-requires-in-loop-i c κs =
    let s = c.mirror in let l = c.loop-i in let a = c.args in
    can_add_high a.d a.n a.e a.f a.l.now c.requires.1 l.i (here c.before.before.before.before.before.before.before.before).0 l.invariant.1 l.invariant.2 (omega (arith, c.requires.0, l.invariant.3, s.auto.x)) s.ensures
    c.add_rotated.ensures

loop-i-preserved : tie.Need-loop-i-preserved invariant-loop-i decreases-loop-i
loop-i-preserved c =
    let s = c.mirror in let at = c.before.before.before.before.before.before.before.before.before.before in let l = c.loop-i in let a = c.args in
    let same = after_high a.d a.n a.e a.f a.l.now c.requires.1 l.i (here at).0 l.invariant.1 l.invariant.2 (omega (arith, c.requires.0, l.invariant.3, s.auto.x)) s.ensures
    c.add_rotated.ensures c.add_rotated-in-loop-i.ensures in (
      omega (arith, (here at).0),
      same,
      ap length same ∙ turned-length a.d a.n a.e a.f a.l.now c.requires.1 (l.i + 1) (omega (arith, (here at).0)),
      s.auto.x ∙ l.invariant.3,
    )

returns : tie.Need-returns invariant-loop-i decreases-loop-i
returns c =
    let a = c.args in
    c.loop-i.invariant.1 ∙ ap (λ j. turned a.d a.n a.e a.f j a.l.now) (omega arith)

pub add_turned_spec : {M : Type 1} → statement M
add_turned_spec =
    tie.close
    (tie.spec invariant-loop-i decreases-loop-i overflow_mul-cells loop-i-init overflow_mul-at offset_bounds-l-at slice_bounds-mirror-count slice_bounds-mirror-start (λ c. search rules) mirror-requires overflow_add-low offset_bounds-l-low
    slice_bounds-add_rotated-count slice_bounds-add_rotated-start (λ c. search rules) add_rotated-requires overflow_add-high offset_bounds-l-high slice_bounds-add_rotated-count-in-loop-i slice_bounds-add_rotated-start-in-loop-i (λ c. search rules)
    add_rotated-requires-in-loop-i (λ c. search rules) (λ c. search rules) loop-i-preserved (λ c. search rules) (λ c. search rules) returns)
