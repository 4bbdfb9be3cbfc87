-- The products, then the sums with the first half and with the second. The products are ahead by X^(2a), which the sums turn back.
use mathlib.Core.Path.{◌≡◌, sym, ap, ◌∙◌}
use Prim.Native.Nat.{◌+◌, ◌*◌, ◌-◌, ◌%◌, ◌<◌, ◌≤◌}
use native.Mathlib.Nat as Nat
use native.Mathlib.Omega.{arith}
use borrow.Author.Rules.{rules}
use lib.IntN.{ℤ}
use lib.ListN.{length, take, drop}
use lib.Seq.{length-take-le}
use mathlib.Core.List.{List, ◌++◌}
use Rattle.protocol.specs.Tree.{gap}
use Rattle.protocol.specs.Layout.{width}
use Rattle.extraction.specs.Vectors.{scaled, turned}
use Rattle.extraction.proofs.Shares.{back_once, back_twice, share_scalable, share_turnable, share-added}
use Rattle.extraction.proofs.vectors.add_share.Statement.{statement}
use Rattle.extraction.proofs.vectors.add_share.Tie as tie

-- the degree is one, so that exponents go round
circle : (g : tie.Start) → (0 < g.args.d) × (g.args.d ≤ width)
circle g = (g.requires.1.some, g.requires.1.small)

-- the exponents
first : (c : tie.After-on_circle-k) → let a = c.args in c.on_circle-k.result ≡ gap a.d a.a a.b
unfolding gap
first c = c.on_circle-k.ensures.0 (circle c.before)

second : (c : tie.After-on_circle-m) → let a = c.args in c.on_circle-m.result ≡ gap a.d a.a a.c
unfolding gap
second c = c.on_circle-m.ensures.0 (circle c.before.before)

-- where the function began
abbrev at_scale : (c : tie.After-scale) → tie.Start
at_scale c = c.before.before.before.before.before.before

abbrev at_once : (c : tie.After-on_circle-once) → tie.Start
at_once c = at_scale c.before.before.before

once : (c : tie.After-on_circle-once) → let a = (at_once c).args in c.on_circle-once.result ≡ back_once a.d a.a
unfolding back_once
once c = c.on_circle-once.ensures.0 (circle (at_once c))

once_small : (c : tie.After-on_circle-once) → c.on_circle-once.result < 2 * (at_once c).args.d
once_small c = let g = at_once c in let p : 0 < 2 * g.args.d = omega (arith, g.requires.1.some) in omega (arith, c.on_circle-once.ensures.0 (circle g), Nat.mod-lt (2 * g.args.d - g.args.a) p)

twice : (c : tie.After-on_circle-twice) → let a = (at_once c.before).args in c.on_circle-twice.result ≡ back_twice a.d a.a
unfolding back_twice
twice c = c.on_circle-twice.ensures.0 (circle (at_once c.before)) ∙ ap (λ x. 2 * x % (2 * (at_once c.before).args.d)) (once c.before)

-- the products, and the node's vector behind them
products : (c : tie.After-scale) → let a = (at_scale c).args in
    c.scale.new.v ≡ scaled a.d a.n (gap a.d a.a a.b) (gap a.d a.a a.c) ((a.b + a.c) % (2 * a.d)) (take (a.n * a.d) a.l.now)
products c =
    let a = (at_scale c).args in
    let at = c in
    c.scale.ensures ∙ (λ i. scaled a.d a.n (first at.before.before.before.before.before i) (second at.before.before.before.before i) (at.on_circle-e.ensures.0 (circle (at_scale c)) i) (take (a.n * a.d) a.l.now))

abbrev whole : (c : tie.After-scale) → List ℤ
whole c = c.scale.new.v ++ drop ((at_scale c).args.n * (at_scale c).args.d) (at_scale c).args.l.now

-- the room for two copies of an element keeps its length
room : (c : tie.After-scale) → 2 * (at_scale c).args.d ≤ length c.scale.new.x
room c = omega (arith, (at_scale c).requires.0, c.scale.auto.x)

overflow_mul-back : tie.Need-overflow_mul-back
overflow_mul-back c = omega (arith, c.requires.1.small)

overflow_add-b : tie.Need-overflow_add-b
overflow_add-b c = omega (arith, c.requires.1.small, c.requires.1.others.0)

overflow_add-c : tie.Need-overflow_add-c
overflow_add-c c = omega (arith, c.requires.1.small, c.requires.1.others.1)

overflow_add-b-2 : tie.Need-overflow_add-b-2
overflow_add-b-2 c = omega (arith, c.requires.1.small, c.requires.1.others.0, c.requires.1.others.1)

slice_bounds-scale-end-2 : tie.Need-slice_bounds-scale-end-2
slice_bounds-scale-end-2 c = sym (length-take-le _ _ (omega (arith, c.requires.1.long)))

scale-requires : tie.Need-scale-requires
scale-requires c κs =
    let a = c.args in
    let is-e = c.on_circle-e.ensures.0 (circle c.before.before.before.before.before) in
    (c.requires.0, rw (first c.before.before.before.before, second c.before.before.before, is-e) (share_scalable a.d a.n a.a a.b a.c a.l.now c.requires.1))

overflow_mul-once : tie.Need-overflow_mul-once
overflow_mul-once c = omega (arith, once_small c, (at_once c).requires.1.small)

-- the sums follow the products
abbrev at_sums : (c : tie.After-on_circle-twice) → tie.After-scale
at_sums c = c.before.before.before.before

add_turned-requires : tie.Need-add_turned-requires
add_turned-requires c κs =
    let at = c.before.before in let s = at_sums at in let g = at_scale s in let a = g.args in
    (room s, rw (twice at, once c.before.before.before) (share_turnable a.d a.n a.a a.b a.c a.l.now g.requires.1 (products s)))

returns : tie.Need-returns
returns c =
    let at = c in let s = at_sums at.before.before.before.before.before in let g = at_scale s in let a = g.args in
    share-added a.d a.n a.a a.b a.c a.l.now g.requires.1 (products s)
    (c.add_turned.ensures ∙ (λ i. turned a.d a.n (twice at.before.before.before.before.before i) (once at.before.before.before.before.before.before i) a.n (whole s)))

pub add_share_spec : {M : Type 1} → statement M
add_share_spec =
    tie.close
    (tie.spec overflow_mul-back (λ c. search rules) overflow_add-b (λ c κs. search rules) overflow_add-c (λ c κs. search rules) overflow_add-b-2
    (λ c κs. search rules) (λ c. search rules) (λ c. search rules) slice_bounds-scale-end-2 scale-requires (λ c κs. search rules) overflow_mul-once
    (λ c κs. search rules) add_turned-requires (λ c. search rules) (λ c. search rules) returns)
