use mathlib.Core.Path.{◌≡◌, sym, ap, ◌∙◌, subst}
use mathlib.Core.Bool.{true, false}
use Prim.Native.Nat.{◌+◌, ◌*◌, ◌^◌}
use native.Mathlib.Omega.{arith}
use Rattle.protocol.specs.Settings.{half}
use Rattle.protocol.specs.Layout.{item_cells}
use Rattle.protocol.specs.Opening.{half_left}
use Rattle.protocol.specs.Rows.{key_row}
use Rattle.residues.specs.Lists.{filled}
use Rattle.plain_products.specs.Rowwise.{row_places}
use Rattle.round_products.specs.Items.{inner_item, ItemsGiven}
use Rattle.round_products.proofs.Rowwise.{tail}
use Rattle.round_products.proofs.Itemwise.{allowed, turn, half-inside, first_given, second_given, sum_given, first-item, last_item, sum-item, three-below, middle-item}
use Rattle.round_products.proofs.polynomial.Goals as goal

pub returns-then-t-settings : goal.returns-then-t-settings
returns-then-t-settings c = λ z _. absurd (omega (arith, turn _ _ _ _ z))

pub returns-then-c0-n : goal.returns-then-c0-n
returns-then-c0-n c = λ z room. absurd (omega (arith, room.0, c.item_cells-n.ensures.0 (allowed _ _ _ _ z)))

pub returns-then-c1-n : goal.returns-then-c1-n
returns-then-c1-n c = λ z room. absurd (omega (arith, room.1, c.item_cells-n.ensures.0 (allowed _ _ _ _ z)))

pub returns-then-c2-n : goal.returns-then-c2-n
returns-then-c2-n c = λ z room. absurd (omega (arith, room.2, c.item_cells-n.ensures.0 (allowed _ _ _ _ z)))

pub returns-then-message-half : goal.returns-then-message-half
returns-then-message-half c = λ z room.
    let is = c.half_left-h.ensures (record { allowed = allowed _ _ _ _ z; turn = turn _ _ _ _ z }) in
    absurd (omega (
      arith,
      (half-inside _ _ _ _ z).0,
      ap (λ n. n * c.args.settings.degree) is,
    ))

pub returns-then-key-half : goal.returns-then-key-half
returns-then-key-half c = λ z room.
    let is = c.half_left-h.ensures (record { allowed = allowed _ _ _ _ z; turn = turn _ _ _ _ z }) in
    absurd (omega (
      arith,
      (half-inside _ _ _ _ z).1,
      ap (λ n. n * c.args.settings.degree) is,
    ))

pub returns : goal.returns
unfolding half
returns c = λ z room.
    let a = c.args in
    let S = a.settings in
    let d = S.degree in
    let t = a.t in
    let m = a.message.now in
    let G = a.key.now in
    let s = half S ^ (t + 1) in
    let n = c.item_cells-n.ensures.0 (allowed S t G m z) in
    let is : c.half_left-h.result ≡ half_left S t = c.half_left-h.ensures (record { allowed = allowed S t G m z; turn = turn S t G m z }) in
    let c0 = c.items.ensures (key_row S G)
    (subst (λ h. ItemsGiven false S h m G (key_row S G)) (sym is) (first_given S t G m z), room.0)
    ∙ ap (λ h. filled (row_places d (inner_item false S h s m (key_row S G))) (item_cells S) a.c0.now) is ∙ first-item S t G m z a.c0.now in
    let c2 = c.items-2.ensures
    (λ r. tail (c.half_left-h.result * d) (key_row S G r))
    (subst (λ h. ItemsGiven false S h (tail (h * d) m) (tail (h * d) G) (λ r. tail (h * d) (key_row S G r))) (sym is) (second_given S t G m z), room.2)
    ∙ ap (λ h. filled (row_places d (inner_item false S h s (tail (h * d) m) (λ r. tail (h * d) (key_row S G r)))) (item_cells S) a.c2.now) is ∙ last_item S t G m z a.c2.now in
    let x = c.items-3.ensures (key_row S G)
    (subst (λ h. ItemsGiven true S h m G (key_row S G)) (sym is) (sum_given S t G m z), room.1)
    ∙ ap (λ h. filled (row_places d (inner_item true S h s m (key_row S G))) (item_cells S) a.c1.now) is ∙ sum-item S t G m z a.c1.now in
    let below = three-below S t G m z _ _ _ a.c0.now a.c1.now a.c2.now x c0 c2 in
    record {
      first = c0;
      middle = c.difference.ensures (λ k l. below k (omega (arith, n))) ∙ middle-item S t G m z _ _ _ a.c0.now a.c1.now a.c2.now x c0 c2 _ n;
      last = c2;
    }
