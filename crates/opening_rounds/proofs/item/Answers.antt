use Rattle.std.proofs.Common.{◌≡◌, ◌+◌, ◌^◌, Bool, true, false, List, ℤ, ℕ, sym, ap, ◌∙◌, subst, arith}
use Rattle.protocol.specs.declared.Settings.{Settings}
use Rattle.protocol.specs.Calls.{round_refusal}
use Rattle.protocol.specs.Layout.{item_cells}
use Rattle.protocol.specs.Opening.{half_left}
use Rattle.protocol.specs.Rows.{key_row}
use Rattle.residues.specs.Lists.{filled}
use Rattle.plain_products.specs.Rowwise.{row_places}
use Rattle.round_products.specs.Items.{inner_item, ItemsGiven}
use Rattle.round_products.proofs.Itemwise.{allowed, turn, first_given, sum_given}
use Rattle.opening_rounds.specs.Rounds.{half}
use Rattle.opening_rounds.proofs.item.Goals as goal

pub returns-then-t-settings : goal.returns-then-t-settings
returns-then-t-settings c = λ z _. absurd (omega (arith, turn _ _ _ _ z))

given : (sums : Bool) (S : Settings) (t : ℕ) (G : List ℕ) (m : List ℤ) → round_refusal S t G m ≡ 0 → ItemsGiven sums S (half_left S t) m G (key_row S G)
given true S t G m z = sum_given S t G m z
given false S t G m z = first_given S t G m z

pub returns : goal.returns
returns c = λ z room.
    let a = c.args in
    let S = a.settings in
    let t = a.t in
    let m = a.message.now in
    let G = a.key.now in
    let is : c.half_left-h.result ≡ half_left S t = c.half_left-h.ensures (record { allowed = allowed S t G m z; turn = turn S t G m z }) in
    c.items.ensures (key_row S G) (subst (λ h. ItemsGiven a.sums S h m G (key_row S G)) (sym is) (given a.sums S t G m z), room)
    ∙ ap (λ h. filled (row_places S.degree (inner_item a.sums S h (half S.modulus ^ (t + 1)) m (key_row S G))) (item_cells S) a.out.now) is
