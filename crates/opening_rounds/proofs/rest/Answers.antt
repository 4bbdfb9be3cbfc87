use mathlib.Core.Path.{◌≡◌, sym, ap, ◌∙◌}
use Prim.Native.Nat.{◌-◌}
use native.Mathlib.Omega.{arith}
use Rattle.protocol.specs.Layout.{item_cells}
use Rattle.residues.specs.Lists.{spliced}
use Rattle.residues.proofs.Parts.{tail-length}
use Rattle.prover_refusals.proofs.Given.{round_key}
use Rattle.plain_products.specs.Rowwise.{row_places}
use Rattle.plain_products.proofs.Rowwise.{put_first}
use lib.ListN.{length, take, drop}
use Rattle.protocol.specs.Settings.{half}
use Rattle.round_products.proofs.Itemwise.{sum-item}
use Rattle.opening_rounds.specs.Rounds.{sum_item, sum_element}
use Rattle.opening_rounds.proofs.Continued.{claim-halves, sum-residues, front-residues, rest-is}
use Rattle.opening_rounds.proofs.rest.Goals as goal

pub returns-then-claim-n : goal.returns-then-claim-n
returns-then-claim-n c = λ z. let a = c.args in absurd (omega (arith, z.claim_long, c.item_cells-n.ensures.0 (round_key a.settings a.key.now a.message.now a.t z.passed).0))

pub returns-then-p-n : goal.returns-then-p-n
returns-then-p-n c = λ z. let a = c.args in absurd (omega (arith, z.room, c.item_cells-n.ensures.0 (round_key a.settings a.key.now a.message.now a.t z.passed).0))

pub returns : goal.returns
unfolding half sum_element
returns c = λ z.
    let a = c.args in
    let S = a.settings in
    let t = a.t in
    let m = a.message.now in
    let G = a.key.now in
    let claim = a.claim.now in
    let p = a.p.now in
    let n = c.item_cells-n.result in
    let n-is : n ≡ item_cells S = c.item_cells-n.ensures.0 (round_key S G m t z.passed).0 in
    let sums = c.item in
    let is1 = put_first (row_places S.degree (sum_item S t G m)) n (item_cells S) p sums.new.out (sums.ensures z.passed (omega (arith, tail-length n p, n-is, z.room)) ∙ sum-item S t G m z.passed (take (length p - n) (drop n p)))
    ∙ ap (λ k. spliced (row_places S.degree (sum_item S t G m)) n k p) (sym n-is) in
    let halves = claim-halves S t G m claim p z n n-is in
    let is2 = c.write_middle.ensures (sum-residues S t G m claim p z n n-is _ is1, halves) in
    rest-is S t G m claim p z n n-is _ is1 _ is2 _ (c.write_last.ensures (front-residues S t G m claim p z n n-is _ is1 _ is2, halves))
