use Rattle.std.proofs.Common.{refl, ap, ◌∙◌, arith}
use Rattle.protocol.specs.Layout.{item_cells}
use Rattle.prover_refusals.proofs.Given.{first_row, round_given, round_key}
use Rattle.residues.specs.Lists.{spliced}
use Rattle.residues.proofs.Parts.{tail-length}
use Rattle.plain_products.specs.Rowwise.{row_places}
use Rattle.plain_products.proofs.Rowwise.{put_first}
use Rattle.opening_rounds.specs.Rounds.{round_item}
use Rattle.opening_turns.proofs.Storing.{place}
use Rattle.opening_turns.proofs.storage.write_first.Goals as goal

pub returns-then-t-settings : goal.returns-then-t-settings
returns-then-t-settings c = (
  (λ z _. let a = c.args in absurd (omega (
    arith,
    (round_given a.settings a.key.now a.message.now a.t z 0
        (first_row a.settings (round_key a.settings a.key.now a.message.now a.t z).0)).turn,
  ))),
  λ _. refl,
)

pub returns-then-rounds-at : goal.returns-then-rounds-at
returns-then-rounds-at c = let a = c.args in
    ((λ z room. absurd (omega (arith, place a.settings a.t a.key.now a.message.now z _ c.polynomial_at-at.ensures.0, room))), λ stop. absurd (omega arith))

pub returns : goal.returns
returns c = (
  (λ z room.
      let a = c.args in
      let S = a.settings in
      let at = c.polynomial_at-at.result in
      let is = place S a.t a.key.now a.message.now z at c.polynomial_at-at.ensures.0 in
      put_first (row_places S.degree (round_item S a.t a.key.now a.message.now 0)) at (item_cells S) a.rounds.now _
      (c.first_item.ensures z (omega (arith, tail-length at a.rounds.now, is, room)))
      ∙ ap (λ n. spliced (row_places S.degree (round_item S a.t a.key.now a.message.now 0)) n (item_cells S) a.rounds.now) is),
  λ stop. absurd (omega arith),
)
