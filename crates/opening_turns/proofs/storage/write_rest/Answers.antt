use Rattle.std.proofs.Common.{◌+◌, ◌*◌, sym, ap, ◌∙◌, subst, arith, drop, length-drop}
use Rattle.protocol.specs.Layout.{item_cells, polynomial_at}
use Rattle.prover_refusals.proofs.Given.{round_key}
use Rattle.residues.specs.Lists.{spliced}
use Rattle.residues.proofs.Parts.{tail_all}
use Rattle.plain_products.specs.Rowwise.{row_places}
use Rattle.opening_rounds.specs.Rounds.{round_item, Continuing}
use Rattle.opening_turns.specs.Turns.{rest_stored}
use Rattle.opening_turns.proofs.Storing.{item-positive, put_rest, place}
use Rattle.opening_turns.proofs.storage.write_rest.Goals as goal

pub returns-then-rounds-at : goal.returns-then-rounds-at
returns-then-rounds-at c = λ z.
    let a = c.args in
    absurd (omega (
      arith,
      place a.settings a.t a.key.now a.message.now z.passed _ c.polynomial_at-at.ensures.0,
      z.room,
      length-drop (polynomial_at a.settings a.t) a.rounds.now,
      item-positive a.settings
          (round_key a.settings a.key.now a.message.now a.t z.passed).0,
    ))

pub returns : goal.returns
unfolding rest_stored
returns c = λ z.
    let a = c.args in
    let S = a.settings in
    let at = c.polynomial_at-at.result in
    let is = place S a.t a.key.now a.message.now z.passed at c.polynomial_at-at.ensures.0 in
    let one = row_places S.degree (round_item S a.t a.key.now a.message.now 1) in
    let two = row_places S.degree (round_item S a.t a.key.now a.message.now 2) in
    put_rest one two at (item_cells S) a.rounds.now _ (omega arith)
    (c.rest.ensures (subst (Continuing S a.t a.key.now a.message.now a.claims.now) (sym (tail_all at a.rounds.now ∙ ap (λ n. drop n a.rounds.now) is)) z))
    ∙ ap (λ n. spliced two (n + 2 * item_cells S) (item_cells S) (spliced one (n + item_cells S) (item_cells S) a.rounds.now)) is
