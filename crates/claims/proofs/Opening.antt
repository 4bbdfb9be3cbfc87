-- The first half of demand 3: an opening of inputs that nothing refuses is not refused and is accepted, and move by move, with refused calls anywhere between, it comes out the same.
use mathlib.Core.Path.{◌≡◌, sym, ap, ◌∙◌}
use mathlib.Core.List.{List}
use Prim.Native.Nat.{ℕ}
use lib.ListN.{length}
use lib.IntN.{ℤ}
use Rattle.protocol.specs.declared.Settings.{Settings}
use Rattle.protocol.specs.declared.Session.{Session}
use Rattle.protocol.specs.Layout.{key_cells, round_cells, exponent_count}
use Rattle.protocol.specs.Settings.{cells}
use Rattle.protocol.specs.Rows.{round_tables}
use Rattle.protocol.specs.Calls.{opening_answer}
use Rattle.protocol.specs.Inputs.{Valid, Below, Within}
use Rattle.one_claim.specs.Demand3.{State, Run, begun, moves, SameAsWhole, OpeningClaim}
use Rattle.claims.proofs.Honest.{Given, opening-granted, opening-commitment, opening-rounds, opening_last, opening-key, opening-message, opening-verdict, opening-accepted}
use Rattle.claims.proofs.Moves.{rounds_after, finished, run-finished}

module _ {S : Settings} {G : List ℕ} {M : List ℤ} {E : List ℕ} (ok : Given S G M E) (rounds : List ℕ) (long : length rounds ≡ round_cells S) where
  same_as_whole : (r : Session) (st : State) → Run S E (moves S.depth) (begun M G r) st → SameAsWhole S G M E rounds st
  unfolding finished rounds_after round_tables
  same_as_whole r st run =
      let (p, e) = run-finished ok r st run in
      record {
        no_refusal = ap (λ a. a.heard.numbers) e;
        same_commitment = ap (λ a. a.heard.commitment) e ∙ sym (opening-commitment ok rounds long);
        same_rounds = ap (λ a. a.heard.rounds) e ∙ sym (opening-rounds ok rounds long);
        same_last = ap (λ a. a.heard.last) e ∙ sym (opening_last ok rounds long);
        same_verdict = ap (λ a. a.heard.verdict) e ∙ sym (opening-verdict ok rounds long);
        same_message = ap (λ a. a.held.message) e ∙ sym (opening-message ok rounds long);
        same_key = ap (λ a. a.held.key) e ∙ sym (opening-key ok rounds long);
        copy_kept = ap (λ a. a.held.copy) e;
      }

  whole_opening : OpeningClaim S G M E rounds
  unfolding opening_answer
  whole_opening = record {
    not_refused = opening-granted ok rounds long;
    says_accepted = opening-verdict ok rounds long;
    is_accepted = opening-accepted ok rounds long;
    by_moves = same_as_whole;
  }

pub opening-claim : (S : Settings) (G : List ℕ) → Valid S → Below S.modulus (key_cells S) G → (M : List ℤ) (E rounds : List ℕ)
    → Within S.bound (cells S) M → Below (exponent_count S) S.depth E → length rounds ≡ round_cells S → OpeningClaim S G M E rounds
opening-claim S G valid key M E rounds message challenges long = whole_opening (record { settings = valid; key = key; message = message; challenges = challenges }) rounds long
