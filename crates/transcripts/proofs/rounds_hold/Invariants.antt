-- The rounds that are passed hold, and the claim is the one after them.
use Rattle.std.proofs.Common.{◌≡◌, List, ℕ, true, length}
use Rattle.protocol.specs.declared.Settings.{Settings}
use Rattle.protocol.specs.Basic.{every, Provided}
use Rattle.protocol.specs.Layout.{round_items}
use Rattle.protocol.specs.Transcript.{Transcript, holds_at, claim_after}
use Rattle.protocol.specs.Nodes.{Alike}
use Rattle.equations.specs.Items.{row_table}
use Rattle.transcripts.specs.Given.{whole, RoundsGiven}
use Rattle.transcripts.proofs.rounds_hold.Given as goal

abbrev pub row : Settings → List ℕ → List ℕ → List ℕ → Transcript
row settings claim rounds challenges = whole claim (row_table settings (round_items settings) rounds) challenges

abbrev pub invariant-loop-t : goal.invariant-loop-t
invariant-loop-t l =
    let S = l.fn.settings in
    let T = row S l.initial.claim l.rounds l.challenges in
    Provided (RoundsGiven S l.rounds (length l.initial.claim)) ((every l.t (holds_at S T) ≡ true) × Alike S.degree l.claim (claim_after S T l.t))
