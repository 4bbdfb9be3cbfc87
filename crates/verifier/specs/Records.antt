-- A session's record at its start and after its moves, where its claims stand beside it.
--
--   row_read S C i           the first d places of row i of a commitment
--   shut_of p, counted_of p e a record beside its claims, closed, and after a round that holds: one round more is done, and its challenge e is stored
--   started_with, moved_with  the answer of a start, and of a move, with the claims of the next record
--   LastLent S x y            x numbers have the claims, and y numbers an element, where the settings are allowed
use Rattle.std.specs.Prelude.{true, List, ◌≡◌, ℕ, ◌+◌, ◌≤◌, get_or, set}
use Rattle.protocol.specs.declared.Settings.{Settings}
use Rattle.protocol.specs.declared.Handed.{Handed}
use Rattle.protocol.specs.declared.Verdict.{Verdict}
use Rattle.protocol.specs.Answers.{Started, Moved, as_verdict}
use Rattle.protocol.specs.Basic.{tabulate}
use Rattle.protocol.specs.Element.{value_row}
use Rattle.protocol.specs.Layout.{rows_width}
use Rattle.protocol.specs.Refusal.{refusal_of}
use Rattle.protocol.specs.Settings.{settings_refusal}
use Rattle.verifier_refusals.specs.declared.Progress.{Progress}
use Rattle.verifier_refusals.specs.Lent.{record_of}

abbrev pub row_read : Settings → List ℕ → ℕ → List ℕ
row_read S C i = tabulate S.degree (λ k. get_or (value_row C i) k 0)

abbrev pub shut_of : Progress → Progress
shut_of p = record { settings = p.settings; done = p.done; challenges = p.challenges; closed = true }

abbrev pub counted_of : Progress → ℕ → Progress
counted_of p e = record { settings = p.settings; done = p.done + 1; challenges = set p.challenges p.done e; closed = p.closed }

abbrev pub started_with : Handed Unit Progress → List ℕ → Started
started_with h claims = record { refusal = refusal_of h.said; next = record_of h.next claims }

abbrev pub moved_with : Handed Verdict Progress → List ℕ → Moved
moved_with h claims = record { refusal = refusal_of h.said; verdict = as_verdict h.said; next = record_of h.next claims }

pub record LastLent (S : Settings) (claims final : ℕ) : Type 0 where
  pub claims-long : claims ≡ rows_width
  pub final_long : settings_refusal S ≡ 0 → S.degree ≤ final
