-- What the moves of a session are lent, so that nothing of it is copied: a record in two parts, of which the claims stand in a slice, and elements of all rows in
-- slices, some places from each other: d in a flat table, `width` by value.
--
--   record_of p claims         the record whose parts these are
--   lent_rows S w t            the elements by value of each row that stand w places from each other in t
--   lent_polynomial S w c0 ..  the round polynomial of three such slices
--   RowsLent S w n             n numbers have an element of each row, w places from each other
--   StartLent, RoundLent       so it is with what a start and a round are lent, where the settings are allowed; the claims have their places
use Rattle.std.specs.Prelude.{List, [], ◌∷◌, ◌≡◌, ℕ, ◌+◌, ◌*◌, ◌≤◌, get_or}
use Rattle.protocol.specs.declared.Settings.{Settings}
use Rattle.protocol.specs.declared.Session.{Session}
use Rattle.protocol.specs.Basic.{tabulate}
use Rattle.protocol.specs.Layout.{width, rows_width}
use Rattle.protocol.specs.Settings.{settings_refusal}
use Rattle.protocol.specs.Rows.{at_rows}
use Rattle.verifier_refusals.specs.declared.Progress.{Progress}

abbrev pub record_of : Progress → List ℕ → Session
record_of p claims = record { settings = p.settings; done = p.done; claims = claims; challenges = p.challenges; closed = p.closed }

unfoldable pub lent_rows : Settings → ℕ → List ℕ → List ℕ
lent_rows S w t = at_rows S (λ r. tabulate S.degree (λ k. get_or t (r * w + k) 0))

abbrev pub lent_polynomial : Settings → ℕ → List ℕ → List ℕ → List ℕ → List (List ℕ)
lent_polynomial S w c0 c1 c2 = lent_rows S w c0 ∷ lent_rows S w c1 ∷ lent_rows S w c2 ∷ []

pub record RowsLent (S : Settings) (w n : ℕ) : Type 0 where
  pub apart : S.degree ≤ w
  pub near : w ≤ width
  pub long : S.rows * w ≤ n

abbrev pub StartLent : Settings → ℕ → ℕ → Type 0
StartLent S w n = settings_refusal S ≡ 0 → RowsLent S w n

pub record RoundLent (S : Settings) (claims w c0 c1 c2 : ℕ) : Type 0 where
  pub claims-long : claims ≡ rows_width
  pub first : StartLent S w c0
  pub second : StartLent S w c1
  pub third : StartLent S w c2
