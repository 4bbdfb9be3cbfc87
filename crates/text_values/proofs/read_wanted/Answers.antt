-- The length, and then the lines behind the settings.
use Rattle.std.proofs.Common.{◌≡◌, ℕ, ◌*◌, ◌≤◌, List, length, arith}
use Rattle.protocol.specs.declared.Settings.{Settings}
use Rattle.protocol.specs.Settings.{settings_refusal}
use Rattle.text_format.specs.Text.{text_limit}
use Rattle.text_lines.specs.declared.header.Begun.{Begun}
use Rattle.text_lines.specs.Header.{Begins}
use Rattle.text_lines.proofs.Looks.{header-within}
use Rattle.text_values.specs.Parts.{Roomy}
use Rattle.text_values.proofs.Gathers.{followed_long, followed-missed, followed-found}
use Rattle.text_values.proofs.read_wanted.Goals as goal

abbrev begun : Settings → ℕ → Begun
begun S next = record { settings = S; next = next }

asked : (text : List ℕ) (S : Settings) (from n : ℕ) → length text ≤ text_limit → Begins text S from × Roomy (length text) n
    → (settings_refusal S ≡ 0) × (from ≤ length text) × (length text ≤ 8 * n)
asked text S from n short (b, roomy) = (b.allowed, header-within text (begun S from) b.header, roomy short)

pub returns-then-text-gt-TEXT_LIMIT-clause-followed : goal.returns-then-text-gt-TEXT_LIMIT-clause-followed
unfolding text_limit
returns-then-text-gt-TEXT_LIMIT-clause-followed c b =
    let a = c.args in
    followed_long a.text.now a.parts (begun a.settings a.from) b.0.header _ c.if-text-gt-TEXT_LIMIT.true

pub returns-in_default-clause-followed : goal.returns-in_default-clause-followed
unfolding text_limit
returns-in_default-clause-followed c b =
    let a = c.args in
    let short : length a.text.now ≤ text_limit = omega arith in
    followed-missed a.text.now a.parts (begun a.settings a.from) b.0.header _ c.read_parts.result (c.read_parts.ensures.lines (asked a.text.now a.settings a.from _ short b)) c.in_default.is

pub returns-clause-followed : goal.returns-clause-followed
unfolding text_limit
returns-clause-followed c b =
    let a = c.args in
    let short : length a.text.now ≤ text_limit = omega arith in
    followed-found a.text.now a.parts (begun a.settings a.from) b.0.header _ c.read_parts.result (c.read_parts.ensures.lines (asked a.text.now a.settings a.from _ short b)) short b.0.allowed _ c.in-Some.is
