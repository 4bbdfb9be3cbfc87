-- PROTOCOL 8.1: what a call answers, by its numbers. Every answer begins with the refusal's number, 0 where nothing is refused; in a refused call every other
-- part is 0, but for a record that is handed back.
--
--   Committed .. Written      the answers of the calls
--   Verdict                   what a verifier says; `Silent` is the 0 of a refused call
--   Number, Entry, Verified   what the number reader, the line reader and the program `verify` answer
--
-- In the code an answer is a `Result`, or beside a record is one. Its numbers are given here, case by case:
--
--   said v            what is said, as a Verdict
--   as_committed x ..    the answer of which x is the code's
use Rattle.std.specs.Prelude.{Bool, false, List, ℕ, ℤ, Result, Ok, Err, Option, Some, None}
use Rattle.protocol.specs.declared.Settings.{Settings}
use Rattle.protocol.specs.declared.Session.{Session}
use Rattle.protocol.specs.declared.Refusal.{Refusal}
use Rattle.protocol.specs.declared.Verdict.{Verdict as Says}
use Rattle.protocol.specs.declared.Verdict.TheVariants as Code
use Rattle.protocol.specs.declared.Outcome.{Outcome}
use Rattle.protocol.specs.declared.Handed.{Handed}
use Rattle.protocol.specs.declared.Number.{Number as Counted}
use Rattle.protocol.specs.declared.Line.{Line}
use Rattle.protocol.specs.Basic.{tabulate}
use Rattle.protocol.specs.Element.{zeros, signed_zeros, width}
use Rattle.protocol.specs.Layout.{rows_width}
use Rattle.protocol.specs.Refusal.{number, refusal_of}

pub data Verdict : Type 0 where
  Silent : Verdict
  Holds : Verdict
  Accepted : Verdict
  Rejected : Verdict

pub record Committed : Type 0 where
  pub refusal : ℕ
  pub commitment : List ℕ

pub record Polynomial : Type 0 where
  pub refusal : ℕ
  pub elements : List (List ℕ)

pub record Ended : Type 0 where
  pub refusal : ℕ
  pub last : List ℤ

pub record Opened : Type 0 where
  pub refusal : ℕ
  pub commitment : List ℕ
  pub last : List ℤ
  pub verdict : Verdict

pub record Started : Type 0 where
  pub refusal : ℕ
  pub next : Session

pub record Moved : Type 0 where
  pub refusal : ℕ
  pub verdict : Verdict
  pub next : Session

pub record Checked : Type 0 where
  pub refusal : ℕ
  pub verdict : Verdict

pub record Judged : Type 0 where
  pub refusal : ℕ
  pub yes : Bool

pub record Loaded : Type 0 where
  pub refusal : ℕ
  pub settings : Settings

pub record Written : Type 0 where
  pub refusal : ℕ
  pub count : ℕ

pub data Number : Type 0 where
  Value : ℤ → ℕ → Number
  Refused : ℕ → Number

pub data Entry : Type 0 where
  Found : ℕ → ℕ → ℕ → ℤ → ℕ → Entry
  Malformed : Entry

pub data Verified : Type 0 where
  Accepted : Verified
  Rejected : Verified
  Refused : ℕ → Verified

-- ---- the code's answers

abbrev pub said : Says → Verdict
said Code.Holds = Verdict.Holds
said Code.Accepted = Verdict.Accepted
said Code.Rejected = Verdict.Rejected

-- what is said of a call that may be refused
abbrev pub as_verdict : Result Says Refusal → Verdict
as_verdict (Ok v) = said v
as_verdict (Err r) = Verdict.Silent

abbrev pub as_committed : Result (List ℕ) Refusal → Committed
as_committed (Ok c) = record { refusal = 0; commitment = c }
as_committed (Err r) = record { refusal = number r; commitment = zeros rows_width }

unfoldable pub no_polynomial : List (List ℕ)
no_polynomial = tabulate 3 (λ j. zeros rows_width)

abbrev pub as_polynomial : Result (List (List ℕ)) Refusal → Polynomial
as_polynomial (Ok p) = record { refusal = 0; elements = p }
as_polynomial (Err r) = record { refusal = number r; elements = no_polynomial }

abbrev pub as_ended : Result (List ℤ) Refusal → Ended
as_ended (Ok f) = record { refusal = 0; last = f }
as_ended (Err r) = record { refusal = number r; last = signed_zeros width }

abbrev pub as_opened : Result Outcome Refusal → Opened
as_opened (Ok o) = record { refusal = 0; commitment = o.commitment; last = o.last; verdict = said o.verdict }
as_opened (Err r) = record { refusal = number r; commitment = zeros rows_width; last = signed_zeros width; verdict = Verdict.Silent }

abbrev pub as_started : Handed Unit Session → Started
as_started h = record { refusal = refusal_of h.said; next = h.next }

abbrev pub as_moved : Handed Says Session → Moved
as_moved h = record { refusal = refusal_of h.said; verdict = as_verdict h.said; next = h.next }

abbrev pub as_checked : Result Says Refusal → Checked
as_checked x = record { refusal = refusal_of x; verdict = as_verdict x }

abbrev pub as_judged : Result Bool Refusal → Judged
as_judged (Ok b) = record { refusal = 0; yes = b }
as_judged (Err r) = record { refusal = number r; yes = false }

-- PROTOCOL 7.4: the settings of a text that is refused
unfoldable pub no_settings : Settings
no_settings = record { degree = 0; depth = 0; modulus = 0; bound = 0; rows = 0 }

abbrev pub as_loaded : Result Settings Refusal → Loaded
as_loaded (Ok S) = record { refusal = 0; settings = S }
as_loaded (Err r) = record { refusal = number r; settings = no_settings }

abbrev pub as_written : Result ℕ Refusal → Written
as_written (Ok n) = record { refusal = 0; count = n }
as_written (Err r) = record { refusal = number r; count = 0 }

abbrev pub as_number : Result Counted Refusal → Number
as_number (Ok n) = Number.Value n.value n.next
as_number (Err r) = Number.Refused (number r)

abbrev pub as_entry : Option Line → Entry
as_entry (Some l) = Entry.Found l.part l.item l.place l.value l.next
as_entry None = Entry.Malformed
