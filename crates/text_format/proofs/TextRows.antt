-- Rows of examples on text: for each call what its definition gives for a text, and what the row says it gives.
use mathlib.Core.Bool.{Bool}
use mathlib.Core.List.{List, ◌++◌ as ◌++ᴸ◌}
use Prim.Native.Nat.{ℕ, ◌-◌}
use Prim.Native.String.{String}
use lib.ListN.{length, replicate}
use lib.IntN.{ℤ, pos}
use Rattle.protocol.specs.declared.Settings.{Settings}
use Rattle.protocol.specs.declared.Parts.{Parts}
use Rattle.protocol.specs.Answers.{Loaded}
use Rattle.protocol.specs.Answers.{Written}
use Rattle.protocol.specs.Answers.{Checked}
use Rattle.protocol.specs.Answers.{Verdict}
use Rattle.text_format.specs.Text.{Tables, Reading, value_limit, narrow_limit, bytes, no_settings, begins_with_names, look_answer, read_answer, read_exit}
use Rattle.text_format.specs.Text.{write_answer, write_exit, reading, read_number_at, read_count_at}
use Rattle.text_format.specs.Lines.{LineReading, line_reading, read_line_at, begun_answer}
use Rattle.text_format.specs.Programs.{prove_refusal, prove_answer, prove_exit, prove_output}
use Rattle.text_format.specs.Programs.{verify_refusal, verify_answer, verify_output, checked}
use Rattle.text_format.specs.RoundTrip.{outcome}

pub data Row : Type 0 where
  -- a program prints the second text for the first
  proves : String → String → Row
  verifies : String → String → Row
  -- a program refuses a text by this number, or takes it: 0
  prove : String → ℕ → Row
  verify : String → ℕ → Row
  -- does a text begin with the names line
  begins : String → Bool → Row
  -- a first look gives this number and these settings
  look_gives : String → ℕ → Settings → Row
  -- the answer of `verify` as number and verdict
  checks : String → ℕ → Verdict → Row
  -- `prove` as a call on an output slice of so many full stops: it refuses and leaves the slice; it gives a length and writes a text
  call_refused : String → ℕ → ℕ → Row
  call_gives : String → ℕ → ℕ → String → Row
  -- the reader refuses by this number and leaves the lent tables; it gives settings and tables
  read_refused : Parts → String → Tables → ℕ → Row
  read_gives : Parts → String → Tables → Settings → Tables → Row
  -- the writer on an output slice of so many full stops: it refuses by this number and leaves the slice;
  -- it gives this length, and writes this text over the first of them
  write_refused : Settings → Parts → Tables → ℕ → ℕ → Row
  write_gives : Settings → Parts → Tables → ℕ → ℕ → String → Row
  -- reading what was written, into these lent tables; writing what was read
  back : Settings → Parts → Tables → Tables → Row
  forth : Parts → String → Tables → Row
  -- the number, value and next place of the reader of values, and of the reader of parts, items and places
  number : String → ℕ → ℕ → ℤ → ℕ → Row
  count : String → ℕ → ℕ → ℤ → ℕ → Row
  -- the line reader's part, item, place, value and next place, or its refusal
  line_gives : String → ℕ → ℕ → ℕ → ℕ → ℤ → ℕ → Row
  line_refused : String → ℕ → Row
  -- the settings that a text begins with
  begun_gives : String → ℕ → Settings → Row

pub data Answer : Type 0 where
  prints : List ℕ → Answer
  refuses : ℕ → Answer
  says : Bool → Answer
  finds : Loaded → Answer
  judges : Checked → Answer
  reads : Loaded → Tables → Answer
  writes : Written → List ℕ → Answer
  gives : Reading → Answer
  gives_line : LineReading → Answer

abbrev pub stops : ℕ → List ℕ
stops n = replicate n 46

unfoldable pub given : Row → Answer
given (proves text line) = prints (prove_output (bytes text))
given (verifies text line) = prints (verify_output (bytes text))
given (prove text N) = refuses (prove_refusal (bytes text) 1000)
given (verify text N) = refuses (verify_refusal (bytes text))
given (begins text b) = says (begins_with_names (bytes text))
given (look_gives text N S) = finds (look_answer (bytes text))
given (checks text N v) = judges (checked (verify_answer (bytes text)))
given (call_refused text room N) = writes (prove_answer (bytes text) (stops room)) (prove_exit (bytes text) (stops room))
given (call_gives text room n line) = writes (prove_answer (bytes text) (stops room)) (prove_exit (bytes text) (stops room))
given (read_refused P text t N) = reads (read_answer P (bytes text) t) (read_exit P (bytes text) t)
given (read_gives P text t S u) = reads (read_answer P (bytes text) t) (read_exit P (bytes text) t)
given (write_refused S P t room N) = writes (write_answer S P t (stops room)) (write_exit S P t (stops room))
given (write_gives S P t room n text) = writes (write_answer S P t (stops room)) (write_exit S P t (stops room))
given (back S P t u) = reads (read_answer P (outcome S P t (stops 999)) u) (read_exit P (outcome S P t (stops 999)) u)
given (forth P text u) =
    let S = (read_answer P (bytes text) u).settings in
    let t = read_exit P (bytes text) u in
    writes (write_answer S P t (stops 999)) (write_exit S P t (stops 999))
given (number text at N value next) = gives (reading (read_number_at value_limit (bytes text) at))
given (count text at N value next) = gives (reading (read_count_at narrow_limit (bytes text) at))
given (line_gives text at part item place value next) = gives_line (line_reading (read_line_at (bytes text) at))
given (line_refused text at) = gives_line (line_reading (read_line_at (bytes text) at))
given (begun_gives text N S) = finds (begun_answer (bytes text))

unfoldable pub expected : Row → Answer
expected (proves text line) = prints (bytes line)
expected (verifies text line) = prints (bytes line)
expected (prove text N) = refuses N
expected (verify text N) = refuses N
expected (begins text b) = says b
expected (look_gives text N S) = finds (record { refusal = N; settings = S })
expected (checks text N v) = judges (record { refusal = N; verdict = v })
expected (call_refused text room N) = writes (record { refusal = N; count = 0 }) (stops room)
expected (call_gives text room n line) = writes (record { refusal = 0; count = n }) (bytes line ++ᴸ stops (room - n))
expected (read_refused P text t N) = reads (record { refusal = N; settings = no_settings }) t
expected (read_gives P text t S u) = reads (record { refusal = 0; settings = S }) u
expected (write_refused S P t room N) = writes (record { refusal = N; count = 0 }) (stops room)
expected (write_gives S P t room n text) = writes (record { refusal = 0; count = n }) (bytes text ++ᴸ stops (room - n))
expected (back S P t u) = reads (record { refusal = 0; settings = S }) t
expected (forth P text u) = let n = length (bytes text) in writes (record { refusal = 0; count = n }) (bytes text ++ᴸ stops (999 - n))
expected (number text at N value next) = gives (record { refusal = N; value = value; next = next })
expected (count text at N value next) = gives (record { refusal = N; value = value; next = next })
expected (line_gives text at part item place value next) =
    gives_line (record { refusal = 0; line = record { spot = record { part = part; item = item; place = place }; value = value }; next = next })
expected (line_refused text at) =
    gives_line (record { refusal = 2; line = record { spot = record { part = 0; item = 0; place = 0 }; value = pos 0 }; next = 0 })
expected (begun_gives text N S) = finds (record { refusal = N; settings = S })
