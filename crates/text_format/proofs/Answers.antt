-- Answers that are enums, by the numbers and values that PROTOCOL gives them.
--
--   number_given, line_given          the number reader's answer, and the line reader's
--   verify_given                      the answer of `verify`
use mathlib.Core.Path.{◌≡◌, refl}
use mathlib.Core.Bool.{Bool, true, false}
use mathlib.Core.List.{List}
use mathlib.Core.Option.{Option, none, some}
use Prim.Native.Nat.{ℕ, zero, suc}
use lib.IntN.{ℤ}
use Rattle.protocol.specs.Answers.{Checked}
use Rattle.protocol.specs.Answers.Verdict.{Silent}
use Rattle.protocol.specs.Answers.{Verified as Verify}
use Rattle.protocol.specs.Basic.{choose, granted}
use Rattle.protocol.specs.Session.{verdict}
use Rattle.text_format.specs.Text.{Line, lines_of, settings_in, tables_in, reading, number_answer}
use Rattle.text_format.specs.Lines.{given_number, line_reading, given_line, line_answer}
use Rattle.text_format.specs.Programs.{tables_accepted, verify_refusal, verify_answer, checked, verify_gives}

-- ---- the readers

module _ (text : List ℕ) where
  pub number_given : (o : Option (ℤ × List ℕ)) → reading (number_answer text o) ≡ given_number text o
  unfolding reading number_answer given_number
  number_given none = refl
  number_given (some (value, rest)) = refl

  pub line_given : (o : Option (Line × List ℕ)) → line_reading (line_answer text o) ≡ given_line text o
  unfolding line_reading line_answer given_line
  line_given none = refl
  line_given (some (l, rest)) = refl

-- ---- `verify`

verify_says : (n : ℕ) (b : Bool) →
    ◌≡◌ {A = Checked} (checked (granted n (choose b Verify.Accepted Verify.Rejected) (Verify.Refused n))) (record { refusal = n; verdict = granted n (verdict b) Silent })
unfolding checked granted choose verdict
verify_says zero true = refl
verify_says zero false = refl
verify_says (suc n) b = refl

pub verify_given : (text : List ℕ) → checked (verify_answer text) ≡ verify_gives text
unfolding verify_answer verify_gives
verify_given text = verify_says (verify_refusal text) (tables_accepted (settings_in (lines_of text)) (tables_in (lines_of text)))
