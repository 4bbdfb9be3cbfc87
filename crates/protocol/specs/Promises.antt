-- The promises of the calls that write lent tables, one record for each. A call that writes nothing promises one equation, with its answer's definition.
-- In a promise x is a table at entry, and x' the same table at exit.
--
--   Folded       3 the fold of both tables
--   Opening      5 the whole opening
--   Extracted    the extractor
use Rattle.std.specs.Prelude.{◌≡◌, List, ℕ, ℤ}
use Rattle.protocol.specs.declared.Settings.{Settings}
use Rattle.protocol.specs.Answers.{Opened}
use Rattle.protocol.specs.Session.{verdict_number}
use Rattle.protocol.specs.Calls.{fold_refusal, fold_key_exit, fold_message_exit, opening_answer, opening_number, opening_key_exit, opening_message_exit, opening_rounds_exit, extract_refusal, extract_exit}

pub record Folded (S : Settings) (t e : ℕ) (key : List ℕ) (message : List ℤ) (r : ℕ) (key' : List ℕ) (message' : List ℤ) : Type 0 where
  pub refusal : r ≡ fold_refusal S t e key message
  pub key_exit : key' ≡ fold_key_exit S t e key message
  pub message_exit : message' ≡ fold_message_exit S t e key message

pub record Opening (S : Settings) (key : List ℕ) (message : List ℤ) (E rounds : List ℕ) (r : Opened) (key' : List ℕ) (message' : List ℤ) (rounds' : List ℕ) : Type 0 where
  pub answer : r ≡ opening_answer S key message E rounds
  pub verdict_number_holds : verdict_number r.verdict ≡ opening_number S key message E rounds
  pub key_exit : key' ≡ opening_key_exit S key message E rounds
  pub message_exit : message' ≡ opening_message_exit S key message E rounds
  pub rounds_exit : rounds' ≡ opening_rounds_exit S key message E rounds

pub record Extracted (S : Settings) (C key rounds E : List ℕ) (finals w : List ℤ) (r : ℕ) (w' : List ℤ) : Type 0 where
  pub refusal : r ≡ extract_refusal S C key rounds E finals w
  pub w_exit : w' ≡ extract_exit S C key rounds E finals w
