-- The promises of the calls on text that write lent tables, one record for each. In a promise x is a table at entry, and x' the same table at exit.
--
--   Read, Wrote  the table reader and the table writer
--   Proved       the program `prove` as a call on text
use Rattle.std.specs.Prelude.{◌≡◌, List, ℕ}
use Rattle.protocol.specs.declared.Settings.{Settings}
use Rattle.protocol.specs.declared.Parts.{Parts}
use Rattle.protocol.specs.Answers.{Loaded}
use Rattle.protocol.specs.Answers.{Written}
use Rattle.text_format.specs.Text.{Tables, read_answer, read_exit, write_answer, write_exit}
use Rattle.text_format.specs.Programs.{prove_answer, prove_exit}

-- t holds the seven tables at entry, t' at exit
pub record Read (P : Parts) (text : List ℕ) (t : Tables) (r : Loaded) (t' : Tables) : Type 0 where
  pub answer : r ≡ read_answer P text t
  pub tables_exit : t' ≡ read_exit P text t

pub record Wrote (S : Settings) (P : Parts) (t : Tables) (out : List ℕ) (r : Written) (out' : List ℕ) : Type 0 where
  pub answer : r ≡ write_answer S P t out
  pub out_exit : out' ≡ write_exit S P t out

pub record Proved (text out : List ℕ) (r : Written) (out' : List ℕ) : Type 0 where
  pub answer : r ≡ prove_answer text out
  pub out_exit : out' ≡ prove_exit text out
