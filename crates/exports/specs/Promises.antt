-- The promises of the exported calls that take or give an element or a round polynomial, by the definitions of Border. In a promise x is a slice at entry,
-- and x' the same slice at exit; r is what is returned.
--
--   CommitStored   commit
--   RoundStored    the prover's round
--   EndStored      the prover's end
--   OpeningStored  the whole opening
--   CheckStored    the check of a transcript; C and f are the slices for commitment and final element
--   JudgeStored    the judge; C is the slice for the commitment
--   ExtractStored  the extractor
use Rattle.std.specs.Prelude.{◌≡◌, List, ℕ, ℤ}
use Rattle.protocol.specs.declared.Settings.{Settings}
use Rattle.exports.specs.Border.{commit_number, commit_exit, round_number, round_exit, end_number, end_exit, check_number, check_verdict, judge_number, judge_yes, extract_number, extract_exit}
use Rattle.exports.specs.Border as Border

pub record CommitStored (S : Settings) (key : List ℕ) (message : List ℤ) (commitment : List ℕ) (r : ℕ) (commitment' : List ℕ) : Type 0 where
  pub refusal : r ≡ commit_number S key message commitment
  pub commitment_exit : commitment' ≡ commit_exit S key message commitment

pub record RoundStored (S : Settings) (t : ℕ) (key : List ℕ) (message : List ℤ) (polynomial : List ℕ) (r : ℕ) (polynomial' : List ℕ) : Type 0 where
  pub refusal : r ≡ round_number S t key message polynomial
  pub polynomial_exit : polynomial' ≡ round_exit S t key message polynomial

pub record EndStored (S : Settings) (t : ℕ) (message last : List ℤ) (r : ℕ) (last' : List ℤ) : Type 0 where
  pub refusal : r ≡ end_number S t message last
  pub last_exit : last' ≡ end_exit S t message last

pub record OpeningStored (S : Settings) (key : List ℕ) (message : List ℤ) (E rounds C : List ℕ) (f : List ℤ)
    (r : ℕ) (key' : List ℕ) (message' : List ℤ) (rounds' C' : List ℕ) (f' : List ℤ) (verdict' : ℕ) : Type 0 where
  pub refusal : r ≡ Border.open_number S key message E rounds C f
  pub key_exit : key' ≡ Border.open_key_exit S key message E rounds C f
  pub message_exit : message' ≡ Border.open_message_exit S key message E rounds C f
  pub rounds_exit : rounds' ≡ Border.open_rounds_exit S key message E rounds C f
  pub commitment_exit : C' ≡ Border.open_commitment_exit S key message E rounds C f
  pub last_exit : f' ≡ Border.open_last_exit S key message E rounds C f
  pub verdict_exit : verdict' ≡ Border.open_verdict S key message E rounds C f

pub record CheckStored (S : Settings) (C : List ℕ) (f : List ℤ) (key rounds E : List ℕ) (r verdict' : ℕ) : Type 0 where
  pub refusal : r ≡ check_number S C f key rounds E
  pub verdict_exit : verdict' ≡ check_verdict S C f key rounds E

pub record JudgeStored (S : Settings) (C : List ℕ) (c : ℕ) (key : List ℕ) (w : List ℤ) (r yes' : ℕ) : Type 0 where
  pub refusal : r ≡ judge_number S C c key w
  pub yes_exit : yes' ≡ judge_yes S C c key w

pub record ExtractStored (S : Settings) (C key rounds E : List ℕ) (leaves w : List ℤ) (r : ℕ) (w' : List ℤ) : Type 0 where
  pub refusal : r ≡ extract_number S C key rounds E leaves w
  pub w_exit : w' ≡ extract_exit S C key rounds E leaves w
