-- What is said of tables and of a text.
--
--   both-hold      the transcript is accepted and the claims are those that it gives
--   one_fails      or not
--   line-accepted, line-rejected, line-refused, line-none
--                  the line that is printed of an answer
use Rattle.std.proofs.Common.{◌≡◌, refl, sym, ap, ◌∙◌, Bool, true, false, ◌&&◌, ℕ}
use Rattle.protocol.specs.declared.Settings.{Settings}
use Rattle.protocol.specs.Answers.{Checked, Verified}
use Rattle.protocol.specs.Answers.{Verdict}
use Rattle.protocol.specs.Answers.Verdict.{Silent, Holds, Accepted, Rejected}
use Rattle.protocol.specs.Answers.Verified.{Accepted as Yes, Rejected as No, Refused}
use Rattle.protocol.specs.Basic.{choose}
use Rattle.protocol.specs.Rows.{row_of, all_accepted}
use Rattle.protocol.specs.Transcript.{element, claim_after}
use Rattle.protocol.specs.WrittenClaims.{claim_of, claim_written, claims_written}
use Rattle.text_format.specs.Text.{Tables, bytes}
use Rattle.text_format.specs.Programs.{transcript_in, tables_accepted, checked, refused_line, verdict_line}
use Rattle.claim_tables.specs.Claims.{claimed}

module _ (S : Settings) (t : Tables) (a w : Bool) (a-is : a ≡ all_accepted S t.key (transcript_in t)) (w-is : w ≡ claims_written S (claimed t.rounds t.challenges) t.claims) where
  -- a claim reads nothing but rounds and challenges
  both : tables_accepted S t ≡ a && w
  unfolding tables_accepted transcript_in claims_written claim_written claim_of claim_after element row_of
  both = sym (λ j. a-is j && w-is j)

  pub both-hold : (a && w) ≡ true → Accepted ≡ choose (tables_accepted S t) Accepted Rejected
  unfolding choose
  both-hold h = sym (ap (λ b. choose b Accepted Rejected) (both ∙ h))

  pub one_fails : (a && w) ≡ false → Rejected ≡ choose (tables_accepted S t) Accepted Rejected
  unfolding choose
  one_fails h = sym (ap (λ b. choose b Accepted Rejected) (both ∙ h))

-- ---- the line of an answer

abbrev answer : ℕ → Verdict → Checked
answer n v = record { refusal = n; verdict = v }

pub line-accepted : (v : Verified) → answer 0 Accepted ≡ checked v → bytes "accepted\n" ≡ verdict_line v
unfolding checked verdict_line
line-accepted Yes h = refl
line-accepted No h = let z : Accepted ≡ Rejected = ap (λ c. c.verdict) h in cc
line-accepted (Refused n) h = let z : Accepted ≡ Silent = ap (λ c. c.verdict) h in cc

pub line-rejected : (v : Verified) → answer 0 Rejected ≡ checked v → bytes "rejected\n" ≡ verdict_line v
unfolding checked verdict_line
line-rejected Yes h = let z : Rejected ≡ Accepted = ap (λ c. c.verdict) h in cc
line-rejected No h = refl
line-rejected (Refused n) h = let z : Rejected ≡ Silent = ap (λ c. c.verdict) h in cc

pub line-refused : (n : ℕ) (v : Verified) → answer n Silent ≡ checked v → refused_line n ≡ verdict_line v
unfolding checked verdict_line
line-refused n Yes h = let z : Silent ≡ Accepted = ap (λ c. c.verdict) h in cc
line-refused n No h = let z : Silent ≡ Rejected = ap (λ c. c.verdict) h in cc
line-refused n (Refused m) h = ap (λ c. refused_line c.refusal) h

-- no text is answered by what is said of a round
pub line-none : {X : Type 0} (v : Verified) → answer 0 Holds ≡ checked v → X
unfolding checked
line-none Yes h = let z : Holds ≡ Accepted = ap (λ c. c.verdict) h in absurd (cc)
line-none No h = let z : Holds ≡ Rejected = ap (λ c. c.verdict) h in absurd (cc)
line-none (Refused n) h = let z : Holds ≡ Silent = ap (λ c. c.verdict) h in absurd (cc)
