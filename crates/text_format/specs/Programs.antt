-- PROTOCOL 10: the programs `prove` and `verify`, as calls on text and as what they print.
--
--   prove_reads, prove_prints, verify_reads  which parts a program reads and prints
--   printed S T                              the tables that `prove` prints of a transcript: the transcript and its claims
--   proof_text S t                           the text of the transcript of the tables t, as `prove` prints it
--   prove_text text                          what `prove` writes where nothing is refused
--   prove_refusal, prove_answer, prove_exit  `prove` on a text and an output slice: its refusals, its answer, the slice as it leaves it
--   transcript_in t                          the transcript in the tables that `verify` reads
--   tables_accepted S t                      is it accepted, and is every written claim the one that is worked out
--   verify_refusal, verify_answer            `verify` on a text: its refusals and its answer
--   checked r                                the number and the verdict for each case of that answer
--   verify_gives text                        the number and the verdict for a text
--   refused_line N, verdict_line r           the line that is printed for a refusal, and for an answer of `verify`
--   prove_output, verify_output              the bytes that a program prints for a standard input
use Rattle.std.specs.Prelude.{Bool, true, false, ◌&&◌, List, [], ◌∷◌, ◌++◌, ℕ, length}
use Rattle.protocol.specs.declared.Settings.{Settings}
use Rattle.protocol.specs.declared.Parts.{Parts}
use Rattle.protocol.specs.Answers.{Written}
use Rattle.protocol.specs.Answers.{Checked}
use Rattle.protocol.specs.Answers.{Verified}
use Rattle.protocol.specs.Answers.Verdict.{Silent, Accepted as Accepts, Rejected as Rejects}
use Rattle.protocol.specs.Answers.Verified.{Accepted, Rejected, Refused}
use Rattle.protocol.specs.Basic.{choose, first, granted}
use Rattle.protocol.specs.Transcript.{Transcript}
use Rattle.protocol.specs.Rows.{all_accepted, transcripts_of}
use Rattle.protocol.specs.WrittenClaims.{claim_table, claims_written}
use Rattle.protocol.specs.Session.{verdict}
use Rattle.text_format.specs.Text.{Tables, line_feed, text_limit, bytes, decimal, text_of, lines_of, settings_in, tables_in, text_refusal, output_refusal}
use Rattle.text_format.specs.Text.{written, overwritten}

-- PROTOCOL 10.1: what goes into an opening, and the transcript that comes out, with its claims
unfoldable pub prove_reads : Parts
prove_reads = record { key = true; message = true; commitment = false; rounds = false; challenges = true; last = false; claims = false }

unfoldable pub prove_prints : Parts
prove_prints = record { key = false; message = false; commitment = true; rounds = true; challenges = true; last = true; claims = true }

-- PROTOCOL 10.2: a key and a transcript with its claims
unfoldable pub verify_reads : Parts
verify_reads = record { key = true; message = false; commitment = true; rounds = true; challenges = true; last = true; claims = true }

-- ---- prove

unfoldable pub printed : Settings → Transcript → Tables
printed S T = record {
  key = [];
  message = [];
  commitment = T.commitment;
  rounds = T.rounds;
  challenges = T.challenges;
  last = T.last;
  claims = claim_table S T;
}

unfoldable pub proof_text : Settings → Tables → List ℕ
proof_text S t = text_of S prove_prints (printed S (transcripts_of S t.key t.message t.challenges))

unfoldable pub prove_text : List ℕ → List ℕ
prove_text text = proof_text (settings_in (lines_of text)) (tables_in (lines_of text))

-- a program lends its own tables, each of exactly its length; after the text's refusals come those of the output
unfoldable pub prove_refusal : List ℕ → ℕ → ℕ
prove_refusal text room = first (text_refusal prove_reads true text ∷ output_refusal (prove_text text) room ∷ [])

unfoldable pub prove_answer : List ℕ → List ℕ → Written
prove_answer text out = written (prove_refusal text (length out)) (prove_text text)

unfoldable pub prove_exit : List ℕ → List ℕ → List ℕ
prove_exit text out = overwritten (prove_refusal text (length out)) (prove_text text) out

-- ---- verify

unfoldable pub transcript_in : Tables → Transcript
transcript_in t = record { commitment = t.commitment; rounds = t.rounds; challenges = t.challenges; last = t.last }

-- PROTOCOL 10.2: a claim that is not the one worked out is among the equations
unfoldable pub tables_accepted : Settings → Tables → Bool
tables_accepted S t = all_accepted S t.key (transcript_in t) && claims_written S (transcript_in t) t.claims

unfoldable pub verify_refusal : List ℕ → ℕ
verify_refusal text = text_refusal verify_reads true text

unfoldable pub verify_answer : List ℕ → Verified
verify_answer text =
    granted
    (verify_refusal text)
    (choose (tables_accepted (settings_in (lines_of text)) (tables_in (lines_of text))) Accepted Rejected)
    (Refused (verify_refusal text))

unfoldable pub checked : Verified → Checked
checked Accepted = record { refusal = 0; verdict = Accepts }
checked Rejected = record { refusal = 0; verdict = Rejects }
checked (Refused number) = record { refusal = number; verdict = Silent }

unfoldable pub verify_gives : List ℕ → Checked
verify_gives text = record {
  refusal = verify_refusal text;
  verdict = granted (verify_refusal text) (verdict (tables_accepted (settings_in (lines_of text)) (tables_in (lines_of text)))) Silent;
}

-- ---- What is printed

-- PROTOCOL 10.1 and 10.2
unfoldable pub refused_line : ℕ → List ℕ
refused_line number = bytes "refused " ++ (decimal number ++ (line_feed ∷ []))

-- PROTOCOL 10.2
unfoldable pub verdict_line : Verified → List ℕ
verdict_line Accepted = bytes "accepted\n"
verdict_line Rejected = bytes "rejected\n"
verdict_line (Refused number) = refused_line number

-- PROTOCOL 10.1; the output slice of the program has room for the longest text
unfoldable pub prove_output : List ℕ → List ℕ
prove_output text = granted (prove_refusal text text_limit) (prove_text text) (refused_line (prove_refusal text text_limit))

unfoldable pub verify_output : List ℕ → List ℕ
verify_output text = verdict_line (verify_answer text)
