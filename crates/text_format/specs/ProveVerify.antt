-- What `prove` prints, `verify` accepts. A listing has no key, so `verify` is given the listing with the key's lines put behind those of the settings.
--
--   key_lines S key      the lines of part 1
--   head_length S        how many bytes a listing has up to its last line of settings
--   with_key S key text  the listing `text` with the key's lines put there
--   keyed S key T        the tables that stand in it, T being the transcript
--   Accepts text ..      what is owed of a listing, `text` being what `prove` read
--   ProveVerify          that, for every text that `prove` does not refuse: as a call on text, and as a program
use Rattle.std.specs.Prelude.{◌≡◌, true, List, [], ◌++◌, map, ℕ, ◌<◌, ◌≤◌, length, take, drop, pos}
use Rattle.protocol.specs.declared.Settings.{Settings}
use Rattle.protocol.specs.Answers.Verified.{Accepted}
use Rattle.protocol.specs.Layout.{key_items}
use Rattle.protocol.specs.Transcript.{Transcript}
use Rattle.protocol.specs.Rows.{transcripts_of}
use Rattle.protocol.specs.WrittenClaims.{claim_table}
use Rattle.text_format.specs.Text.{Tables, text_limit, names, lines_text, shape, settings_shape, settings_values, block, block_lines, text_of, lines_of, settings_in, tables_in}
use Rattle.text_format.specs.Programs.{verify_reads, prove_refusal, prove_answer, prove_exit, prove_output, verify_refusal, verify_answer}

unfoldable pub key_lines : Settings → List ℕ → List ℕ
key_lines S key = lines_text (block_lines (block (shape 1 true (key_items S) S.degree) (map pos key)))

unfoldable pub head_length : Settings → ℕ
head_length S = length (names ++ lines_text (block_lines (block settings_shape (settings_values S))))

unfoldable pub with_key : Settings → List ℕ → List ℕ → List ℕ
with_key S key text = take (head_length S) text ++ (key_lines S key ++ drop (head_length S) text)

unfoldable pub keyed : Settings → List ℕ → Transcript → Tables
keyed S key T = record {
  key = key;
  message = [];
  commitment = T.commitment;
  rounds = T.rounds;
  challenges = T.challenges;
  last = T.last;
  claims = claim_table S T;
}

module _ (text listing : List ℕ) where
  abbrev S : Settings
  S = settings_in (lines_of text)

  abbrev t : Tables
  t = tables_in (lines_of text)

  -- with the key it may be too long to be read: then refusal 1, and no other
  pub record Accepts : Type 0 where
    pub is_text : with_key S t.key listing ≡ text_of S verify_reads (keyed S t.key (transcripts_of S t.key t.message t.challenges))
    pub accepted : length (with_key S t.key listing) ≤ text_limit → verify_answer (with_key S t.key listing) ≡ Accepted
    pub too_long : text_limit < length (with_key S t.key listing) → verify_refusal (with_key S t.key listing) ≡ 1

pub record ProveVerify : Type 0 where
  pub call : (text out : List ℕ) → (prove_answer text out).refusal ≡ 0 → Accepts text (take (prove_answer text out).count (prove_exit text out))
  pub program : (text : List ℕ) → prove_refusal text text_limit ≡ 0 → Accepts text (prove_output text)
