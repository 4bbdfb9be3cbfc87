-- What `prove` prints, `verify` accepts: the listing with the key's lines put in is the text of the transcript's tables with the key, which is read back as they are, and the
-- transcript of an honest opening is accepted, with the claims that it gives.
use mathlib.Core.Path.{◌≡◌, refl, sym, ap, ◌∙◌, subst}
use mathlib.Core.Bool.{true, false}
use mathlib.Core.List.{List, [], ◌++◌, append_assoc, map, flat_map, zip_with}
use Prim.Native.Nat.{ℕ, ◌<◌, ◌≤◌}
use native.Mathlib.Nat as Nat
use native.Mathlib.Omega.{arith}
use borrow.Author.Tests.{eq-eqb, lt-leb}
use lib.ListN.{length, take, drop, length-map}
use lib.Seq.{take-append_seam, drop-append_seam}
use lib.IntN.{ℤ, pos}
use Rattle.protocol.specs.declared.Settings.{Settings}
use Rattle.protocol.specs.Answers.Verified.{Accepted}
use Rattle.protocol.specs.Basic.{tabulate, all, choose, first, unless, granted}
use Rattle.protocol.specs.Element.{signed}
use Rattle.protocol.specs.Layout.{key_items, key_cells, item_cells, round_cells, claim_cells, exponent_count}
use Rattle.protocol.specs.Settings.{cells, has_length, all_below, all_within, exponent, exponents}
use Rattle.protocol.specs.Inputs.{Below, Within}
use Rattle.protocol.specs.Opening.{message_after}
use Rattle.protocol.specs.Transcript.{Transcript, transcript_of}
use Rattle.protocol.specs.Rows.{commitments, round_tables, transcripts_of}
use Rattle.protocol.specs.WrittenClaims.{claim_table}
use Rattle.text_format.specs.Text.{Line, Tables, text_limit, narrow_limit, names, lines_text, shape, settings_shape, shapes, shape_size, settings_values, contents, block, blocks, block_lines, text_of}
use Rattle.text_format.specs.Text.{lines_of, settings_in, tables_in, look_refusal, text_refusal, written, overwritten}
use Rattle.text_format.specs.Programs.{prove_reads, prove_prints, verify_reads, printed, proof_text, prove_text, prove_refusal, prove_answer, prove_exit, prove_output}
use Rattle.text_format.specs.Programs.{transcript_in, tables_accepted, verify_refusal, verify_answer}
use Rattle.text_format.specs.ProveVerify.{key_lines, head_length, with_key, keyed, Accepts, ProveVerify}
use Rattle.protocol.proofs.Tests.{and_intro, first_zero, granted-zero}
use Rattle.protocol.proofs.Inputs.{settings-valid, valid-settings, tested-below, tested_within, below_tested, within_tested}
use Rattle.protocol.proofs.Acceptance.{all_accepted-test}
use Rattle.protocol.proofs.WrittenClaims.{claims-written-test, claim-table-written, claim-table-below}
use Rattle.text_format.proofs.LineLaws.{lines-append}
use Rattle.text_format.proofs.TableLaws.{Fit}
use Rattle.protocol.proofs.Ranges.{last_length}
use Rattle.claims.proofs.Completeness.{complete}
use Rattle.claims.proofs.RowLaws.{commitments-below, tables-below}
use Rattle.claims.proofs.Honest.{Given, degree-positive, modulus-positive, transcripts_accepted}
use Rattle.text_format.proofs.TextLimits.{allowed, size-le, Passed}
use Rattle.claims.proofs.RoundTrip.{readable_tables, tables_readable}

-- ---- the tables

module _ {S : Settings} {G : List ℕ} {M : List ℤ} {E : List ℕ} (ok : Given S G M E) where
  open S use {degree as d, depth as L, modulus as q, bound as B}

  abbrev T : Transcript
  T = transcripts_of S G M E

  some-degree : 0 < d
  some-degree = degree-positive S ok.settings

  commitments_given : Below q (item_cells S) (commitments S G M)
  commitments_given = commitments-below S (modulus-positive S ok.settings) some-degree G M

  tables_given : Below q (round_cells S) (round_tables S E G M)
  tables_given = tables-below S (modulus-positive S ok.settings) ok.settings.rows_least some-degree E G M

  claims_given : Below q (claim_cells S) (claim_table S T)
  claims_given = claim-table-below S T (modulus-positive S ok.settings) some-degree

  last-long : length T.last ≡ d
  unfolding transcripts_of
  last-long = last_length S (message_after S E L M)

  -- a final element's coefficients are within ±n·B, which is at most 32,512
  pub last_within : Within narrow_limit d T.last
  unfolding signed narrow_limit transcripts_of transcript_of
  last_within = record {
    long = last-long;
    each = λ k l. Nat.le_trans
        ((complete S some-degree ok.settings.modulus_odd G M E ok.message.each).in_bound k l)
        (Nat.le_trans (Nat.mul-le-mul (size-le S (allowed S (valid-settings S ok.settings))) ok.settings.bound_most) (omega arith));
  }

  tables-passed : Passed S (keyed S G T)
  unfolding keyed transcripts_of all_below all_within exponents exponent all
  tables-passed = record {
    key = below_tested q (key_cells S) G ok.key;
    commitment = below_tested q (item_cells S) (commitments S G M) commitments_given;
    rounds = below_tested q (round_cells S) (round_tables S E G M) tables_given;
    message = refl;
    challenges = below_tested (exponent_count S) L E ok.challenges;
    last = within_tested narrow_limit d T.last last_within;
    claims = below_tested q (claim_cells S) (claim_table S T) claims_given;
  }

  tables-fit : Fit (shapes S verify_reads) (contents S (keyed S G T))
  unfolding shapes settings_shape shape shape_size choose contents settings_values verify_reads keyed transcripts_of
  tables-fit = (
    refl,
    (
      length-map G pos ∙ ok.key.long,
      (
        sym (Nat.zero-mul d),
        (
          length-map (commitments S G M) pos ∙ commitments_given.long,
          (
            length-map (round_tables S E G M) pos ∙ tables_given.long,
            (
              length-map E pos ∙ ok.challenges.long ∙ sym (Nat.mul-one L),
              (last-long ∙ sym (Nat.one-mul d), (length-map (claim_table S T) pos ∙ claims_given.long, tt)),
            ),
          ),
        ),
      ),
    ),
  )

  tables-accepted : tables_accepted S (keyed S G T) ≡ true
  unfolding tables_accepted transcript_in keyed
  tables-accepted = and_intro (all_accepted-test S G T (transcripts_accepted ok)) (claims-written-test S T (claim_table S T) (claim-table-written S T))

  keyed-accepted : length (text_of S verify_reads (keyed S G T)) ≤ text_limit → verify_answer (text_of S verify_reads (keyed S G T)) ≡ Accepted
  unfolding verify_answer verify_refusal granted choose
  keyed-accepted n =
      let (none, settings, tables) = tables_readable S verify_reads (keyed S G T) (valid-settings S ok.settings) tables-fit tables-passed n in
      rw (none, settings, tables, tables-accepted)

-- ---- the listing

absent-lines : (p n d : ℕ) (v : List ℤ) → block_lines (block (shape p false n d) v) ≡ []
unfolding block_lines block shape shape_size choose tabulate
absent-lines p n d v = rw (Nat.zero-mul d)

module _ (S : Settings) (key : List ℕ) (T : Transcript) where
  open S use {degree as d}

  abbrev front : List Line
  front = block_lines (block settings_shape (settings_values S))

  abbrev head : List ℕ
  head = names ++ lines_text front

  -- what both texts have behind the settings and the key
  abbrev rest : List Line
  rest = flat_map block_lines (drop 2 (blocks S verify_reads (keyed S key T)))

  listing-parts : text_of S prove_prints (printed S T) ≡ head ++ lines_text rest
  unfolding text_of blocks shapes contents flat_map zip_with prove_prints verify_reads printed keyed
  listing-parts =
      ap (λ l. names ++ lines_text (front ++ (l ++ rest))) (absent-lines 1 (key_items S) d [])
      ∙ ap (λ l. names ++ l) (lines-append front rest)
      ∙ sym (append_assoc names (lines_text front) (lines_text rest))

  keyed-parts : text_of S verify_reads (keyed S key T) ≡ head ++ (key_lines S key ++ lines_text rest)
  unfolding text_of blocks shapes contents flat_map zip_with verify_reads keyed key_lines
  keyed-parts =
      ap (λ l. names ++ l) (lines-append front (mine ++ rest) ∙ ap (λ l. lines_text front ++ l) (lines-append mine rest))
      ∙ sym (append_assoc names (lines_text front) (lines_text mine ++ lines_text rest))
    where
      mine : List Line
      mine = block_lines (block (shape 1 true (key_items S) d) (map pos key))

  listing-keyed : with_key S key (text_of S prove_prints (printed S T)) ≡ text_of S verify_reads (keyed S key T)
  unfolding with_key head_length
  listing-keyed =
      ap (λ l. take (length head) l ++ (key_lines S key ++ drop (length head) l)) listing-parts
      ∙ (λ i. take-append_seam head (lines_text rest) i ++ (key_lines S key ++ drop-append_seam head (lines_text rest) i))
      ∙ sym keyed-parts

-- ---- what `prove` read

read_given : (text : List ℕ) → text_refusal prove_reads true text ≡ 0
    → Given (settings_in (lines_of text)) (tables_in (lines_of text)).key (tables_in (lines_of text)).message (tables_in (lines_of text)).challenges
unfolding shapes settings_shape shape shape_size choose contents prove_reads all_below exponents exponent has_length cells
read_given text h =
    let (s, f, p) = readable_tables prove_reads text h in
    record {
      settings = settings-valid _ s;
      key = tested-below _ _ _ (eq-eqb _ _ (sym (length-map (tables_in (lines_of text)).key pos) ∙ f.1.0)) p.key;
      message = tested_within _ _ _ (eq-eqb _ _ f.1.1.0) p.message;
      challenges = tested-below _ _ _ (eq-eqb _ _ (sym (length-map (tables_in (lines_of text)).challenges pos) ∙ f.1.1.1.1.1.0 ∙ Nat.mul-one _)) p.challenges;
    }

module _ (text : List ℕ) where
  abbrev S : Settings
  S = settings_in (lines_of text)

  abbrev t : Tables
  t = tables_in (lines_of text)

  text_keyed : with_key S t.key (prove_text text) ≡ text_of S verify_reads (keyed S t.key (transcripts_of S t.key t.message t.challenges))
  unfolding prove_text proof_text
  text_keyed = listing-keyed S t.key (transcripts_of S t.key t.message t.challenges)

  long_refused : (long : List ℕ) → text_limit < length long → verify_refusal long ≡ 1
  unfolding verify_refusal text_refusal look_refusal first unless
  long_refused long over = rw (lt-leb (length long) text_limit over)

  accepts : text_refusal prove_reads true text ≡ 0 → Accepts text (prove_text text)
  accepts h = record {
    is_text = text_keyed;
    accepted = λ n. ap verify_answer text_keyed ∙ keyed-accepted (read_given text h) (subst (λ l. length l ≤ text_limit) text_keyed n);
    too_long = λ over. long_refused _ over;
  }

  call_accepts : (out : List ℕ) → prove_refusal text (length out) ≡ 0 → Accepts text (take (prove_answer text out).count (prove_exit text out))
  unfolding prove_answer prove_exit written overwritten granted
  call_accepts out h = subst (Accepts text) (sym (rw h (take-append_seam (prove_text text) (drop (length (prove_text text)) out)))) (accepts (unfold prove_refusal in (first_zero _ _ h).0))

  program_accepts : prove_refusal text text_limit ≡ 0 → Accepts text (prove_output text)
  unfolding prove_output
  program_accepts h = subst (Accepts text) (sym (granted-zero _ _ _ h)) (accepts (unfold prove_refusal in (first_zero _ _ h).0))

pub prove-verify : ProveVerify
unfolding prove_answer written
prove-verify = record { call = call_accepts; program = program_accepts }
