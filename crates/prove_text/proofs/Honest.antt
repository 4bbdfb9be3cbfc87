-- The transcript of an honest opening can be written: its tables have their lengths, so that only the length of its text and the output slice are left to test.
--
--   commitment-flat   the commitment that the opening gives by value, as a table
--   claims_same, claims_given
--                     the claims of its rounds and challenges, and what working them out asks for
--   last_front        the final element stands first in what it gives
--   given             the inputs of the opening, as the theorems have them
--   honest_writable   the writer's core takes the tables of the transcript
--   printed_by        what it promises for them
use mathlib.Core.Path.{◌≡◌, refl, sym, ap, subst, ◌∙◌}
use mathlib.Core.Bool.{true, ◌&&◌}
use mathlib.Core.List.{List}
use Prim.Native.Nat.{ℕ, ◌<◌, ◌≤◌}
use native.Mathlib.Nat as Nat
use native.Mathlib.Omega.{arith}
use lib.ListN.{length, take, length-append}
use lib.Seq.{take_at}
use lib.IntN.{ℤ}
use Rattle.protocol.specs.declared.Settings.{Settings}
use Rattle.protocol.specs.Answers.{Written}
use Rattle.protocol.specs.Basic.{all, choose}
use Rattle.protocol.specs.Element.{padded_signed}
use Rattle.protocol.specs.Opening.{commitment, message_after, final_element}
use Rattle.protocol.specs.Transcript.{Transcript, element, claim_after}
use Rattle.protocol.specs.Rows.{key_row, at_rows, together, row_of, round_tables, transcripts_of}
use Rattle.protocol.specs.WrittenClaims.{claim_of, claim_table}
use Rattle.protocol.specs.Layout.{item_cells, round_cells, claim_cells}
use Rattle.protocol.specs.Settings.{all_below}
use Rattle.text_format.specs.Text.{Tables, shape, shapes, shape_size, fits, text_of}
use Rattle.text_format.specs.Programs.{prove_prints, printed}
use Rattle.protocol.specs.Inputs.{Below}
use Rattle.claims.proofs.Honest.{Given, degree-positive, modulus-positive}
use Rattle.claims.proofs.RowLaws.{commitments-together, commitments-below, tables-below}
use Rattle.protocol.proofs.Inputs.{valid-settings, degree_most, below_tested}
use Rattle.protocol.proofs.Tests.{and_intro}
use Rattle.protocol.proofs.Ranges.{last_length}
use Rattle.protocol.proofs.WrittenClaims.{claim-table-below}
use Rattle.claim_tables.specs.Claims.{claimed}
use Rattle.claim_tables.specs.Claims as claim-tables
use Rattle.text_parts.specs.Parts.{part_shape}
use Rattle.text_parts.proofs.Exactly.{exact-fits}
use Rattle.table_writer.specs.Tables.{Writable, Output}
use Rattle.prove_text.specs.Printed.{Openable, Printed}

module _ (S : Settings) (G : List ℕ) (M : List ℤ) (E rounds : List ℕ) (ok : Openable S G M E rounds) where
  open S use {degree as d, depth as L, modulus as q, bound as B}

  pub given : Given S G M E
  given = record { settings = ok.settings; key = ok.key; message = ok.message; challenges = ok.challenges }

  abbrev T : Transcript
  T = transcripts_of S G M E

  abbrev t : Tables
  t = printed S T

  pq : 0 < q
  pq = modulus-positive S ok.settings

  last-long : length T.last ≡ d
  unfolding transcripts_of
  last-long = last_length S (message_after S E L M)

  pd : 0 < d
  pd = degree-positive S ok.settings

  commitment-residues : Below q (item_cells S) T.commitment
  unfolding transcripts_of
  commitment-residues = commitments-below S pq pd G M

  rounds_residues : Below q (round_cells S) T.rounds
  unfolding transcripts_of
  rounds_residues = tables-below S pq ok.settings.rows_least pd E G M

  claims-residues : Below q (claim_cells S) (claim_table S T)
  claims-residues = claim-table-below S T pq pd

  -- the claims of its rounds and challenges are its own
  pub claims_same : claim_table S (claimed (round_tables S E G M) E) ≡ claim_table S T
  unfolding claim_table claim_of claim_after element row_of transcripts_of
  claims_same = refl

  pub claims_given : claim-tables.Given S (round_tables S E G M)
  unfolding transcripts_of
  claims_given = record { allowed = valid-settings S ok.settings; rounds_below = rounds_residues }

  -- commitment and final element as the opening passes them by value
  pub commitment-flat : (C : List ℕ) → C ≡ at_rows S (λ r. commitment S (key_row S G r) M) → together S C ≡ T.commitment
  unfolding transcripts_of
  commitment-flat C e = ap (together S) e ∙ commitments-together S ok.settings.rows_most_holds (degree_most S ok.settings) G M pd

  pub last_front : (r : List ℤ) → r ≡ padded_signed d (final_element S (message_after S E L M)) → (d ≤ length r) × (take d r ≡ T.last)
  unfolding transcripts_of padded_signed
  last_front r e = (
    omega (arith, ap length e ∙ length-append (final_element S (message_after S E L M)) _, last_length S (message_after S E L M)),
    ap (take d) e ∙ take_at (final_element S (message_after S E L M)) _ d (last_length S (message_after S E L M)),
  )

  fitting : fits S prove_prints t ≡ true
  unfolding part_shape shapes shape shape_size choose prove_prints printed transcripts_of
  fitting = exact-fits S prove_prints t (record {
    key = sym (Nat.zero-mul d);
    message = sym (Nat.zero-mul d);
    commitment = commitment-residues.long;
    rounds = rounds_residues.long;
    challenges = ok.challenges.long ∙ sym (Nat.mul-one L);
    last = last-long ∙ sym (Nat.one-mul d);
    claims = claims-residues.long;
  })

  residues : (all_below S t.key && (all_below S t.commitment && (all_below S t.rounds && all_below S t.claims))) ≡ true
  unfolding printed transcripts_of all_below all
  residues =
      and_intro refl (and_intro (below_tested q _ T.commitment commitment-residues)
      (and_intro (below_tested q _ T.rounds rounds_residues) (below_tested q _ (claim_table S T) claims-residues)))

  -- u is what stands in the tables
  module _ (u : Tables) (e : u ≡ t) where
    pub honest_writable : Writable S prove_prints u
    honest_writable = record {
      settings = valid-settings S ok.settings;
      residues = ap (λ (x : Tables). all_below S x.key && (all_below S x.commitment && (all_below S x.rounds && all_below S x.claims))) e ∙ residues;
      fitting = ap (fits S prove_prints) e ∙ fitting;
    }

    pub printed_by : (out : List ℕ) (r : Written) (out' : List ℕ) → Output (text_of S prove_prints u) out r out' → Printed S G M E out r out'
    printed_by out r out' w = subst (λ x. Output (text_of S prove_prints x) out r out') e w
