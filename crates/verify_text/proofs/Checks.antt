-- Tables of which nothing is refused, as the check of a transcript asks for them.
--
--   Long, long          the lengths of the tables that `verify` reads
--   given_bare          there is no message among them
--   claims_given        what the comparison of the claims asks for
--   transcript_given    what the check asks for
use mathlib.Core.Path.{◌≡◌, refl, subst, ◌∙◌}
use mathlib.Core.Bool.{true, ◌&&◌}
use mathlib.Core.List.{List, [], ◌∷◌}
use native.Mathlib.Nat as Nat
use native.Mathlib.Omega.{arith}
use borrow.Author.Tests.{eq-eqb}
use lib.IntN.{ℤ}
use lib.ListN.{length}
use Rattle.protocol.specs.declared.Settings.{Settings}
use Rattle.protocol.specs.Basic.{choose}
use Rattle.protocol.specs.Layout.{key_cells, item_cells, round_cells, claim_cells}
use Rattle.protocol.specs.Inputs.{Below}
use Rattle.protocol.specs.Settings.{has_length, all_below}
use Rattle.text_format.specs.Text.{Tables, shape, shapes, shape_size, entries_refusal}
use Rattle.text_format.specs.Programs.{verify_reads}
use Rattle.protocol.proofs.Tests.{and_split, first_zero, unless-zero}
use Rattle.protocol.proofs.Inputs.{tested-below}
use Rattle.text_parts.specs.Parts.{part_shape}
use Rattle.text_parts.proofs.Exactly.{fits-exact}
use Rattle.claim_tables.specs.Claims as claim-tables
use Rattle.transcripts.specs.Given.{TranscriptGiven}
use Rattle.verify_text.specs.Given.{Given}

pub record Long (S : Settings) (t : Tables) : Type 0 where
  pub key : length t.key ≡ key_cells S
  pub message : length t.message ≡ 0
  pub commitment : length t.commitment ≡ item_cells S
  pub rounds : length t.rounds ≡ round_cells S
  pub challenges : length t.challenges ≡ S.depth
  pub last : length t.last ≡ S.degree
  pub claims : length t.claims ≡ claim_cells S

module _ (S : Settings) (t : Tables) (g : Given S t) where
  pub long : Long S t
  unfolding part_shape shapes shape shape_size choose verify_reads
  long =
      let e = fits-exact S verify_reads t g.fitting in
      record {
        key = e.key;
        message = e.message ∙ Nat.zero-mul S.degree;
        commitment = e.commitment;
        rounds = e.rounds;
        challenges = e.challenges ∙ Nat.mul-one S.depth;
        last = e.last ∙ Nat.one-mul S.degree;
        claims = e.claims;
      }

  pub given_bare : Given S (record { key = t.key; message = []; commitment = t.commitment; rounds = t.rounds; challenges = t.challenges; last = t.last; claims = t.claims })
  given_bare = subst (Given S) (λ j. record {
    key = t.key;
    message = nothing t.message long.message j;
    commitment = t.commitment;
    rounds = t.rounds;
    challenges = t.challenges;
    last = t.last;
    claims = t.claims;
  }) g
    where
      nothing : (l : List ℤ) → length l ≡ 0 → l ≡ []
      nothing [] e = refl
      nothing (x ∷ l) e = absurd (omega arith)

  all_residues : (all_below S t.key ≡ true) × ((all_below S t.commitment ≡ true) × (all_below S t.rounds && all_below S t.claims ≡ true))
  unfolding entries_refusal
  all_residues = let (k, r) = and_split (unless-zero 7 _ (first_zero _ _ g.entries).0) in (k, and_split r)

  rounds_residues : Below S.modulus (round_cells S) t.rounds
  unfolding all_below has_length
  rounds_residues = tested-below S.modulus _ t.rounds (eq-eqb _ _ long.rounds) (and_split {a = all_below S t.rounds} all_residues.1.1).0

  pub claims_given : claim-tables.Given S t.rounds
  claims_given = record { allowed = g.settings; rounds_below = rounds_residues }

  pub transcript_given : TranscriptGiven S (length t.last) t.key t.rounds t.challenges
  unfolding all_below has_length
  transcript_given = record {
    allowed = g.settings;
    key_below = tested-below S.modulus _ t.key (eq-eqb _ _ long.key) all_residues.0;
    rounds_below = rounds_residues;
    challenges-long = long.challenges;
    final_long = omega (arith, long.last);
  }
