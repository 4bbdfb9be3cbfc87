-- The rows of a transcript: what is given of all rows gives it of each, and the parts that the code lends for a row make up its transcript.
use mathlib.Core.Path.{◌≡◌, sym, ap, ◌∙◌, subst}
use mathlib.Core.List.{List}
use Prim.Native.Nat.{ℕ, ◌+◌, ◌*◌, ◌<◌, ◌≤◌}
use native.Mathlib.Omega.{arith}
use lib.IntN.{ℤ}
use lib.ListN.{length, get_or}
use Rattle.protocol.specs.declared.Settings.{Settings}
use Rattle.protocol.specs.Basic.{every}
use Rattle.protocol.specs.Element.{width}
use Rattle.protocol.specs.Layout.{item_cells, round_items, round_cells}
use Rattle.protocol.specs.Inputs.{Below}
use Rattle.protocol.specs.Settings.{settings_refusal}
use Rattle.protocol.specs.Transcript.{Transcript, accepted}
use Rattle.protocol.specs.Rows.{key_row, together, row_of, all_accepted}
use Rattle.protocol.proofs.Agreement.{every_ext}
use Rattle.protocol.proofs.Inputs.{settings-valid}
use Rattle.protocol.proofs.Ranges.{below-everywhere}
use Rattle.protocol.proofs.Reading.{row_inside, tabulate_ext}
use Rattle.protocol.proofs.Rows.{key_row-below, value_row_at, together_at}
use Rattle.residues.proofs.Parts.{tail_at, tail-length}
use Rattle.equations.specs.Items.{row_start}
use Rattle.equations.proofs.Items.{start_most, row_table_lem}
use Rattle.equations.proofs.Polynomials.{part}
use Rattle.transcripts.specs.Given.{lent_row, row_at, RowGiven, TranscriptGiven}

module _ (S : Settings) (rounds E : List ℕ) (f : List ℤ) where
  open S use {degree as d, rows as rows}

  -- ---- one row

  module _ (i : ℕ) (h : i < rows) where
    abbrev start : ℕ
    start = row_start S (length rounds) i

    -- the part of the rounds that begins with the row has its L polynomials
    pub row_long : length rounds ≡ round_cells S → round_cells S + d ≤ length (part start rounds) + item_cells S
    row_long e = omega (arith, tail-length start rounds, e, (start_most S (length rounds) i).0, (start_most S (length rounds) i).1, row_inside d rows i h)

    pub row_below : settings_refusal S ≡ 0 → Below S.modulus (round_cells S) rounds → (j : ℕ) → get_or (part start rounds) j 0 < S.modulus
    row_below ok b j = subst (λ x. x < S.modulus) (sym (tail_at start rounds j 0))
        (below-everywhere S.modulus _ rounds (omega (arith, (settings-valid S ok).modulus_least)) b (start + j))

    pub row_given : (key : List ℕ) → TranscriptGiven S (length f) key rounds E → RowGiven S (length f) (key_row S key i) (part start rounds) E
    row_given key g = record {
      allowed = g.allowed;
      key_below = key_row-below S S.modulus key g.key_below i h;
      rounds_long = row_long g.rounds_below.long;
      rounds_below = row_below g.allowed g.rounds_below;
      challenges-long = g.challenges-long;
      final_long = g.final_long;
    }

    pub row_is : 0 < d → (w : ℕ) (C : List ℕ) → lent_row S (part (i * w) C) (part start rounds) E f ≡ row_at S w C rounds E f i
    unfolding lent_row row_at
    row_is p w C = λ z. record {
      commitment = tabulate_ext d (λ k _. tail_at (i * w) C k 0) z;
      rounds = row_table_lem S rounds i (round_items S) p z;
      challenges = E;
      last = f;
    }

  -- ---- all rows, with a commitment that is a flat table, or by value

  abbrev transcript : List ℕ → Transcript
  transcript C = record { commitment = C; rounds = rounds; challenges = E; last = f }

  pub flat-accepts : (key C : List ℕ) → every rows (λ i. accepted S (key_row S key i) (row_at S d C rounds E f i)) ≡ all_accepted S key (transcript C)
  unfolding all_accepted row_of row_at
  flat-accepts key C = λ _. all_accepted S key (transcript C)

  pub value-accepts : (key C : List ℕ) → every rows (λ i. accepted S (key_row S key i) (row_at S width C rounds E f i)) ≡ all_accepted S key (transcript (together S C))
  unfolding all_accepted row_of row_at
  value-accepts key C = every_ext rows (λ i h. ap (accepted S (key_row S key i)) (λ z. record {
    commitment = tabulate_ext d (λ k l. sym (value_row_at S C i k) ∙ sym (together_at S C i k h l)) z;
    rounds = (row_of S (transcript C) i).rounds;
    challenges = E;
    last = f;
  }))
