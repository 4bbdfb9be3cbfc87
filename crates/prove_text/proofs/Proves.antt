-- `prove` as a call on text, step by step.
--
--   prove-refused    the answer for a text that is refused
--   prove_done       and for one that is not
--   openable         tables that were read and of which nothing is refused can be opened
--   tables_few       a text with the lines that its settings ask for has room for its tables, and for the round elements
--   lent_fitting     tables of the lengths that the settings ask for
use mathlib.Core.Path.{◌≡◌, refl, sym, ap, ◌∙◌}
use mathlib.Core.Bool.{true}
use mathlib.Core.List.{List, []}
use Prim.Native.Nat.{ℕ, zero, suc, ◌*◌, ◌≤◌}
use native.Mathlib.Nat as Nat
use native.Mathlib.Omega.{arith}
use borrow.Author.Tests.{eq-eqb}
use lib.ListN.{length}
use lib.IntN.{ℤ}
use Rattle.protocol.specs.declared.Settings.{Settings}
use Rattle.protocol.specs.Answers.{Written}
use Rattle.protocol.specs.Basic.{choose, granted}
use Rattle.protocol.specs.Layout.{key_cells, round_cells}
use Rattle.protocol.specs.Settings.{settings_refusal, cells, has_length, all_below, exponent, exponents}
use Rattle.text_format.specs.Text.{
  Tables,
  shape,
  shapes,
  shape_size,
  fits,
  wanted,
  lines_of,
  spots_of,
  same_spots,
  settings_in,
  tables_in,
  look_refusal,
  entries_refusal,
  text_refusal,
  output_refusal,
  written,
  overwritten,
}
use Rattle.text_format.specs.Programs.{prove_reads, proof_text, prove_text, prove_refusal, prove_answer, prove_exit}
use Rattle.text_format.specs.Promises.{Proved}
use Rattle.protocol.proofs.Tests.{and_split, first_zero, unless-zero}
use Rattle.protocol.proofs.Refusals.{first_stops, first_passes, first_only}
use Rattle.protocol.proofs.Inputs.{settings-valid, tested-below, tested_within}
use Rattle.text_parts.specs.Parts.{part_shape, cells_room}
use Rattle.text_parts.proofs.Exactly.{fits-exact, exact-fits}
use Rattle.table_reader.proofs.Rooms.{rounds_few}
use Rattle.table_writer.proofs.FewLines.{part-few}
use Rattle.prove_text.specs.Printed.{Openable, proof, Printed}

module _ (text out : List ℕ) where
  pub prove-refused : (n : ℕ) → (n ≡ 0 → ⊥) → text_refusal prove_reads true text ≡ n → Proved text out (record { refusal = n; count = 0 }) out
  unfolding prove_answer prove_exit written overwritten granted
  prove-refused zero ne e = absurd (ne refl)
  prove-refused (suc n) ne e =
      let refusal : prove_refusal text (length out) ≡ suc n = unfold prove_refusal in (first_stops _ _ (λ z. ne (sym e ∙ z)) ∙ e) in
      record {
        answer = sym (ap (λ k. written k (prove_text text)) refusal);
        out_exit = sym (ap (λ k. overwritten k (prove_text text) out) refusal);
      }

  module _ (S : Settings) (t : Tables) (settings_are : S ≡ settings_in (lines_of text)) (tables_are : t ≡ tables_in (lines_of text)) (fine : text_refusal prove_reads true text ≡ 0) where
    same_text : proof S t.key t.message t.challenges ≡ prove_text text
    unfolding prove_text proof_text
    same_text = λ j. proof_text (settings_are j) (tables_are j)

    decided : prove_refusal text (length out) ≡ output_refusal (prove_text text) (length out)
    unfolding prove_refusal
    decided = first_passes _ _ fine ∙ first_only _

    pub prove_done : (r : Written) (out' : List ℕ) → Printed S t.key t.message t.challenges out r out' → Proved text out r out'
    unfolding prove_answer prove_exit
    prove_done r out' p = record {
      answer = p.answer ∙ ap (λ x. written (output_refusal x (length out)) x) same_text ∙ ap (λ n. written n (prove_text text)) (sym decided);
      out_exit = p.out_exit ∙ ap (λ x. overwritten (output_refusal x (length out)) x out) same_text ∙ ap (λ n. overwritten n (prove_text text) out) (sym decided);
    }

module _ (S : Settings) (t : Tables) where
  pub openable : (rounds : List ℕ) → settings_refusal S ≡ 0 → fits S prove_reads t ≡ true → entries_refusal S true t ≡ 0 → length rounds ≡ round_cells S
      → Openable S t.key t.message t.challenges rounds
  unfolding entries_refusal all_below exponents exponent has_length part_shape shapes shape shape_size choose prove_reads cells
  openable rounds allowed fit entries long =
      let exact = fits-exact S prove_reads t fit in
      let (h₈, r₈) = first_zero _ _ entries in
      let (h₉, r₉) = first_zero _ _ r₈ in
      record {
        settings = settings-valid S allowed;
        key = tested-below S.modulus _ t.key (eq-eqb _ _ exact.key) (and_split (unless-zero 7 _ h₈)).0;
        message = tested_within S.bound _ t.message (eq-eqb _ _ exact.message) (and_split (unless-zero 8 _ h₉)).0;
        challenges = tested-below (2 * S.degree) _ t.challenges (eq-eqb _ _ (exact.challenges ∙ Nat.mul-one S.depth)) (unless-zero 9 _ (first_zero _ _ r₉).0);
        rounds_long = long;
      }

-- the numbers of the key, of the message and of the round elements
pub record Few (S : Settings) : Type 0 where
  pub key : key_cells S ≤ cells_room
  pub message : cells S ≤ cells_room
  pub rounds : round_cells S ≤ cells_room

module _ (text : List ℕ) where
  abbrev S : Settings
  S = settings_in (lines_of text)

  pub tables_few : look_refusal text ≡ 0 → same_spots (spots_of (lines_of text)) (wanted S prove_reads) ≡ true → settings_refusal S ≡ 0 → Few S
  unfolding part_shape shapes shape shape_size choose prove_reads cells
  tables_few e same ok =
      let key : key_cells S ≤ cells_room = part-few text prove_reads e same 1 (omega arith) in
      record { key = key; message = part-few text prove_reads e same 2 (omega arith); rounds = rounds_few S ok key }

-- key, message and challenges
pub lent_fitting : (S : Settings) (G : List ℕ) (M : List ℤ) (E : List ℕ) → length G ≡ key_cells S → length M ≡ cells S → length E ≡ S.depth
    → fits S prove_reads (record { key = G; message = M; commitment = []; rounds = []; challenges = E; last = []; claims = [] }) ≡ true
unfolding part_shape shapes shape shape_size choose prove_reads cells
lent_fitting S G M E key message challenges = exact-fits S prove_reads _ (record {
  key = key;
  message = message;
  commitment = sym (Nat.zero-mul S.degree);
  rounds = sym (Nat.zero-mul S.degree);
  challenges = challenges ∙ sym (Nat.mul-one S.depth);
  last = sym (Nat.zero-mul S.degree);
  claims = sym (Nat.zero-mul S.degree);
})
