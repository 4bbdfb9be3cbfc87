-- The verifier's turns: the claims and the verdict so far, one round after the other, and the verdict at the end.
use mathlib.Core.Path.{◌≡◌, refl, sym, ap, ap₂, ◌∙◌, subst}
use mathlib.Core.Bool.{Bool, true, ◌&&◌}
use mathlib.Core.List.{List}
use Prim.Native.Nat.{ℕ, suc, ◌+◌, ◌*◌, ◌<◌, ◌≤◌}
use native.Mathlib.Omega.{arith}
use lib.IntN.{ℤ, pos}
use lib.ListN.{length, get_or}
use lib.Seq.{get_or-drop}
use Rattle.protocol.specs.declared.Settings.{Settings}
use Rattle.protocol.specs.Basic.{every}
use Rattle.protocol.specs.Element.{zeros, residue, residue_at, signed, padded_signed}
use Rattle.protocol.specs.Settings.{settings_refusal}
use Rattle.protocol.specs.Layout.{rows_width, item_cells, round_cells}
use Rattle.protocol.specs.Inputs.{Valid}
use Rattle.protocol.specs.Opening.{key_after, message_after, final_element}
use Rattle.protocol.specs.Transcript.{Transcript, element, next_claim, end_met, claim_after, holds_at, closes, accepted, transcript_of}
use Rattle.protocol.specs.Rows.{key_row, keys_after, round_tables, transcripts_of, all_accepted}
use Rattle.protocol.proofs.Tests.{and_split, and_intro, every_at, every-intro, every_swap, same_test}
use Rattle.protocol.proofs.Ranges.{padded-signed_at, last_length}
use Rattle.protocol.proofs.Reading.{cell-element, cell-place, cell-inside}
use Rattle.protocol.proofs.Rows.{keys_row, transcript_row}
use Rattle.protocol.proofs.Agreement.{Same, every_ext, claim_same, round_same, end_same, first_same}
use Rattle.residues.specs.Lists.{filled}
use Rattle.residues.proofs.Fill.{filled_at}
use Rattle.equations.specs.Items.{row_element}
use Rattle.plain_products.specs.Rowwise.{row_places}
use Rattle.opening_rounds.specs.Rounds.{commitment_item}
use Rattle.opening_turns.specs.declared.State.{State}
use Rattle.opening_checks.specs.Checks.{row_claim, RowsRead, sent_element}
use Rattle.opening_turns.specs.Turns.{ClaimsAt, CheckedAt, VerifierMove}
use Rattle.opening_turns.proofs.Storing.{front, front_length, front-element, front_below, inside}

-- two tests of each
every_both : (n : ℕ) (f g : ℕ → Bool) → every n (λ i. f i && g i) ≡ (every n f && every n g)
every_both n f g = same_test
    (λ t. and_intro
    (every-intro (λ i h. (and_split {a = f i} (every_at n (λ i. f i && g i) t i h)).0))
    (every-intro (λ i h. (and_split {a = f i} (every_at n (λ i. f i && g i) t i h)).1)))
    (λ t. let (a, b) = and_split {a = every n f} t in every-intro (λ i h. and_intro (every_at n f a i h) (every_at n g b i h)))

module _ (S : Settings) (ok : Valid S) (G : List ℕ) (M : List ℤ) (E R : List ℕ) where
  open S use {degree as d, depth as L, rows as rows}

  -- the transcript of a row
  abbrev T : ℕ → Transcript
  T r = transcript_of S (key_row S G r) M E

  -- nothing is done yet
  pub checked-none : (C : List ℕ) → item_cells S ≤ length C → C ≡ filled (row_places d (commitment_item S G M)) (item_cells S) (zeros rows_width) → CheckedAt S G M E R 0 C true
  unfolding claim_after every transcript_of
  checked-none C long is = record {
    claims_are = record {
      long = long;
      is = λ r k hr hk.
          ap (λ c. get_or c (r * d + k) 0) is
          ∙ filled_at (row_places d (commitment_item S G M)) (item_cells S) (zeros rows_width) 0 (r * d + k) (cell-inside d rows r k hr hk)
          ∙ (λ i. get_or (commitment_item S G M (cell-element d r k hk i)) (cell-place d r k hk i) 0);
    };
    holds_is = refl;
  }

  module _ (long : length R ≡ round_cells S) (allowed : settings_refusal S ≡ 0) (s : State) (l : s.done < L) (rounds : List ℕ)
      (is : rounds ≡ front (round_tables S E G M) R (3 * suc s.done * item_cells S + item_cells S)) where
    abbrev t : ℕ
    t = s.done

    same : (r j : ℕ) → r < rows → j < 3 → Same d (sent_element S t rounds r j) (element S (T r) t j)
    unfolding row_element residue_at element transcript_of
    same r j lr lj k lk =
        ap pos (get_or-drop (r * d) rounds ((3 * t + j) * item_cells S + k) 0
        ∙ ap (λ z. get_or z (r * d + ((3 * t + j) * item_cells S + k)) 0) is
        ∙ front-element S ok G M E R long t l (3 * suc t * item_cells S + item_cells S) (omega arith) j r k lj lr lk)

    rows_read : (x : ℕ) → item_cells S ≤ x → RowsRead S t x rounds
    rows_read x h = record {
      allowed = allowed;
      index = omega (arith, ok.depth_most);
      inside = omega (arith, ap length is, front_length S ok G M E R long (3 * suc t * item_cells S + item_cells S), inside S ok G M E R long t l);
      claims-long = h;
      below = λ i li. subst (λ r. get_or r i 0 < S.modulus) (sym is) (front_below S ok G M E R long t l (3 * suc t * item_cells S + item_cells S) (omega arith) i li);
    }

    -- one round more
    pub checked_more : (r : State) (e : ℕ) (claims claims' : List ℕ) → e ≡ get_or E t 0 → VerifierMove S s e claims rounds r claims'
        → CheckedAt S G M E R t claims s.holds → CheckedAt S G M E R (suc t) claims' r.holds
    unfolding claim_after every holds_at transcript_of
    checked_more r e claims claims' e-is move at =
        let read = rows_read (length claims) at.claims_are.long in
        record {
          claims_are = record {
            long = omega (arith, move.claims_kept, at.claims_are.long);
            is = λ i k hi hk.
                move.checked.claims_are read i k hi hk
                ∙ ap (λ c. get_or c k 0) (claim_same S (same i 0 hi (omega arith)) (same i 1 hi (omega arith)) (same i 2 hi (omega arith)) e
                ∙ ap (λ x. next_claim S x (element S (T i) t 0) (element S (T i) t 1) (element S (T i) t 2)) e-is);
          };
          holds_is =
              move.holds_is
              ∙ ap₂ ◌&&◌ at.holds_is (move.checked.holds_is read
              ∙ every_ext rows (λ i hi.
              round_same S (same i 0 hi (omega arith)) (same i 1 hi (omega arith)) (same i 2 hi (omega arith)) (row_claim S claims i) (claim_after S (T i) t)
              (λ k lk. get_or-drop (i * d) claims k 0 ∙ at.claims_are.is i k hi lk)));
        }

  -- ---- the end, from claims, a final element and a folded key as they are lent

  abbrev last : List ℤ
  last = final_element S (message_after S E L M)

  last_same : Same d (signed last) (signed (padded_signed d last))
  last_same k l = sym (padded-signed_at d last k (omega (arith, last_length S (message_after S E L M))))

  -- in one row
  row_accepted : (claims : List ℕ) → ClaimsAt S G M E R L claims → (r : ℕ) → r < rows
      → accepted S (key_row S G r) (T r) ≡ (every L (holds_at S (T r)) && end_met S (row_claim S claims r) (signed (padded_signed d last)) (residue (key_row S (keys_after S E L G) r)))
  unfolding accepted closes transcript_of end_met
  row_accepted claims is r h = ap (λ b. every L (holds_at S (T r)) && b)
      (end_same S last_same (λ k l. sym (first_same d (key_after S E L (key_row S G r)) k l)) (claim_after S (T r) L) (row_claim S claims r)
      (λ k l. sym (get_or-drop (r * d) claims k 0 ∙ is.is r k h l))
      ∙ ap (λ K. end_met S (row_claim S claims r) (signed (padded_signed d last)) (residue K)) (sym (keys_row S E G L r h)))

  pub accepted_is : 0 < d → (claims : List ℕ) → ClaimsAt S G M E R L claims
      → all_accepted S G (transcripts_of S G M E) ≡ (every L (λ u. every rows (λ r. holds_at S (T r) u))
      && every rows (λ r. end_met S (row_claim S claims r) (signed (padded_signed d last)) (residue (key_row S (keys_after S E L G) r))))
  unfolding all_accepted
  accepted_is p claims is =
      every_ext rows (λ r h. ap (accepted S (key_row S G r)) (transcript_row S G M E r p h) ∙ row_accepted claims is r h)
      ∙ every_both rows (λ r. every L (holds_at S (T r))) (λ r. end_met S (row_claim S claims r) (signed (padded_signed d last)) (residue (key_row S (keys_after S E L G) r)))
      ∙ ap (λ b. b && every rows (λ r. end_met S (row_claim S claims r) (signed (padded_signed d last)) (residue (key_row S (keys_after S E L G) r)))) (every_swap rows L (λ r u. holds_at S (T r) u))
