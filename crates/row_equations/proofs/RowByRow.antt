-- What is written row by row over zeros stands at its rows.
use mathlib.Core.Path.{◌≡◌, refl, sym, ap, ◌∙◌, subst}
use mathlib.Core.Bool.{Bool, true, ◌&&◌}
use mathlib.Core.List.{List, [], ◌∷◌, ◌++◌}
use Prim.Native.Nat.{ℕ, ◌+◌, ◌*◌, ◌-◌, ◌<◌, ◌≤◌}
use native.Mathlib.Nat as Nat
use native.Mathlib.Decide.{dec_lt}
use native.Mathlib.Omega.{arith}
use borrow.Author.Tests.{lt-ltb, le-ltb}
use lib.Dec.{ltb}
use borrow.Rule.Slice.PartMut.{put_mid}
use lib.ListN.{length, get_or, take, drop, replicate, length-drop, length-replicate, drop_of_length-le}
use Rattle.protocol.specs.declared.Settings.{Settings}
use Rattle.protocol.specs.Basic.{tabulate, flat, choose}
use lib.IntN.{pos}
use Rattle.protocol.specs.Element.{width, zeros, value_row, residue, reduced}
use Rattle.protocol.specs.Layout.{rows_most, rows_width}
use Rattle.protocol.specs.Settings.{settings_refusal, residue_rows}
use Rattle.protocol.specs.Transcript.{round_holds, next_claim}
use Rattle.protocol.specs.Rows.{at_rows}
use Rattle.protocol.proofs.Agreement.{Same, claim_same, round_same}
use Rattle.protocol.proofs.Reading.{tabulate_at, flat-length, flat_at, flat-own, flat_ext}
use Rattle.residues.specs.Lists.{spliced}
use Rattle.residues.specs.Residues.{Residues}
use Rattle.rotations.specs.Values.{value_at}
use Rattle.residues.proofs.Fill.{replicate_at}
use Rattle.residues.proofs.Parts.{tail_all, tail_at}
use Rattle.residues.proofs.Splice.{spliced-length, spliced-before, spliced-inside, spliced-behind}
use Rattle.equations.proofs.Polynomials.{part, part-long}
use Rattle.equations.proofs.ByValue.{value-part, row_reduced}
use Rattle.verifier_refusals.specs.Lent.{lent_rows, RowsLent}
use Rattle.verifier_refusals.proofs.Lent.{lent_at, lent_inside}

-- a list that is written from a place on, in the part of it that begins there
append-none : (l : List ℕ) → l ++ [] ≡ l
append-none [] = refl
append-none (x ∷ l) = ap (λ t. x ∷ t) (append-none l)

pub part_back : (f : ℕ → ℕ) (at n : ℕ) (l : List ℕ) {q : List ℕ} → q ≡ spliced f 0 n (part at l) → put_mid at (length l - at) l q ≡ spliced f at n l
unfolding spliced
part_back f at n l e =
    ap (put_mid at (length l - at) l) e
    ∙ ap (λ t. take at l ++ ((tabulate n f ++ drop n (part at l)) ++ t)) (drop_of_length-le (drop at l) (Nat.le_of_eq (length-drop at l)))
    ∙ ap (λ t. take at l ++ t) (append-none (tabulate n f ++ drop n (part at l)))
    ∙ ap (λ t. take at l ++ (tabulate n f ++ drop n t)) (tail_all at l)

module _ (S : Settings) where
  open S use {degree as d, rows as rows}

  -- row i of elements that are lent, as the code lends it on
  module _ (allowed : settings_refusal S ≡ 0) (w : ℕ) (i : ℕ) (h : i < rows) where
    row_same : (t : List ℕ) → Same d (residue (part (i * w) t)) (residue (value_row (lent_rows S w t) i))
    unfolding residue
    row_same t k l = ap pos (tail_at (i * w) t k 0 ∙ sym (lent_at S allowed w t i k h l))

    pub row_residues : (t : List ℕ) → RowsLent S w (length t) → residue_rows S (lent_rows S w t) ≡ true → Residues S.modulus d 0 (part (i * w) t)
    row_residues t lent below = record {
      long = omega (arith, part-long (i * w) d t (lent_inside S allowed w t lent i h));
      each = λ k l. subst (λ x. x < S.modulus) (lent_at S allowed w t i (0 + k) h (omega arith) ∙ sym (tail_at (i * w) t (0 + k) 0)) (row_reduced S (lent_rows S w t) below i h (0 + k) (omega arith));
    }

    pub row-holds : (claim c0 c2 : List ℕ) → round_holds S (part (i * width) claim) (residue (part (i * w) c0)) (residue (part (i * w) c2))
        ≡ round_holds S (value_row claim i) (residue (value_row (lent_rows S w c0) i)) (residue (value_row (lent_rows S w c2) i))
    row-holds claim c0 c2 = round_same S {c1 = residue []} (row_same c0) (λ _ _. refl) (row_same c2) _ _ (λ k _. ap (λ t. get_or t k 0) (value-part claim i))

    -- the claim that is written for a row
    pub row_value : (e : ℕ) (c0 c1 c2 : List ℕ) (k : ℕ) → k < d → value_at S.modulus d e (residue (part (i * w) c0)) (residue (part (i * w) c1)) (residue (part (i * w) c2)) k
        ≡ get_or (next_claim S e (residue (value_row (lent_rows S w c0) i)) (residue (value_row (lent_rows S w c1) i)) (residue (value_row (lent_rows S w c2) i))) k 0
    unfolding value_at next_claim reduced
    row_value e c0 c1 c2 k l =
        sym (tabulate_at d (value_at S.modulus d e (residue (part (i * w) c0)) (residue (part (i * w) c1)) (residue (part (i * w) c2))) 0 k l)
        ∙ ap (λ s. get_or s k 0) (claim_same S (row_same c0) (row_same c1) (row_same c2) e)

  -- ---- row by row

  module _ (f : ℕ → List ℕ) where
    -- the first i rows, and zeros
    unfoldable pub first_rows : ℕ → List ℕ
    first_rows i = flat width rows_most (λ r k. choose (ltb r i && ltb k d) (get_or (f r) k 0) 0)

    pub rows_none : zeros rows_width ≡ first_rows 0
    unfolding zeros first_rows
    rows_none =
        sym (flat-own width rows_most (replicate rows_width 0) 0 (omega arith) (length-replicate {A = ℕ} rows_width 0))
        ∙ flat_ext width rows_most (omega arith) (λ r k _ _. replicate_at 0 rows_width (r * width + k) ∙ unfold choose in (λ z. choose (sym (le-ltb r 0 (omega arith)) z && ltb k d) (get_or (f r) k 0) 0))

    pub rows_all : first_rows rows ≡ at_rows S f
    unfolding first_rows at_rows
    rows_all = refl

    pub rows_long : (i : ℕ) → length (first_rows i) ≡ rows_width
    unfolding first_rows
    rows_long i = flat-length width rows_most _

    pub rows_more : (i : ℕ) → i < rows_most → d ≤ width → spliced (λ k. get_or (f i) k 0) (i * width) d (first_rows i) ≡ first_rows (i + 1)
    unfolding first_rows
    rows_more i h w =
        sym (flat-own width rows_most (spliced g (i * width) d l) 0 (omega arith) (spliced-length g (i * width) d l inside room ∙ rows_long i))
        ∙ flat_ext width rows_most (omega arith) each
      where
        g : ℕ → ℕ
        g k = get_or (f i) k 0

        l : List ℕ
        l = first_rows i

        inside : i * width ≤ length l
        inside = omega (arith, rows_long i)

        room : i * width + d ≤ length l
        room = omega (arith, rows_long i)

        at : (r k : ℕ) → r < rows_most → k < width → get_or l (r * width + k) 0 ≡ choose (ltb r i && ltb k d) (get_or (f r) k 0) 0
        at r k hr hk = flat_at width rows_most (λ r k. choose (ltb r i && ltb k d) (get_or (f r) k 0) 0) 0 r k hr hk

        other : (r k : ℕ) {b : Bool} → ltb r i ≡ b → ltb r (i + 1) ≡ b → choose (ltb r i && ltb k d) (get_or (f r) k 0) 0 ≡ choose (ltb r (i + 1) && ltb k d) (get_or (f r) k 0) 0
        other r k e e' = ap (λ b. choose (b && ltb k d) (get_or (f r) k 0) 0) (e ∙ sym e')

        own : (k : ℕ) → k < width → get_or (spliced g (i * width) d l) (i * width + k) 0 ≡ choose (ltb i (i + 1) && ltb k d) (get_or (f i) k 0) 0
        own k hk = elim (dec_lt k d) [
          | yes m ↦ spliced-inside g (i * width) d l inside k m ∙ sym (unfold choose in (λ z. choose (lt-ltb i (i + 1) (omega arith) z && lt-ltb k d m z) (get_or (f i) k 0) 0))
          | no n ↦
              spliced-behind g (i * width) d l inside (i * width + k) (omega arith)
              ∙ at i k h hk
              ∙ unfold choose in (λ z. choose (le-ltb i i (Nat.le_refl i) z && ltb k d) (get_or (f i) k 0) 0)
              ∙ sym (unfold choose in (λ z. choose (lt-ltb i (i + 1) (omega arith) z && le-ltb k d (omega arith) z) (get_or (f i) k 0) 0))
        ]

        each : (r k : ℕ) → r < rows_most → k < width → get_or (spliced g (i * width) d l) (r * width + k) 0 ≡ choose (ltb r (i + 1) && ltb k d) (get_or (f r) k 0) 0
        each r k hr hk = elim (dec_lt r i) [
          | yes before ↦ spliced-before g (i * width) d l inside (r * width + k) (omega arith) ∙ at r k hr hk ∙ other r k (lt-ltb r i before) (lt-ltb r (i + 1) (omega arith))
          | no m ↦ elim (dec_lt i r) [
            | yes behind ↦ spliced-behind g (i * width) d l inside (r * width + k) (omega arith) ∙ at r k hr hk ∙ other r k (le-ltb r i (omega arith)) (le-ltb r (i + 1) (omega arith))
            | no n ↦ let e : i ≡ r = omega arith in subst (λ r. get_or (spliced g (i * width) d l) (r * width + k) 0 ≡ choose (ltb r (i + 1) && ltb k d) (get_or (f r) k 0) 0) e (own k hk)
          ]
        ]
