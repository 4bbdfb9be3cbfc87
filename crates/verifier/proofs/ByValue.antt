-- What is passed by value for each row counts by the first d places of its rows alone, so a move answers the same of it and of the elements that are lent from it.
use mathlib.Core.Path.{◌≡◌, refl, sym, ap, ◌∙◌}
use mathlib.Core.Logic.{◌≢◌}
use mathlib.Core.Bool.{false, ◌&&◌, not}
use mathlib.Core.List.{List, [], ◌∷◌}
use Prim.Native.Nat.{ℕ, zero, suc, ◌+◌, ◌<◌}
use native.Mathlib.Omega.{arith}
use lib.Dec.{ltb}
use lib.IntN.{pos}
use lib.ListN.{get_or, set}
use Rattle.protocol.specs.declared.Settings.{Settings}
use Rattle.protocol.specs.declared.Session.{Session}
use Rattle.protocol.specs.Answers.Verdict.{Holds, Rejected}
use Rattle.protocol.specs.Basic.{choose, first, unless, granted}
use Rattle.protocol.specs.Element.{zeros, value_row, residue}
use Rattle.protocol.specs.Layout.{width, rows_width}
use Rattle.protocol.specs.Settings.{settings_refusal, residue_rows, exponent, exponents}
use Rattle.protocol.specs.Session.{slots, opened, blank, start_refusal, start, shut, refused_move, part, session_round_refusal, advanced, session_round_holds, round}
use Rattle.protocol.proofs.Agreement.{Same, every_ext, claim_same, round_same}
use Rattle.protocol.proofs.Inputs.{settings-valid}
use Rattle.protocol.proofs.Reading.{tabulate_ext}
use Rattle.protocol.proofs.Rows.{value_row_at}
use Rattle.protocol.proofs.Tests.{first_zero, granted-zero, granted_refused}
use Rattle.slices.proofs.Rows.{at_rows_ext}
use Rattle.sizes.proofs.Limits.{degree_most}
use Rattle.verifier_refusals.specs.Lent.{lent_rows, lent_polynomial, RowsLent}
use Rattle.verifier_refusals.proofs.Lent.{lent_at, value_residues}
use Rattle.verifier.proofs.Answers.{start-allowed}

first_same : (n : ℕ) (xs ys : List ℕ) → (n ≡ 0 → first xs ≡ first ys) → first (n ∷ xs) ≡ first (n ∷ ys)
unfolding first
first_same zero xs ys h = h refl
first_same (suc n) xs ys h = refl

module _ (S : Settings) where
  open S use {degree as d, rows as rows}

  -- what is lent by value has its places
  pub by_value : (n : ℕ) → n ≡ rows_width → settings_refusal S ≡ 0 → RowsLent S width n
  by_value n e ok = let valid = settings-valid S ok in record { apart = degree_most S valid; near = omega arith; long = omega (arith, valid.rows_most_holds) }

  module _ (ok : settings_refusal S ≡ 0) (C : List ℕ) where
    row_at : (r k : ℕ) → r < rows → k < d → get_or (value_row (lent_rows S width C) r) k 0 ≡ get_or (value_row C r) k 0
    row_at r k h l = lent_at S ok width C r k h l ∙ sym (value_row_at S C r k)

    same_residues : residue_rows S (lent_rows S width C) ≡ residue_rows S C
    same_residues = value_residues S ok C

    same_row : (r : ℕ) → r < rows → Same d (residue (value_row (lent_rows S width C) r)) (residue (value_row C r))
    unfolding residue
    same_row r h k l = ap pos (row_at r k h l)

  -- ---- start

  module _ (C : List ℕ) where
    refusal_same : start_refusal S (lent_rows S width C) ≡ start_refusal S C
    unfolding start_refusal
    refusal_same = first_same _ _ _ (λ ok. ap (λ t. first (unless 8 t ∷ [])) (same_residues ok C))

    opened_same : settings_refusal S ≡ 0 → opened S (lent_rows S width C) ≡ opened S C
    unfolding opened
    opened_same ok =
        let claims = at_rows_ext S _ _ (λ r k h l. ap (λ t. get_or t k 0) (tabulate_ext d (λ k l. row_at ok C r k h l))) in
        λ i. record { settings = S; done = 0; claims = claims i; challenges = zeros slots; closed = false }

    pub start_same : start S (lent_rows S width C) ≡ start S C
    unfolding start
    start_same = λ i. record { refusal = refusal_same i; next = go (start_refusal S C) refl i }
      where
        go : (n : ℕ) → start_refusal S C ≡ n → granted (start_refusal S (lent_rows S width C)) (opened S (lent_rows S width C)) blank ≡ granted (start_refusal S C) (opened S C) blank
        go zero z = granted-zero _ _ _ (refusal_same ∙ z) ∙ opened_same (start-allowed S C z) ∙ sym (granted-zero _ _ _ z)
        go (suc n) z =
            let no : start_refusal S C ≢ 0 = λ h. let never = sym z ∙ h in omega arith in
            granted_refused _ _ _ (λ h. no (sym refusal_same ∙ h)) ∙ sym (granted_refused _ _ _ no)

-- ---- round

module _ (r : Session) (p : List (List ℕ)) (e : ℕ) where
  abbrev S : Settings
  S = r.settings

  abbrev own : List (List ℕ)
  own = lent_polynomial S width (part p 0) (part p 1) (part p 2)

  turn-refusal_same : session_round_refusal r own e ≡ session_round_refusal r p e
  unfolding session_round_refusal part
  turn-refusal_same = first_same _ _ _ (λ ok i. first
      (unless 8 (residue_rows S r.claims && same_residues S ok (part p 0) i && same_residues S ok (part p 1) i && same_residues S ok (part p 2) i)
      ∷ unless 10 (exponents S r.challenges && exponent S e)
      ∷ unless 11 (ltb r.done S.depth && not r.closed)
      ∷ []))

  module _ (ok : settings_refusal S ≡ 0) where
    holds_same : session_round_holds r own ≡ session_round_holds r p
    unfolding session_round_holds part
    holds_same = every_ext S.rows (λ i h. round_same S {c1 = residue []} (same_row S ok (part p 0) i h) (λ _ _. refl) (same_row S ok (part p 2) i h) _ _ (λ _ _. refl))

    advanced_same : advanced r own e ≡ advanced r p e
    unfolding advanced part
    advanced_same =
        let claims = at_rows_ext S _ _ (λ i k h _. ap (λ t. get_or t k 0) (claim_same S (same_row S ok (part p 0) i h) (same_row S ok (part p 1) i h) (same_row S ok (part p 2) i h) e)) in
        λ i. record { settings = S; done = r.done + 1; claims = claims i; challenges = set r.challenges r.done e; closed = r.closed }

  pub turn_same : round r own e ≡ round r p e
  unfolding round
  turn_same = go (session_round_refusal r p e) refl
    where
      allowed : session_round_refusal r p e ≡ 0 → settings_refusal S ≡ 0
      allowed z = unfold session_round_refusal in (first_zero _ _ z).0

      go : (n : ℕ) → session_round_refusal r p e ≡ n → round r own e ≡ round r p e
      go zero z =
          granted-zero _ _ _ (turn-refusal_same ∙ z)
          ∙ (λ i. choose (holds_same (allowed z) i) (record { refusal = 0; verdict = Holds; next = advanced_same (allowed z) i }) (record { refusal = 0; verdict = Rejected; next = shut r }))
          ∙ sym (granted-zero _ _ _ z)
      go (suc n) z =
          let no : session_round_refusal r p e ≢ 0 = λ h. let never = sym z ∙ h in omega arith in
          granted_refused _ _ _ (λ h. no (sym turn-refusal_same ∙ h)) ∙ ap (refused_move r) turn-refusal_same ∙ sym (granted_refused _ _ _ no)
