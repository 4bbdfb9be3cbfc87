-- The claims of a record in a slice, lent from it: what is lent, and the slice after they were written.
use mathlib.Core.Path.{◌≡◌, refl, sym, ap, ◌∙◌}
use mathlib.Core.Logic.{◌≢◌}
use mathlib.Core.Bool.{Bool, true, false}
use mathlib.Core.List.{List, [], ◌∷◌, ◌++◌}
use Prim.Native.Nat.{ℕ, zero, suc, ◌+◌, ◌*◌, ◌-◌, ◌<◌, ◌≤◌}
use native.Mathlib.Nat as Nat
use native.Mathlib.Omega.{arith}
use borrow.Rule.Slice.PartMut.{put_mid, same_len_mid}
use lib.ListN.{length, get_or, take, drop, take-append-drop, get_or-append}
use lib.Seq.{get_or-append-add, length-take-le}
use Rattle.protocol.specs.declared.Settings.{Settings}
use Rattle.protocol.specs.declared.Session.{Session}
use Rattle.protocol.specs.Answers.{Moved}
use Rattle.protocol.specs.Answers.Verdict.{Holds, Rejected}
use Rattle.protocol.specs.Basic.{choose, granted}
use Rattle.protocol.specs.Layout.{rows_width, item_cells}
use Rattle.protocol.specs.Settings.{settings_refusal}
use Rattle.protocol.specs.Session.{shut, refused_move, advanced, session_round_refusal, session_round_holds, round, verdict_number}
use Rattle.protocol.proofs.Inputs.{settings-valid}
use Rattle.protocol.proofs.Reading.{tabulate_ext, tabulate_own}
use Rattle.protocol.proofs.Tests.{granted-zero, granted_refused}
use Rattle.residues.proofs.Parts.{tail_all, tail_at, tail-length}
use Rattle.sizes.proofs.Limits.{degree_most}
use Rattle.slices.specs.Slices.{values_of, polynomial_of}
use Rattle.session_records.specs.Records.{record_width, claims_at, claims_of, record_stored}
use Rattle.session_records.proofs.Stored.{stored-over}
use Rattle.protocol.specs.declared.Handed.{Handed}
use Rattle.protocol.specs.declared.Verdict.{Verdict as Says}
use Rattle.verifier_refusals.specs.declared.Progress.{Progress}
use Rattle.verifier.specs.Records.{moved_with}
use Rattle.verifier_refusals.specs.Lent.{lent_rows, lent_polynomial, RowsLent}
use Rattle.sessions.specs.Promises.{Answered}

module _ (t : List ℕ) (long : length t ≡ record_width) where
  pub lent_long : length (take (length t - claims_at) (drop claims_at t)) ≡ rows_width
  lent_long = omega (arith, tail-length claims_at t)

  pub claims_lent : take (length t - claims_at) (drop claims_at t) ≡ claims_of t
  unfolding claims_of
  claims_lent = sym (tabulate_own rows_width _ 0 lent_long) ∙ tabulate_ext rows_width (λ k _. tail_at claims_at t k 0)

  -- the slice with its own claims, and with others
  kept : put_mid claims_at (length t - claims_at) t (claims_of t) ≡ t
  kept =
      ap (put_mid claims_at (length t - claims_at) t) (sym claims_lent)
      ∙ ap (λ l. take claims_at t ++ l) (take-append-drop (length t - claims_at) (drop claims_at t))
      ∙ take-append-drop claims_at t

  module _ (q : List ℕ) (full : length q ≡ rows_width) where
    pub written_long : length (put_mid claims_at (length t - claims_at) t q) ≡ record_width
    written_long = same_len_mid claims_at (length t - claims_at) t q (full ∙ sym lent_long) ∙ long

    pub written-claims : claims_of (put_mid claims_at (length t - claims_at) t q) ≡ q
    unfolding claims_of
    written-claims = tabulate_ext rows_width at ∙ tabulate_own rows_width q 0 full
      where
        rest : List ℕ
        rest = drop (length t - claims_at) (drop claims_at t)

        at : (k : ℕ) → k < rows_width → get_or (take claims_at t ++ (q ++ rest)) (claims_at + k) 0 ≡ get_or q k 0
        at k l =
            ap (λ n. get_or (take claims_at t ++ (q ++ rest)) (n + k) 0) (sym (length-take-le claims_at t (omega arith)))
            ∙ get_or-append-add (take claims_at t) (q ++ rest) k 0
            ∙ get_or-append q rest 0 k (omega arith)

    -- a move that wrote its next claims, which a refused one leaves as they are, and whose answer was then stored
    pub answered_lent : (said : Handed Says Progress) (m : Moved) → moved_with said q ≡ m → (m.refusal ≢ 0 → m.next.claims ≡ claims_of t) → (n : ℕ) (t' : List ℕ) (v : ℕ)
        → let w = put_mid claims_at (length t - claims_at) t q in Answered (moved_with said (claims_of w)) w n t' v → Answered m t n t' v
    answered_lent said m is same n t' v a = record {
      refusal = a.refusal ∙ ap (λ (x : Moved). x.refusal) moved;
      record_exit = a.record_exit ∙ ap (λ (x : Moved). granted x.refusal (record_stored x.next w) w) moved ∙ go m.refusal refl;
      verdict_exit = a.verdict_exit ∙ ap (λ (x : Moved). granted x.refusal (verdict_number x.verdict) 0) moved;
    }
      where
        w : List ℕ
        w = put_mid claims_at (length t - claims_at) t q

        moved : moved_with said (claims_of w) ≡ m
        moved = ap (moved_with said) written-claims ∙ is

        go : (k : ℕ) → m.refusal ≡ k → granted m.refusal (record_stored m.next w) w ≡ granted m.refusal (record_stored m.next t) t
        go zero z = granted-zero _ _ _ z ∙ stored-over m.next w t written_long long ∙ sym (granted-zero _ _ _ z)
        go (suc k) z =
            let no : m.refusal ≢ 0 = λ h. let never = sym z ∙ h in omega arith in
            let own = ap (put_mid claims_at (length t - claims_at) t) (ap (λ (x : Moved). x.next.claims) is ∙ same no) ∙ kept in
            granted_refused _ _ _ no ∙ own ∙ sym (granted_refused _ _ _ no)

-- a refused round keeps the claims
pub round_kept : (r : Session) (p : List (List ℕ)) (e : ℕ) → (round r p e).refusal ≢ 0 → (round r p e).next.claims ≡ r.claims
unfolding round granted choose refused_move
round_kept r p e = go (session_round_refusal r p e) (session_round_holds r p)
  where
    made : Bool → Moved
    made b = choose b (record { refusal = 0; verdict = Holds; next = advanced r p e }) (record { refusal = 0; verdict = Rejected; next = shut r })

    go : (n : ℕ) (b : Bool) → (granted n (made b) (refused_move r n)).refusal ≢ 0 → (granted n (made b) (refused_move r n)).next.claims ≡ r.claims
    go zero true h = absurd (h refl)
    go zero false h = absurd (h refl)
    go (suc n) b h = refl

-- elements in a flat slice
module _ (S : Settings) where
  pub flat_lent : settings_refusal S ≡ 0 → (n : ℕ) → item_cells S ≤ n → RowsLent S S.degree n
  flat_lent ok n h = record { apart = Nat.le_refl _; near = degree_most S (settings-valid S ok); long = h }

  pub flat-values : (t : List ℕ) → lent_rows S S.degree t ≡ values_of S t
  unfolding lent_rows values_of
  flat-values t = refl

  pub flat-polynomial : (t : List ℕ) (n : ℕ) → n ≡ item_cells S
      → lent_polynomial S S.degree t (take (length t - n) (drop n t)) (take (length t - 2 * n) (drop (2 * n) t)) ≡ polynomial_of S t
  unfolding polynomial_of
  flat-polynomial t n e =
      let second = flat-values _ ∙ ap (values_of S) (tail_all n t ∙ ap (λ m. drop m t) e) in
      let third = flat-values _ ∙ ap (values_of S) (tail_all (2 * n) t ∙ ap (λ m. drop (2 * m) t) e) in
      λ i. flat-values t i ∷ second i ∷ third i ∷ []
