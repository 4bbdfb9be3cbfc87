-- In one row the test `accepted` and the statement `Accepted` say the same; of all rows `all_accepted`, `AllAccepted` and the absence of a `cause` do.
use mathlib.Core.Path.{◌≡◌, refl, sym, ap, ◌∙◌}
use mathlib.Core.Bool.{Bool, true, false, ◌&&◌, not, false≢true}
use mathlib.Core.List.{List}
use Prim.Native.Nat.{ℕ, ◌+◌, ◌*◌, ◌<◌, ◌≤◌}
use native.Mathlib.Nat as Nat
use native.Mathlib.Decide.{dec_lt}
use native.Mathlib.Omega.{arith}
use borrow.Author.Tests.{eq-eqb, le-leb, eqb-true, leb-true, le-ltb, ltb-false, not-false}
use lib.Dec.{ltb, eqb}
use lib.ListN.{get_or}
use Rattle.protocol.specs.declared.Settings.{Settings}
use Rattle.protocol.specs.Basic.{every, least, within}
use Rattle.protocol.specs.Element.{signed}
use Rattle.protocol.specs.Settings.{size}
use Rattle.protocol.specs.Transcript.{Transcript, doubled, ending, holds_at, closes, round_holds, final_bounded, end_holds, folded_key, claim_after, element, accepted, Accepted}
use Rattle.protocol.specs.Rows.{key_row, row_of, Cause, end_cause, held, cause, all_accepted, AllAccepted}
use Rattle.protocol.proofs.Tests.{and_split, and_intro, every_at, every-intro, least_first}

module _ (S : Settings) (key : List ℕ) (T : Transcript) where
  pub accepted_states : accepted S key T ≡ true → Accepted S key T
  unfolding accepted holds_at closes round_holds final_bounded end_holds within
  accepted_states t = record {
    every_round = λ i l k m. eqb-true _ _ (every_at _ (λ j. eqb (doubled S (element S T i 0) (element S T i 2) j) (get_or (claim_after S T i) j 0)) (every_at _ (holds_at S T) whole.0 i l) k m);
    in_bound = λ k m. leb-true _ _ (every_at _ (λ j. within (size S * S.bound) (signed T.last j)) end.0 k m);
    at-end = λ k m. eqb-true _ _ (every_at _ (λ j. eqb (get_or (claim_after S T S.depth) j 0) (ending S (signed T.last) (folded_key S key T.challenges) j)) end.1 k m);
  }
    where
      whole : (every S.depth (holds_at S T) ≡ true) × ((final_bounded S (signed T.last) && closes S key T) ≡ true)
      whole = and_split t

      end : (final_bounded S (signed T.last) ≡ true) × (closes S key T ≡ true)
      end = and_split whole.1

  pub accepted-test : Accepted S key T → accepted S key T ≡ true
  unfolding accepted holds_at closes round_holds final_bounded end_holds within
  accepted-test a = and_intro
      (every-intro (λ i l. every-intro (λ k m. eq-eqb _ _ (a.every_round i l k m))))
      (and_intro (every-intro (λ k m. le-leb _ _ (a.in_bound k m))) (every-intro (λ k m. eq-eqb _ _ (a.at-end k m))))

-- ---- all rows

module _ (S : Settings) (key : List ℕ) (T : Transcript) where
  pub all_accepted_states : all_accepted S key T ≡ true → AllAccepted S key T
  unfolding all_accepted
  all_accepted_states t r l = accepted_states S (key_row S key r) (row_of S T r) (every_at S.rows (λ r. accepted S (key_row S key r) (row_of S T r)) t r l)

  pub all_accepted-test : AllAccepted S key T → all_accepted S key T ≡ true
  unfolding all_accepted
  all_accepted-test a = every-intro (λ r l. accepted-test S (key_row S key r) (row_of S T r) (a r l))

-- ---- the cause

module _ (S : Settings) (T : Transcript) where
  -- does round t + 1 hold in every row
  abbrev holds : ℕ → Bool
  holds t = every S.rows (λ r. holds_at S (row_of S T r) t)

  held_all : ((t : ℕ) → t < S.depth → holds t ≡ true) → held S T ≡ S.depth
  unfolding held
  held_all h = elim (dec_lt (least S.depth (λ t. not (holds t))) S.depth) [
    | yes l ↦ absurd (false≢true (sym (ap not (h _ l)) ∙ (least_first _ _).holds l))
    | no g ↦ omega (arith, (least_first S.depth (λ t. not (holds t))).at_most)
  ]

  all_held : S.depth ≤ held S T → (t : ℕ) → t < S.depth → holds t ≡ true
  unfolding held
  all_held l t h = not-false (holds t) ((least_first S.depth (λ t. not (holds t))).none_before t (omega arith))

end_none : (a b : Bool) → end_cause a b ≡ Cause.none → (a ≡ true) × (b ≡ true)
unfolding end_cause
end_none true true e = (refl, refl)
end_none true false e = absurd (let z : ◌≡◌ {A = ℕ} 0 1 = cc in omega arith)
end_none false b e = absurd (let z : ◌≡◌ {A = ℕ} 0 1 = cc in omega arith)

module _ (S : Settings) (key : List ℕ) (T : Transcript) where
  abbrev closes_at : ℕ → Bool
  closes_at r = closes S (key_row S key r) (row_of S T r)

  abbrev ends : Cause
  ends = end_cause (final_bounded S (signed T.last)) (every S.rows closes_at)

  -- what a row's acceptance is
  parts : (r : ℕ) → accepted S (key_row S key r) (row_of S T r) ≡ true
      → (every S.depth (holds_at S (row_of S T r)) ≡ true) × (final_bounded S (signed T.last) ≡ true) × (closes_at r ≡ true)
  unfolding accepted row_of
  parts r t = let (rounds, end) = and_split {a = every S.depth (holds_at S (row_of S T r))} t in let (bound, equation) = and_split {a = final_bounded S (signed T.last)} end in
      (rounds, bound, equation)

  -- there is a row, in which the bound is tested
  pub cause-none : 0 < S.rows → all_accepted S key T ≡ true → cause S key T ≡ Cause.none
  unfolding all_accepted cause
  cause-none p t =
      ap (λ b. elim b as (λ _. Cause) [ true ↦ Cause.round (held S T + 1) | false ↦ ends ]) (le-ltb (held S T) S.depth (Nat.le_of_eq (sym (held_all S T every_round))))
      ∙ unfold end_cause in (λ i. end_cause ((row 0 p).1 i) (every-intro {n = S.rows} {f = closes_at} (λ r l. (row r l).2) i))
    where
      row : (r : ℕ) → r < S.rows → (every S.depth (holds_at S (row_of S T r)) ≡ true) × (final_bounded S (signed T.last) ≡ true) × (closes_at r ≡ true)
      row r l = parts r (every_at S.rows (λ r. accepted S (key_row S key r) (row_of S T r)) t r l)

      every_round : (i : ℕ) → i < S.depth → every S.rows (λ r. holds_at S (row_of S T r) i) ≡ true
      every_round i h = every-intro (λ r l. every_at S.depth (holds_at S (row_of S T r)) (row r l).0 i h)

  pub none-accepted : cause S key T ≡ Cause.none → all_accepted S key T ≡ true
  unfolding all_accepted cause accepted row_of
  none-accepted e = go (ltb (held S T) S.depth) refl e
    where
      go : (b : Bool) → ltb (held S T) S.depth ≡ b → (elim b as (λ _. Cause) [ true ↦ Cause.round (held S T + 1) | false ↦ ends ]) ≡ Cause.none
          → every S.rows (λ r. accepted S (key_row S key r) (row_of S T r)) ≡ true
      go true l f = absurd (let z : ◌≡◌ {A = ℕ} 0 1 = cc in omega arith)
      go false l f = let (bound, equation) = end_none _ _ f in every-intro (λ r m. and_intro
          (every-intro (λ i h. every_at S.rows (λ r. holds_at S (row_of S T r) i) (all_held S T (ltb-false _ _ l) i h) r m))
          (and_intro bound (every_at S.rows closes_at equation r m)))
