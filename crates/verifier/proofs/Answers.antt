-- The session's moves on lent parts: what is known of these with no refusal, and the answers with one and without. Then the same moves by value.
use mathlib.Core.Path.{◌≡◌, sym, ap, ◌∙◌}
use mathlib.Core.Bool.{Bool, true, false, ◌&&◌}
use mathlib.Core.List.{List, [], ◌∷◌}
use Prim.Native.Nat.{ℕ, ◌<◌}
use borrow.Author.Tests.{ltb-true}
use lib.IntN.{ℤ}
use lib.ListN.{length}
use Rattle.protocol.specs.declared.Settings.{Settings}
use Rattle.protocol.specs.declared.Session.{Session}
use Rattle.protocol.specs.Answers.{Started}
use Rattle.std.specs.Prelude.{Ok}
use Rattle.protocol.specs.declared.Verdict.{Verdict as Says}
use Rattle.protocol.specs.Answers.{Moved, said}
use Rattle.protocol.specs.Answers.Verdict.{Silent, Holds, Rejected}
use Rattle.protocol.specs.Basic.{choose}
use Rattle.protocol.specs.Element.{zeros, value_row, residue}
use Rattle.protocol.specs.Settings.{settings_refusal, all_below, residue_rows}
use Rattle.protocol.specs.Layout.{key_cells}
use Rattle.protocol.specs.Rows.{at_rows}
use Rattle.protocol.specs.Inputs.{Below}
use Rattle.protocol.specs.Transcript.{next_claim}
use Rattle.protocol.specs.Session.{slots, verdict, opened, blank, start_refusal, start, refused_move, shut, part, session_round_refusal, advanced, session_round_holds, round, session_end_refusal}
use Rattle.protocol.specs.Session.{session_end_holds, end, verdict_number, session_round_number, session_end_number}
use Rattle.protocol.proofs.Answers.{session-round-number, session-end-number}
use Rattle.protocol.proofs.Inputs.{tested-below}
use Rattle.protocol.proofs.Tests.{and_split, granted-zero, granted_refused}
use Rattle.protocol.proofs.Refusals.{none-refused}
use Rattle.row_equations.specs.Given.{RowsEvaluable}
use Rattle.verifier_refusals.specs.declared.Progress.{Progress}
use Rattle.verifier_refusals.specs.Lent.{record_of, lent_rows, lent_polynomial, RoundLent}
use Rattle.verifier.specs.Records.{shut_of, counted_of, row_read, moved_with}

-- ---- start

module _ (S : Settings) (C : List ℕ) where
  pub start-allowed : start_refusal S C ≡ 0 → settings_refusal S ≡ 0
  unfolding start_refusal
  start-allowed e = (none-refused ((7, _) ∷ []) e).0

  pub start-refused : (n : ℕ) (none : Session) → n ≡ start_refusal S C → (n ≡ 0 → ⊥) → none ≡ blank → ◌≡◌ {A = Started} (record { refusal = n; next = none }) (start S C)
  unfolding start
  start-refused n none e r b = let next = b ∙ sym (granted_refused (start_refusal S C) (opened S C) blank (λ z. r (e ∙ z))) in λ i. record { refusal = e i; next = next i }

  pub start-done : start_refusal S C ≡ 0 → (claims : List ℕ) → claims ≡ at_rows S (row_read S C)
      → ◌≡◌ {A = Started} (record { refusal = 0; next = record { settings = S; done = 0; claims = claims; challenges = zeros slots; closed = false } }) (start S C)
  unfolding start opened
  start-done z claims e =
      let next = (λ i. record { settings = S; done = 0; claims = e i; challenges = zeros slots; closed = false }) ∙ sym (granted-zero (start_refusal S C) (opened S C) blank z) in
      λ i. record { refusal = sym z i; next = next i }

-- ---- round

-- the number of an answer's verdict
pub round-answered : (r : Session) (p : List (List ℕ)) (e : ℕ) (m : Moved) → m ≡ round r p e → verdict_number m.verdict ≡ session_round_number r p e
round-answered r p e m is = ap (λ x. verdict_number x.verdict) is ∙ session-round-number r p e

module _ (b : Progress) (own : List ℕ) (w : ℕ) (c0 c1 c2 : List ℕ) (e : ℕ) where
  abbrev r : Session
  r = record_of b own

  abbrev S : Settings
  S = b.settings

  abbrev p : List (List ℕ)
  p = lent_polynomial S w c0 c1 c2

  pub record Passed : Type 0 where
    pub read : RowsEvaluable S w c0 c1 c2
    pub turn : b.done < S.depth

  pub round_passed : RoundLent S (length own) w (length c0) (length c1) (length c2) → session_round_refusal r p e ≡ 0 → Passed
  unfolding session_round_refusal part
  round_passed lent z =
      let (r16, (t8, (_, (t11, _)))) = none-refused ((7, _) ∷ (9, _) ∷ (10, _) ∷ []) z in
      let (three, last) = and_split {a = residue_rows S own && residue_rows S (part p 0) && residue_rows S (part p 1)} {b = residue_rows S (part p 2)} t8 in
      let (two, middle) = and_split {a = residue_rows S own && residue_rows S (part p 0)} {b = residue_rows S (part p 1)} three in
      let (_, front) = and_split {a = residue_rows S own} {b = residue_rows S (part p 0)} two in
      record {
        read = record { allowed = r16; first_lent = lent.first r16; second_lent = lent.second r16; third_lent = lent.third r16; first = front; second = middle; third = last };
        turn = ltb-true _ _ (and_split t11).0;
      }

  pub round_refused : (n : ℕ) → n ≡ session_round_refusal r p e → (n ≡ 0 → ⊥) → ◌≡◌ {A = Moved} (record { refusal = n; verdict = Silent; next = r }) (round r p e)
  unfolding round refused_move
  round_refused n f s = (λ i. record { refusal = f i; verdict = Silent; next = r }) ∙ sym (granted_refused (session_round_refusal r p e) _ _ (λ z. s (f ∙ z)))

  made : session_round_refusal r p e ≡ 0 → (t : Bool) → session_round_holds r p ≡ t →
      round r p e ≡ choose t (record { refusal = 0; verdict = Holds; next = advanced r p e }) (record { refusal = 0; verdict = Rejected; next = shut r })
  unfolding round
  made z t h = granted-zero (session_round_refusal r p e) _ _ z
      ∙ ap (λ t. choose t (record { refusal = 0; verdict = Holds; next = advanced r p e }) (record { refusal = 0; verdict = Rejected; next = shut r })) h

  pub round_rejected : session_round_refusal r p e ≡ 0 → session_round_holds r p ≡ false → (next : Progress) → next ≡ shut_of b →
      ◌≡◌ {A = Moved} (record { refusal = 0; verdict = Rejected; next = record_of next own }) (round r p e)
  unfolding choose shut
  round_rejected z h next s = (λ i. record { refusal = 0; verdict = Rejected; next = record_of (s i) own }) ∙ sym (made z false h)

  pub round_counted : session_round_refusal r p e ≡ 0 → session_round_holds r p ≡ true → (next : Progress) (claims : List ℕ) → next ≡ counted_of b e
      → claims ≡ at_rows S (λ i. next_claim S e (residue (value_row (lent_rows S w c0) i)) (residue (value_row (lent_rows S w c1) i)) (residue (value_row (lent_rows S w c2) i))) →
      ◌≡◌ {A = Moved} (record { refusal = 0; verdict = Holds; next = record_of next claims }) (round r p e)
  unfolding choose advanced part
  round_counted z h next claims s c = (λ i. record { refusal = 0; verdict = Holds; next = record_of (s i) (c i) }) ∙ sym (made z true h)

-- ---- end

pub end-answered : (r : Session) (f : List ℤ) (key : List ℕ) (m : Moved) → m ≡ end r f key → verdict_number m.verdict ≡ session_end_number r f key
end-answered r f key m is = ap (λ x. verdict_number x.verdict) is ∙ session-end-number r f key

module _ (b : Progress) (own : List ℕ) (f : List ℤ) (key : List ℕ) where
  abbrev closing : Session
  closing = record_of b own

  pub record EndGiven : Type 0 where
    pub allowed : settings_refusal b.settings ≡ 0
    pub key_below : Below b.settings.modulus (key_cells b.settings) key

  pub end_given : session_end_refusal closing key ≡ 0 → EndGiven
  unfolding session_end_refusal all_below
  end_given z =
      let (r16, (t7, (t8, _))) = none-refused ((6, _) ∷ (7, _) ∷ (9, _) ∷ (10, _) ∷ []) z in
      let S = b.settings in
      let (of_key, of-claim) = and_split {a = all_below S key} {b = residue_rows S own} t8 in
      record { allowed = r16; key_below = tested-below S.modulus (key_cells S) key t7 of_key }

  pub end_refused : (n : ℕ) → n ≡ session_end_refusal closing key → (n ≡ 0 → ⊥) → ◌≡◌ {A = Moved} (record { refusal = n; verdict = Silent; next = closing }) (end closing f key)
  unfolding end refused_move
  end_refused n e s = (λ i. record { refusal = e i; verdict = Silent; next = closing }) ∙ sym (granted_refused (session_end_refusal closing key) _ _ (λ z. s (e ∙ z)))

  pub end_done : session_end_refusal closing key ≡ 0 → (t : Bool) → session_end_holds closing f key ≡ t → (next : Progress) → next ≡ shut_of b →
      ◌≡◌ {A = Moved} (record { refusal = 0; verdict = verdict t; next = record_of next own }) (end closing f key)
  unfolding end shut
  end_done z t h next s = (λ i. record { refusal = 0; verdict = verdict (sym h i); next = record_of (s i) own }) ∙ sym (granted-zero (session_end_refusal closing key) _ _ z)

  -- the same, as the code says it
  pub end-said : session_end_refusal closing key ≡ 0 → (t : Bool) → session_end_holds closing f key ≡ t → (v : Says) → said v ≡ verdict t → (next : Progress) → next ≡ shut_of b →
      moved_with (record { said = Ok v; next = next }) own ≡ end closing f key
  end-said z t h v e next s = (λ i. record { refusal = 0; verdict = e i; next = record_of next own }) ∙ end_done z t h next s
