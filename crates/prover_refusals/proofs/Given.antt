-- What is known of the inputs of a prover's call that nothing refuses: of the message, and of every row of the key.
--
--   number_least                               a refusal's number is not 0
--   first_row                                  there is a row
--   commit_key, round_key, fold_key_holds      the settings are allowed, and the key has all its rows
--   commit_given, round_given, fold_given      what each call's work in a row asks for
use mathlib.Core.Path.{◌≡◌, sym, ap, ◌∙◌}
use mathlib.Core.Bool.{true, ◌&&◌}
use mathlib.Core.List.{List, [], ◌∷◌}
use Prim.Native.Nat.{ℕ, ◌*◌, ◌^◌, ◌<◌, ◌≤◌}
use native.Mathlib.Omega.{arith}
use borrow.Author.Tests.{eq-eqb, eqb-true, leb-true, ltb-true}
use lib.Dec.{leb}
use lib.IntN.{ℤ, pos, nat_abs}
use lib.ListN.{length, get_or, take}
use lib.Seq.{get_or-take, length-take-le}
use Rattle.protocol.specs.declared.Settings.{Settings}
use Rattle.protocol.specs.declared.Refusal.{Refusal}
use Rattle.protocol.specs.declared.Refusal.TheVariants.{Long, Text, Degree, Depth, Modulus, Bound, Size, Residue, Tall, Challenge, Turn, Twin, Branch, Growth, Slack}
use Rattle.protocol.specs.declared.Refusal.TheVariants as Code
use Rattle.protocol.specs.Refusal.{number}
use Rattle.protocol.specs.Basic.{within}
use Rattle.protocol.specs.Settings.{settings_refusal, cells, has_length, all_below, all_within, exponent}
use Rattle.protocol.specs.Layout.{key_cells, left_cells}
use Rattle.protocol.specs.Rows.{key_row}
use Rattle.protocol.specs.Calls.{left_small, commit_refusal, round_refusal, fold_refusal, end_refusal}
use Rattle.protocol.specs.Inputs.{Valid}
use Rattle.protocol.proofs.Tests.{and_split, all_at}
use Rattle.protocol.proofs.Inputs.{settings-valid, tested-below, tested_within}
use Rattle.protocol.proofs.Refusals.{none-refused, moving_tested}
use Rattle.protocol.proofs.OpeningLaws.{left_inside}
use Rattle.protocol.proofs.Rows.{key_row-below}
pub use Rattle.prover_refusals.specs.Given.{TablesGiven, SmallLeft, CommitGiven, RoundGiven, FoldGiven}
pub use Rattle.ranges.proofs.Numbers.{number_least}

pub first_row : (S : Settings) → settings_refusal S ≡ 0 → 0 < S.rows
first_row S z = omega (arith, (settings-valid S z).rows_least)

module _ (S : Settings) (key : List ℕ) (message : List ℤ) where
  abbrev Whole : Type 0
  Whole = (settings_refusal S ≡ 0) × (length key ≡ key_cells S)

  key_given : settings_refusal S ≡ 0 → (has_length (key_cells S) key && has_length (cells S) message) ≡ true → Whole
  unfolding has_length
  key_given r6 t7 = (r6, eqb-true _ _ (and_split t7).0)

  abbrev Rows : Type 0
  Rows = (r : ℕ) → r < S.rows → TablesGiven S (key_row S key r) message

  tables_given : settings_refusal S ≡ 0 → (has_length (key_cells S) key && has_length (cells S) message) ≡ true → all_below S key ≡ true → Rows
  unfolding has_length all_below
  tables_given r6 t7 t8 r h =
      let (k, m) = and_split t7 in
      record {
        allowed = r6;
        settings = settings-valid S r6;
        key_given = key_row-below S S.modulus key (tested-below S.modulus (key_cells S) key k t8) r h;
        message_long = eqb-true _ _ m;
      }

  -- refusal 9

  small_left_given : (t : ℕ) → length message ≡ cells S → left_small S t message ≡ true → SmallLeft S t message
  unfolding left_small all_within within
  small_left_given t long h j l =
      let inside : left_cells S t ≤ length message = omega (arith, left_inside S t) in
      omega (
        arith,
        ap nat_abs (get_or-take (left_cells S t) message j (pos 0) l),
        leb-true (nat_abs (get_or (take (left_cells S t) message) j (pos 0))) (2 ^ t * S.bound)
            (all_at (λ z. leb (nat_abs z) (2 ^ t * S.bound)) (take (left_cells S t) message) (pos 0) h j (omega (arith, length-take-le (left_cells S t) message inside))),
      )

  -- ---- the prover's calls

  pub commit_given : commit_refusal S key message ≡ 0 → (r : ℕ) → r < S.rows → CommitGiven S (key_row S key r) message
  unfolding commit_refusal has_length
  commit_given z r h =
      let (r6, (t7, (t8, (t9, _)))) = none-refused ((6, _) ∷ (7, _) ∷ (8, _) ∷ []) z in
      let g = tables_given r6 t7 t8 r h in
      record { tables = g; message_given = tested_within S.bound (cells S) message (eq-eqb _ _ g.message_long) t9 }

  pub commit_key : commit_refusal S key message ≡ 0 → Whole
  unfolding commit_refusal
  commit_key z = let (r6, (t7, _)) = none-refused ((6, _) ∷ (7, _) ∷ (8, _) ∷ []) z in key_given r6 t7

  pub round_given : (t : ℕ) → round_refusal S t key message ≡ 0 → (r : ℕ) → r < S.rows → RoundGiven S t (key_row S key r) message
  unfolding round_refusal
  round_given t z r h =
      let (r6, (t7, (t8, (t9, (t11, _))))) = none-refused ((6, _) ∷ (7, _) ∷ (8, _) ∷ (10, _) ∷ []) z in
      let l : t < S.depth = ltb-true _ _ t11 in
      let g = tables_given r6 t7 t8 r h in
      record { tables = g; small_left = small_left_given t g.message_long (sym (moving_tested S t message l) ∙ t9); turn = l }

  pub round_key : (t : ℕ) → round_refusal S t key message ≡ 0 → Whole
  unfolding round_refusal
  round_key t z = let (r6, (t7, _)) = none-refused ((6, _) ∷ (7, _) ∷ (8, _) ∷ (10, _) ∷ []) z in key_given r6 t7

  pub fold_given : (t e : ℕ) → fold_refusal S t e key message ≡ 0 → (r : ℕ) → r < S.rows → FoldGiven S t e (key_row S key r) message
  unfolding fold_refusal exponent
  fold_given t e z r h =
      let (r6, (t7, (t8, (t9, (t10, (t11, _)))))) = none-refused ((6, _) ∷ (7, _) ∷ (8, _) ∷ (9, _) ∷ (10, _) ∷ []) z in
      let l : t < S.depth = ltb-true _ _ t11 in
      let g = tables_given r6 t7 t8 r h in
      record { tables = g; small_left = small_left_given t g.message_long (sym (moving_tested S t message l) ∙ t9); exponent_below = ltb-true _ _ t10; turn = l }

  pub fold_key_holds : (t e : ℕ) → fold_refusal S t e key message ≡ 0 → Whole
  unfolding fold_refusal
  fold_key_holds t e z = let (r6, (t7, _)) = none-refused ((6, _) ∷ (7, _) ∷ (8, _) ∷ (9, _) ∷ (10, _) ∷ []) z in key_given r6 t7

pub end_given : (S : Settings) (t : ℕ) (message : List ℤ) → end_refusal S t message ≡ 0 → Valid S × (length message ≡ cells S)
unfolding end_refusal has_length
end_given S t message z = let (r6, (t7, _)) = none-refused ((6, _) ∷ (8, _) ∷ (10, _) ∷ []) z in (settings-valid S r6, eqb-true _ _ t7)
