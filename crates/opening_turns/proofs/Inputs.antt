-- What is known of the inputs of a whole opening that nothing refuses.
use mathlib.Core.Path.{◌≡◌}
use mathlib.Core.List.{List, [], ◌∷◌}
use Prim.Native.Nat.{ℕ}
use borrow.Author.Tests.{eqb-true}
use lib.IntN.{ℤ}
use lib.ListN.{length}
use Rattle.protocol.specs.declared.Settings.{Settings}
use Rattle.protocol.specs.Settings.{settings_refusal, cells, has_length, all_below, exponent, exponents}
use Rattle.protocol.specs.Layout.{key_cells, round_cells, exponent_count}
use Rattle.protocol.specs.Calls.{opening_refusal}
use Rattle.protocol.proofs.Tests.{and_split}
use Rattle.protocol.proofs.Refusals.{none-refused}
use Rattle.protocol.proofs.Inputs.{settings-valid, tested-below, tested_within}
use Rattle.claims.proofs.Honest.{Given}

module _ (S : Settings) (G : List ℕ) (M : List ℤ) (E R : List ℕ) where
  pub record Lent : Type 0 where
    pub allowed : settings_refusal S ≡ 0
    pub given : Given S G M E
    pub rounds_long : length R ≡ round_cells S

  pub lent : opening_refusal S G M E R ≡ 0 → Lent
  unfolding opening_refusal all_below exponents exponent has_length
  lent e =
      let (r6, (t7, (t8, (t9, (t10, _))))) = none-refused ((6, _) ∷ (7, _) ∷ (8, _) ∷ (9, _) ∷ []) e in
      let (three, rounds) = and_split t7 in
      let (two, challenges) = and_split three in
      let (key, message) = and_split two in
      record {
        allowed = r6;
        given = record {
          settings = settings-valid S r6;
          key = tested-below S.modulus (key_cells S) G key t8;
          message = tested_within S.bound (cells S) M message t9;
          challenges = tested-below (exponent_count S) S.depth E challenges t10;
        };
        rounds_long = eqb-true _ _ rounds;
      }
