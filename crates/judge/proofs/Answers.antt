-- The judge's answer: with a refusal, and without one.
use mathlib.Core.Path.{◌≡◌, sym, ap, ◌∙◌}
use mathlib.Core.Bool.{Bool, true, false, ◌&&◌}
use mathlib.Core.List.{List, [], ◌∷◌}
use Prim.Native.Nat.{ℕ}
use native.Mathlib.Nat as Nat
use native.Mathlib.Omega.{arith}
use borrow.Author.Tests.{eqb-true, leb-true}
use lib.IntN.{ℤ}
use lib.ListN.{length}
use Rattle.protocol.specs.declared.Settings.{Settings}
use Rattle.std.specs.Prelude.{Ok, Err}
use Rattle.protocol.specs.declared.Refusal.{Refusal}
use Rattle.protocol.specs.Answers.{as_judged}
use Rattle.protocol.specs.Refusal.{number}
use Rattle.refusals.proofs.GivenTree.{number_least}
use Rattle.protocol.specs.Basic.{every}
use Rattle.protocol.specs.Element.{value_row}
use Rattle.protocol.specs.Layout.{rows_width, key_cells}
use Rattle.protocol.specs.Rows.{key_row}
use Rattle.protocol.specs.Settings.{settings_refusal, has_length, all_below, residue_rows, all_within}
use Rattle.protocol.specs.Tree.{growth_factor, growth_limit, growth, growth_allowed}
use Rattle.protocol.specs.Judge.{opens, judged}
use Rattle.protocol.specs.Calls.{judge_refusal, judge_answer}
use Rattle.protocol.proofs.Inputs.{settings-valid, tested-below}
use Rattle.protocol.proofs.Tests.{and_split, granted-zero, granted_refused}
use Rattle.protocol.proofs.Refusals.{none-refused, and_fails_right}
use Rattle.protocol.specs.GrowthTest.{capped_growth}
use Rattle.protocol.proofs.GrowthTest.{power-exact, growth-cells}
use Rattle.sizes.proofs.Limits.{degree_least}
use Rattle.equations.proofs.ByValue.{row_reduced}
use Rattle.judge.specs.Rows.{AllRows}

-- where nothing is past the limit, the capped number is the number
pub growth-exact : (S : Settings) → settings_refusal S ≡ 0 → growth_allowed S ≡ true → capped_growth S ≡ growth S
unfolding capped_growth growth_allowed growth growth_factor
growth-exact S e t =
    power-exact growth_limit (growth_factor S.degree) (Nat.mul-pos (omega arith) (Nat.one-le-pow 2 S.degree (omega (arith, degree_least S (settings-valid S e)))))
    S.bound S.depth (leb-true _ _ t)

-- what is known of inputs that are not refused: the commitment by value has its length in any case
pub record JudgeGiven (S : Settings) (C key : List ℕ) (w : List ℤ) : Type 0 where
  pub allowed : settings_refusal S ≡ 0
  pub rows_given : length C ≡ rows_width → AllRows S C key w
  pub limited : growth_allowed S ≡ true

module _ (S : Settings) (C : List ℕ) (c : ℕ) (key : List ℕ) (w : List ℤ) where
  pub judge_given : judge_refusal S C c key w ≡ 0 → JudgeGiven S C key w
  unfolding judge_refusal has_length all_below growth_allowed
  judge_given e =
      let (r16, (t7, (t8, (t14, _)))) = none-refused ((6, _) ∷ (7, _) ∷ (13, _) ∷ (14, _) ∷ []) e in
      let (k, v) = and_split t7 in
      let (below, elements) = and_split {a = all_below S key} {b = residue_rows S C} t8 in
      record {
        allowed = r16;
        rows_given = λ long. record {
          allowed = r16;
          commitment-long = long;
          commitment_given = row_reduced S C elements;
          key_given = tested-below S.modulus (key_cells S) key k below;
          w_long = eqb-true _ _ v;
          few = growth-cells S (settings-valid S r16) (leb-true _ _ t14);
        };
        limited = t14;
      }

  pub judge_refused : (r : Refusal) → number r ≡ judge_refusal S C c key w → as_judged (Err r) ≡ judge_answer S C c key w
  unfolding judge_answer
  judge_refused r e = let none = sym (granted_refused (judge_refusal S C c key w) (judged S key C c w) false (λ z. omega (arith, number_least r, e, z))) in λ i. record { refusal = e i; yes = none i }

  pub judge_done : judge_refusal S C c key w ≡ 0 → (y : Bool) → y ≡ judged S key C c w → as_judged (Ok y) ≡ judge_answer S C c key w
  unfolding judge_answer
  judge_done z y e = let all = e ∙ sym (granted-zero _ (judged S key C c w) false z) in λ i. record { refusal = sym z i; yes = all i }

  -- the equation in every row
  abbrev pub every_row : Bool
  every_row = every S.rows (λ r. opens S (key_row S key r) (value_row C r) c w)

  -- the bound first, then the equation
  pub beyond : all_within (growth S) w ≡ false → false ≡ judged S key C c w
  unfolding judged
  beyond t = sym (and_fails_right every_row (all_within (growth S) w) t)

  pub within : (y : Bool) → all_within (growth S) w ≡ true → y ≡ every_row → y ≡ judged S key C c w
  unfolding judged
  within y t e = e ∙ sym (and-true every_row t)
    where
      and-true : (a : Bool) {b : Bool} → b ≡ true → (a && b) ≡ a
      and-true true e = e
      and-true false e = ap (λ b. false && b) e
