-- Refusals 8, 9 and 10 of the values of a text.
--
--   same-number       two refusals of one number are one
--   untested          a table that a refusal does not test
--   tested-..         the test of a refusal, by its number
--   entries-tested    the three tests, one after the other
use mathlib.Core.Path.{◌≡◌, refl, sym, ap, ◌∙◌}
use mathlib.Core.Bool.{Bool, true, and-true}
use mathlib.Core.List.{List, [], ◌∷◌, map}
use Prim.Native.Nat.{ℕ}
use borrow.Author.Tests.{eq-eqb, ne_eqb}
use lib.Dec.{eqb}
use lib.IntN.{ℤ}
use Rattle.protocol.specs.declared.Settings.{Settings}
use Rattle.protocol.specs.declared.Refusal.{Refusal}
use Rattle.protocol.specs.declared.Refusal.TheVariants.{Long, Text, Degree, Depth, Modulus, Bound, Size, Residue, Tall, Challenge, Turn, Twin, Branch, Growth, Slack, Rows}
use Rattle.protocol.specs.Refusal.{number}
use Rattle.protocol.specs.Basic.{choose, every, first, unless}
use Rattle.protocol.specs.Settings.{all_below, all_within, exponents}
use Rattle.text_format.specs.Text.{value_limit, narrow_limit, unsigned, entries_refusal}
use Rattle.text_parts.specs.Parts.{tested_by}
use Rattle.text_parts.proofs.Exactly.{and_assoc}
use Rattle.table_reader.specs.Cut.{cut_tables, tests, passes, all_pass}

-- a refusal is known by its number
named : ℕ → Refusal
named n = choose (eqb n 1) Long (choose (eqb n 2) Text (choose (eqb n 3) Degree (choose (eqb n 4) Depth (choose (eqb n 5) Modulus (choose (eqb n 6) Bound (choose (eqb n 7) Size (choose (eqb n 8) Residue (choose (eqb n 9) Tall (choose (eqb n 10) Challenge (choose (eqb n 11) Turn (choose (eqb n 12) Twin (choose (eqb n 13) Branch (choose (eqb n 14) Growth (choose (eqb n 15) Slack Rows))))))))))))))

named-number : (r : Refusal) → named (number r) ≡ r
unfolding named choose
named-number Long = refl
named-number Text = refl
named-number Degree = refl
named-number Depth = refl
named-number Modulus = refl
named-number Bound = refl
named-number Size = refl
named-number Residue = refl
named-number Tall = refl
named-number Challenge = refl
named-number Turn = refl
named-number Twin = refl
named-number Branch = refl
named-number Growth = refl
named-number Slack = refl
named-number Rows = refl

pub same-number : (a b : Refusal) → number a ≡ number b → a ≡ b
same-number a b e = sym (named-number a) ∙ ap named e ∙ named-number b

module _ (S : Settings) (refusal : ℕ) (vs : List ℤ) where
  pub untested : (k : ℕ) → (tested_by k ≡ refusal → ⊥) → true ≡ passes S refusal k vs
  unfolding passes choose
  untested k n = sym (ap (λ b. choose b (tests S refusal vs) true) (ne_eqb _ _ n))

  pub tested : (k : ℕ) → tested_by k ≡ refusal → (b : Bool) → b ≡ tests S refusal vs → b ≡ passes S refusal k vs
  unfolding passes choose
  tested k e b f = f ∙ sym (ap (λ b. choose b (tests S refusal vs) true) (eq-eqb _ _ e))

  pub tests-residues : refusal ≡ 8 → tests S refusal vs ≡ all_below S (map (unsigned value_limit) vs)
  unfolding tests choose
  tests-residues e = ap (λ r. tests S r vs) e

  pub tests-bound : refusal ≡ 9 → tests S refusal vs ≡ all_within S.bound vs
  unfolding tests choose
  tests-bound e = ap (λ r. tests S r vs) e

  pub tests-exponents : refusal ≡ 10 → tests S refusal vs ≡ exponents S (map (unsigned narrow_limit) vs)
  unfolding tests choose
  tests-exponents e = ap (λ r. tests S r vs) e

  pub tests-nothing : (refusal ≡ 8 → ⊥) → (refusal ≡ 9 → ⊥) → (refusal ≡ 10 → ⊥) → tests S refusal vs ≡ true
  unfolding tests choose
  tests-nothing a b c =
      λ j. choose (ne_eqb _ _ a j) (all_below S (map (unsigned value_limit) vs)) (choose (ne_eqb _ _ b j) (all_within S.bound vs)
      (choose (ne_eqb _ _ c j) (exponents S (map (unsigned narrow_limit) vs)) true))

-- ---- the three tests

pub entries-tested : (S : Settings) (n : List ℕ) (vs : List ℤ)
    → entries_refusal S true (cut_tables n vs) ≡ first (0 ∷ unless 8 (all_pass S 8 n vs) ∷ unless 9 (all_pass S 9 n vs) ∷ unless 10 (all_pass S 10 n vs) ∷ [])
unfolding entries_refusal cut_tables all_pass every passes tests tested_by choose first
entries-tested S n vs = simp (and-true, and_assoc)
