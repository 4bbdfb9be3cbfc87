-- `shape_of`: the part of that number.
use mathlib.Core.Path.{◌≡◌, refl, sym, ap, ◌∙◌}
use Prim.Native.Nat.{ℕ, zero, suc, ◌*◌, ◌%◌, ◌^◌, ◌≤◌}
use native.Mathlib.Omega.{arith}
use native.Mathlib.Nat as Nat
use borrow.Author.Rules.{rules}
use lib.Pow.{pow_mono}
use Rattle.protocol.specs.Settings.{size}
use Rattle.protocol.specs.declared.Settings.{Settings}
use Rattle.protocol.specs.declared.Parts.{Parts}
use Rattle.protocol.specs.Layout.{rows_most}
use Rattle.text_format.specs.Text.{Shape, shape, settings_shape, shapes}
use Rattle.text_parts.specs.Parts.{part_shape, part_of}
use Rattle.text_parts.proofs.Counted.{part-counted, part-deep, part-many}
use Rattle.text_parts.proofs.shape_of.Goals as goal

-- a shift by the depth is n
shifted : (depth : ℕ) → depth ≤ 8 → (1 * 2 ^ depth) % 2 ^ 32 ≡ 2 ^ depth
shifted depth h = ap (λ x. x % 2 ^ 32) (Nat.one-mul (2 ^ depth)) ∙ Nat.mod-eq_of_lt (omega (arith, pow_mono h))

-- a number that is none of 1 to 7
abbrev Not : ℕ → ℕ → Type 0
Not k n = k ≡ n → ⊥

none-such : (S : Settings) (P : Parts) (k : ℕ) → ((((((Unit {0} × Not k 1) × Not k 2) × Not k 3) × Not k 4) × Not k 5) × Not k 6) × Not k 7 → part_shape S P k ≡ settings_shape
unfolding part_shape shapes
none-such S P zero h = refl
none-such S P (suc zero) h = absurd (h.0.0.0.0.0.0.1 refl)
none-such S P (suc (suc zero)) h = absurd (h.0.0.0.0.0.1 refl)
none-such S P (suc (suc (suc zero))) h = absurd (h.0.0.0.0.1 refl)
none-such S P (suc (suc (suc (suc zero)))) h = absurd (h.0.0.0.1 refl)
none-such S P (suc (suc (suc (suc (suc zero))))) h = absurd (h.0.0.1 refl)
none-such S P (suc (suc (suc (suc (suc (suc zero)))))) h = absurd (h.0.1 refl)
none-such S P (suc (suc (suc (suc (suc (suc (suc zero))))))) h = absurd (h.1 refl)
none-such S P (suc (suc (suc (suc (suc (suc (suc (suc k)))))))) h = refl

-- the part of a number whose items can be counted
named : (S : Settings) (P : Parts) (k n : ℕ) (b : Shape) → S.depth ≤ 8 → S.rows ≤ rows_most → k ≡ n → b ≡ part_shape S P n → b ≡ part_of S P k
named S P k n b deep many e is = is ∙ sym (ap (part_shape S P) e) ∙ sym (part-counted S P k deep many)

pub returns-then-depth-gt-DEPTH_MOST : goal.returns-then-depth-gt-DEPTH_MOST
returns-then-depth-gt-DEPTH_MOST c = let a = c.args in c.settings_shape.ensures ∙ sym (part-deep a.settings a.parts a.part (omega arith))

pub returns-then-rows-gt-ROWS : goal.returns-then-rows-gt-ROWS
returns-then-rows-gt-ROWS c = let a = c.args in c.settings_shape-then-rows-gt-ROWS.ensures ∙ sym (part-many a.settings a.parts a.part (omega arith) (omega arith))

pub returns-in-1 : goal.returns-in-1
unfolding part_shape shapes size
returns-in-1 c =
    let a = c.args in
    let deep : a.settings.depth ≤ 8 = omega arith in
    named a.settings a.parts a.part 1 _ deep (omega arith) c.in-1.is
    (c.part_of.ensures ∙ (λ j. shape 1 a.parts.key (a.settings.rows * shifted a.settings.depth deep j) a.settings.degree))

pub returns-in-2 : goal.returns-in-2
unfolding part_shape shapes size
returns-in-2 c =
    let a = c.args in
    let deep : a.settings.depth ≤ 8 = omega arith in
    named a.settings a.parts a.part 2 _ deep (omega arith) c.in-2.is
    (c.part_of-in-2.ensures ∙ (λ j. shape 2 a.parts.message (shifted a.settings.depth deep j) a.settings.degree))

pub returns-in-3 : goal.returns-in-3
unfolding part_shape shapes size
returns-in-3 c =
    let a = c.args in
    let deep : a.settings.depth ≤ 8 = omega arith in
    named a.settings a.parts a.part 3 _ deep (omega arith) c.in-3.is c.part_of-in-3.ensures

pub returns-in-4 : goal.returns-in-4
unfolding part_shape shapes size
returns-in-4 c =
    let a = c.args in
    let deep : a.settings.depth ≤ 8 = omega arith in
    named a.settings a.parts a.part 4 _ deep (omega arith) c.in-4.is c.part_of-in-4.ensures

pub returns-in-5 : goal.returns-in-5
unfolding part_shape shapes size
returns-in-5 c =
    let a = c.args in
    let deep : a.settings.depth ≤ 8 = omega arith in
    named a.settings a.parts a.part 5 _ deep (omega arith) c.in-5.is c.part_of-in-5.ensures

pub returns-in-6 : goal.returns-in-6
unfolding part_shape shapes size
returns-in-6 c =
    let a = c.args in
    let deep : a.settings.depth ≤ 8 = omega arith in
    named a.settings a.parts a.part 6 _ deep (omega arith) c.in-6.is c.part_of-in-6.ensures

pub returns-in-7 : goal.returns-in-7
unfolding part_shape shapes size
returns-in-7 c =
    let a = c.args in
    let deep : a.settings.depth ≤ 8 = omega arith in
    named a.settings a.parts a.part 7 _ deep (omega arith) c.in-7.is c.part_of-in-7.ensures

pub returns-in_default : goal.returns-in_default
returns-in_default c =
    let a = c.args in
    named a.settings a.parts a.part a.part _ (omega arith) (omega arith) refl
    (c.settings_shape-in_default.ensures ∙ sym (none-such a.settings a.parts a.part (search rules)))
