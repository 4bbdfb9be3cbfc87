-- The names line, and then the five lines of part 0. After each of them, what is left to read.
use Rattle.std.proofs.Common.{◌≡◌, ℕ, true, List, [], ◌∷◌, ◌++◌, drop, ℤ, of_z, to_z, w64, refl, sym, ap, ◌∙◌, rules, Some, None}
use mathlib.Core.Option.{none, some}
use Rattle.protocol.specs.Basic.{tabulate, choose}
use Rattle.protocol.specs.Answers.{as_number}
use mir.Facts.{to_z-of_z}
use Rattle.text_format.specs.Text.{Spot, value_limit, narrow_limit, shape, settings_shape, shape_size, spot_at, spots, begins_with_names, unsigned, number_answer}
use Rattle.text_format.specs.Lines.{spot, read_value, read_values, settings_of, read_settings}
use Rattle.protocol.specs.Answers.Number.{Value}
use Rattle.text_lines.specs.Header.{header_answer}
use Rattle.text_lines.proofs.Counts.{Found, suffix_back}
use Rattle.text_lines.proofs.Values.{prefix, prefix-nothing, valued, unvalued, values_more, values-over, values-done, settings-unnamed, settings-named}
use Rattle.text_lines.proofs.header.read_header.Goals as goal

abbrev at_place : ℕ → Spot
at_place k = spot 0 0 k

five : spots settings_shape ≡ at_place 0 ∷ at_place 1 ∷ at_place 2 ∷ at_place 3 ∷ at_place 4 ∷ []
unfolding spots tabulate shape_size settings_shape shape choose spot_at
five = refl

-- what is left to read behind the values vs: the lines ss from a place on
abbrev Left : List ℕ → List ℤ → List Spot → ℕ → Type 0
Left text vs ss at = read_settings text ≡ prefix vs (read_values ss (drop at text))

left₀ : (text : List ℕ) → begins_with_names text ≡ true → Left text [] (at_place 0 ∷ at_place 1 ∷ at_place 2 ∷ at_place 3 ∷ at_place 4 ∷ []) 22
left₀ text e = settings-named text e ∙ ap (λ ss. read_values ss (drop 22 text)) five ∙ sym (prefix-nothing _)

-- one line more
module _ (text : List ℕ) (vs : List ℤ) (s : Spot) (ss : List Spot) (at : ℕ) (left : Left text vs (s ∷ ss) at) where
  module _ (v : ℤ) (next : ℕ) (is : number_answer text (read_value s (drop at text)) ≡ Value v next) where
    got : Found (read_value s) text at v next
    got = valued text s at v next is

    more : Left text (vs ++ (v ∷ [])) ss next
    more = values_more _ vs s ss _ v (drop next text) left got.is

  over : read_value s (drop at text) ≡ none → read_settings text ≡ none
  over e = values-over _ vs s ss _ left e

-- nothing is found
refuses : (text : List ℕ) → read_settings text ≡ none → None ≡ header_answer text (read_settings text)
unfolding header_answer
refuses text o = sym (ap (header_answer text) o)

pub returns-then-not-begins_with_names : goal.returns-then-not-begins_with_names
returns-then-not-begins_with_names c = refuses c.args.text.now (settings-unnamed c.args.text.now (search rules))

pub returns-in_default : goal.returns-in_default
returns-in_default c =
    let t = c.args.text.now in
    let l₀ = left₀ t (search rules) in
    refuses t (over t [] (at_place 0) _ 22 l₀ (unvalued t (at_place 0) 22 _ (sym c.value_at.ensures.answer ∙ ap as_number c.in_default.is)))

pub returns-in_default-value_at : goal.returns-in_default-value_at
returns-in_default-value_at c =
    let t = c.args.text.now in
    let r₁ = c.in-Ok.field-0 in
    let l₀ = left₀ t (search rules) in
    let l₁ = more t [] (at_place 0) _ 22 l₀ r₁.value r₁.next (sym c.value_at.ensures.answer ∙ ap as_number c.in-Ok.is) in
    refuses t (over t _ (at_place 1) _ r₁.next l₁ (unvalued t (at_place 1) r₁.next _ (sym c.value_at-2.ensures.answer ∙ ap as_number c.in_default-value_at.is)))

pub returns-in_default-value_at-2 : goal.returns-in_default-value_at-2
returns-in_default-value_at-2 c =
    let t = c.args.text.now in
    let r₁ = c.in-Ok.field-0 in
    let r₂ = c.in-Ok-value_at.field-0 in
    let l₀ = left₀ t (search rules) in
    let l₁ = more t [] (at_place 0) _ 22 l₀ r₁.value r₁.next (sym c.value_at.ensures.answer ∙ ap as_number c.in-Ok.is) in
    let l₂ = more t _ (at_place 1) _ r₁.next l₁ r₂.value r₂.next (sym c.value_at-2.ensures.answer ∙ ap as_number c.in-Ok-value_at.is) in
    refuses t (over t _ (at_place 2) _ r₂.next l₂ (unvalued t (at_place 2) r₂.next _ (sym c.value_at-3.ensures.answer ∙ ap as_number c.in_default-value_at-2.is)))

pub returns-in_default-value_at-3 : goal.returns-in_default-value_at-3
returns-in_default-value_at-3 c =
    let t = c.args.text.now in
    let r₁ = c.in-Ok.field-0 in
    let r₂ = c.in-Ok-value_at.field-0 in
    let r₃ = c.in-Ok-value_at-2.field-0 in
    let l₀ = left₀ t (search rules) in
    let l₁ = more t [] (at_place 0) _ 22 l₀ r₁.value r₁.next (sym c.value_at.ensures.answer ∙ ap as_number c.in-Ok.is) in
    let l₂ = more t _ (at_place 1) _ r₁.next l₁ r₂.value r₂.next (sym c.value_at-2.ensures.answer ∙ ap as_number c.in-Ok-value_at.is) in
    let l₃ = more t _ (at_place 2) _ r₂.next l₂ r₃.value r₃.next (sym c.value_at-3.ensures.answer ∙ ap as_number c.in-Ok-value_at-2.is) in
    refuses t (over t _ (at_place 3) _ r₃.next l₃ (unvalued t (at_place 3) r₃.next _ (sym c.value_at-4.ensures.answer ∙ ap as_number c.in_default-value_at-3.is)))

pub returns-in_default-value_at-4 : goal.returns-in_default-value_at-4
returns-in_default-value_at-4 c =
    let t = c.args.text.now in
    let r₁ = c.in-Ok.field-0 in
    let r₂ = c.in-Ok-value_at.field-0 in
    let r₃ = c.in-Ok-value_at-2.field-0 in
    let r₄ = c.in-Ok-value_at-3.field-0 in
    let l₀ = left₀ t (search rules) in
    let l₁ = more t [] (at_place 0) _ 22 l₀ r₁.value r₁.next (sym c.value_at.ensures.answer ∙ ap as_number c.in-Ok.is) in
    let l₂ = more t _ (at_place 1) _ r₁.next l₁ r₂.value r₂.next (sym c.value_at-2.ensures.answer ∙ ap as_number c.in-Ok-value_at.is) in
    let l₃ = more t _ (at_place 2) _ r₂.next l₂ r₃.value r₃.next (sym c.value_at-3.ensures.answer ∙ ap as_number c.in-Ok-value_at-2.is) in
    let l₄ = more t _ (at_place 3) _ r₃.next l₃ r₄.value r₄.next (sym c.value_at-4.ensures.answer ∙ ap as_number c.in-Ok-value_at-3.is) in
    refuses t (over t _ (at_place 4) _ r₄.next l₄ (unvalued t (at_place 4) r₄.next _ (sym c.value_at-5.ensures.answer ∙ ap as_number c.in_default-value_at-4.is)))

-- a value as the code has it
word : (v : ℤ) (most r : ℕ) → to_z w64 (of_z w64 v) ≡ v → r ≡ unsigned most (to_z w64 (of_z w64 v)) → r ≡ unsigned most v
word v most r e is = is ∙ ap (unsigned most) e

pub returns : goal.returns
unfolding header_answer settings_of
returns c =
    let t = c.args.text.now in
    let r₁ = c.in-Ok.field-0 in
    let r₂ = c.in-Ok-value_at.field-0 in
    let r₃ = c.in-Ok-value_at-2.field-0 in
    let r₄ = c.in-Ok-value_at-3.field-0 in
    let r₅ = c.in-Ok-value_at-4.field-0 in
    let l₀ = left₀ t (search rules) in
    let l₁ = more t [] (at_place 0) _ 22 l₀ r₁.value r₁.next (sym c.value_at.ensures.answer ∙ ap as_number c.in-Ok.is) in
    let l₂ = more t _ (at_place 1) _ r₁.next l₁ r₂.value r₂.next (sym c.value_at-2.ensures.answer ∙ ap as_number c.in-Ok-value_at.is) in
    let l₃ = more t _ (at_place 2) _ r₂.next l₂ r₃.value r₃.next (sym c.value_at-3.ensures.answer ∙ ap as_number c.in-Ok-value_at-2.is) in
    let l₄ = more t _ (at_place 3) _ r₃.next l₃ r₄.value r₄.next (sym c.value_at-4.ensures.answer ∙ ap as_number c.in-Ok-value_at-3.is) in
    let is₅ = sym c.value_at-5.ensures.answer ∙ ap as_number c.in-Ok-value_at-4.is in
    let l₅ = more t _ (at_place 4) [] r₄.next l₄ r₅.value r₅.next is₅ in
    let whole : read_settings t ≡ some (r₁.value ∷ r₂.value ∷ r₃.value ∷ r₄.value ∷ r₅.value ∷ [], drop r₅.next t) = values-done _ _ _ l₅ in
    (λ j. Some (record {
      settings = record {
        degree = word r₁.value narrow_limit _ (to_z-of_z {w = w64} {z = r₁.value} (search rules)) c.unsigned_narrow.ensures j;
        depth = word r₂.value narrow_limit _ (to_z-of_z {w = w64} {z = r₂.value} (search rules)) c.unsigned_narrow-2.ensures j;
        modulus = word r₃.value value_limit _ (to_z-of_z {w = w64} {z = r₃.value} (search rules)) c.unsigned_wide.ensures j;
        bound = word r₄.value narrow_limit _ (to_z-of_z {w = w64} {z = r₄.value} (search rules)) c.unsigned_narrow-3.ensures j;
        rows = word r₅.value narrow_limit _ (to_z-of_z {w = w64} {z = r₅.value} (search rules)) c.unsigned_narrow-4.ensures j;
      };
      next = sym (suffix_back t r₅.next (got t _ (at_place 4) [] r₄.next l₄ r₅.value r₅.next is₅).within) j;
    }))
    ∙ sym (ap (header_answer t) whole)
