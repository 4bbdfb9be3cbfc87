-- The values of a whole text, gathered part after part before any of them is tested or stored.
--
--   table_parts           the numbers of the parts behind the settings
--   columns_in ls         the values of these parts, one part after the other
--   in_order P text       are the value lines the required ones, in order
--   lines_refusal P n text  refusals 1 to 7, the lent tables having the lengths n
--   First vs values      the values vs stand first in the table `values`
--   Followed, Gathered   what the readers of all values promise
use Rattle.std.specs.Prelude.{◌≡◌, Bool, true, ◌&&◌, ℕ, length, take, ℤ}
use mathlib.Core.List.{List, [], ◌∷◌, flat_map}
use Rattle.protocol.specs.declared.Parts.{Parts}
use Rattle.protocol.specs.Answers.{Loaded}
use Rattle.protocol.specs.Basic.{first, unless}
use Rattle.text_format.specs.Text.{Line, wanted, lines_of, same_spots, spots_of, column, settings_in, look_refusal, loaded}
use Rattle.text_parts.specs.Parts.{lengths_fit}

abbrev pub table_parts : List ℕ
table_parts = 1 ∷ 2 ∷ 3 ∷ 4 ∷ 5 ∷ 6 ∷ 7 ∷ []

unfoldable pub columns_in : List Line → List ℤ
columns_in ls = flat_map (λ p. column p ls) table_parts

unfoldable pub in_order : Parts → List ℕ → Bool
in_order P text = same_spots (spots_of (lines_of text)) (wanted (settings_in (lines_of text)) P)

unfoldable pub lines_refusal : Parts → List ℕ → List ℕ → ℕ
lines_refusal P n text = first (look_refusal text ∷ unless 7 (in_order P text && lengths_fit (settings_in (lines_of text)) P n) ∷ [])

abbrev pub First : List ℤ → List ℤ → Type 0
First vs values = take (length vs) values ≡ vs

-- lines that were followed to the text's end leave nothing to refuse by 1 to 6 or 16; the answer for a text that is refused by them is no
pub record Followed (P : Parts) (text : List ℕ) (r : Bool) (values : List ℤ) : Type 0 where
  pub unrefused : r ≡ true → look_refusal text ≡ 0
  pub answer : look_refusal text ≡ 0 → r ≡ in_order P text
  pub stored : r ≡ true → First (columns_in (lines_of text)) values

pub record Gathered (P : Parts) (n : List ℕ) (text : List ℕ) (r : Loaded) (values : List ℤ) : Type 0 where
  pub answer : r ≡ loaded (lines_refusal P n text) text
  pub stored : lines_refusal P n text ≡ 0 → First (columns_in (lines_of text)) values
