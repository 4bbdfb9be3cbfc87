-- Tables that are written row by row.
--
--   element_places l    the numbers of an element, place by place
--   row_places d f      the numbers of a table in which d numbers for each row stand one behind the other, those of row r being f r, place by place
use Rattle.std.specs.Prelude.{List, ℕ, ◌/◌, ◌%◌, get_or}

abbrev pub element_places : List ℕ → ℕ → ℕ
element_places l k = get_or l k 0

abbrev pub row_places : ℕ → (ℕ → List ℕ) → ℕ → ℕ
row_places d f p = get_or (f (p / d)) (p % d) 0
