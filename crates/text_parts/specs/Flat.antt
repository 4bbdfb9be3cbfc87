-- Values of tables that stand one table after the other, in one table, as reader and writer gather them.
--
--   cut from n vs    the n values from a place on
--   start n k        where the table at place k begins, the tables having the lengths n
--   total n          how many values they have
--   piece n k vs     the values of the table at place k
--   joined vs        lists one after the other
--   table_values t   the values of the tables t, table by table
use mathlib.Core.List.{List, flat_map}
use Rattle.std.specs.Prelude.{ℕ, zero, suc, ◌+◌, get_or, take, drop, ℤ}
use Rattle.text_format.specs.Text.{Tables, no_settings, contents}
use Rattle.text_parts.specs.Parts.{table_count}

abbrev pub cut : ℕ → ℕ → List ℤ → List ℤ
cut from n vs = take n (drop from vs)

unfoldable pub start : List ℕ → ℕ → ℕ
start n zero = 0
start n (suc k) = start n k + get_or n k 0

unfoldable pub total : List ℕ → ℕ
total n = start n table_count

abbrev pub piece : List ℕ → ℕ → List ℤ → List ℤ
piece n k vs = cut (start n k) (get_or n k 0) vs

abbrev pub joined : List (List ℤ) → List ℤ
joined vs = flat_map (λ (v : List ℤ). v) vs

-- what a text has behind its settings
unfoldable pub table_values : Tables → List (List ℤ)
table_values t = drop 1 (contents no_settings t)
