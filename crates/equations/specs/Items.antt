-- The items of one row, in the part of a table that begins with the row's first element: they follow each other at the distance of an element for each row.
--
--   row_start S n r       where that part begins for row r, in a table of n numbers: at its end where it has no items
--   row_element S t i     item i of the row
--   row_table S n t       its first n items, as a flat table
use Rattle.std.specs.Prelude.{List, ℕ, ◌+◌, ◌*◌, leb, pos, get_or}
use Rattle.protocol.specs.declared.Settings.{Settings}
use Rattle.protocol.specs.Basic.{flat, choose}
use Rattle.protocol.specs.Element.{Element}
use Rattle.protocol.specs.Layout.{item_cells}

unfoldable pub row_start : Settings → ℕ → ℕ → ℕ
row_start S n r = choose (leb (r * S.degree) n) (r * S.degree) n

unfoldable pub row_element : Settings → List ℕ → ℕ → Element
row_element S t i k = pos (get_or t (i * item_cells S + k) 0)

unfoldable pub row_table : Settings → ℕ → List ℕ → List ℕ
row_table S n t = flat S.degree n (λ i k. get_or t (i * item_cells S + k) 0)
