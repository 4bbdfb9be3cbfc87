-- Items: an element for each row of a key, one behind the other.
--
--   inner_item sums S h s f G r  s times the inner product of h elements of f with those of G r, or of the sums of their halves, which have h elements
--   ItemsGiven sums S h f key G  the rows of the key begin with the numbers of G 0, G 1, …, for such inner products
--   round_item S t ..            c_j of round t + 1, row by row
--   Sent S t ..                  the three items of round t + 1 are written
use Rattle.std.specs.Prelude.{◌≡◌, Bool, List, ℕ, ℤ, pos}
use Rattle.protocol.specs.declared.Settings.{Settings}
use Rattle.protocol.specs.Element.{times, reduced}
use Rattle.protocol.specs.Settings.{settings_refusal, cells}
use Rattle.protocol.specs.Layout.{item_cells}
use Rattle.protocol.specs.Opening.{inner, round_element}
use Rattle.protocol.specs.Rows.{key_row}
use Rattle.residues.specs.Lists.{filled}
use Rattle.product_sums.specs.Sums.{messages_of, keys_of, RowsGiven}
use Rattle.plain_products.specs.Rowwise.{row_places}

abbrev pub inner_item : Bool → Settings → ℕ → ℕ → List ℤ → (ℕ → List ℕ) → ℕ → List ℕ
inner_item sums S h s f G r = reduced S.modulus S.degree (times (pos s) (inner S.degree h (messages_of sums S.degree h f) (keys_of sums S.modulus S.degree h (G r))))

pub record ItemsGiven (sums : Bool) (S : Settings) (h : ℕ) (f : List ℤ) (key : List ℕ) (G : ℕ → List ℕ) : Type 0 where
  pub allowed : settings_refusal S ≡ 0
  pub rows : RowsGiven sums S.modulus S.degree h S.rows (cells S) f key G

abbrev pub round_item : Settings → ℕ → List ℕ → List ℤ → ℕ → ℕ → List ℕ
round_item S t key message j r = round_element S t (key_row S key r) message j

pub record Sent (S : Settings) (t : ℕ) (key : List ℕ) (message : List ℤ) (c0 c1 c2 c0' c1' c2' : List ℕ) : Type 0 where
  pub first : c0' ≡ filled (row_places S.degree (round_item S t key message 0)) (item_cells S) c0
  pub middle : c1' ≡ filled (row_places S.degree (round_item S t key message 1)) (item_cells S) c1
  pub last : c2' ≡ filled (row_places S.degree (round_item S t key message 2)) (item_cells S) c2
