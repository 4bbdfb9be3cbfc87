-- Refusal 7 of lent tables.
--
--   and_assoc      three tests
--   lengths-fit    the test of the tables' lengths is the test of the tables
--   fits-exact     what it says where it passes
--   exact-fits     and where it passes
use mathlib.Core.Path.{◌≡◌, refl, sym, ap, ◌∙◌}
use mathlib.Core.Bool.{Bool, true, false, ◌&&◌, and-true}
use mathlib.Core.List.{List, map, zip_with}
use Prim.Native.Nat.{ℕ, ◌+◌, ◌<◌}
use native.Mathlib.Omega.{arith}
use borrow.Author.Tests.{eqb-true, eq-eqb}
use lib.Dec.{eqb}
use lib.ListN.{length, get_or, length-map}
use lib.IntN.{pos}
use Rattle.protocol.specs.declared.Settings.{Settings}
use Rattle.protocol.specs.declared.Parts.{Parts}
use Rattle.protocol.specs.Basic.{all, every, choose}
use Rattle.protocol.specs.Settings.{has_length}
use Rattle.text_format.specs.Text.{Tables, shape, settings_shape, shapes, shape_size, settings_values, contents, block, blocks, block_fits, fits}
use Rattle.protocol.proofs.Tests.{every_at}
use Rattle.text_parts.specs.Parts.{table_count, part_shape, lengths_of, lengths_are, lengths_fit, Exact}

-- unsigned numbers are as many as their values
same_count : (v : List ℕ) (n : ℕ) → eqb (length (map pos v)) n ≡ eqb (length v) n
same_count v n = ap (λ m. eqb m n) (length-map v pos)

pub and_assoc : (a b c : Bool) → (a && b) && c ≡ a && (b && c)
and_assoc true b c = refl
and_assoc false b c = refl

pub lengths-fit : (S : Settings) (P : Parts) (t : Tables) → lengths_fit S P (lengths_of t) ≡ fits S P t
unfolding lengths_are every lengths_of part_shape fits blocks shapes contents settings_values zip_with all block_fits block has_length settings_shape shape choose shape_size
lengths-fit S P t = simp (and_assoc, same_count t.key, same_count t.commitment, same_count t.rounds, same_count t.challenges, same_count t.claims, and-true)

module _ (S : Settings) (P : Parts) (t : Tables) (h : fits S P t ≡ true) where
  fits_at : (k : ℕ) → k < table_count → get_or (lengths_of t) k 0 ≡ shape_size (part_shape S P (k + 1))
  unfolding lengths_are
  fits_at k l = eqb-true _ _ (every_at table_count _ (lengths-fit S P t ∙ h) k l)

  pub fits-exact : Exact S P t
  unfolding lengths_of
  fits-exact = record {
    key = fits_at 0 (omega arith);
    message = fits_at 1 (omega arith);
    commitment = fits_at 2 (omega arith);
    rounds = fits_at 3 (omega arith);
    challenges = fits_at 4 (omega arith);
    last = fits_at 5 (omega arith);
    claims = fits_at 6 (omega arith);
  }

-- tables of their lengths fit
pub exact-fits : (S : Settings) (P : Parts) (t : Tables) → Exact S P t → fits S P t ≡ true
unfolding lengths_are every lengths_of
exact-fits S P t e =
    sym (lengths-fit S P t)
    ∙ simp (eq-eqb _ _ e.key, eq-eqb _ _ e.message, eq-eqb _ _ e.commitment, eq-eqb _ _ e.rounds, eq-eqb _ _ e.challenges, eq-eqb _ _ e.last, eq-eqb _ _ e.claims)
