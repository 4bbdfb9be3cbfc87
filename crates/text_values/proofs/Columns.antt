-- The values of a text's parts, one part after the other.
--
--   behind-parts, behind-rise   the numbers of the parts behind the settings, and that they rise
--   columns-flat         the values of parts, part by part
--   columns-behind       the values of these parts are those of the lines behind the settings
use mathlib.Core.Path.{◌≡◌, refl, sym, ap, ap₂, subst, ◌∙◌}
use mathlib.Core.List.{List, [], ◌∷◌, ◌++◌, flat_map}
use Prim.Native.Nat.{ℕ, zero, suc}
use native.Mathlib.Omega.{arith}
use lib.ListN.{length, drop}
use lib.IntN.{ℤ}
use Rattle.protocol.specs.declared.Settings.{Settings}
use Rattle.protocol.specs.declared.Parts.{Parts}
use Rattle.protocol.specs.Basic.{tabulate, choose}
use Rattle.text_format.specs.Text.{Line, Shape, shape, settings_shape, shapes, shape_size, spot_at, spots, spots_of, values_of, column}
use Rattle.text_format.proofs.TableLaws.{AllParts, Rising, parts, columns, column-append, column-none, split}
use Rattle.text_parts.specs.Flat.{joined}
use Rattle.text_values.specs.Parts.{part_spots}
use Rattle.text_values.specs.Stored.{table_parts, columns_in}
use Rattle.text_lines.proofs.Looks.{settings_spots, values-append}

columns-joined : (q : ℕ) (bs : List Shape) (ls : List Line) → Rising q (parts bs) → spots_of ls ≡ flat_map spots bs → joined (columns (parts bs) ls) ≡ values_of ls
unfolding flat_map spots_of values_of
columns-joined q [] [] r e = refl
columns-joined q [] (l ∷ ls) r e = absurd (omega (arith, ap length e))
columns-joined q (b ∷ bs) ls r e =
    let c = split b bs ls r.1 e in
    ap₂ (λ (x y : List ℤ). x ++ y) c.mine (ap joined c.others ∙ columns-joined (suc b.part) bs c.back r.1 c.back_spots)
    ∙ sym (values-append c.front c.back) ∙ ap values_of (sym c.joined)

-- the parts behind the settings
pub behind-parts : (S : Settings) (P : Parts) → parts (drop 1 (shapes S P)) ≡ table_parts
unfolding shapes shape settings_shape
behind-parts S P = refl

pub behind-rise : (S : Settings) (P : Parts) → Rising 1 (parts (drop 1 (shapes S P)))
unfolding shapes shape settings_shape
behind-rise S P = (omega arith, (omega arith, (omega arith, (omega arith, (omega arith, (omega arith, (omega arith, tt)))))))

-- the values of the parts, part by part
pub columns-flat : (ps : List ℕ) (ls : List Line) → joined (columns ps ls) ≡ flat_map (λ p. column p ls) ps
unfolding flat_map
columns-flat [] ls = refl
columns-flat (p ∷ ps) ls = ap (λ v. column p ls ++ v) (columns-flat ps ls)

columns_are : (S : Settings) (P : Parts) (ls : List Line) → spots_of ls ≡ part_spots S P → columns_in ls ≡ values_of ls
unfolding columns_in part_spots
columns_are S P ls e =
    sym (columns-flat table_parts ls) ∙ ap (λ ps. joined (columns ps ls)) (sym (behind-parts S P)) ∙ columns-joined 1 (drop 1 (shapes S P)) ls (behind-rise S P) e

settings-elsewhere : (p : ℕ) → AllParts (λ q. ¬ (q ≡ suc p)) settings_spots
unfolding spots tabulate shape_size settings_shape shape choose spot_at
settings-elsewhere p = (apart, (apart, (apart, (apart, (apart, tt)))))
  where
    apart : ¬ (0 ≡ suc p)
    apart e = omega arith

module _ (front more : List Line) (e : spots_of front ≡ settings_spots) where
  column-behind : (p : ℕ) → column (suc p) (front ++ more) ≡ column (suc p) more
  column-behind p =
      column-append (suc p) front more
      ∙ ap (λ v. v ++ column (suc p) more) (column-none (suc p) front (subst (AllParts (λ q. ¬ (q ≡ suc p))) (sym e) (settings-elsewhere p)))

  columns-skip : (q : ℕ) (ps : List ℕ) → Rising (suc q) ps → flat_map (λ p. column p (front ++ more)) ps ≡ flat_map (λ p. column p more) ps
  unfolding flat_map
  columns-skip q [] r = refl
  columns-skip q (zero ∷ ps) r = absurd (omega (arith, r.0))
  columns-skip q (suc p ∷ ps) r = ap₂ (λ (x y : List ℤ). x ++ y) (column-behind p) (columns-skip (suc p) ps r.1)

  pub columns-behind : (S : Settings) (P : Parts) → spots_of more ≡ part_spots S P → columns_in (front ++ more) ≡ values_of more
  unfolding columns_in
  columns-behind S P f = columns-skip 0 table_parts (subst (Rising 1) (behind-parts S P) (behind-rise S P)) ∙ columns_are S P more f
