-- The laws of elements and round polynomials in slices, for a reader: what was written to a slice and is read again is what it was, and the other way round.
use mathlib.Core.Path.{◌≡◌, sym, ap, ◌∙◌}
use mathlib.Core.List.{List, [], ◌∷◌, ◌++◌, append-nil}
use Prim.Native.Nat.{ℕ, ◌+◌, ◌*◌, ◌<◌, ◌≤◌}
use native.Mathlib.Nat as Nat
use native.Mathlib.Omega.{arith}
use lib.IntN.{ℤ}
use lib.ListN.{length, get_or, take, drop, take-append-drop, length-drop, get_or-append}
use lib.Seq.{take_at, take_all, drop_at, drop-drop, get_or-take, length-take-le}
use Rattle.protocol.specs.declared.Settings.{Settings}
use Rattle.protocol.specs.Basic.{tabulate}
use Rattle.protocol.specs.Element.{padded_signed}
use Rattle.protocol.specs.Layout.{item_cells, polynomial_cells}
use Rattle.protocol.specs.Inputs.{Valid}
use Rattle.protocol.specs.Rows.{at_rows, together}
use Rattle.protocol.specs.Session.{part}
use Rattle.protocol.proofs.Reading.{cell-inside, tabulate_at, flat-length, flat_ext, flat-own}
use Rattle.protocol.proofs.Rows.{at_rows_at, together_at, together-at_rows}
use Rattle.sizes.proofs.Limits.{degree_least, degree_most}
use Rattle.slices.specs.Slices.{values_of, polynomial_of, laid}
use Rattle.slices.proofs.Rows.{at_rows_ext}

-- ---- elements of whole numbers

pub whole_back : (d : ℕ) (t : List ℤ) → length t ≡ d → take d (padded_signed d t) ≡ t
unfolding padded_signed
whole_back d t e = take_at t _ d e

pub whole_there : (d : ℕ) (c : List ℤ) → length c ≡ d → padded_signed d (take d (padded_signed d c)) ≡ padded_signed d c
whole_there d c e = ap (padded_signed d) (whole_back d c e)

module _ (S : Settings) (ok : Valid S) where
  open S use {degree as d, rows as rows}

  abbrev n : ℕ
  n = item_cells S

  positive : 0 < d
  positive = omega (arith, degree_least S ok)

  together-length : (C : List ℕ) → length (together S C) ≡ n
  unfolding together
  together-length C = flat-length d rows _

  twice : (t : List ℕ) → drop n (drop n t) ≡ drop (2 * n) t
  twice t = drop-drop n n t ∙ ap (λ x. drop x t) {x = n + n} {y = 2 * n} (omega arith)

  -- ---- elements of each row

  -- of a slice only its first rows·d numbers are read
  pub element-front : (t : List ℕ) → n ≤ length t → together S (values_of S t) ≡ take n t
  unfolding values_of
  element-front t h =
      together-at_rows S (λ r. tabulate d (λ k. get_or t (r * d + k) 0)) positive ok.rows_most_holds (degree_most S ok)
      ∙ flat_ext d rows positive (λ r k l m. tabulate_at d (λ k. get_or t (r * d + k) 0) 0 k m ∙ sym (get_or-take n t (r * d + k) 0 (cell-inside d rows r k l m)))
      ∙ flat-own d rows (take n t) 0 positive (length-take-le n t h)

  pub element_back : (t : List ℕ) → length t ≡ n → together S (values_of S t) ≡ t
  element_back t e = element-front t (Nat.le_of_eq (sym e)) ∙ take_all n t (Nat.le_of_eq e)

  pub element_there : (f : ℕ → List ℕ) (rest : List ℕ) → values_of S (together S (at_rows S f) ++ rest) ≡ at_rows S f
  unfolding values_of
  element_there f rest = at_rows_ext S _ f (λ r k l m.
      tabulate_at d (λ k. get_or (together S (at_rows S f) ++ rest) (r * d + k) 0) 0 k m
      ∙ get_or-append (together S (at_rows S f)) rest 0 (r * d + k) (omega (arith, together-length (at_rows S f), cell-inside d rows r k l m))
      ∙ together_at S (at_rows S f) r k l m
      ∙ at_rows_at S f r k ok.rows_most_holds (degree_most S ok) l m)

  -- ---- round polynomials

  pub polynomial_back : (t : List ℕ) → length t ≡ polynomial_cells S → laid S (polynomial_of S t) ≡ t
  unfolding laid polynomial_of part
  polynomial_back t e =
      (λ i. element-front t (omega arith) i ++ (element-front (drop n t) (omega (arith, length-drop n t)) i ++ third i))
      ∙ ap (λ l. take n t ++ l) (ap (λ l. take n (drop n t) ++ l) (sym (twice t)) ∙ take-append-drop n (drop n t))
      ∙ take-append-drop n t
    where
      third : together S (values_of S (drop (2 * n) t)) ≡ drop (2 * n) t
      third = element_back (drop (2 * n) t) (omega (arith, length-drop (2 * n) t))

  -- c j are the elements of each row
  pub polynomial_there : (c : ℕ → ℕ → List ℕ) → polynomial_of S (laid S (tabulate 3 (λ j. at_rows S (c j)))) ≡ tabulate 3 (λ j. at_rows S (c j))
  unfolding polynomial_of laid part tabulate
  polynomial_there c = λ i. element_there (c 0) (Y ++ Z) i ∷ second i ∷ third i ∷ []
    where
      X : List ℕ
      X = together S (at_rows S (c 0))

      Y : List ℕ
      Y = together S (at_rows S (c 1))

      Z : List ℕ
      Z = together S (at_rows S (c 2))

      behind : drop n (X ++ (Y ++ Z)) ≡ Y ++ Z
      behind = drop_at X (Y ++ Z) n (together-length (at_rows S (c 0)))

      second : values_of S (drop n (X ++ (Y ++ Z))) ≡ at_rows S (c 1)
      second = ap (values_of S) behind ∙ element_there (c 1) Z

      third : values_of S (drop (2 * n) (X ++ (Y ++ Z))) ≡ at_rows S (c 2)
      third =
          ap (values_of S) (sym (twice (X ++ (Y ++ Z))) ∙ ap (drop n) behind ∙ drop_at Y Z n (together-length (at_rows S (c 1))) ∙ sym (append-nil Z))
          ∙ element_there (c 2) []
