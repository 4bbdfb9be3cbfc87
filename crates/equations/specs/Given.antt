-- What the verifier's equations ask of what they are given; the refusals ensure it.
--
--   ElementReduced S g     g begins with an element of residues
--   Evaluable S c0 c1 c2   the settings are allowed, and the three elements are residues
--   ElementsGiven S x y z  the settings are allowed, and lists of x, y and z numbers have an element each
--   FinalGiven S f g       the settings are allowed, the final element f is within its bound, and g begins with an element of residues
--   RoundRead S k x n      the settings are allowed, polynomial k of a row stands in a table of n numbers that begins with the row, and a list of x numbers has an
--                          element: a claim
--   ClaimRead S k x t      so it is in the table t, which has residues up to that polynomial and in it
use Rattle.std.specs.Prelude.{true, List, ◌≡◌, ℕ, ◌+◌, ◌*◌, ◌<◌, ◌≤◌, length, get_or}
use Rattle.protocol.specs.declared.Settings.{Settings}
use Rattle.protocol.specs.Settings.{settings_refusal}
use Rattle.protocol.specs.Layout.{item_cells, polynomial_at}
use Rattle.protocol.specs.Element.{Element}
use Rattle.protocol.specs.Transcript.{final_bounded}

abbrev pub ElementReduced : Settings → List ℕ → Type 0
ElementReduced S g = (k : ℕ) → k < S.degree → get_or g k 0 < S.modulus

pub record Evaluable (S : Settings) (c0 c1 c2 : List ℕ) : Type 0 where
  pub allowed : settings_refusal S ≡ 0
  pub first : ElementReduced S c0
  pub second : ElementReduced S c1
  pub third : ElementReduced S c2

pub record ElementsGiven (S : Settings) (x y z : ℕ) : Type 0 where
  pub allowed : settings_refusal S ≡ 0
  pub first : S.degree ≤ x
  pub second : S.degree ≤ y
  pub third : S.degree ≤ z

pub record FinalGiven (S : Settings) (f : Element) (g : List ℕ) : Type 0 where
  pub allowed : settings_refusal S ≡ 0
  pub bounded : final_bounded S f ≡ true
  pub residues : ElementReduced S g

pub record RoundRead (S : Settings) (k claim rounds : ℕ) : Type 0 where
  pub allowed : settings_refusal S ≡ 0
  pub index : k ≤ 3280
  pub inside : polynomial_at S k + 2 * item_cells S + S.degree ≤ rounds
  pub claim_long : S.degree ≤ claim

pub record ClaimRead (S : Settings) (k claim : ℕ) (rounds : List ℕ) : Type 0 where
  pub of_round : RoundRead S k claim (length rounds)
  pub below : (j : ℕ) → j < polynomial_at S k + 2 * item_cells S + S.degree → get_or rounds j 0 < S.modulus
