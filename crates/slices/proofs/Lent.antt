-- The refusal of a call that is lent slices beside what it tests itself.
use mathlib.Core.Path.{◌≡◌, refl, sym, ap, ◌∙◌}
use mathlib.Core.Logic.{◌≢◌}
use mathlib.Core.Bool.{Bool, true, false, ◌&&◌}
use mathlib.Core.List.{List, [], ◌∷◌}
use Prim.Native.Nat.{ℕ, zero, suc, ◌≤◌}
use Rattle.protocol.specs.declared.Settings.{Settings}
use Rattle.protocol.specs.Basic.{first, unless, granted}
use Rattle.protocol.specs.Settings.{settings_refusal}
use Rattle.protocol.specs.Layout.{width}
use Rattle.protocol.specs.Inputs.{Valid}
use Rattle.protocol.proofs.Tests.{first_zero, unless-zero, granted-zero, granted_refused}
use Rattle.protocol.proofs.Refusals.{first_passes, first_only}
use Rattle.protocol.proofs.Inputs.{settings-valid}
use Rattle.sizes.proofs.Limits.{degree_most}
use Rattle.slices.specs.Slices.{lent}

-- ---- for the reader: 7 of the slices stands where 7 of the call's own tables stands

pub in_place : (S : Settings) (a b : Bool) (rest : List ℕ)
    → lent S a (first (settings_refusal S ∷ unless 7 b ∷ rest)) ≡ first (settings_refusal S ∷ unless 7 (a && b) ∷ rest)
unfolding lent first unless
in_place S a b rest = go (settings_refusal S) a
  where
    go : (n : ℕ) (a : Bool) → first (n ∷ unless 7 a ∷ first (n ∷ unless 7 b ∷ rest) ∷ []) ≡ first (n ∷ unless 7 (a && b) ∷ rest)
    go zero true = first_only _
    go zero false = refl
    go (suc n) a = refl

-- where the call itself tests 8 next
pub before-eight : (S : Settings) (a : Bool) (rest : List ℕ) → lent S a (first (settings_refusal S ∷ rest)) ≡ first (settings_refusal S ∷ unless 7 a ∷ rest)
unfolding lent first unless
before-eight S a rest = go (settings_refusal S) a
  where
    go : (n : ℕ) (a : Bool) → first (n ∷ unless 7 a ∷ first (n ∷ rest) ∷ []) ≡ first (n ∷ unless 7 a ∷ rest)
    go zero true = first_only _
    go zero false = refl
    go (suc n) a = refl

-- ---- for the proofs: the slices first, then the call

module _ (S : Settings) (fits : Bool) (N : ℕ) where
  pub lent_stops : lent S fits 0 ≢ 0 → lent S fits 0 ≡ lent S fits N
  unfolding lent first
  lent_stops = go (settings_refusal S) (unless 7 fits)
    where
      go : (a b : ℕ) → first (a ∷ b ∷ 0 ∷ []) ≢ 0 → first (a ∷ b ∷ 0 ∷ []) ≡ first (a ∷ b ∷ N ∷ [])
      go zero zero h = absurd (h refl)
      go zero (suc b) h = refl
      go (suc a) b h = refl

  pub lent_passes : lent S fits 0 ≡ 0 → N ≡ lent S fits N
  unfolding lent
  lent_passes h =
      let (a, more) = first_zero _ _ h in
      let (b, _) = first_zero _ _ more in
      sym (first_passes _ _ a ∙ first_passes _ _ b ∙ first_only N)

-- the lengths that the code compares with are the definitions' where the settings are allowed
pub lent_same : (S : Settings) (a b : Bool) (N : ℕ) → (settings_refusal S ≡ 0 → a ≡ b) → lent S a N ≡ lent S b N
unfolding lent first
lent_same S a b N = go (settings_refusal S)
  where
    go : (n : ℕ) → (n ≡ 0 → a ≡ b) → first (n ∷ unless 7 a ∷ N ∷ []) ≡ first (n ∷ unless 7 b ∷ N ∷ [])
    go zero h = ap (λ x. first (unless 7 x ∷ N ∷ [])) (h refl)
    go (suc n) h = refl

pub lent_fits : (S : Settings) (fits : Bool) → lent S fits 0 ≡ 0 → fits ≡ true
unfolding lent
lent_fits S fits h = unless-zero 6 fits (first_zero _ _ (first_zero _ _ h).1).0

pub lent_allowed : (S : Settings) (fits : Bool) → lent S fits 0 ≡ 0 → settings_refusal S ≡ 0
unfolding lent
lent_allowed S fits h = (first_zero _ _ h).0

pub lent_valid : (S : Settings) (fits : Bool) → lent S fits 0 ≡ 0 → Valid S
lent_valid S fits h = settings-valid S (lent_allowed S fits h)

pub lent_degree : (S : Settings) (fits : Bool) → lent S fits 0 ≡ 0 → S.degree ≤ width
lent_degree S fits h = degree_most S (lent_valid S fits h)

-- what is granted where the slices are refused, where the call is, and where nothing is
module _ {ℓ} {A : Type ℓ} (S : Settings) (fits : Bool) (N : ℕ) (x y : A) where
  pub kept : lent S fits 0 ≢ 0 → y ≡ granted (lent S fits N) x y
  kept h = sym (granted_refused _ x y (λ e. h (lent_stops S fits N h ∙ e)))

  pub kept_by : lent S fits 0 ≡ 0 → N ≢ 0 → y ≡ granted (lent S fits N) x y
  kept_by h n = sym (granted_refused _ x y (λ e. n (lent_passes S fits N h ∙ e)))

  pub done : lent S fits 0 ≡ 0 → N ≡ 0 → x ≡ granted (lent S fits N) x y
  done h n = sym (granted-zero _ x y (sym (lent_passes S fits N h) ∙ n))
