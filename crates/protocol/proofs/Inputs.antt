-- The tests of refusals 3 to 10 and 16 against the plain statements of Inputs: settings, residues, bounds, exponents.
use mathlib.Core.Path.{◌≡◌, refl, sym, ap, ◌∙◌, subst}
use mathlib.Core.Logic.{inl, inr}
use mathlib.Core.Bool.{Bool, true, false, ◌||◌, false≢true}
use mathlib.Core.List.{List, [], ◌∷◌}
use Prim.Native.Nat.{ℕ, zero, suc, ◌^◌, ◌<◌, ◌≤◌}
use native.Mathlib.Decide.{dec_lt}
use native.Mathlib.Omega.{arith}
use borrow.Author.Tests.{eq-eqb, eqb-true, le-leb, leb-true, lt-ltb, ltb-true}
use lib.Dec.{eqb, ltb}
use lib.ListN.{length, get_or}
use lib.Pow as Pow
use lib.IntN.{ℤ, pos}
use Rattle.protocol.specs.declared.Settings.{Settings}
use Rattle.protocol.specs.Basic.{all, among, within}
use Rattle.protocol.specs.Layout.{width}
use Rattle.protocol.specs.Settings.{transform_modulus, degree_allowed, depth_allowed, modulus_allowed, bound_allowed, rows_allowed, settings_refusal, has_length, all_within}
use Rattle.protocol.specs.Inputs.{Valid, Below, Within}
use Rattle.protocol.proofs.Tests.{and_split, and_intro, or_split, or_left, or_right, all_at, all_intro}
use Rattle.protocol.proofs.Refusals.{all_passed, passed_all}

-- ---- settings

-- a number that is among others stands at one of their places
among-place : (x : ℕ) (l : List ℕ) → among x l ≡ true → (i : ℕ) × (i < length l) × (x ≡ get_or l i 0)
unfolding among
among-place x [] t = absurd (false≢true t)
among-place x (y ∷ l) t = go (among-place x l) (eqb x y) refl t
  where
    go : (among x l ≡ true → (i : ℕ) × (i < length l) × (x ≡ get_or l i 0)) → (b : Bool) → eqb x y ≡ b → (b || among x l) ≡ true → (i : ℕ) × (i < suc (length l)) × (x ≡ get_or (y ∷ l) i 0)
    go more true e u = (0, omega arith, eqb-true x y e)
    go more false e u = let (i, h, f) = more u in (suc i, omega arith, f)

abbrev degrees : List ℕ
degrees = 2 ∷ 4 ∷ 8 ∷ 16 ∷ 32 ∷ 64 ∷ []

degrees_at : (i : ℕ) → i < 6 → get_or degrees i 0 ≡ 2 ^ suc i
degrees_at zero h = refl
degrees_at (suc zero) h = refl
degrees_at (suc (suc zero)) h = refl
degrees_at (suc (suc (suc zero))) h = refl
degrees_at (suc (suc (suc (suc zero)))) h = refl
degrees_at (suc (suc (suc (suc (suc zero))))) h = refl
degrees_at (suc (suc (suc (suc (suc (suc i)))))) h = absurd (omega arith)

power-among : (i : ℕ) → i < 6 → among (2 ^ suc i) degrees ≡ true
unfolding among
power-among zero h = refl
power-among (suc zero) h = refl
power-among (suc (suc zero)) h = refl
power-among (suc (suc (suc zero))) h = refl
power-among (suc (suc (suc (suc zero)))) h = refl
power-among (suc (suc (suc (suc (suc zero))))) h = refl
power-among (suc (suc (suc (suc (suc (suc i)))))) h = absurd (omega arith)

-- a degree that is allowed is a power of two, and the largest one has one modulus
degree-power : (S : Settings) → degree_allowed S ≡ true → (i : ℕ) × (S.degree ≡ 2 ^ suc i) × (i ≤ 6) × (suc i ≡ 7 → S.modulus ≡ transform_modulus)
unfolding degree_allowed
degree-power S t = elim (or_split {a = among S.degree degrees} t) [
  | inl few ↦ (let (i, h, f) = among-place S.degree degrees few in (i, f ∙ degrees_at i h, omega arith, λ e. absurd (omega arith)))
  | inr wide ↦ (let (d, q) = and_split wide in (6, eqb-true S.degree 128 d, omega arith, λ e. eqb-true S.modulus transform_modulus q))
]

power-degree : (S : Settings) (n : ℕ) → S.degree ≡ 2 ^ n → 1 ≤ n → n ≤ 7 → (n ≡ 7 → S.modulus ≡ transform_modulus) → degree_allowed S ≡ true
unfolding degree_allowed
power-degree S zero e l h w = absurd (omega arith)
power-degree S (suc i) e l h w = elim (dec_lt i 6) [
  | yes m ↦ or_left (among S.degree degrees) _ (ap (λ x. among x degrees) e ∙ power-among i m)
  | no g ↦ (
      let last : suc i ≡ 7 = omega arith in
      or_right (among S.degree degrees) _ (and_intro (eq-eqb S.degree 128 (e ∙ ap (λ n. 2 ^ n) last)) (eq-eqb S.modulus transform_modulus (w last)))
      )
]

-- refusals 3 to 6 and 16 are 0 exactly for allowed settings
pub settings-valid : (S : Settings) → settings_refusal S ≡ 0 → Valid S
unfolding settings_refusal depth_allowed modulus_allowed bound_allowed rows_allowed
settings-valid S e =
    let (t3, (t4, (t5, (t6, (t16, _))))) = all_passed ((2, _) ∷ (3, _) ∷ (4, _) ∷ (5, _) ∷ (15, _) ∷ []) e in
    let (i, power, few, widest) = degree-power S t3 in
    let (more, most) = and_split t5 in
    let (odd, least) = and_split more in
    let (low, high) = and_split t6 in
    let (some, few_rows) = and_split t16 in
    record {
      log = suc i;
      degree_is = power;
      log_least = omega arith;
      log_most = omega arith;
      widest = widest;
      depth_most = leb-true _ _ t4;
      modulus_odd = eqb-true _ _ odd;
      modulus_least = leb-true _ _ least;
      modulus_most_holds = leb-true _ _ most;
      bound_least = leb-true _ _ low;
      bound_most = leb-true _ _ high;
      rows_least = leb-true _ _ some;
      rows_most_holds = leb-true _ _ few_rows;
    }

pub valid-settings : (S : Settings) → Valid S → settings_refusal S ≡ 0
unfolding settings_refusal depth_allowed modulus_allowed bound_allowed rows_allowed
valid-settings S v =
    passed_all ((2, _) ∷ (3, _) ∷ (4, _) ∷ (5, _) ∷ (15, _) ∷ []) (
      power-degree S v.log v.degree_is v.log_least v.log_most v.widest,
      (
        le-leb _ _ v.depth_most,
        (
          and_intro (and_intro (eq-eqb _ _ v.modulus_odd) (le-leb _ _ v.modulus_least)) (le-leb _ _ v.modulus_most_holds),
          (
            and_intro (le-leb _ _ v.bound_least) (le-leb _ _ v.bound_most),
            (and_intro (le-leb _ _ v.rows_least) (le-leb _ _ v.rows_most_holds), tt),
          ),
        ),
      ),
    )

pub degree_most : (S : Settings) → Valid S → S.degree ≤ width
degree_most S v = subst (λ n. n ≤ width) (sym v.degree_is) (Pow.pow_mono {j = 7} v.log_most)

-- ---- tables: the length of refusal 7 with the range of refusal 8, 9 or 10

module _ (limit n : ℕ) (t : List ℕ) where
  pub tested-below : has_length n t ≡ true → all (λ x. ltb x limit) t ≡ true → Below limit n t
  unfolding has_length
  tested-below l r =
      let e : length t ≡ n = eqb-true _ _ l in
      record { long = e; each = λ i h. ltb-true _ _ (all_at (λ x. ltb x limit) t 0 r i (omega arith)) }

  pub below_tested : Below limit n t → all (λ x. ltb x limit) t ≡ true
  below_tested b = all_intro (λ x. ltb x limit) t 0 (λ i h. lt-ltb _ _ (b.each i (omega (arith, b.long))))

  pub below_sized : Below limit n t → has_length n t ≡ true
  unfolding has_length
  below_sized b = eq-eqb _ _ b.long

module _ (b n : ℕ) (t : List ℤ) where
  pub tested_within : has_length n t ≡ true → all_within b t ≡ true → Within b n t
  unfolding has_length all_within within
  tested_within l r =
      let e : length t ≡ n = eqb-true _ _ l in
      record { long = e; each = λ i h. leb-true _ _ (all_at (within b) t (pos 0) r i (omega arith)) }

  pub within_tested : Within b n t → all_within b t ≡ true
  unfolding all_within within
  within_tested w = all_intro (within b) t (pos 0) (λ i h. le-leb _ _ (w.each i (omega (arith, w.long))))

  pub within_sized : Within b n t → has_length n t ≡ true
  unfolding has_length
  within_sized w = eq-eqb _ _ w.long
