-- What products with one number modulo q ask for.
--
--   Ready q y f       f is the factor y modulo q, prepared if q has more than 32 bits; y has at most 33
--   Reduced q d a     the first d numbers of a are residues
use Rattle.std.specs.Prelude.{List, ℕ, ◌^◌, ◌<◌, ◌≤◌, get_or}
use Rattle.modular.specs.declared.factors.Factor.{Factor}
use Rattle.modular.specs.Factors.{Modulus, Prepared}

pub record Ready (q y : ℕ) (f : Factor) : Type 0 where
  pub allowed : Modulus q
  pub small : y ≤ 2 ^ 32
  pub wide : 2 ^ 32 < q → Prepared q y f

abbrev pub Reduced : ℕ → ℕ → List ℕ → Type 0
Reduced q d a = (k : ℕ) → k < d → get_or a k 0 < q
