-- What is asked of a modulus, of a prepared factor, and of a residue that is halved.
--
--   Modulus q         a modulus that residues are multiplied by: not 0, and eight times a residue fits 64 bits
--   Prepared q y f    f is the factor y modulo q, made ready
--   Halvable q x      q is odd, and x is a residue
use Rattle.std.specs.Prelude.{◌≡◌, ℕ, ◌*◌, ◌/◌, ◌%◌, ◌^◌, ◌<◌, ◌≤◌}
use Rattle.modular.specs.declared.factors.Factor.{Factor}

pub record Modulus (q : ℕ) : Type 0 where
  pub positive : 0 < q
  pub most : q ≤ 2 ^ 61

pub record Prepared (q y : ℕ) (f : Factor) : Type 0 where
  pub allowed : Modulus q
  pub modulus : f.modulus ≡ q
  pub residue : f.residue ≡ y % q
  pub share : f.share ≡ y % q * 2 ^ 64 / q

pub record Halvable (q x : ℕ) : Type 0 where
  pub odd : q % 2 ≡ 1
  pub residue : x < q
