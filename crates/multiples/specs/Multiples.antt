-- What is tested of a product.
--
--   multiple_is q c z a     is z the number c·a modulo q, a being a residue
use Rattle.std.specs.Prelude.{ℕ, ◌*◌, ◌%◌, Bool, ◌&&◌, ℤ, ◌==◌, nat_lt}
use Rattle.protocol.specs.Element.{modulo}

unfoldable pub multiple_is : ℕ → ℕ → ℤ → ℕ → Bool
multiple_is q c z a = nat_lt a q && c * a % q == modulo q z
