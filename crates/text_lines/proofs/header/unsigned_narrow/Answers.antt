-- What is one past the limit has 32 bits.
use Rattle.std.proofs.Common.{ℕ, suc, ◌≤◌, ℤ, pos, negsuc, of_z, to_z, w64, arith}
use Rattle.text_format.specs.Text.{narrow_limit, unsigned}
use Rattle.text_lines.proofs.header.unsigned_narrow.Goals as goal

past : (most : ℕ) (z : ℤ) → unsigned most z ≤ suc most
unfolding unsigned
past most (pos n) = omega arith
past most (negsuc n) = omega arith

pub overflow_cast-result : goal.overflow_cast-result
unfolding narrow_limit
overflow_cast-result c = record { fits = omega (arith, past c.from.result (to_z w64 (of_z w64 c.args.value))) }
