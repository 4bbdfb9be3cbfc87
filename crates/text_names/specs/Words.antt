-- Bytes as one number.
--
--   word bs   the number that bytes make, the first the lowest: Σ bᵢ·256ⁱ
use Rattle.std.specs.Prelude.{List, [], ◌∷◌, ℕ, ◌+◌, ◌*◌}

abbrev pub word : List ℕ → ℕ
word [] = 0
word (b ∷ bs) = b + 256 * word bs
