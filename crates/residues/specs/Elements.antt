-- Elements of residues.
--
--   element_at d t i   element i of the flat table t, passed by value
--
-- residues_element and signed_element say what elements of both kinds of tables are: their coefficients, and zeros behind them.
use Rattle.std.specs.Prelude.{◌≡◌, ℕ, ◌+◌, ◌-◌, ◌*◌, List, ◌++◌, get_or, replicate, ℤ, pos, refl, slice_index}
use Rattle.protocol.specs.Basic.{tabulate}
use Rattle.protocol.specs.Element.{width, zeros, signed_zeros, coefficients, signed_at, padded, padded_signed}

unfoldable pub element_at : ℕ → List ℕ → ℕ → List ℕ
element_at d t i = padded d (tabulate d (λ k. slice_index t (i * d + k)))

pub residues_element : (d : ℕ) (t : List ℕ) (i : ℕ) → element_at d t i ≡ tabulate d (λ k. get_or t (i * d + k) 0) ++ replicate (width - d) 0
unfolding element_at padded zeros
residues_element d t i = refl

pub signed_element : (d : ℕ) (t : List ℤ) (i : ℕ) → padded_signed d (coefficients d (signed_at d t i)) ≡ tabulate d (λ k. get_or t (i * d + k) (pos 0)) ++ replicate (width - d) (pos 0)
unfolding padded_signed signed_zeros coefficients signed_at
signed_element d t i = refl
