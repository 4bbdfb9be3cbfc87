-- Inner products of messages and keys.
--
--   half q              the inverse of 2 modulo an odd q
--   Halvables q n l     q is odd, and l begins with n residues
--   less_both q x a b   x − a − b modulo q, of residues
--   inner_of_sums d h m G ⟨m0 + m1, G0 + G1⟩, the halves having h elements
use Rattle.std.specs.Prelude.{List, ℕ, ◌+◌, ◌-◌, ◌/◌, ◌%◌, ◌<◌, get_or}
use Rattle.protocol.specs.Element.{Element, plus}
use Rattle.protocol.specs.Opening.{inner, second}
use Rattle.modular.specs.Factors.{Halvable}

abbrev pub half : ℕ → ℕ
half q = (q + 1) / 2

abbrev pub Halvables : ℕ → ℕ → List ℕ → Type 0
Halvables q n l = (k : ℕ) → k < n → Halvable q (get_or l k 0)

abbrev pub less_both : ℕ → ℕ → ℕ → ℕ → ℕ
less_both q x a b = ((x + (q - a)) % q + (q - b)) % q

unfoldable pub inner_of_sums : ℕ → ℕ → (ℕ → Element) → (ℕ → Element) → Element
inner_of_sums d h m G = inner d h (λ i. plus (m i) (second h m i)) (λ i. plus (G i) (second h G i))
