use Rattle.std.proofs.Common.{ℕ, ◌*◌, ◌≤◌, Bool, List, ℤ, length, sym, subst, arith}
use Rattle.batches.specs.Batches.{Suits}
use Rattle.product_sums.specs.Sums.{RowsGiven}
use Rattle.plain_products.specs.Sums.{RowsWritten}
use Rattle.products.proofs.inner_rows.Goals as goal

-- what the rows become, with every modulus for which there is the transform
abbrev Become : Bool → ℕ → ℕ → ℕ → ℕ → ℕ → List ℤ → List ℕ → List ℕ → List ℕ → ℕ → Type 0
Become sums level d n rows stride f g out after q = (G : ℕ → List ℕ) → RowsGiven sums q d n rows stride f g G × (rows * d ≤ length out) × Suits q d n level → RowsWritten sums q d n rows f G out after

pub returns : goal.returns
returns c = λ G z.
    let a = c.args in
    let h = a.shape in
    let e = c.level-level.ensures (omega arith) in
    subst (Become h.sums _ h.degree h.elements h.rows h.stride a.f.now a.g.now a.out.now _) {x = 12289} {y = h.modulus} (sym e.modulus)
    (λ G y. c.transformed_rows.ensures G (record { rows = y.0; suits = y.2 }, y.1)) G (z.0, z.1, e)
