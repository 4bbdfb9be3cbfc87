use Rattle.std.proofs.Common.{arith}
use Rattle.products.proofs.Rows.{table-few}
use Rattle.products.proofs.transformed_rows.Goals as goal

pub returns-else-cells-le-TABLE : goal.returns-else-cells-le-TABLE
returns-else-cells-le-TABLE c = λ G z. absurd (omega (arith, table-few _ _ _ _ z.0.suits))
