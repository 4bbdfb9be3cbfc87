use mathlib.Core.Path.{ap}
use Prim.Native.Nat.{◌*◌}
use native.Mathlib.Nat as Nat
use native.Mathlib.Omega.{arith}
use Rattle.half_sums.specs.Halves.{keys_of}
use Rattle.rows.proofs.Rows.{cells_most_lem}
use Rattle.strands.proofs.Weaving.{all_woven, woven-below, keys_below, first_given, one_row_lem}
use borrow.Author.Rules.{rules}
use Rattle.strands.proofs.prepare.Statement.{statement}
use Rattle.strands.proofs.prepare.Tie as tie

returns-then-cells-gt-WIDTH : tie.Need-returns-then-cells-gt-WIDTH
returns-then-cells-gt-WIDTH c = λ G z. absurd (omega (arith, (z.0.given 0 z.0.some).degree_most))

returns-then-i-n : tie.Need-returns-then-i-n
returns-then-i-n c = λ G z. absurd (omega (arith, z.1))

returns-then-rows-eq1 : tie.Need-returns-then-rows-eq1
returns-then-rows-eq1 c = λ G z.
    let a = c.args in
    one_row_lem a.sums a.q a.d a.n a.rows a.stride a.g.now G z.0 (omega arith) a.i z.1 _
    (c.prepare_key.ensures (
      first_given a.sums a.q a.d a.n a.rows a.stride a.g.now G z.0,
      z.2,
      omega
          (arith, z.4, ap (λ m. a.d * m) {x = a.rows} {y = 1} (omega arith), Nat.mul-one a.d),
    ))

returns-then-strands-gt-ROWS : tie.Need-returns-then-strands-gt-ROWS
returns-then-strands-gt-ROWS c = λ G z. absurd (omega (arith, z.0.most))

overflow_mul-cells : tie.Need-overflow_mul-cells
overflow_mul-cells c = let a = c.args in omega (arith, cells_most_lem a.rows a.d (omega arith) (omega arith))

returns-then-k-cells : tie.Need-returns-then-k-cells
returns-then-k-cells c = λ G z. absurd (omega (arith, z.3))

overflow_mul-d : tie.Need-overflow_mul-d
overflow_mul-d c = let a = c.args in omega
    (arith, cells_most_lem a.rows a.d (omega arith) (omega arith))

returns : tie.Need-returns
returns c = λ G z.
    let a = c.args in
    let first = z.0.given 0 z.0.some in
    let keys = c.weave_keys in
    let strands = keys.ensures G (z.0, z.2) in
    all_woven a.rows a.d z.0.some (λ r. keys_of a.sums a.q a.d a.n (G r) a.i) _ strands a.q first.degree _
    (c.prepare.ensures record {
      degree = Nat.mul-pos first.degree z.0.some;
      degree_most = cells_most_lem a.rows a.d z.0.most first.degree_most;
      coefficients = omega (arith, z.3, keys.auto.k);
      residues = woven-below a.rows a.d z.0.some (λ r. keys_of a.sums a.q a.d a.n (G r) a.i) _ strands a.q
          (λ r j v lr lj. keys_below a.sums a.q a.d a.n a.i j (G r) (z.0.given r lr) z.1 lj v);
      places = z.4;
    })

pub prepare_spec : {M : Type 1} → statement M
prepare_spec =
    tie.close
    (tie.spec returns-then-cells-gt-WIDTH returns-then-i-n (λ c κs. search rules) (λ c. search) (λ c. search) returns-then-rows-eq1 returns-then-strands-gt-ROWS overflow_mul-cells returns-then-k-cells (λ c κs. search rules) overflow_mul-d (λ c κs. search rules) (λ c. search)
    (λ c. search) (λ c. search) returns)
