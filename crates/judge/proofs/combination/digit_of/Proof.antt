-- A digit fits.
use Prim.Native.Nat.{◌/◌, ◌%◌}
use native.Mathlib.Omega.{arith}
use mir.Facts.{to_z_pos}
use mir.Syntax.{w32}
use borrow.Author.Rules.{rules}
use Rattle.judge.proofs.combination.digit_of.Statement.{statement}
use Rattle.judge.proofs.combination.digit_of.Tie as tie

nonzero_div-result : tie.Need-nonzero_div-result
nonzero_div-result c = search rules

overflow_cast-result : tie.Need-overflow_cast-result
overflow_cast-result c = search rules

returns : tie.Need-returns
returns c = to_z_pos w32 {n = c.args.m / c.args.base % 65536} (omega arith)

pub digit_of_spec : {M : Type 1} → statement M
digit_of_spec = tie.close (tie.spec nonzero_div-result overflow_cast-result returns)
