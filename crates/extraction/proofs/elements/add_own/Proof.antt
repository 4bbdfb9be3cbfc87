-- The rotation is that of the copies.
use mathlib.Core.Path.{◌∙◌}
use Prim.Native.Nat.{◌*◌, ◌≤◌}
use native.Mathlib.Omega.{arith}
use borrow.Author.Rules.{rules}
use lib.ListN.{length}
use Rattle.extraction.proofs.Sums.{half-mirrored, own_mirrorable, own_summable, own-rotated}
use Rattle.extraction.proofs.elements.add_own.Statement.{statement}
use Rattle.extraction.proofs.elements.add_own.Tie as tie

mirror-requires : tie.Need-mirror-requires
mirror-requires c κs = own_mirrorable c.args.d c.requires.0 c.args.a.now c.requires.4 _ c.requires.3

-- the room keeps its length
room : (c : tie.After-mirror) → let a = c.args in 2 * a.d ≤ length c.mirror.new.x
room c = omega (arith, c.requires.3, c.mirror.auto.x)

add_rotated-requires : tie.Need-add_rotated-requires
add_rotated-requires c κs =
    let m = c.before.before in let a = c.args in (
      c.requires.0,
      c.requires.1,
      c.requires.2,
      room m,
      half-mirrored a.d a.a.now _ c.mirror.ensures,
      own_summable a.d c.requires.0 a.a.now c.requires.4 _ (room m) c.mirror.ensures,
    )

returns : tie.Need-returns
returns c =
    let a = c.args in
    c.add_rotated.ensures
    ∙ own-rotated a.d c.requires.0 a.a.now c.requires.4 _ (room c.before.before.before.before) c.mirror.ensures a.e

pub add_own_spec : {M : Type 1} → statement M
add_own_spec =
    tie.close (tie.spec mirror-requires add_rotated-requires (λ c. search rules) (λ c. search rules) returns)
