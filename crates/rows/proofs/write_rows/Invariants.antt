-- The loop keeps: the first k numbers of each row are in place.
use Rattle.std.proofs.Common.{◌≡◌, length}
use Rattle.protocol.specs.Element.{residue}
use Rattle.rows.specs.Rows.{turned, Residues}
use Rattle.rows.proofs.ThreeRows.{ThreeRows}
use Rattle.rows.proofs.write_rows.Given as goal

abbrev pub invariant-loop-k : goal.invariant-loop-k
invariant-loop-k l = (Residues l.q l.d l.a → ThreeRows (turned l.q l.d (residue l.a)) l.d l.k l.initial.y l.y) × (length l.y ≡ length l.initial.y)
