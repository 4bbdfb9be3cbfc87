-- The tables so far have room, and the next one begins at `start`.
use Rattle.std.proofs.Common.{◌≡◌, ◌≤◌}
use Rattle.text_parts.specs.Parts.{values_room}
use Rattle.text_parts.specs.Flat.{start}
use Rattle.table_writer.proofs.gather.room.Given as goal

abbrev pub invariant-loop-length : goal.invariant-loop-length
invariant-loop-length l = (l.start ≡ start l.length-items l.length-index) × (l.start ≤ values_room)
