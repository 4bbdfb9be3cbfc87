-- The parts of the tables so far stand behind the text, and the values of the others are left.
use Rattle.std.proofs.Common.{◌≡◌, true, drop}
use Rattle.text_parts.specs.Parts.{part_of, lengths_are}
use Rattle.text_parts.specs.Flat.{start}
use Rattle.table_writer.specs.Tables.{behind_text}
use Rattle.table_writer.proofs.parts.put_parts.Given as goal

abbrev pub invariant-loop-k : goal.invariant-loop-k
invariant-loop-k l =
    (l.rest ≡ drop (start l.lengths l.k) l.values)
    × (lengths_are (part_of l.settings l.parts) l.lengths ≡ true → l.text ≡ behind_text l.settings l.parts l.lengths l.values l.k l.initial.text)
