-- Up to a part the lines are the wanted ones and their values are stored, so what is left decides.
use Rattle.std.proofs.Common.{◌≡◌, ℕ, ◌+◌, ◌*◌, ◌-◌, ◌≤◌, true, List, length, drop, take}
use Rattle.protocol.specs.Settings.{settings_refusal}
use Rattle.text_format.specs.Lines.{read_values}
use Rattle.text_parts.specs.Parts.{part_of, lengths_are}
use Rattle.text_parts.specs.Flat as Flat
use Rattle.text_values.specs.Parts.{part_spots}
use Rattle.text_values.proofs.Wants.{spots_from}
use Rattle.text_lines.proofs.Values.{prefix}
use Rattle.text_values.proofs.parts.read_parts.Given as goal

abbrev pub invariant-loop-part : goal.invariant-loop-part
invariant-loop-part l = record {
  room : l.start ≤ length l.values;
  starts : (n : List ℕ) → lengths_are (part_of l.settings l.parts) n ≡ true → l.start ≡ Flat.start n (l.part - 1);
  left : (settings_refusal l.settings ≡ 0) × (l.from ≤ length l.text) × (length l.text ≤ 8 * length l.fn.values)
      → (l.at ≤ length l.text) × (l.start + length (spots_from l.settings l.parts l.part) ≡ length (part_spots l.settings l.parts))
      × (read_values (part_spots l.settings l.parts) (drop l.from l.text) ≡ prefix (take l.start l.values) (read_values (spots_from l.settings l.parts l.part) (drop l.at l.text)));
}
