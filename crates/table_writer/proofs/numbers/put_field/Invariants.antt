-- The digits from place k on stand in their places, and those before it are of what is left of the number.
use Rattle.std.proofs.Common.{◌≡◌, ◌+◌, ◌-◌, ◌≤◌, ◌++◌, length, take, drop}
use Rattle.text_format.specs.Text.{digit_count, low_digits}
use Rattle.table_writer.specs.Put.{field}
use Rattle.table_writer.proofs.numbers.put_field.Given as goal

abbrev pub invariant-loop-k : goal.invariant-loop-k
invariant-loop-k g l =
    (l.start ≤ l.k)
    × (length l.text ≡ l.start + digit_count l.n + 1)
    × (take l.start l.text ≡ l.fn.text)
    × (low_digits (l.k - l.start) l.rest ++ drop l.k l.text ≡ field l.n l.behind)
