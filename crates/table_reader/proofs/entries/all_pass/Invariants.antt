-- The tables before place k pass, and the next one begins at `start`.
use Rattle.std.proofs.Common.{◌≡◌, true}
use Rattle.protocol.specs.Basic.{every}
use Rattle.protocol.specs.Refusal.{number}
use Rattle.protocol.specs.Settings.{settings_refusal}
use Rattle.text_parts.specs.Flat.{start, piece}
use Rattle.table_reader.specs.Cut.{passes}
use Rattle.table_reader.proofs.entries.all_pass.Given as goal

abbrev pub invariant-loop-k : goal.invariant-loop-k
invariant-loop-k l = record {
  start_is : l.start ≡ start l.lengths l.k;
  passed : settings_refusal l.settings ≡ 0 → every l.k (λ k. passes l.settings (number l.refusal) k (piece l.lengths k l.values)) ≡ true;
}
