-- Values of tables that stand one after the other, as the reader gathers them.
--
--   cut_tables n vs  the tables among the values, their lengths being n
--   narrowed z       z, or 0 where it is past the narrow limit
--   narrow_tables t  the tables t with a message and a final element of 32 bits
--   tests S N vs     do values pass the test of refusal N
--   passes S N k vs  do they where it tests the table at place k
--   all_pass S N n vs do the values of all tables that it tests
use Rattle.std.specs.Prelude.{Bool, true, List, map, ℕ, eqb, ℤ, pos}
use Rattle.protocol.specs.declared.Settings.{Settings}
use Rattle.protocol.specs.Basic.{within, choose, every}
use Rattle.protocol.specs.Settings.{all_below, exponents, all_within}
use Rattle.text_format.specs.Text.{Tables, value_limit, narrow_limit, unsigned}
use Rattle.text_parts.specs.Parts.{table_count, tested_by}
use Rattle.text_parts.specs.Flat.{piece}

unfoldable pub cut_tables : List ℕ → List ℤ → Tables
cut_tables n vs = record {
  key = map (unsigned value_limit) (piece n 0 vs);
  message = piece n 1 vs;
  commitment = map (unsigned value_limit) (piece n 2 vs);
  rounds = map (unsigned value_limit) (piece n 3 vs);
  challenges = map (unsigned narrow_limit) (piece n 4 vs);
  last = piece n 5 vs;
  claims = map (unsigned value_limit) (piece n 6 vs);
}

unfoldable pub narrowed : ℤ → ℤ
narrowed z = choose (within narrow_limit z) z (pos 0)

unfoldable pub narrow_tables : Tables → Tables
narrow_tables t = record {
  key = t.key;
  message = map narrowed t.message;
  commitment = t.commitment;
  rounds = t.rounds;
  challenges = t.challenges;
  last = map narrowed t.last;
  claims = t.claims;
}

unfoldable pub tests : Settings → ℕ → List ℤ → Bool
tests S refusal vs =
    choose
    (eqb refusal 8)
    (all_below S (map (unsigned value_limit) vs))
    (choose (eqb refusal 9) (all_within S.bound vs) (choose (eqb refusal 10) (exponents S (map (unsigned narrow_limit) vs)) true))

unfoldable pub passes : Settings → ℕ → ℕ → List ℤ → Bool
passes S refusal k vs = choose (eqb (tested_by k) refusal) (tests S refusal vs) true

unfoldable pub all_pass : Settings → ℕ → List ℕ → List ℤ → Bool
all_pass S refusal n vs = every table_count (λ k. passes S refusal k (piece n k vs))
