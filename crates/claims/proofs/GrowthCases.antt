-- The marked cases of growth (PROTOCOL 12.6) as refusals by 14, for judge and extractor at every full tree, whatever the modulus and the rows: at d 64, L 4, B 5 both refuse; at d 64, L 4, B 4, at
-- d 32, L 4, B 127 and at d 16, L 5, B 127 neither does.
-- (HonestTree has a full tree for each.)
use mathlib.Core.Path.{◌≡◌}
use mathlib.Core.Bool.{true}
use mathlib.Core.List.{List}
use Prim.Native.Nat.{ℕ, ◌*◌, ◌^◌, ◌<◌, ◌≤◌}
use native.Mathlib.Omega.{arith}
use lib.ListN.{length}
use lib.IntN.{ℤ}
use Rattle.protocol.specs.Layout.{key_cells}
use Rattle.protocol.specs.Settings.{cells}
use Rattle.protocol.specs.Inputs.{Valid, Below}
use Rattle.protocol.specs.Tree.{growth, growth_factor, growth_limit}
use Rattle.protocol.specs.Judge.{slack_allowed}
use Rattle.protocol.specs.Calls.{judge_refusal, extract_refusal}
use Rattle.one_claim.specs.Demand3.{FullTree}
use Rattle.protocol.proofs.Listing.{set_rows}
use Rattle.claims.proofs.Extractor.{growth-refused, growth-passed}

-- at every full tree, for every modulus, number of rows, key and list w, and whatever the slack
abbrev pub Refused : ℕ → ℕ → ℕ → Type 0
Refused d L B = (q rows : ℕ) (G C rounds E : List ℕ) (finals w : List ℤ) → let S = set_rows d L q B rows in Valid S → Below q (key_cells S) G → FullTree S G C rounds E finals → length w ≡ cells S
    → ((c : ℕ) → judge_refusal S C c G w ≡ 14) × (extract_refusal S C G rounds E finals w ≡ 14)

-- and for every slack that is allowed
abbrev pub Passed : ℕ → ℕ → ℕ → Type 0
Passed d L B = (q rows : ℕ) (G C rounds E : List ℕ) (finals w : List ℤ) → let S = set_rows d L q B rows in Valid S → Below q (key_cells S) G → FullTree S G C rounds E finals → length w ≡ cells S
    → ((c : ℕ) → slack_allowed S c ≡ true → judge_refusal S C c G w ≡ 0) × (extract_refusal S C G rounds E finals w ≡ 0)

refused-beyond : (d L B : ℕ) → growth_limit < growth_factor d ^ L * B → Refused d L B
unfolding growth
refused-beyond d L B over q n G C rounds E finals w ok key tree long = growth-refused (set_rows d L q B n) ok G C rounds E finals key tree w long over

passed-within : (d L B : ℕ) → growth_factor d ^ L * B ≤ growth_limit → Passed d L B
unfolding growth
passed-within d L B room q n G C rounds E finals w ok key tree long = growth-passed (set_rows d L q B n) ok G C rounds E finals key tree w long room

pub refused_by_14 : Refused 64 4 5
unfolding growth_factor growth_limit
refused_by_14 = refused-beyond 64 4 5 (omega arith)

-- the first is exactly at the limit
pub not_refused_by_14 : Passed 64 4 4 × Passed 32 4 127 × Passed 16 5 127
unfolding growth_factor growth_limit
not_refused_by_14 = (passed-within 64 4 4 (omega arith), passed-within 32 4 127 (omega arith), passed-within 16 5 127 (omega arith))
