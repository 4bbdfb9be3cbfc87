-- The loop keeps: the first l strands are filled. Of the element nothing is kept but its length.
use mathlib.Core.Path.{◌≡◌, refl}
use Prim.Native.Nat.{ℕ, ◌+◌, ◌-◌, ◌^◌, ◌≤◌}
use native.Mathlib.Omega.{arith}
use lib.ListN.{length}
use Rattle.protocol.specs.Element.{width}
use Rattle.transform.specs.Strands.{Room, Filled}
use Rattle.half_sums.specs.Halves.{keys_of}
use Rattle.batches.specs.Batches.{KeyGiven}
use Rattle.batches.proofs.Batching.{filled_none}
use borrow.Author.Rules.{rules}
use Rattle.batches.proofs.fill_key.Statement.{statement}
use Rattle.batches.proofs.fill_key.Tie as tie

abbrev invariant-loop-l : tie.invariant-loop-l
invariant-loop-l sums d n from g y₀ k₀ l₀ y k l =
    (l ≤ 16)
    × ((D : ℕ) → KeyGiven sums d n g × (d ≡ 2 ^ D) × Room D y₀ → Filled D l (λ i. keys_of sums 12289 d n g (from + i)) y)
    × (length y ≡ length y₀) × (length k ≡ width)

abbrev decreases-loop-l : tie.decreases-loop-l
decreases-loop-l sums d n from g y₀ k₀ l₀ y k l = 16 - l

loop-l-init : tie.Need-loop-l-init invariant-loop-l decreases-loop-l
loop-l-init c = (omega arith, (λ D z. filled_none D _ _ z.2), refl, search rules)

overflow_add-from : tie.Need-overflow_add-from invariant-loop-l decreases-loop-l
overflow_add-from c = omega (arith, c.requires.0)

put_key-requires : tie.Need-put_key-requires invariant-loop-l decreases-loop-l
put_key-requires c κs = (
  omega (arith, c.requires.0, c.loop-l-test.true),
  c.requires.1,
  c.requires.2,
  c.loop-l.invariant.3,
)

loop-l-preserved : tie.Need-loop-l-preserved invariant-loop-l decreases-loop-l
loop-l-preserved c = let a = c.args in
    let l = c.loop-l in
    let call = c.put_key in (
      omega arith,
      (λ D z. call.ensures D _ (z.0, z.1, c.loop-l-test.true, refl, l.invariant.1 D z)),
      search rules,
      search rules,
    )

returns : tie.Need-returns invariant-loop-l decreases-loop-l
returns c = λ D z.
    let l = c.loop-l in
    let is : l.l ≡ 16 = omega arith in
    rw is at (l.invariant.1 D z)

pub fill_key_spec : {M : Type 1} → statement M
fill_key_spec =
    tie.close
    (tie.spec invariant-loop-l decreases-loop-l loop-l-init overflow_add-from (λ c. search rules) put_key-requires (λ c. search rules) (λ c. search rules) loop-l-preserved (λ c. search rules) returns)
