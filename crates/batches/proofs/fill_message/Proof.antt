-- The loop keeps: the first l strands are filled. Of the element nothing is kept but its length.
use mathlib.Core.Path.{◌≡◌, refl}
use Prim.Native.Nat.{ℕ, ◌+◌, ◌-◌, ◌^◌, ◌≤◌}
use native.Mathlib.Omega.{arith}
use lib.ListN.{length}
use Rattle.protocol.specs.Element.{width}
use Rattle.transform.specs.Strands.{Room, Filled}
use Rattle.half_sums.specs.Halves.{messages_of}
use Rattle.batches.specs.Batches.{MessageGiven}
use Rattle.batches.proofs.Batching.{filled_none}
use borrow.Author.Rules.{rules}
use Rattle.batches.proofs.fill_message.Statement.{statement}
use Rattle.batches.proofs.fill_message.Tie as tie

abbrev invariant-loop-l : tie.invariant-loop-l
invariant-loop-l sums d n from f x₀ m₀ l₀ x m l =
    (l ≤ 16)
    × ((D : ℕ) → MessageGiven sums d n f × (d ≡ 2 ^ D) × Room D x₀ → Filled D l (λ i. messages_of sums d n f (from + i)) x)
    × (length x ≡ length x₀) × (length m ≡ width)

abbrev decreases-loop-l : tie.decreases-loop-l
decreases-loop-l sums d n from f x₀ m₀ l₀ x m l = 16 - l

loop-l-init : tie.Need-loop-l-init invariant-loop-l decreases-loop-l
loop-l-init c = (omega arith, (λ D z. filled_none D _ _ z.2), refl, search rules)

overflow_add-from : tie.Need-overflow_add-from invariant-loop-l decreases-loop-l
overflow_add-from c = omega (arith, c.requires.0)

put_message-requires : tie.Need-put_message-requires invariant-loop-l decreases-loop-l
put_message-requires c κs = (
  omega (arith, c.requires.0, c.loop-l-test.true),
  c.requires.1,
  c.requires.2,
  c.loop-l.invariant.3,
)

loop-l-preserved : tie.Need-loop-l-preserved invariant-loop-l decreases-loop-l
loop-l-preserved c = let a = c.args in
    let l = c.loop-l in
    let call = c.put_message in (
      omega arith,
      (λ D z. call.ensures D _ (z.0, z.1, c.loop-l-test.true, refl, l.invariant.1 D z)),
      search rules,
      search rules,
    )

returns : tie.Need-returns invariant-loop-l decreases-loop-l
returns c = λ D z.
    let l = c.loop-l in
    let is : l.l ≡ 16 = omega arith in
    rw is at (l.invariant.1 D z)

pub fill_message_spec : {M : Type 1} → statement M
fill_message_spec =
    tie.close
    (tie.spec invariant-loop-l decreases-loop-l loop-l-init overflow_add-from (λ c. search rules) put_message-requires (λ c. search rules) (λ c. search rules) loop-l-preserved (λ c. search rules) returns)
