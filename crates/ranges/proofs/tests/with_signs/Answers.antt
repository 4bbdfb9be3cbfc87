use Rattle.std.proofs.Common.{◌≡◌, ℕ, ◌+◌, ◌-◌, refl, ◌%◌, ◌^◌, ◌<◌, ◌≤◌, Bool, true, false, ◌&&◌, ltb, sym, ap, ◌∙◌, arith, le-ltb, lt-ltb}
use native.Mathlib.Decide.{dec_lt}
use lib.Bits.{bit_or, or_lt, or_add_and, and_le_r, and_le_l}
use Rattle.ranges.proofs.Scan.{and-false}
use Rattle.ranges.proofs.tests.with_signs.Goals as goal

-- a number has its highest bit where one of those has it that it is made of
either : (a b : ℕ) → ltb (bit_or a b) (2 ^ 63) ≡ (ltb a (2 ^ 63) && ltb b (2 ^ 63))
either a b = elim (dec_lt a (2 ^ 63)) [
  | no g ↦ le-ltb (bit_or a b) (2 ^ 63) (omega (arith, or_add_and a b, and_le_r a b)) ∙ sym (ap (λ x. x && ltb b (2 ^ 63)) (le-ltb a (2 ^ 63) (omega arith)))
  | yes l ↦ elim (dec_lt b (2 ^ 63)) [
    | no g ↦ le-ltb (bit_or a b) (2 ^ 63) (omega (arith, or_add_and a b, and_le_l a b)) ∙ sym (ap (λ x. ltb a (2 ^ 63) && x) (le-ltb b (2 ^ 63) (omega arith)) ∙ and-false (ltb a (2 ^ 63)))
    | yes m ↦ lt-ltb (bit_or a b) (2 ^ 63) (or_lt 63 a b l m) ∙ sym ((λ i. lt-ltb a (2 ^ 63) l i && lt-ltb b (2 ^ 63) m i))
  ]
]

both_signs : (limit x r e : ℕ) → limit ≤ 2 ^ 63 → x < 2 ^ 64 → e < 2 ^ 64 → (e + limit) % 2 ^ 64 ≡ 2 ^ 63 → r ≡ (x + e) % 2 ^ 64 → (ltb x (2 ^ 63) && ltb r (2 ^ 63)) ≡ ltb x limit
both_signs limit x r e most lx le less up = elim (dec_lt x limit) [
  | yes l ↦ (λ i. lt-ltb x (2 ^ 63) (omega arith) i && lt-ltb r (2 ^ 63) (omega arith) i) ∙ sym (lt-ltb x limit l)
  | no g ↦ elim (dec_lt x (2 ^ 63)) [
    | no h ↦ ap (λ b. b && ltb r (2 ^ 63)) (le-ltb x (2 ^ 63) (omega arith)) ∙ sym (le-ltb x limit (omega arith))
    | yes h ↦ ap (λ b. ltb x (2 ^ 63) && b) (le-ltb r (2 ^ 63) (omega arith)) ∙ and-false (ltb x (2 ^ 63)) ∙ sym (le-ltb x limit (omega arith))
  ]
]

and_assoc : (a b c : Bool) → ((a && b) && c) ≡ (a && (b && c))
and_assoc true b c = λ i. b && c
and_assoc false b c = λ i. false

pub returns : goal.returns
returns c = λ most.
    let a = c.args in
    let less = (2 ^ 63 + (2 ^ 64 - a.limit)) % 2 ^ 64 in
    let up = (a.x + less) % 2 ^ 64 in
    either (bit_or a.signs a.x) up
    ∙ ap (λ b. b && ltb up (2 ^ 63)) (either a.signs a.x)
    ∙ and_assoc (ltb a.signs (2 ^ 63)) (ltb a.x (2 ^ 63)) (ltb up (2 ^ 63))
    ∙ ap (λ b. ltb a.signs (2 ^ 63) && b) (both_signs a.limit a.x up less most (omega arith) (omega arith) (omega arith) refl)
