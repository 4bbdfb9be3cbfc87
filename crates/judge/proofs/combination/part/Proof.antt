-- The digits of all numbers, and an inner product for each of the two.
use mathlib.Core.Path.{◌≡◌, ◌∙◌}
use Prim.Native.Nat.{◌*◌, ◌^◌}
use native.Mathlib.Omega.{arith}
use Rattle.protocol.specs.Element.{signed_zeros}
use Rattle.protocol.specs.Settings.{size}
use Rattle.judge.proofs.Sums.{left_none, modulus_given, degree-few, digits_summable, product-reduced, digits-joined}
use borrow.Author.Rules.{rules}
use Rattle.judge.proofs.combination.part.Statement.{statement}
use Rattle.judge.proofs.combination.part.Tie as tie

-- as many elements as the settings say
count : (c : tie.After-left-n) → c.left-n.result ≡ size c.args.settings
count c = c.left-n.ensures (record { allowed = c.requires.0.allowed; most = omega arith }) ∙ left_none c.args.settings

split-requires : tie.Need-split-requires
split-requires c κs =
    let a = c.args in
    let v = c.requires.0 in
    ((modulus_given a.settings a.key.now a.w.now v).positive, c.requires.1, omega (arith, v.few, v.long), omega (arith, v.few, v.long))

add_scaled-requires : tie.Need-add_scaled-requires
unfolding signed_zeros
add_scaled-requires c κs =
    let t = c.before.before.before.before.before.before.before.before.before.before.before in
    let a = c.args in
    let v = c.requires.0 in
    let e = c.split.ensures in
    let few = degree-few a.settings a.key.now a.w.now v in (
      modulus_given a.settings a.key.now a.w.now v,
      omega arith,
      omega (arith, few),
      omega (arith, few),
      product-reduced a.settings a.key.now a.w.now v _ _ _
          (c.inner-upper.ensures (digits_summable a.settings a.key.now a.w.now v (2 ^ a.shift * 65536) _ e.1 _ (count t))),
      product-reduced a.settings a.key.now a.w.now v _ _ _
          (c.inner-sums.ensures (digits_summable a.settings a.key.now a.w.now v (2 ^ a.shift) _ e.0 _ (count t))),
    )

returns : tie.Need-returns
unfolding signed_zeros
returns c =
    let t = c.before.before.before.before.before.before.before.before.before.before.before.before.before in
    let a = c.args in
    let v = c.requires.0 in
    let e = c.split.ensures in
    c.add_scaled.ensures
    ∙ digits-joined a.settings a.key.now a.w.now v c.left-n.result (count t) (2 ^ a.shift) _ _ e.0 e.1 _ _
    (c.inner-sums.ensures (digits_summable a.settings a.key.now a.w.now v (2 ^ a.shift) _ e.0 _ (count t)))
    (c.inner-upper.ensures (digits_summable a.settings a.key.now a.w.now v (2 ^ a.shift * 65536) _ e.1 _ (count t)))

pub part_spec : {M : Type 1} → statement M
part_spec =
    tie.close
    (tie.spec (λ c κs. search rules) (λ c. search rules) (λ c. search rules) split-requires (λ c. search rules) (λ c κs. search rules)
    (λ c. search rules) (λ c κs. search rules) (λ c. search rules) (λ c. search rules) (λ c. search rules) add_scaled-requires returns)
