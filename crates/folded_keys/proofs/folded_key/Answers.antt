use Rattle.std.proofs.Common.{◌≡◌, ℕ, ◌+◌, ◌*◌, ◌^◌, ◌<◌, ◌≤◌, List, length, replicate, sym, subst, le_of_eq, arith}
use native.Mathlib.Nat.{pow-le-pow_right}
use lib.ListN.{get_or-replicate, length-replicate}
use Rattle.protocol.specs.declared.Settings.{Settings}
use Rattle.protocol.specs.Layout.{width, size, cells}
use Rattle.protocol.proofs.Ranges.{below-everywhere}
use Rattle.folded_keys.specs.Given.{KeyGiven}
use Rattle.folded_keys.specs.Turns.{Summable}
use Rattle.folded_keys.proofs.Gathering.{gathered_key, gathered-stand, gathered-joined}
use Rattle.equations.proofs.Ready.{ready}
use Rattle.folded_keys.proofs.Summing.{folded-is}
use Rattle.folded_keys.proofs.folded_key.Goals as goal

pub returns-then-settings-gt-WIDTH : goal.returns-then-settings-gt-WIDTH
returns-then-settings-gt-WIDTH c = λ g. absurd (let r = ready _ g.allowed in omega arith)

pub returns-then-settings-gt-DEPTH_MOST : goal.returns-then-settings-gt-DEPTH_MOST
returns-then-settings-gt-DEPTH_MOST c = λ g. absurd (let r = ready _ g.allowed in omega arith)

-- the key is there, and sums begin with zeros
summable : (S : Settings) (key E : List ℕ) → KeyGiven S key E → (n : ℕ) → n ≡ 2 ^ S.depth → Summable S n key (replicate width 0)
unfolding cells size
summable S key E g n is =
    let r = ready S g.allowed in
    record {
      allowed = g.allowed;
      inside = subst (λ m. m * S.degree ≤ length key) (sym is) (le_of_eq (sym g.key_below.long));
      key_below = below-everywhere S.modulus _ key (omega (arith, r.modulus_least)) g.key_below;
      room = omega (arith, r.degree_most, length-replicate {A = ℕ} width 0);
      empty = λ k l. get_or-replicate width k 0 0 (omega (arith, r.degree_most));
    }

pub returns-then-settings-le-GATHERED_MOST : goal.returns-then-settings-le-GATHERED_MOST
returns-then-settings-le-GATHERED_MOST c = λ g.
    let n = c.add_elements in
    let t = c.turns-n in
    let a = c.args in
    let S = a.settings in
    let key = a.key.now in
    let r = ready S g.allowed in
    let pd : 0 < S.degree = omega (arith, r.degree_least) in
    let pq : 0 < S.modulus = omega (arith, r.modulus_least) in
    let x = t.new.x in
    let few : t.result ≤ 256 = omega (arith, t.ensures.0, pow-le-pow_right {n = 2} (omega arith) {i = S.depth} {j = 8} r.depth_most) in
    let sums = n.ensures (summable S key a.challenges.now g t.result t.ensures.0) in
    let ready-joint = c.prepare-joint.ensures (record { positive = pq; most = omega (arith, r.modulus_most_holds) }) in
    let stand = gathered-stand S key x t.result pd (below-everywhere S.modulus _ key pq g.key_below) few (omega arith) n.new.sums (replicate (width + 1) 0)
    (omega (arith, r.degree_most, n.auto.sums, length-replicate {A = ℕ} width 0)) (omega (arith, r.degree_most, length-replicate {A = ℕ} (width + 1) 0))
    (λ k l. get_or-replicate (width + 1) k 0 0 (omega (arith, r.degree_most))) sums in
    folded-is S a.challenges.now pd key g x (t.ensures.1 (get_or-replicate 256 0 0 0 (omega arith))) t.result t.ensures.0 c.join_all.result
    (gathered-joined S key x t.result c.join_all.result (c.join_all.ensures S.modulus (gathered_key S key x t.result) (ready-joint, r.degree_most, stand)))

pub returns : goal.returns
returns c = λ g.
    let n = c.add_elements-2 in
    let t = c.turns-n in
    let a = c.args in
    let S = a.settings in
    let r = ready S g.allowed in
    folded-is S a.challenges.now (omega (arith, r.degree_least)) a.key.now g t.new.x (t.ensures.1 (get_or-replicate 256 0 0 0 (omega arith))) t.result t.ensures.0
    n.new.sums (n.ensures (summable S a.key.now a.challenges.now g t.result t.ensures.0))
