use Rattle.std.proofs.Common.{◌≡◌, ◌*◌, ap, ◌∙◌, take, pos, rules}
use native.Mathlib.Nat.{le_refl}
use Rattle.protocol.specs.Basic.{every, within}
use Rattle.protocol.specs.Element.{signed}
use Rattle.protocol.specs.Settings.{size}
use Rattle.protocol.specs.Transcript.{final_bounded}
use Rattle.protocol.proofs.Chains.{all_is}
use Rattle.ranges.proofs.Scan.{all_front}
use Rattle.equations.proofs.final_bounded.Goals as goal

pub returns : goal.returns
unfolding final_bounded within signed size
returns c = λ e.
    let a = c.args in
    let S = a.settings in
    let is : c.left_bound-limit.result ≡ size S * S.bound = c.left_bound-limit.ensures (record { allowed = e; most = le_refl _ }) in
    all_is (within c.left_bound-limit.result) (take S.degree a.f.now) (pos 0) (search rules)
    ∙ all_front (within c.left_bound-limit.result) a.f.now (pos 0) S.degree c.requires
    ∙ ap (λ n. every S.degree (λ j. within n (signed a.f.now j))) is
