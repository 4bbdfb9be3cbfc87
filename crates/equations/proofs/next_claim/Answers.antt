use mathlib.Core.Path.{refl, ap, ◌∙◌}
use mathlib.Core.List.{List}
use Prim.Native.Nat.{ℕ, ◌<◌, ◌≤◌}
use native.Mathlib.Nat.{zero-add}
use lib.ListN.{length, get_or}
use native.Mathlib.Omega.{arith}
use Rattle.protocol.specs.Element.{residue, reduced}
use Rattle.protocol.specs.Transcript.{next_claim}
use Rattle.residues.specs.Residues.{Residues}
use Rattle.rotations.specs.Values.{value_at}
use Rattle.residues.proofs.Splice.{spliced-element}
use Rattle.equations.proofs.Ready.{ready}
use Rattle.equations.proofs.next_claim.Goals as goal

pub returns : goal.returns
unfolding next_claim reduced value_at
returns c = λ l g.
    let a = c.args in
    let S = a.settings in
    let r = ready S g.allowed in
    let row : (l : List ℕ) → S.degree ≤ length l → ((k : ℕ) → k < S.degree → get_or l k 0 < S.modulus) → Residues S.modulus S.degree 0 l =
    λ l long each. record { long = omega arith; each = λ k m. omega (arith, ap (λ j. get_or l j 0) (zero-add k), each k m) } in
    c.value.ensures (record {
      degree = omega arith;
      degree_most = omega arith;
      coefficients = record {
        modulus = omega arith;
        first = row a.c0.now l.first g.first;
        second = row a.c1.now l.second g.second;
        third = row a.c2.now l.third
            g.third;
      };
      room = omega arith;
    })
    ∙ spliced-element _ (value_at S.modulus S.degree a.e (residue a.c0.now) (residue a.c1.now) (residue a.c2.now)) S.degree (λ k l. refl)
