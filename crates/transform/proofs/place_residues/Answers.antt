use Rattle.std.proofs.Common.{◌≡◌, ℕ, ◌%◌, ◌^◌, get_or, pos, ap, ◌∙◌, arith}
use Rattle.algebra.specs.Integers.{ofℤ}
use Rattle.protocol.specs.Element.{residue, modulo}
use Rattle.powers.specs.Powers.{modulus, K}
use Rattle.transform.proofs.Reducing.{stands-for}
use Rattle.transform.proofs.Placing.{strand-filled}
use Rattle.transform.proofs.place_residues.Goals as goal

pub returns : goal.returns
unfolding residue modulo
returns c = λ D G p.
    let a = c.args in
    let r : ℕ → ℕ → Type 0 = λ k v. v ≡ get_or a.g.now k 0 % 2 ^ 16 in
    strand-filled r D a.d a.l p.degree p.inside G a.y.now _ p.before (c.place.ensures (p.inside, p.long, omega (arith, p.degree, p.before.room.long)) 0)
    (λ k v h w.
    let small = p.residues k h in
    let same : v ≡ get_or a.g.now k 0 = omega arith in
    (omega arith, stands-for (pos (get_or a.g.now k 0)) v (ap (λ n. n % modulus) same) ∙ ap (ofℤ K) (p.is k h)))
