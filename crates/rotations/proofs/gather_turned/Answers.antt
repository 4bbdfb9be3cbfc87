-- X^e is on the circle where its place on it is.
use Rattle.std.proofs.Common.{◌+◌, ◌*◌, ◌^◌, get_or, pos, ◌+ℤ◌, refl, ap, ◌∙◌, mod-lt, arith}
use Rattle.protocol.specs.Element.{modulo, rotate, residue}
use Rattle.residues.proofs.Around.{rotate-mod}
use Rattle.residues.proofs.Splice.{spliced_ext}
use Rattle.rotations.proofs.Values.{placed}
use Rattle.rotations.proofs.gather_turned.Goals as goal

pub returns-then-once-n : goal.returns-then-once-n
returns-then-once-n c = λ f. let a = c.args in absurd (omega (arith, c.on_circle-once.ensures.0 (f.degree, f.degree_most), mod-lt a.e {m = 2 * a.d} (omega (arith, f.degree))))

pub returns : goal.returns
returns c = λ f.
    let a = c.args in
    let is = c.on_circle-once.ensures.0 (f.degree, f.degree_most) in
    placed (2 ^ 64) a.d c.on_circle-once.result 0 a.a.now a.sums.now _ (omega arith) refl (c.add_multiple.ensures (2 ^ 64) (record { is = λ n x y. refl; may = λ j k _ _. tt }))
    ∙ spliced_ext _ _ 0 a.d a.sums.now (λ k l.
    ap (λ z. modulo (2 ^ 64) (pos (get_or a.sums.now (0 + k) 0) +ℤ z)) (ap (λ n. rotate a.d n (residue a.a.now) k) is ∙ rotate-mod a.d a.e (residue a.a.now) k))
