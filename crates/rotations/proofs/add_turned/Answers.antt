-- X^e is on the circle where its place on it is.
use Rattle.std.proofs.Common.{◌+◌, ◌*◌, ◌<◌, ◌≤◌, get_or, pos, ◌+ℤ◌, ap, ◌∙◌, mod-lt, arith}
use Rattle.protocol.specs.Element.{width, modulo, rotate, residue}
use Rattle.residues.proofs.Around.{rotate-mod}
use Rattle.residues.proofs.Splice.{spliced_ext}
use Rattle.rotations.proofs.add_turned.Goals as goal

pub returns : goal.returns
returns c = λ f.
    let o = c in
    let a = o.args in
    let d : (0 < a.d) × (a.d ≤ width) = (f.degree, f.degree_most) in
    let once = o.on_circle-once.ensures.0 d in
    c.accumulate_turned.ensures (record { exponent = omega (arith, once, mod-lt a.e {m = 2 * a.d} (omega arith)); summands = f.summands })
    ∙ spliced_ext _ _ 0 a.d a.out.now (λ k l.
    ap (λ z. modulo a.q (pos (get_or a.out.now (0 + k) 0) +ℤ z))
    (ap (λ n. rotate a.d n (residue a.a.now) k) once ∙ rotate-mod a.d a.e (residue a.a.now) k))
