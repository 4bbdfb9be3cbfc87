use Rattle.std.proofs.Common.{◌%◌, refl, ap, ◌∙◌, mod-lt, arith}
use Rattle.joins.proofs.Joining.{multiple-divided}
use Rattle.joins.proofs.prepare.Goals as goal

pub returns : goal.returns
returns c = λ m.
    let q = c.args.q in
    let is = c.multiple.ensures m.positive in
    record {
      allowed = m;
      modulus = refl;
      weighted = c.weight.ensures m;
      divided = ap (λ n. n % q) is ∙ multiple-divided q m.positive;
      least = omega (arith, is, mod-lt 9223372036854775808 {m = q} m.positive);
      most = omega (arith, is);
    }
