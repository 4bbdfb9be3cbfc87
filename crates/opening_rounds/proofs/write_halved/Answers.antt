-- What is halved is the copy.
use Rattle.std.proofs.Common.{◌≡◌, ◌*◌, ◌%◌, ◌^◌, ◌<◌, ◌≤◌, ℕ, List, ◌++◌, length, get_or, take, drop, sym, ap, ◌∙◌, subst, arith, drop_at, get_or-take, length-append, length-take-le}
use lib.ListN.{get_or-append}
use Rattle.protocol.specs.Basic.{tabulate}
use Rattle.modular.specs.Factors.{Halvable}
use Rattle.residues.proofs.Fill.{filled, filled_ext}
use Rattle.opening_rounds.specs.Rounds.{half, Halvables}
use Rattle.opening_rounds.proofs.write_halved.Goals as goal

module _ (q t d : ℕ) (e out : List ℕ) (long : d ≤ length e) {p : List ℕ} (is : p ≡ take d e ++ drop d out) where
  same : (k : ℕ) → k < d → get_or p k 0 ≡ get_or e k 0
  same k h = ap (λ l. get_or l k 0) is ∙ get_or-append (take d e) (drop d out) 0 k (omega (arith, length-take-le d e long)) ∙ get_or-take d e k 0 h

  halvables : Halvables q d e → Halvables q d p
  halvables each k h = subst (Halvable q) (sym (same k h)) (each k h)

  halved : filled (λ k. half q ^ t * get_or p k 0 % q) d p ≡ filled (λ k. half q ^ t * get_or e k 0 % q) d out
  unfolding filled
  halved =
      filled_ext _ (λ k. half q ^ t * get_or e k 0 % q) d p (λ k h. ap (λ x. half q ^ t * x % q) (same k h))
      ∙ ap (λ l. tabulate d (λ k. half q ^ t * get_or e k 0 % q) ++ l) (ap (drop d) is ∙ drop_at (take d e) (drop d out) d (length-take-le d e long))

pub returns : goal.returns
returns c =
    let a = c.args in
    let is = ap (λ l. l ++ drop a.d a.out.now) c.copy_from_slice.ensures.after in (
      (λ long h. c.halve.ensures (omega (arith, ap length is, length-append (take a.d a.element.now) (drop a.d a.out.now), length-take-le a.d a.element.now c.requires)) (halvables a.q a.t a.d a.element.now a.out.now c.requires is h) ∙ halved a.q a.t a.d a.element.now a.out.now c.requires is),
      λ h. absurd (omega arith),
    )
