-- The end of a transcript: the bound in numbers, and the last equation coefficient by coefficient.
use mathlib.Core.Path.{◌≡◌, sym, ap, ◌∙◌}
use mathlib.Core.Bool.{true}
use mathlib.Core.List.{List}
use Prim.Native.Nat.{ℕ, ◌*◌, ◌%◌, ◌^◌, ◌≤◌}
use native.Mathlib.Nat as Nat
use native.Mathlib.Omega.{arith}
use borrow.Author.Tests.{leb-true}
use lib.Dec.{eqb}
use lib.IntN.{ℤ}
use lib.ListN.{length, get_or}
use Rattle.protocol.specs.declared.Settings.{Settings}
use Rattle.protocol.specs.Basic.{every, within}
use Rattle.protocol.specs.Element.{modulo, product, signed, residue}
use Rattle.protocol.specs.Settings.{size, half}
use Rattle.protocol.specs.Transcript.{final_bounded, ending, end_holds}
use Rattle.protocol.proofs.Modulo.{modulo-lt, modulo_times}
use Rattle.protocol.proofs.Tests.{every_at}
use Rattle.protocol.specs.Opening.{left}
use Rattle.product_sums.specs.Sums.{Small, Summable}
use Rattle.multiples.specs.Multiples.{multiple_is}
use Rattle.protocol.proofs.Agreement.{every_ext}
use Rattle.protocol.proofs.OpeningLaws.{left_power}
use Rattle.equations.specs.Given.{ElementReduced}
use Rattle.equations.proofs.Ready.{Ready}
use Rattle.equations.proofs.Quotients.{multiple-test, half-inverse}

module _ (S : Settings) (allowed : Ready S) (f : List ℤ) where
  open S use {degree as d, depth as L, modulus as q, bound as B}

  size_most : size S * B ≤ 256 * 127
  unfolding size
  size_most = Nat.mul-le-mul {n₂ = 256} {m₂ = 127} (Nat.pow-le-pow_right {n = 2} (omega arith) {i = L} {j = 8} (omega arith)) (omega arith)

  bounded_small : final_bounded S (signed f) ≡ true → Small (2 ^ 16) d f
  unfolding final_bounded signed within
  bounded_small t j l = Nat.le_trans (leb-true _ _ (every_at d (λ k. within (size S * B) (signed f k)) t j l)) (omega (arith, size_most))

  module _ (t : final_bounded S (signed f) ≡ true) (g : List ℕ) where
    pub final_summable : d ≤ length f → d ≤ length g → ElementReduced S g → Summable q d 1 f g
    final_summable f_long g_long below = record {
      elements = record {
        modulus = omega (arith, allowed.modulus_least);
        degree = omega (arith, allowed.degree_least);
        degree_most = allowed.degree_most;
        f_long = omega arith;
        g_long = omega arith;
      };
      magnitude = 2 ^ 16;
      magnitude_most = omega arith;
      few = omega (arith, allowed.degree_most);
      small = λ j l. bounded_small t j (omega arith);
      modulus_most_holds = allowed.modulus_most_holds;
      residues = λ j l. below j (omega arith);
    }

    module _ (claim : List ℕ) (n : ℕ) (is_n : n ≡ left S 0) where
      power_is : n ≡ 2 ^ L
      power_is = is_n ∙ left_power S 0 (omega arith) ∙ ap (λ x. 2 ^ x) (Nat.sub-zero L)

      pub power_most : n ≤ 2 ^ 13
      power_most = Nat.le_trans {m = 256} (rw power_is (Nat.pow-le-pow_right {n = 2} (omega arith) {i = L} {j = 8} allowed.depth_most)) (omega arith)

      pub equation_is : every d (λ k. multiple_is q n (product d (signed f) (residue g) k) (get_or claim k 0)) ≡ end_holds S claim (signed f) (residue g)
      unfolding end_holds ending multiple_is
      equation_is = every_ext d (λ k l.
          multiple-test q (omega arith) n (half S ^ L) (ap (λ x. x * half S ^ L % q) power_is ∙ unfold half in
          half-inverse q (omega arith) allowed.modulus_odd L) (modulo q (product d (signed f) (residue g) k)) (get_or claim k 0) (modulo-lt q (omega arith) _)
          ∙ ap (eqb (get_or claim k 0)) (sym (modulo_times q (omega arith) (half S ^ L) (product d (signed f) (residue g) k))))
