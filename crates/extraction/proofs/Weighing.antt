-- Both quotients and the sum, one after the other on a list: the numbers stay small enough, and the list becomes `weighted`.
use mathlib.Core.Path.{◌≡◌, sym, ap, ◌∙◌, subst}
use mathlib.Core.List.{List}
use Prim.Native.Nat.{ℕ, zero, suc, ◌*◌, ◌^◌, ◌<◌, ◌≤◌}
use native.Mathlib.Nat as Nat
use native.Mathlib.Omega.{arith}
use lib.ListN.{length, get_or}
use lib.Pow as Pow
use lib.IntN.{ℤ, pos, nat_abs, ◌+ℤ◌}
use Rattle.protocol.specs.Layout.{width}
use Rattle.protocol.specs.Element.{Element, rotate, plus, signed}
use Rattle.claims.proofs.Bounds.{Bounded}
use Rattle.residues.proofs.Fill.{filled, filled_at, filled-length, filled_ext, filled-again}
use Rattle.protocol.proofs.Agreement.{rotate_same}
use Rattle.extraction.specs.Bounds.{Summable, Doubling, Factors, Weighable}
use Rattle.extraction.specs.Steps.{rotated_added, summed, doublings, divided, weighted}
use Rattle.extraction.proofs.Quotients.{divided-bounded}

-- a quotient depends on the first d coefficients alone
summed_ext : (d k : ℕ) → 0 < d → {a b : Element} → ((x : ℕ) → x < d → a x ≡ b x) → (j x : ℕ) → x < d → summed d k j a x ≡ summed d k j b x
unfolding summed plus
summed_ext d k p h zero x l = h x l
summed_ext d k p h (suc j) x l = λ i. summed_ext d k p h j x l i +ℤ rotate_same p (k * 2 ^ j) (summed_ext d k p h j) x i

divided_ext : (d k : ℕ) → 0 < d → {a b : Element} → ((x : ℕ) → x < d → a x ≡ b x) → (x : ℕ) → x < d → divided d k a x ≡ divided d k b x
unfolding divided
divided_ext d k p h = summed_ext d k p h (doublings d k)

module _ (d k m e : ℕ) (a : List ℤ) (W : Weighable d k m e a) where
  abbrev F : Factors d k m e W.bound
  F = W.factors

  abbrev B : ℕ
  B = W.bound

  pub some : 0 < d
  some = omega (arith, F.degree_is, Pow.pow_pos F.log)

  pub small : d ≤ width
  small = omega (arith, F.degree_is, Pow.pow_mono {i = F.log} {j = 7} F.log_most)

  once : d * B ≤ d * (d * B)
  once = omega (arith, Nat.mul-le-mul_right (d * B) some, Nat.one-mul (d * B))

  pub first-doubling : Doubling d k a
  first-doubling =
      record {
        log = F.log;
        log_most = F.log_most;
        degree_is = F.degree_is;
        some = F.first.0;
        exponent = F.first.1;
        long = W.long;
        bound = B;
        within = W.within;
        room = omega (arith, F.room, once);
      }

  module _ (b : List ℤ) (is_b : b ≡ filled (divided d k (signed a)) d a) where
    b_at : (x : ℕ) → x < d → signed b x ≡ divided d k (signed a) x
    unfolding signed
    b_at x h = ap (λ t. get_or t x (pos 0)) is_b ∙ filled_at _ d a (pos 0) x h

    b_long : d ≤ length b
    b_long = omega (arith, W.long, ap length is_b, filled-length (divided d k (signed a)) d a W.long)

    b_within : Bounded d (d * B) (signed b)
    b_within x h = subst (λ z. nat_abs z ≤ d * B) (sym (b_at x h)) (divided-bounded d k F.log F.degree_is F.first.0 F.first.1 B (signed a) (unfold signed in W.within) x h)

    pub second_doubling : Doubling d m b
    unfolding signed
    second_doubling =
        record {
          log = F.log;
          log_most = F.log_most;
          degree_is = F.degree_is;
          some = F.second.0;
          exponent = F.second.1;
          long = b_long;
          bound = d * B;
          within = b_within;
          room = omega (arith, F.room);
        }

    module _ (c : List ℤ) (is_c : c ≡ filled (divided d m (signed b)) d b) where
      abbrev both : Element
      both = divided d m (divided d k (signed a))

      c_at : (x : ℕ) → x < d → signed c x ≡ both x
      unfolding signed
      c_at x h = ap (λ t. get_or t x (pos 0)) is_c ∙ filled_at _ d b (pos 0) x h ∙ divided_ext d m some b_at x h

      c_within : (x : ℕ) → x < d → nat_abs (get_or c x (pos 0)) ≤ d * (d * B)
      unfolding signed
      c_within x h =
          subst (λ z. nat_abs z ≤ d * (d * B)) (sym (ap (λ t. get_or t x (pos 0)) is_c ∙ filled_at _ d b (pos 0) x h))
          (divided-bounded d m F.log F.degree_is F.second.0 F.second.1 (d * B) (signed b) b_within x h)

      c_long : d ≤ length c
      c_long = omega (arith, b_long, ap length is_c, filled-length (divided d m (signed b)) d b b_long)

      pub both_summable : Summable d c c
      both_summable = record { long = c_long; long_to = c_long; bound = d * (d * B); bound_to = d * (d * B); within = c_within; within_to = c_within; room = omega (arith, F.room) }

      pub weighted_all : (q : List ℤ) → q ≡ rotated_added d e c c → q ≡ filled (weighted d k m e (signed a)) d a
      unfolding rotated_added weighted plus
      weighted_all q is-q =
          is-q
          ∙ ap (λ t. filled now d t) (is_c ∙ ap (λ t. filled (divided d m (signed b)) d t) is_b ∙ filled-again _ _ d a)
          ∙ filled-again _ _ d a
          ∙ filled_ext now (λ x. both x +ℤ rotate d e both x) d a (λ x h i. c_at x h i +ℤ rotate_same some e c_at x i)
        where
          now : ℕ → ℤ
          now x = signed c x +ℤ rotate d e (signed c) x

pub weighted-ext : (d k m e : ℕ) → 0 < d → {a b : Element} → ((x : ℕ) → x < d → a x ≡ b x) → (x : ℕ) → x < d → weighted d k m e a x ≡ weighted d k m e b x
unfolding weighted plus
weighted-ext d k m e p h x l = let same = divided_ext d m p (divided_ext d k p h) in λ i. same x l i +ℤ rotate_same p e same x i
