-- The inner products of the digits of a vector with the key, and what they are when they are joined.
use mathlib.Core.Path.{◌≡◌, refl, sym, ap, ◌∙◌, subst}
use mathlib.Core.List.{List}
use Prim.Native.Nat.{ℕ, ◌+◌, ◌*◌, ◌%◌, ◌^◌, ◌<◌, ◌≤◌}
use native.Mathlib.Nat as Nat
use native.Mathlib.Omega.{arith}
use lib.IntN.{ℤ, pos, nat_abs}
use lib.ListN.{length, get_or}
use Rattle.protocol.specs.declared.Settings.{Settings}
use Rattle.protocol.specs.Basic.{tabulate}
use Rattle.protocol.specs.Element.{width, modulo, signed_at, residue_at, signed_zeros, zeros, reduced, padded}
use Rattle.protocol.specs.Settings.{size, cells}
use Rattle.protocol.specs.Opening.{inner, left}
use Rattle.protocol.specs.Judge as of
use Rattle.protocol.specs.Inputs.{Valid}
use Rattle.protocol.proofs.Inputs.{settings-valid}
use Rattle.protocol.proofs.Modulo.{modulo-lt}
use Rattle.protocol.proofs.Reading.{cell-inside, tabulate_ext}
use Rattle.protocol.proofs.Agreement.{sum-ext, product_same}
use Rattle.modular.specs.Factors.{Modulus}
use Rattle.product_sums.specs.Sums.{Summable}
use Rattle.residues.proofs.Fill.{filled, filled_at, filled-length, filled-again, element-done}
use Rattle.residues.proofs.SignedFill.{signed-zeros-length}
use Rattle.residues.proofs.Padding.{padded_at}
use Rattle.sizes.proofs.Limits.{degree_least, degree_most}
use Rattle.judge.specs.Digits.{digit, digit_at, part_at, Vector}
use Rattle.judge.specs.Scaling.{Reduced}
use Rattle.judge.proofs.Split.{digit_most, inner-pair, inner-whole, inner_only}

-- the elements of a table are as many as were left before the first round
pub left_none : (S : Settings) → left S 0 ≡ size S
unfolding left
left_none S = Nat.div-one (size S)

-- an element that is filled anew
pub refilled : (d : ℕ) (f g : ℕ → ℕ) (a : List ℕ) → a ≡ padded d (tabulate d g) → filled f d a ≡ padded d (tabulate d f)
refilled d f g a e =
    ap (filled f d) (e ∙ sym (element-done g d d _ refl refl)) ∙ filled-again g f d (zeros width) ∙ element-done f d d _ refl refl

module _ (S : Settings) (key : List ℕ) (w : List ℤ) (v : Vector S key w) where
  open S use {degree as d, modulus as q}

  valid : Valid S
  valid = settings-valid S v.allowed

  pub degree-some : 0 < d
  degree-some = omega (arith, degree_least S valid)

  pub degree-few : d ≤ width
  degree-few = degree_most S valid

  pub modulus_given : Modulus q
  modulus_given = record { positive = omega (arith, valid.modulus_least); most = omega (arith, valid.modulus_most_holds) }

  some : 0 < q
  some = modulus_given.positive

  all : size S * d ≡ length w
  all = unfold cells in sym v.long

  -- an element of residues
  pub residues-reduced : (a : List ℕ) (F : ℕ → ℤ) → a ≡ padded d (tabulate d (λ k. modulo q (F k))) → Reduced q d a
  residues-reduced a F e k l = omega (arith, ap (λ x. get_or x k 0) e, padded_at d (λ j. modulo q (F j)) k l, modulo-lt q some (F k))

  -- a digit of w, at the front of a table
  module _ (base : ℕ) (t : List ℤ) (e : t ≡ filled (λ p. pos (digit q base 65536 (get_or w p (pos 0)))) (length w) (signed_zeros 1024)) where
    digit_at_lem : (p : ℕ) → p < length w → get_or t p (pos 0) ≡ pos (digit q base 65536 (get_or w p (pos 0)))
    digit_at_lem p l = ap (λ x. get_or x p (pos 0)) e ∙ filled_at _ (length w) (signed_zeros 1024) (pos 0) p l

    room : length w ≤ length t
    room = omega (
      arith,
      v.few,
      v.long,
      ap length e,
      signed-zeros-length 1024,
      filled-length (λ p. pos (digit q base 65536 (get_or w p (pos 0)))) (length w) (signed_zeros 1024) (omega (arith, v.few, v.long, signed-zeros-length 1024)),
    )

    pub digits_summable : (n : ℕ) → n ≡ size S → Summable q d n t key
    digits_summable n is_n = subst (λ m. Summable q d m t key) (sym is_n) (record {
      elements = record {
        modulus = some;
        degree = degree-some;
        degree_most = degree-few;
        f_long = omega (arith, all, room);
        g_long = unfold cells in omega (arith, v.key_given.long);
      };
      magnitude = 65536;
      magnitude_most = omega arith;
      few = omega (arith, all, v.few, v.long);
      small = λ p l. omega (arith, ap nat_abs (digit_at_lem p (omega (arith, all))), digit_most q base (get_or w p (pos 0)));
      modulus_most_holds = valid.modulus_most_holds;
      residues = unfold cells in v.key_given.each;
    })

    same : (i : ℕ) → i < size S → (j : ℕ) → j < d → signed_at d t i j ≡ digit_at q base 65536 (signed_at d w i) j
    unfolding signed_at digit_at
    same i l j m = digit_at_lem (i * d + j) (omega (arith, all, cell-inside d (size S) i j l m))

    -- its inner product with the key
    digits-inner : (k : ℕ) → inner d (size S) (signed_at d t) (residue_at d key) k ≡ inner d (size S) (λ i. digit_at q base 65536 (signed_at d w i)) (residue_at d key) k
    unfolding inner
    digits-inner k = sum-ext (size S) (λ i l. product_same degree-some (same i l) (λ j _ _. residue_at d key i j) k)

  -- as the code has it, n being the number of elements
  abbrev product_of : ℕ → List ℤ → List ℕ
  product_of n x = padded d (reduced q d (inner d n (signed_at d x) (residue_at d key)))

  pub product-reduced : (n : ℕ) (x : List ℤ) (a : List ℕ) → a ≡ product_of n x → Reduced q d a
  unfolding reduced
  product-reduced n x a e = residues-reduced a (inner d n (signed_at d x) (residue_at d key)) e

  -- two digits of 16 bits, joined
  module _ (n : ℕ) (is_n : n ≡ size S) (base : ℕ) (t t' : List ℤ)
      (e : t ≡ filled (λ p. pos (digit q base 65536 (get_or w p (pos 0)))) (length w) (signed_zeros 1024))
      (e' : t' ≡ filled (λ p. pos (digit q (base * 65536) 65536 (get_or w p (pos 0)))) (length w) (signed_zeros 1024)) where
    product_at : (x : List ℤ) (k : ℕ) → k < d → get_or (product_of n x) k 0 ≡ modulo q (inner d (size S) (signed_at d x) (residue_at d key) k)
    unfolding reduced
    product_at x k l = padded_at d (λ j. modulo q (inner d n (signed_at d x) (residue_at d key) j)) k l ∙ ap (λ m. modulo q (inner d m (signed_at d x) (residue_at d key) k)) is_n

    pub digits-joined : (a b : List ℕ) → a ≡ product_of n t → b ≡ product_of n t'
        → filled (λ k. (get_or a k 0 + 65536 * get_or b k 0) % q) d a ≡ padded d (tabulate d (part_at S base key w))
    unfolding part_at reduced
    digits-joined a b ea eb = refilled d _ _ a ea ∙ ap (padded d) (tabulate_ext d (λ k l.
        (λ i. (get_or (ea i) k 0 + 65536 * get_or (eb i) k 0) % q)
        ∙ (λ i. (product_at t k l i + 65536 * product_at t' k l i) % q)
        ∙ (λ i. (modulo q (digits-inner base t e k i) + 65536 * modulo q (digits-inner (base * 65536) t' e' k i)) % q)
        ∙ inner-pair q d some degree-some (signed_at d w) (residue_at d key) k l (size S) base))

  -- two digits of 32 bits, or one
  abbrev part_of_holds : ℕ → List ℕ
  part_of_holds base = padded d (tabulate d (part_at S base key w))

  pub part-reduced : (base : ℕ) (a : List ℕ) → a ≡ part_of_holds base → Reduced q d a
  unfolding part_at
  part-reduced base a e = residues-reduced a _ e

  pub parts-joined : (a b : List ℕ) → a ≡ part_of_holds 1 → b ≡ part_of_holds (2 ^ 32)
      → filled (λ k. (get_or a k 0 + 2 ^ 32 * get_or b k 0) % q) d a ≡ padded d (tabulate d (of.combination S key w))
  unfolding of.combination part_at
  parts-joined a b ea eb = refilled d _ _ a ea ∙ ap (padded d) (tabulate_ext d (λ k l.
      (λ i. (get_or (ea i) k 0 + 2 ^ 32 * get_or (eb i) k 0) % q)
      ∙ (λ i. (padded_at d (part_at S 1 key w) k l i + 2 ^ 32 * padded_at d (part_at S (2 ^ 32) key w) k l i) % q)
      ∙ inner-whole q d some degree-some (signed_at d w) (residue_at d key) k l (size S) modulus_given.most))

  pub part_only : q ≤ 2 ^ 32 → part_of_holds 1 ≡ padded d (tabulate d (of.combination S key w))
  unfolding of.combination part_at
  part_only most = ap (padded d) (tabulate_ext d (λ k l. inner_only q d some degree-some (signed_at d w) (residue_at d key) k l (size S) most))
