-- Inner products of two tables and of halves of them, and the tables of a commitment.
use mathlib.Core.Path.{◌≡◌, sym, ap, ◌∙◌, subst}
use mathlib.Core.List.{List}
use Prim.Native.Nat.{ℕ, ◌+◌, ◌*◌, ◌-◌, ◌^◌, ◌<◌, ◌≤◌}
use native.Mathlib.Nat as Nat
use native.Mathlib.Omega.{arith}
use lib.IntN.{ℤ, pos, nat_abs}
use lib.ListN.{length, get_or, take, drop, length-drop}
use lib.Pow as Pow
use lib.Seq.{get_or-drop}
use Rattle.protocol.specs.declared.Settings.{Settings}
use Rattle.protocol.specs.Element.{width, signed_at, residue_at}
use Rattle.protocol.specs.Settings.{size, cells}
use Rattle.protocol.specs.Opening.{inner, second, cross, left}
use Rattle.protocol.specs.Inputs.{Valid}
use Rattle.protocol.proofs.Agreement.{Same}
use Rattle.sizes.proofs.Limits.{degree_least, degree_most}
use Rattle.product_sums.specs.Sums.{Summable}
use Rattle.plain_products.proofs.Rows.{inner_same}
use Rattle.residues.proofs.Parts.{tail_all}
use Rattle.prover_refusals.proofs.Given.{CommitGiven}
use Rattle.round_products.specs.Messages.{Tables}

-- small enough for a sum
pub summable : (q d n : ℕ) (m : List ℤ) (G : List ℕ) → Tables q d n m G → Summable q d n m G
summable q d n m G t = record {
  elements = record {
    modulus = t.modulus;
    degree = t.degree;
    degree_most = t.degree_most;
    f_long = t.message_long;
    g_long = t.key_long;
  };
  magnitude = 2 ^ 15;
  magnitude_most = omega arith;
  few = omega (arith, Nat.mul-le-mul {n₂ = 256} {m₂ = width} t.elements t.degree_most);
  small = t.message_small;
  modulus_most_holds = t.modulus_most_holds;
  residues = t.key_residues;
}

-- ---- halves

module _ (q d h : ℕ) (m : List ℤ) (G : List ℕ) (t : Tables q d (2 * h) m G) where
  twice : 2 * h * d ≡ h * d + h * d
  twice = ap (λ n. n * d) (Nat.two-mul h) ∙ Nat.add-mul h h d

  -- the first half or the second of either table
  halves : (a b : ℕ) → a ≤ h * d → b ≤ h * d → Tables q d h (drop a m) (drop b G)
  halves a b x y = record {
    modulus = t.modulus;
    modulus_odd = t.modulus_odd;
    modulus_most_holds = t.modulus_most_holds;
    degree = t.degree;
    degree_most = t.degree_most;
    elements = omega (arith, t.elements);
    message_long = omega (arith, length-drop a m, t.message_long, twice);
    key_long = omega (arith, length-drop b G, t.key_long, twice);
    message_small = λ j l. subst (λ z. nat_abs z ≤ 2 ^ 15) (sym (get_or-drop a m j (pos 0))) (t.message_small (a + j) (omega (arith, twice)));
    key_residues = λ j l. subst (λ z. z < q) (sym (get_or-drop b G j 0)) (t.key_residues (b + j) (omega (arith, twice)));
  }

  -- as the code hands the second halves on
  abbrev m1 : List ℤ
  m1 = take (length m - h * d) (drop (h * d) m)

  abbrev G1 : List ℕ
  G1 = take (length G - h * d) (drop (h * d) G)

  pub first_halves : Tables q d h m G
  first_halves = halves 0 0 (omega arith) (omega arith)

  pub second_halves : Tables q d h m1 G1
  second_halves = subst (λ m'. Tables q d h m' G1) (sym (tail_all (h * d) m))
      (subst (λ G'. Tables q d h (drop (h * d) m) G') (sym (tail_all (h * d) G)) (halves (h * d) (h * d) (Nat.le_refl _) (Nat.le_refl _)))

  pub second_message : (i : ℕ) → Same d (signed_at d m1 i) (second h (signed_at d m) i)
  unfolding signed_at second
  second_message i k l = ap (λ x. get_or x (i * d + k) (pos 0)) (tail_all (h * d) m) ∙ get_or-drop (h * d) m (i * d + k) (pos 0) ∙ ap (λ n. get_or m n (pos 0)) (omega (arith, Nat.add-mul h i d))

  pub second_key : (i : ℕ) → Same d (residue_at d G1 i) (second h (residue_at d G) i)
  unfolding residue_at second
  second_key i k l = ap pos (ap (λ x. get_or x (i * d + k) 0) (tail_all (h * d) G) ∙ get_or-drop (h * d) G (i * d + k) 0 ∙ ap (λ n. get_or G n 0) (omega (arith, Nat.add-mul h i d)))

  pub cross_last : (k : ℕ) → inner d h (signed_at d m1) (residue_at d G1) k ≡ cross d h (signed_at d m) (residue_at d G) 2 k
  unfolding cross
  cross_last k = inner_same d h t.degree (λ i l. second_message i) (λ i l. second_key i) k

-- ---- the commitment

pub left_whole : (S : Settings) → left S 0 ≡ size S
unfolding left
left_whole S = Nat.div-one (size S)

pub commit-tables : (S : Settings) (key : List ℕ) (message : List ℤ) → CommitGiven S key message → Tables S.modulus S.degree (left S 0) message key
unfolding cells size
commit-tables S key message g = subst (λ n. Tables S.modulus S.degree n message key) (sym (left_whole S)) (record {
  modulus = omega (arith, ok.modulus_least);
  modulus_odd = ok.modulus_odd;
  modulus_most_holds = ok.modulus_most_holds;
  degree = omega (arith, degree_least S ok);
  degree_most = degree_most S ok;
  elements = Pow.pow_mono {j = 8} ok.depth_most;
  message_long = Nat.le_of_eq (sym g.message_given.long);
  key_long = Nat.le_of_eq (sym g.tables.key_given.long);
  message_small = λ j l. omega (arith, g.message_given.each j l, ok.bound_most);
  key_residues = g.tables.key_given.each;
})
  where
    ok : Valid S
    ok = g.tables.settings
