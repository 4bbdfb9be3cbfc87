-- The middle element of a round polynomial, by one inner product of the halves' sums: it is what that has more than the other two elements.
use mathlib.Core.Path.{◌≡◌, refl, sym, ap, ap₂, ◌∙◌}
use mathlib.Core.List.{List}
use Prim.Native.Nat.{ℕ, ◌+◌, ◌-◌, ◌%◌, ◌<◌}
use native.Mathlib.Nat as Nat
use native.Mathlib.Omega.{arith}
use lib.IntN.{ℤ, pos, ◌+ℤ◌, ◌*ℤ◌}
use Rattle.algebra.specs.Ring.{CommRing}
use Rattle.algebra.specs.Integers.{ℤ-ring}
use Rattle.algebra.specs.Residues.{Zmod}
use Rattle.algebra.specs.Negacyclic.{negacyclic}
use Rattle.algebra.specs.Inner as I
use Rattle.protocol.specs.Element.{Element, width, modulo, plus, signed_at, residue_at}
use Rattle.protocol.specs.Opening.{inner, second, cross}
use Rattle.protocol.proofs.Modulo.{modulo-lt, modulo_residue, modulo_add}
use Rattle.claims.proofs.Readings.{readℤ-inj, readq_ext, readq-inj, read-plus, read-inner}
use Rattle.product_sums.specs.Sums.{message_sums, key_sum_at, key_sums, Halves}
use Rattle.round_products.specs.Messages.{Halved}
use Rattle.round_products.specs.Sums.{less_both, inner_of_sums}

-- ---- the inner product of the halves' sums: that of the key is reduced before it is taken, which changes nothing modulo q

module _ (q d h : ℕ) (m : List ℤ) (G : List ℕ) (t : Halved q d h m G) where
  pub halves_summable : Halves q d h m G
  halves_summable = record {
    elements = record {
      modulus = t.tables.modulus;
      degree = t.tables.degree;
      degree_most = t.tables.degree_most;
      f_long = t.tables.message_long;
      g_long = t.tables.key_long;
    };
    few = omega (arith, Nat.mul-le-mul {n₁ = h} {n₂ = 128} {m₂ = width} (omega (arith, t.tables.elements)) t.tables.degree_most);
    small = λ j l. omega (arith, t.message_half j l);
    residues = λ j l. t.tables.key_residues j (omega (arith, Nat.mul_assoc 2 h d));
    modulus_most_holds = t.tables.modulus_most_holds;
  }

  key-sum : (i k : ℕ) → modulo q (key_sums q d h G i k) ≡ modulo q (plus (residue_at d G i) (second h (residue_at d G) i) k)
  unfolding key_sum_at
  key-sum i k = modulo_residue q t.tables.modulus _ (modulo-lt q t.tables.modulus _)

  pub inner_mixed : (k : ℕ) → k < d → modulo q (inner d h (message_sums d h m) (key_sums q d h G) k) ≡ modulo q (inner_of_sums d h (signed_at d m) (residue_at d G) k)
  unfolding inner_of_sums message_sums
  inner_mixed = readq-inj q t.tables.modulus d p _ _
      (read-inner K d p h _ _
      ∙ I.inner-ext (negacyclic K d p) h (λ i l. refl) (λ i l. readq_ext q t.tables.modulus d p _ _ (λ k _. key-sum i k))
      ∙ sym (read-inner K d p h _ _))
    where
      K : CommRing
      K = Zmod q t.tables.modulus

      p : 0 < d
      p = t.tables.degree

-- ---- the law of the three products

regroup : (K : CommRing) (a b c e : K.C) → K.add (K.add a b) (K.add c e) ≡ K.add (K.add a (K.add b c)) e
regroup K a b c e = sym (K.add_assoc (K.add a b) c e) ∙ ap (λ x. K.add x e) (K.add_assoc a b c)

abbrev Ring : (d : ℕ) → 0 < d → CommRing
Ring d p = negacyclic ℤ-ring d p

mixed-parts : (d h : ℕ) (p : 0 < d) (m G : ℕ → Element) (k : ℕ) → k < d → inner_of_sums d h m G k ≡ plus (plus (cross d h m G 0) (cross d h m G 1)) (cross d h m G 2) k
unfolding inner_of_sums cross
mixed-parts d h p m G = readℤ-inj d p _ _
    (read-inner ℤ-ring d p h _ _
    ∙ I.inner-ext (Ring d p) h (λ i _. read-plus ℤ-ring d p _ _) (λ i _. read-plus ℤ-ring d p _ _)
    ∙ I.add-inner (Ring d p) h _ _ _
    ∙ ap₂ (Ring d p).add (I.inner-add (Ring d p) h _ _ _) (I.inner-add (Ring d p) h _ _ _)
    ∙ regroup (Ring d p) _ _ _ _
    ∙ sym (read-plus ℤ-ring d p _ _
    ∙ ap₂ (Ring d p).add (read-plus ℤ-ring d p _ _
    ∙ ap₂ (Ring d p).add (read-inner ℤ-ring d p h _ _) (read-plus ℤ-ring d p _ _ ∙ ap₂ (Ring d p).add (read-inner ℤ-ring d p h _ _) (read-inner ℤ-ring d p h _ _)))
    (read-inner ℤ-ring d p h _ _)))

-- ---- what is left of the inner_of_sums product

pub less_is : (q a y b : ℕ) → a < q → y < q → b < q → less_both q (((a + y) % q + b) % q) a b ≡ y
less_is q a y b la ly lb =
    Nat.mod-add-mod (((a + y) % q + b) % q + (q - a)) q (q - b)
    ∙ (λ i. (Nat.mod-add-mod (a + y) q b i + (q - a) + (q - b)) % q)
    ∙ ap (λ x. x % q) (Nat.add_assoc ((a + y + b) % q) (q - a) (q - b))
    ∙ Nat.mod-add-mod (a + y + b) q ((q - a) + (q - b))
    ∙ ap (λ x. x % q) {y = y + q + q} (omega arith)
    ∙ Nat.add-mod_right (y + q) q
    ∙ Nat.add-mod_right y q
    ∙ Nat.mod-eq_of_lt ly

module _ (q d h s : ℕ) (p : 0 < q) (pd : 0 < d) (m G : ℕ → Element) where
  abbrev part : ℕ → ℕ → ℤ
  part j k = pos s *ℤ cross d h m G j k

  pub spread : (k : ℕ) → k < d → modulo q (pos s *ℤ inner_of_sums d h m G k) ≡ ((modulo q (part 0 k) + modulo q (part 1 k)) % q + modulo q (part 2 k)) % q
  unfolding plus
  spread k l =
      let c : ℕ → ℤ = λ j. cross d h m G j k in
      ap (λ z. modulo q (pos s *ℤ z)) (mixed-parts d h pd m G k l)
      ∙ ap (modulo q) (ℤ-ring.mul-add (pos s) (c 0 +ℤ c 1) (c 2) ∙ ap (λ z. z +ℤ part 2 k) (ℤ-ring.mul-add (pos s) (c 0) (c 1)))
      ∙ modulo_add q p (part 0 k +ℤ part 1 k) (part 2 k)
      ∙ ap (λ x. (x + modulo q (part 2 k)) % q) (modulo_add q p (part 0 k) (part 1 k))
