-- Tables whose rows are multiplied: what stands at the front of a key, and one row alone.
use mathlib.Core.Path.{◌≡◌, refl, sym, ap, ◌∙◌, subst}
use mathlib.Core.Bool.{Bool, true, false}
use mathlib.Core.List.{List}
use Prim.Native.Nat.{ℕ, ◌+◌, ◌*◌, ◌^◌, ◌<◌, ◌≤◌}
use native.Mathlib.Nat as Nat
use native.Mathlib.Omega.{arith}
use lib.IntN.{ℤ}
use lib.ListN.{length, get_or}
use Rattle.protocol.specs.Element.{Element, width, modulo, reduced, padded, zeros}
use Rattle.protocol.specs.Opening.{inner}
use Rattle.protocol.proofs.Agreement.{Same, sum-ext, product_same}
use Rattle.protocol.proofs.Reading.{tabulate_at}
use Rattle.residues.specs.Lists.{filled}
use Rattle.residues.proofs.Fill.{filled_ext, element-done}
use Rattle.half_sums.specs.Halves.{size_of, messages_of, keys_of}
use Rattle.rows.specs.Rows.{woven}
use Rattle.strands.proofs.Weaving.{keys-alike}
use Rattle.joins.specs.Sums.{Halves}
use Rattle.product_sums.specs.declared.Shape.{Shape}
use Rattle.product_sums.specs.Shapes.{ShapeGiven, one_row}
use Rattle.plain_products.specs.Sums.{RowsWritten}
use Rattle.plain_products.specs.Shapes.{ShapeWritten}
use Rattle.product_sums.specs.Sums.{Stands, Summable, Given, RowsGiven}
use Rattle.product_sums.proofs.Rows.{known}
use Rattle.plain_products.specs.Sums.{Summed}
use Rattle.plain_products.specs.Rowwise.{row_places}

pub inner_same : (d h : ℕ) → 0 < d → {m m' G G' : ℕ → Element} → ((i : ℕ) → i < h → Same d (m i) (m' i)) → ((i : ℕ) → i < h → Same d (G i) (G' i)) → (k : ℕ) → inner d h m G k ≡ inner d h m' G' k
unfolding inner
inner_same d h p a b k = sum-ext h (λ i l. product_same p (a i l) (b i l) k)

-- ---- one strand

pub one_strand : (q d : ℕ) (F : ℕ → Element) (count : ℕ) (s t : List ℕ) → Stands q d (F 0) count s t → Stands q (d * 1) (woven 1 F) count s t
unfolding woven
one_strand q d F count s t at = subst (λ n. Stands q n (woven 1 F) count s t) (sym (Nat.mul-one d))
    (record { each = λ k l. subst (λ z. Halves q z (count * 2 ^ 32) (get_or s k 0) (get_or t k 0)) (λ i. F (sym (Nat.mod-one k) i) (sym (Nat.div-one k) i)) (at.each k l) })

pub stands_same : (q d count : ℕ) (s t : List ℕ) {F F' : Element} → ((k : ℕ) → F k ≡ F' k) → Stands q d F count s t → Stands q d F' count s t
stands_same q d count s t e at = record { each = λ k l. subst (λ z. Halves q z (count * 2 ^ 32) (get_or s k 0) (get_or t k 0)) (e k) (at.each k l) }

-- ---- one row stands at the front of the table

module _ (q d n : ℕ) (f : List ℤ) (g G : List ℕ) where
  pub given_alike : (sums : Bool) → Given sums q d n f G → size_of sums d n ≤ length g → ((p : ℕ) → p < size_of sums d n → get_or g p 0 ≡ get_or G p 0) → Given sums q d n f g
  unfolding Given size_of
  given_alike true z long same = record {
    elements = record {
      modulus = z.elements.modulus;
      degree = z.elements.degree;
      degree_most = z.elements.degree_most;
      f_long = z.elements.f_long;
      g_long = omega (arith, Nat.mul_assoc 2 n d);
    };
    few = z.few;
    small = z.small;
    residues = λ j l. subst (λ v. v < q) (sym (same j l)) (z.residues j l);
    modulus_most_holds = z.modulus_most_holds;
  }
  given_alike false z long same = record {
    elements = record {
      modulus = z.elements.modulus;
      degree = z.elements.degree;
      degree_most = z.elements.degree_most;
      f_long = z.elements.f_long;
      g_long = long;
    };
    magnitude = z.magnitude;
    magnitude_most = z.magnitude_most;
    few = z.few;
    small = z.small;
    modulus_most_holds = z.modulus_most_holds;
    residues = λ j l. subst (λ v. v < q) (sym (same j l)) (z.residues j l);
  }

module _ (sums : Bool) (q d n c stride : ℕ) (f : List ℤ) (g : List ℕ) (G : ℕ → List ℕ) (z : RowsGiven sums q d n c stride f g G) where
  pub front-alike : (p : ℕ) → p < size_of sums d n → get_or g p 0 ≡ get_or (G 0) p 0
  front-alike p l = ap (λ v. get_or g v 0) {x = p} {y = 0 * stride + p} (omega (arith, Nat.zero-mul stride)) ∙ z.alike 0 p z.some l

  pub front_given : Given sums q d n f g
  front_given = given_alike q d n f g (G 0) sums (z.given 0 z.some) (omega (arith, z.long 0 z.some)) front-alike

  pub one_summed : c ≡ 1 → (s t : List ℕ) → Summed q d (inner d n (messages_of sums d n f) (keys_of sums q d n g)) s t
      → Summed q (d * c) (woven c (λ r. inner d n (messages_of sums d n f) (keys_of sums q d n (G r)))) s t
  one_summed one s t y = record {
    count = y.count;
    few = y.few;
    stands = subst (λ m. Stands q (d * m) (woven m (λ r. inner d n (messages_of sums d n f) (keys_of sums q d n (G r)))) y.count s t) (sym one)
        (one_strand q d (λ r. inner d n (messages_of sums d n f) (keys_of sums q d n (G r))) y.count s t
        (stands_same q d y.count s t (inner_same d n (known sums q d n f g front_given).degree (λ i _ j _. refl) (keys-alike q d n g (G 0) sums front-alike)) y.stands));
  }

-- ---- one row alone

pub row_given : (q d n : ℕ) (f : List ℤ) (g : List ℕ) → Summable q d n f g → RowsGiven false q d n 1 0 f g (λ _. g)
unfolding Given size_of
row_given q d n f g z = record {
  some = omega arith;
  most = omega arith;
  long = λ r _. omega (arith, z.elements.g_long);
  alike = λ r p _ _. ap (λ i. get_or g i 0) {x = r * 0 + p} (omega arith);
  given = λ _ _. z;
}

pub one_row_lem : (q d : ℕ) (F : Element) → filled (row_places d (λ _. reduced q d F)) (1 * d) (zeros width) ≡ padded d (reduced q d F)
unfolding reduced
one_row_lem q d F =
    ap (λ n. filled (row_places d (λ _. reduced q d F)) n (zeros width)) (Nat.one-mul d)
    ∙ filled_ext _ (λ k. modulo q (F k)) d (zeros width) (λ k h. ap (λ i. get_or (reduced q d F) i 0) (Nat.mod-eq_of_lt h) ∙ tabulate_at d (λ j. modulo q (F j)) 0 k h)
    ∙ element-done (λ k. modulo q (F k)) d d _ refl refl

-- of a shape of one row
pub by_one_row : (z : Shape) (q d n : ℕ) → z ≡ one_row q d n → (f : List ℤ) (g out after : List ℕ)
    → ((G : ℕ → List ℕ) → ShapeGiven z f g G × (z.rows * z.degree ≤ length out) → ShapeWritten z f G out after)
    → (G : ℕ → List ℕ) → RowsGiven false q d n 1 0 f g G × (1 * d ≤ length out) → RowsWritten false q d n 1 f G out after
by_one_row z q d n e f g out after h = subst (λ z. (G : ℕ → List ℕ) → ShapeGiven z f g G × (z.rows * z.degree ≤ length out) → ShapeWritten z f G out after) e h
