-- PROTOCOL 5.4: the weights of a node's three challenges, in the ring of degree d over a ring K where 2 cancels: Σ μ_j = 4, Σ μ_j·r_j = 0, Σ μ_j·r_j² = 4.
--   Triple d a b c    a, b, c are exponents below 2·d, and no two are equal
--   weight K d p ..   μ of X^a, the others being X^b and X^c
use mathlib.Core.Path.{◌≡◌, sym, ap₂, ◌∙◌}
use mathlib.Core.Logic.{◌≢◌}
use mathlib.Core.List.{List}
use Prim.Native.Nat.{ℕ, ◌+◌, ◌*◌, ◌^◌, ◌<◌}
use native.Mathlib.Omega.{arith}
use lib.IntN.{pos}
use Rattle.algebra.specs.Ring.{CommRing, two}
use Rattle.algebra.specs.Negacyclic.{negacyclic, X^, X^_add}
use Rattle.algebra.specs.Cancel.{Cancels, cancels_negacyclic}
use Rattle.algebra.specs.Mu as M
use Rattle.protocol.specs.declared.Settings.{Settings}
use Rattle.protocol.specs.Element.{Element, power, signed, coefficients}
use Rattle.protocol.specs.Tree.{s, mu, challenge, nodes}
use Rattle.protocol.specs.Inputs.{Below}
use Rattle.protocol.proofs.Reading.{tabulate_at}
use Rattle.claims.proofs.Readings.{read, read_ext, read-plus, read_one, read-power, read-product}
use Rattle.claims.proofs.Divisors.{read-divides, divisor}
use Rattle.claims.proofs.Combination.{Balanced}

pub record Triple (d a b c : ℕ) : Type 0 where
  pub small_a : a < 2 * d
  pub small_b : b < 2 * d
  pub small_c : c < 2 * d
  pub a≢b : a ≢ b
  pub a≢c : a ≢ c
  pub b≢c : b ≢ c

-- those of a node, from what is asked of the challenges of a tree
pub node-triple : (S : Settings) (E : List ℕ) → Below (2 * S.degree) (3 * nodes S) E
    → ((k : ℕ) → k < nodes S → (challenge E k 0 ≢ challenge E k 1) × (challenge E k 0 ≢ challenge E k 2) × (challenge E k 1 ≢ challenge E k 2))
    → (k : ℕ) → k < nodes S → Triple S.degree (challenge E k 0) (challenge E k 1) (challenge E k 2)
unfolding challenge
node-triple S E b different k l = record {
  small_a = b.each (3 * k + 0) (omega arith);
  small_b = b.each (3 * k + 1) (omega arith);
  small_c = b.each (3 * k + 2) (omega arith);
  a≢b = (different k l).0;
  a≢c = (different k l).1;
  b≢c = (different k l).2;
}

-- the list of an element's coefficients is that element
pub signed-coefficients : (d : ℕ) (x : Element) (k : ℕ) → k < d → signed (coefficients d x) k ≡ x k
unfolding signed coefficients
signed-coefficients d x k l = tabulate_at d x (pos 0) k l

module _ (K : CommRing) (d : ℕ) (p : 0 < d) where
  open negacyclic K d p use {C, 0#, 1#, add as ◌⊕◌, mul as ◌⊗◌}

  infixl 60 ◌⊕◌
  infixl 70 ◌⊗◌
  abbrev pub weight : ℕ → ℕ → ℕ → (negacyclic K d p).C
  weight a b c = read K d p (signed (mu d a b c))

  abbrev x^ : ℕ → C
  x^ = X^ K d p

  abbrev σ : ℕ → ℕ → C
  σ a b = read K d p (s d a b)

  weight_is : (a b c : ℕ) → weight a b c ≡ M.mu (negacyclic K d p) (σ a b) (σ a c) (x^ b) (x^ c)
  unfolding mu
  weight_is a b c =
      read_ext K d p (signed-coefficients d _)
      ∙ read-product K d p _ _
      ∙ ap₂ ◌⊗◌ (read-product K d p _ _) (read-plus K d p _ _ ∙ ap₂ ◌⊕◌ (read_one K d p) (read-power K d p (b + c) ∙ sym (X^_add K d p b c)))

  module _ (cancel : Cancels K) (D : ℕ) (power : 2 ^ D ≡ d) {a b c : ℕ} (T : Triple d a b c) where
    undo : (a b : ℕ) → a < 2 * d → b < 2 * d → a ≢ b → σ a b ⊗ (x^ a ⊕ (negacyclic K d p).neg (x^ b)) ≡ two (negacyclic K d p)
    undo a b la lb ne = read-divides K d p a b (s d a b) (divisor D d power a b la lb ne).divides

    e_ab : σ a b ⊗ (x^ a ⊕ (negacyclic K d p).neg (x^ b)) ≡ two (negacyclic K d p)
    e_ab = undo a b T.small_a T.small_b T.a≢b

    e_ac : σ a c ⊗ (x^ a ⊕ (negacyclic K d p).neg (x^ c)) ≡ two (negacyclic K d p)
    e_ac = undo a c T.small_a T.small_c T.a≢c

    e_ba : σ b a ⊗ (x^ b ⊕ (negacyclic K d p).neg (x^ a)) ≡ two (negacyclic K d p)
    e_ba = undo b a T.small_b T.small_a (λ e. T.a≢b (sym e))

    e_bc : σ b c ⊗ (x^ b ⊕ (negacyclic K d p).neg (x^ c)) ≡ two (negacyclic K d p)
    e_bc = undo b c T.small_b T.small_c T.b≢c

    e_ca : σ c a ⊗ (x^ c ⊕ (negacyclic K d p).neg (x^ a)) ≡ two (negacyclic K d p)
    e_ca = undo c a T.small_c T.small_a (λ e. T.a≢c (sym e))

    e_cb : σ c b ⊗ (x^ c ⊕ (negacyclic K d p).neg (x^ b)) ≡ two (negacyclic K d p)
    e_cb = undo c b T.small_c T.small_b (λ e. T.b≢c (sym e))

    cancel_x : Cancels (negacyclic K d p)
    cancel_x = cancels_negacyclic K d p cancel

    pub balanced : Balanced (negacyclic K d p) (weight a b c) (weight b a c) (weight c a b) (x^ a) (x^ b) (x^ c)
    balanced = record {
      sum_four = (λ i. weight_is a b c i ⊕ weight_is b a c i ⊕ weight_is c a b i) ∙ M.mu-sum (negacyclic K d p) cancel_x (x^ a) (x^ b) (x^ c) _ _ _ _ _ _ e_ab e_ac e_ba e_bc e_ca e_cb;
      lin_zero =
          (λ i. weight_is a b c i ⊗ x^ a ⊕ weight_is b a c i ⊗ x^ b ⊕ weight_is c a b i ⊗ x^ c) ∙ M.mu-lin (negacyclic K d p) cancel_x (x^ a) (x^ b) (x^ c) _ _ _ _ _ _ e_ab e_ac e_ba e_bc e_ca e_cb;
      quad_four =
          (λ i. weight_is a b c i ⊗ (x^ a ⊗ x^ a) ⊕ weight_is b a c i ⊗ (x^ b ⊗ x^ b) ⊕ weight_is c a b i ⊗ (x^ c ⊗ x^ c))
          ∙ M.mu-quad (negacyclic K d p) cancel_x (x^ a) (x^ b) (x^ c) _ _ _ _ _ _ e_ab e_ac e_ba e_bc e_ca e_cb;
    }
