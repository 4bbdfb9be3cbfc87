-- A tree whose vectors can be worked out: how large its vectors are, and the vector of a leaf.
use mathlib.Core.Path.{◌≡◌, sym, ap, ◌∙◌, subst}
use mathlib.Core.List.{List}
use Prim.Native.Nat.{ℕ, suc, ◌+◌, ◌*◌, ◌-◌, ◌^◌, ◌<◌, ◌≤◌}
use native.Mathlib.Decide.{dec_lt}
use native.Mathlib.Omega.{arith}
use lib.ListN.{length, get_or, drop, get_or-eq_default}
use lib.Pow as Pow
use lib.IntN.{ℤ, pos, nat_abs}
use Rattle.protocol.specs.declared.Settings.{Settings}
use Rattle.protocol.specs.Element.{signed, signed_at, coefficients}
use Rattle.protocol.specs.Layout.{width}
use Rattle.protocol.specs.Settings.{size}
use Rattle.protocol.specs.Tree.{challenge, nodes, leaves, leaf, vector, growth_limit}
use Rattle.protocol.specs.Nodes.{AtNode}
use Rattle.protocol.proofs.Reading.{by_cells, row_inside, cell-inside}
use Rattle.protocol.proofs.Numbering.{AtDepth}
use Rattle.protocol.proofs.Paths.{depth-leaf}
use Rattle.protocol.proofs.Places as Places
use Rattle.claims.proofs.Bounds.{Bounded}
use Rattle.claims.proofs.Vectors.{vector-length}
use Rattle.claims.proofs.Weights.{Triple, node-triple, signed-coefficients}
use Rattle.claims.proofs.Norms.{mu_weight}
use Rattle.claims.proofs.Growth.{height_bound, height_bound-suc, height_bound-le, node-grows, vector-bounded}
use Rattle.extraction.specs.Nodes.{Extractable}

module _ {S : Settings} {E : List ℕ} {finals : List ℤ} (X : Extractable S E finals) where
  open S use {degree as d, depth as L, bound as B}

  pub some : 0 < d
  some = subst (λ x. 0 < x) (sym X.valid.degree_is) (Pow.pow_pos X.valid.log)

  pub small : d ≤ width
  small = subst (λ x. x ≤ width) (sym X.valid.degree_is) (Pow.pow_mono {i = X.valid.log} {j = 7} X.valid.log_most)

  leaves-within : (j : ℕ) → j < leaves S → Bounded d (size S * B) (signed (leaf S finals j))
  unfolding leaf signed_at
  leaves-within j l k lk =
      subst (λ z. nat_abs z ≤ size S * B) (sym (signed-coefficients d (signed_at d finals j) k lk)) (X.within.each (j * d + k) (cell-inside d (leaves S) j k l lk))

  triples : (k : ℕ) → k < nodes S → Triple d (challenge E k 0) (challenge E k 1) (challenge E k 2)
  triples = node-triple S E X.challenges X.different

  pub vector-within : (h k t : ℕ) → h + t ≡ L → AtDepth t k → (j : ℕ) → nat_abs (get_or (vector S E finals h k) j (pos 0)) ≤ height_bound S h
  vector-within h k t e a j = elim (dec_lt j (2 ^ h * d)) [
    | yes l ↦ by_cells d (2 ^ h) some Within (λ i x li lx. unfold signed_at in vector-bounded S X.valid.log (sym X.valid.degree_is) some E finals triples leaves-within h k t e a i li x lx) j l
    | no g ↦ subst (λ z. nat_abs z ≤ height_bound S h) (sym (get_or-eq_default (vector S E finals h k) (pos 0) {n = j} (omega (arith, vector-length S E finals h k)))) (omega arith)
  ]
    where
      Within : ℕ → Type 0
      Within i = nat_abs (get_or (vector S E finals h k) i (pos 0)) ≤ height_bound S h

  -- the three shares of a node, each within μ's weight times the children's bound, fit together
  pub shares-fit : (h k t : ℕ) → suc (h + t) ≡ L → AtDepth t k → let c = challenge E k in
      mu_weight d (c 0) (c 1) (c 2) * height_bound S h + mu_weight d (c 1) (c 0) (c 2) * height_bound S h + mu_weight d (c 2) (c 0) (c 1) * height_bound S h ≤ 2 ^ 62
  unfolding growth_limit
  shares-fit h k t e a =
      omega (arith, node-grows S X.valid.log (sym X.valid.degree_is) some E finals triples leaves-within h k t e a, height_bound-le S some (suc h) (omega arith), X.limited)

  -- and each quotient of a child's vector on the way to a share
  pub quotient_fits : (h : ℕ) → h < L → d * d * 2 * height_bound S h ≤ 2 ^ 62
  unfolding growth_limit
  quotient_fits h l = omega (arith, height_bound-suc S h, height_bound-le S some (suc h) l, X.limited)

  -- a leaf
  module _ {h k first space : ℕ} (A : AtNode S h k first space) (low : h ≡ 0) where
    pub leaf-number : first ≤ k
    leaf-number = Places.leaf-number S h k first space A low

    pub leaf-inside : (k - first) * d + d ≤ length finals
    leaf-inside =
        omega (arith, X.within.long, row_inside d (leaves S) (k - nodes S) (depth-leaf S k (Places.at_leaf S h k first space A low)), ap (λ x. (k - x) * d) A.first-is)

    pub leaf-space : space ≡ 2 * d
    leaf-space = A.space_is ∙ ap (λ x. 2 * x) (Places.leaf-cells S h k first space A low)

    pub leaf-is : (W : List ℤ) → drop d W ≡ coefficients d (signed_at d finals (k - first)) → drop (2 ^ h * d) W ≡ vector S E finals h k
    unfolding vector leaf
    leaf-is W e =
        ap (λ x. drop x W) (Places.leaf-cells S h k first space A low)
        ∙ e
        ∙ ap (λ x. coefficients d (signed_at d finals (k - x))) A.first-is
        ∙ ap (λ x. vector S E finals x k) (sym low)
