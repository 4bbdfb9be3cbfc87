-- The fold of a node's key in the workspace. It leaves the child's key where the child looks for it, and what is behind it as it was: the node's own key.
use mathlib.Core.Path.{◌≡◌, sym, ap, ◌∙◌, subst}
use mathlib.Core.List.{List, ◌++◌, append_assoc}
use Prim.Native.Nat.{ℕ, ◌+◌, ◌*◌, ◌-◌, ◌^◌, ◌<◌, ◌≤◌}
use native.Mathlib.Nat as Nat
use native.Mathlib.Decide.{dec_lt}
use native.Mathlib.Omega.{arith}
use lib.ListN.{length, get_or, take, drop, length-append, get_or-append, get_or-eq_default}
use lib.Seq.{length-take-le, take_at, drop_at, drop-drop, get_or-drop}
use Rattle.protocol.specs.Element.{width}
use Rattle.protocol.specs.declared.Settings.{Settings}
use Rattle.protocol.specs.Basic.{flat}
use Rattle.protocol.specs.Opening.{half_left, fold_residues}
use Rattle.protocol.proofs.Inputs.{settings-valid}
use Rattle.protocol.proofs.Modulo.{modulo-lt}
use Rattle.protocol.proofs.Reading.{tabulate_at, flat-length}
use Rattle.sizes.proofs.Limits.{degree_least, degree_most}
use Rattle.residues.specs.Residues.{Residues}
use Rattle.folds.specs.Folds.{folded, Foldable, fold_down}
use Rattle.protocol.proofs.Agreement.{Alike}
use Rattle.protocol.proofs.Paths.{half_left-height}
use Rattle.protocol.proofs.Places.{twice-cells}
use Rattle.tree_check.specs.Nodes.{Folding, Reduced}

-- a key that stands from some place on, folded to where a child looks for it
module _ (q d n e from : ℕ) (W : List ℕ) (long : n * d ≤ length W) where
  abbrev m : ℕ
  m = n * d

  -- the folded key
  abbrev F : List ℕ
  F = flat d n (folded q d n e (drop from W))

  front_length : length (take m W) ≡ m
  front_length = length-take-le m W long

  -- what is behind is kept
  pub fold_kept : drop (m + m) (fold_down q d n e from m W) ≡ drop (m + m) W
  unfolding fold_down
  fold_kept =
      sym (drop-drop m m _)
      ∙ ap (drop m) (drop_at (take m W) _ m front_length)
      ∙ drop_at F _ m (flat-length d n _)
      ∙ drop-drop m m W

  child-key : drop m (take (m + m) (fold_down q d n e from m W)) ≡ F
  unfolding fold_down
  child-key =
      ap (λ l. drop m (take (m + m) l)) (sym (append_assoc (take m W) F _))
      ∙ ap (drop m) (take_at (take m W ++ F) _ (m + m) (length-append (take m W) F ∙ λ i. front_length i + flat-length d n (folded q d n e (drop from W)) i))
      ∙ drop_at (take m W) F m front_length

  -- the child's key is residues
  pub child-below : 0 < q → (i : ℕ) → get_or (drop m (take (m + m) (fold_down q d n e from m W))) i 0 < q
  unfolding flat folded
  child-below p i = subst (λ l. get_or l i 0 < q) (sym child-key) (elim (dec_lt i m) [
    | yes l ↦ subst (λ x. x < q) (sym (tabulate_at m _ 0 i l)) (modulo-lt q p _)
    | no g ↦ subst (λ x. x < q) (sym (get_or-eq_default F 0 {n = i} (omega (arith, flat-length d n (folded q d n e (drop from W)))))) p
  ])

  pub child-alike : Alike m (drop m (take (m + m) (fold_down q d n e from m W))) (fold_residues q d n e (drop from W))
  unfolding fold_residues folded
  child-alike j l = ap (λ s. get_or s j 0) child-key ∙ sym (get_or-append F _ 0 j (omega (arith, flat-length d n (folded q d n e (drop from W)))))

-- the fold that the code asks for
module _ (S : Settings) (h space : ℕ) (P : Folding S h space) {n : ℕ} (is : n ≡ half_left S (S.depth - h)) where
  open S use {degree as d, depth as L, modulus as q}

  pub half-power : n ≡ 2 ^ (h - 1)
  half-power = is ∙ half_left-height S (h - 1) (L - h) (omega (arith, P.up, P.height))

  half_most_lem : n ≤ 128
  half_most_lem = rw half-power (Nat.pow-le-pow_right {n = 2} (omega arith) {i = h - 1} {j = 7} (omega (arith, P.height, (settings-valid S P.allowed).depth_most)))

  pub cells-few : n * d ≤ 128 * width
  cells-few = Nat.mul-le-mul {n₂ = 128} {m₂ = width} half_most_lem (degree_most S (settings-valid S P.allowed))

  pub key-cells : 2 * (n * d) ≡ 2 ^ h * d
  key-cells = Nat.two-mul (n * d) ∙ (λ i. half-power i * d + half-power i * d) ∙ sym (twice-cells S h P.up)

  pub foldable : (from : ℕ) (ws : List ℕ) → n * d ≤ from → Residues q (2 * (n * d)) from ws → Foldable q d n from (n * d) ws
  foldable from ws l residues =
      let ok = settings-valid S P.allowed in
      record { degree = omega (arith, degree_least S ok); degree_most = degree_most S ok; elements = half_most_lem; down = l; residues = residues }

  pub key_foldable : (ws : List ℕ) → length ws ≡ space → Reduced S (drop (2 ^ h * d) ws) → Foldable q d n (2 * (n * d)) (n * d) ws
  key_foldable ws long below = foldable (2 * (n * d)) ws (omega arith) (record {
    long = omega (arith, long, P.space_is, key-cells);
    each = λ k _. subst (λ x. x < q) (get_or-drop (2 ^ h * d) ws k 0 ∙ ap (λ x. get_or ws (x + k) 0) (sym key-cells)) (below k);
  })
