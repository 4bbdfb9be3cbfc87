-- What the definitions read of an element, its places below d, and what a fold reads of a key, the elements that are left: where two agree on that, the results are equal.
use mathlib.Core.Path.{◌≡◌, refl, sym, ap, ap₂, ◌∙◌, subst}
use mathlib.Core.Bool.{Bool, ◌&&◌}
use mathlib.Core.List.{List}
use Prim.Native.Nat.{ℕ, zero, suc, ◌+◌, ◌*◌, ◌/◌, ◌%◌, ◌^◌, ◌<◌}
use native.Mathlib.Nat as Nat
use native.Mathlib.Omega.{arith}
use lib.Dec.{eqb}
use lib.ListN.{get_or}
use lib.IntN.{ℤ, pos, ◌+ℤ◌, ◌*ℤ◌}
use Rattle.protocol.specs.declared.Settings.{Settings}
use Rattle.protocol.specs.Basic.{sum, every, within}
use Rattle.protocol.specs.Element.{Element, modulo, flips, around, rotate, product, residue, residue_at, reduced}
use Rattle.protocol.specs.Settings.{size, half}
use Rattle.protocol.specs.Opening.{fold_residues, fold_key}
use Rattle.protocol.specs.Transcript.{doubled, round_holds, next_claim, final_bounded, ending, end_holds, end_met}
use Rattle.protocol.proofs.Reading.{cell-inside, tabulate_ext, flat-front}
pub use Rattle.protocol.specs.Nodes.{Alike}
use Rattle.protocol.proofs.Paths.{half_left-height}

pub sum-ext : (n : ℕ) {f g : ℕ → ℤ} → ((i : ℕ) → i < n → f i ≡ g i) → sum n f ≡ sum n g
unfolding sum
sum-ext zero e = refl
sum-ext (suc n) e = ap₂ ◌+ℤ◌ (sum-ext n (λ i l. e i (omega arith))) (e n (omega arith))

pub every_ext : (n : ℕ) {f g : ℕ → Bool} → ((i : ℕ) → i < n → f i ≡ g i) → every n f ≡ every n g
unfolding every
every_ext zero e = refl
every_ext (suc n) e = ap₂ ◌&&◌ (every_ext n (λ i l. e i (omega arith))) (e n (omega arith))

-- a and b have the same d coefficients
abbrev pub Same : ℕ → Element → Element → Type 0
Same d a b = (k : ℕ) → k < d → a k ≡ b k

module _ {d : ℕ} (p : 0 < d) where
  pub rotate_same : (e : ℕ) {a b : Element} → Same d a b → (k : ℕ) → rotate d e a k ≡ rotate d e b k
  unfolding rotate around
  rotate_same e s k = ap (flips _) (s _ (Nat.mod-lt _ p))

  pub product_same : {a a' b b' : Element} → Same d a a' → Same d b b' → (k : ℕ) → product d a b k ≡ product d a' b' k
  unfolding product
  product_same s r k = sum-ext d (λ i l. ap₂ ◌*ℤ◌ (s i l) (rotate_same i r k))

module _ (S : Settings) {c0 c1 c2 g0 g1 g2 : Element} (s0 : Same S.degree c0 g0) (s1 : Same S.degree c1 g1) (s2 : Same S.degree c2 g2) where
  pub claim_same : (e : ℕ) → next_claim S e c0 c1 c2 ≡ next_claim S e g0 g1 g2
  unfolding next_claim reduced
  claim_same e = tabulate_ext S.degree (λ k l.
      let p : 0 < S.degree = omega arith in
      ap (modulo S.modulus) (ap₂ ◌+ℤ◌ (ap₂ ◌+ℤ◌ (s0 k l) (rotate_same p e s1 k)) (rotate_same p e (λ i m. rotate_same p e s2 i) k)))

  pub round_same : (claim claim' : List ℕ) → ((k : ℕ) → k < S.degree → get_or claim k 0 ≡ get_or claim' k 0) → round_holds S claim c0 c2 ≡ round_holds S claim' g0 g2
  unfolding round_holds doubled
  round_same claim claim' s = every_ext S.degree (λ k l. ap₂ eqb (ap (λ z. modulo S.modulus (pos 2 *ℤ z)) (ap₂ ◌+ℤ◌ (s0 k l) (s2 k l))) (s k l))

module _ (S : Settings) {f f' G G' : Element} (fs : Same S.degree f f') (gs : Same S.degree G G') where
  pub end_same : (claim claim' : List ℕ) → Alike S.degree claim claim' → end_met S claim f G ≡ end_met S claim' f' G'
  unfolding end_met final_bounded end_holds ending
  end_same claim claim' s = ap₂ ◌&&◌
      (every_ext S.degree (λ k l. ap (within (size S * S.bound)) (fs k l)))
      (every_ext S.degree (λ k l. ap₂ eqb (s k l) (ap (λ z. modulo S.modulus (pos (half S ^ S.depth) *ℤ z)) (product_same {d = S.degree} (omega arith) fs gs k))))

-- a list as an element is the first element of the list as a table
pub first_same : (d : ℕ) (l : List ℕ) → Same d (residue l) (residue_at d l 0)
unfolding residue residue_at
first_same d l k _ = ap (λ x. pos (get_or l x 0)) (omega (arith, Nat.zero-mul d))

-- ---- keys

-- lists with the same first n·d numbers have the same first n elements
pub alike_same : (d n : ℕ) (G H : List ℕ) → Alike (n * d) G H → (i : ℕ) → i < n → Same d (residue_at d G i) (residue_at d H i)
unfolding residue_at
alike_same d n G H s i l k lk = ap pos (s (i * d + k) (cell-inside d n i k l lk))

alike-cells : (d n : ℕ) (G H : List ℕ) → ((i k : ℕ) → i < n → k < d → get_or G (i * d + k) 0 ≡ get_or H (i * d + k) 0) → Alike (n * d) G H
alike-cells zero n G H s j l = absurd (omega (arith, Nat.mul-zero n))
alike-cells (suc c) n G H s j l =
    let p : 0 < suc c = omega arith in
    subst (λ m. get_or G m 0 ≡ get_or H m 0) (Nat.div-add-mod' j (suc c)) (s (j / suc c) (j % suc c) ((Nat.div-lt_iff_lt-mul p).1 l) (Nat.mod-lt j p))

-- a fold reads 2·h elements and writes h
fold-alike : (q d h e : ℕ) (G H : List ℕ) → Alike ((h + h) * d) G H → Alike (h * d) (fold_residues q d h e G) (fold_residues q d h e H)
unfolding fold_residues
fold-alike q d h e G H s = alike-cells d h (fold_residues q d h e G) (fold_residues q d h e H) (λ i k li lk.
    flat-front d h _ _ 0 i k li lk
    ∙ ap (modulo q) (ap₂ ◌+ℤ◌ (alike_same d (h + h) G H s i (omega arith) k lk) (rotate_same (omega arith) e (alike_same d (h + h) G H s (h + i) (omega arith)) k))
    ∙ sym (flat-front d h _ _ 0 i k li lk))

pub key-alike : (S : Settings) (h t e : ℕ) (G H : List ℕ) → suc (h + t) ≡ S.depth → Alike (2 ^ suc h * S.degree) G H → Alike (2 ^ h * S.degree) (fold_key S t e G) (fold_key S t e H)
unfolding fold_key
key-alike S h t e G H l s = rw (half_left-height S h t l) (fold-alike S.modulus S.degree (2 ^ h) e G H (rw (Nat.two-pow-succ h) at s))
