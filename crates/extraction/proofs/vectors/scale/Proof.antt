-- The loop keeps: the first i elements are multiplied, the others are as they were.
use mathlib.Core.Path.{◌≡◌, refl, sym, ap, ◌∙◌, subst}
use mathlib.Core.List.{List}
use Prim.Native.Nat.{ℕ, ◌+◌, ◌*◌, ◌-◌, ◌<◌, ◌≤◌}
use native.Mathlib.Nat as Nat
use native.Mathlib.Omega.{arith}
use borrow.Author.Rules.{rules}
use borrow.Rule.Slice.PartMut.{put_mid}
use lib.ListN.{length, get_or, take, drop}
use lib.IntN.{ℤ, pos, nat_abs}
use Rattle.protocol.specs.Element.{Element, signed, signed_at}
use Rattle.extraction.specs.Bounds.{Weighable}
use Rattle.extraction.specs.Steps.{weighted}
use Rattle.extraction.specs.Vectors.{scaled, Scalable}
use Rattle.residues.specs.Lists.{spliced_rows}
use Rattle.residues.proofs.Fill.{filled, filled_ext}
use Rattle.protocol.proofs.Reading.{row_inside}
use Rattle.residues.proofs.Parts.{tail-length}
use Rattle.residues.proofs.Splice.{spliced-length}
use Rattle.extraction.proofs.Splicing.{rows_none, lent_at, rows_turn}
use Rattle.extraction.proofs.Weighing as W
use Rattle.extraction.proofs.vectors.scale.Statement.{statement}
use Rattle.extraction.proofs.vectors.scale.Tie as tie

-- element i afterwards
abbrev products : ℕ → ℕ → ℕ → ℕ → List ℤ → ℕ → Element
products d k m e v i = weighted d k m e (signed_at d v i)

abbrev invariant-loop-i : tie.invariant-loop-i
invariant-loop-i d n k m e v₀ x₀ i₀ v x i = (i ≤ n) × (v ≡ spliced_rows (products d k m e v₀) 0 d i v₀) × (length v ≡ length v₀) × (length x ≡ length x₀)

abbrev decreases-loop-i : tie.decreases-loop-i
decreases-loop-i d n k m e v₀ x₀ i₀ v x i = n - i

-- a turn over plain variables
module _ (d n k m e : ℕ) (v : List ℤ) (X : Scalable d n k m e v) (i : ℕ) (lt : i < n) where
  inside : i * d + d ≤ length v
  inside = omega (arith, X.long, row_inside d n i lt)

  module _ (w : List ℤ) (is : w ≡ spliced_rows (products d k m e v) 0 d i v) (same : length w ≡ length v) where
    abbrev rest : List ℤ
    rest = take (length w - i * d) (drop (i * d) w)

    as_was : (j : ℕ) → j < d → get_or rest j (pos 0) ≡ get_or v (i * d + j) (pos 0)
    as_was j h = lent_at (products d k m e v) 0 d v i (i * d) (sym (Nat.zero-add (i * d))) (omega (arith, inside)) is j (pos 0)

    weighable : Weighable d k m e rest
    weighable = record {
      long = omega (arith, inside, tail-length (i * d) w);
      bound = X.bound;
      factors = X.factors;
      within = λ j h. subst (λ z. nat_abs z ≤ X.bound) (sym (as_was j h)) (X.within (i * d + j) (omega (arith, row_inside d n i lt)));
    }

    turn : (q : List ℤ) → q ≡ filled (weighted d k m e (signed rest)) d rest → put_mid (i * d) (length w - i * d) w q ≡ spliced_rows (products d k m e v) 0 d (i + 1) v
    unfolding signed signed_at
    turn q eq =
        rows_turn (products d k m e v) 0 d v i (i * d) (sym (Nat.zero-add (i * d))) (omega (arith, inside)) is
        (eq ∙ filled_ext (weighted d k m e (signed rest)) (products d k m e v i) d rest (W.weighted-ext d k m e (W.some d k m e rest weighable) as_was))

-- an element's place
here : (c : tie.In-loop-i invariant-loop-i decreases-loop-i) → let g = c in c.loop-i.i * g.args.d + g.args.d ≤ length g.args.v.now
here c = let a = c.args in inside a.d a.n a.k a.m a.e a.v.now c.requires.1 c.loop-i.i (omega arith)

loop-i-init : tie.Need-loop-i-init invariant-loop-i decreases-loop-i
loop-i-init c = let a = c.args in (omega arith, rows_none (products a.d a.k a.m a.e a.v.now) 0 a.d a.v.now, refl, refl)

overflow_mul-at : tie.Need-overflow_mul-at invariant-loop-i decreases-loop-i
overflow_mul-at c = record { fits = omega (arith, here c) }

offset_bounds-v-at : tie.Need-offset_bounds-v-at invariant-loop-i decreases-loop-i
offset_bounds-v-at c = record { fits = omega (arith, here c) }

slice_bounds-weigh-count : tie.Need-slice_bounds-weigh-count invariant-loop-i decreases-loop-i
slice_bounds-weigh-count c = omega (arith, here c)

slice_bounds-weigh-start : tie.Need-slice_bounds-weigh-start invariant-loop-i decreases-loop-i
slice_bounds-weigh-start c = omega (arith, here c)

weigh-requires : tie.Need-weigh-requires invariant-loop-i decreases-loop-i
weigh-requires c κs =
    let l = c.loop-i in let a = c.args in
    (omega (arith, c.requires.0, l.invariant.3), weighable a.d a.n a.k a.m a.e a.v.now c.requires.1 l.i (omega arith) l.v l.invariant.1 l.invariant.2)

loop-i-preserved : tie.Need-loop-i-preserved invariant-loop-i decreases-loop-i
loop-i-preserved c =
    let l = c.loop-i in let a = c.args in
    let next = turn a.d a.n a.k a.m a.e a.v.now c.requires.1 l.i (omega arith) l.v l.invariant.1 l.invariant.2 _ c.weigh.ensures in (
      omega arith,
      next,
      ap length next ∙ spliced-length _ 0 ((l.i + 1) * a.d) a.v.now (omega arith) (omega (arith, here c.before.before.before.before.before, Nat.add-mul l.i 1 a.d)),
      c.weigh.auto.x ∙ l.invariant.3,
    )

returns : tie.Need-returns invariant-loop-i decreases-loop-i
unfolding scaled
returns c =
    let a = c.args in
    c.loop-i.invariant.1 ∙ ap (λ j. spliced_rows (products a.d a.k a.m a.e a.v.now) 0 a.d j a.v.now) (omega arith)

pub scale_spec : {M : Type 1} → statement M
scale_spec =
    tie.close
    (tie.spec invariant-loop-i decreases-loop-i loop-i-init overflow_mul-at offset_bounds-v-at slice_bounds-weigh-count slice_bounds-weigh-start (λ c. search rules) weigh-requires (λ c. search rules)
    (λ c. search rules) loop-i-preserved (λ c. search rules) (λ c. search rules) returns)
