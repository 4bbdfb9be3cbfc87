use mathlib.Core.Path.{◌≡◌, sym, ap, ◌∙◌}
use mathlib.Core.List.{List}
use Prim.Native.Nat.{ℕ, ◌*◌, ◌-◌, ◌<◌, ◌≤◌}
use borrow.Rule.Slice.PartMut.{put_mid}
use native.Mathlib.Nat as Nat
use native.Mathlib.Omega.{arith}
use lib.ListN.{length, take, drop}
use Rattle.protocol.specs.Element.{Element, modulo, reduced}
use Rattle.protocol.proofs.Reading.{row_inside, tabulate_at}
use Rattle.residues.specs.Lists.{filled}
use Rattle.residues.proofs.Fill.{filled_none, filled_ext}
use Rattle.residues.proofs.Parts.{tail-length}
use Rattle.rows.specs.Rows.{woven}
use Rattle.joins.specs.Sums.{Stand}
use Rattle.joins.proofs.Joining.{halves-within}
use Rattle.plain_products.specs.Sums.{Summed}
use Rattle.plain_products.specs.Rowwise.{element_places, row_places}
use Rattle.plain_products.proofs.Rowwise.{row_turn}
use Rattle.plain_products.proofs.write_rows.Goals as goal

-- The loop keeps: the elements of the first r rows are written.
-- sums that are done may be joined
summed-stand : (q d : ℕ) (F : Element) (s t : List ℕ) → d ≤ length s → d ≤ length t → Summed q d F s t → Stand q d F s t
summed-stand q d F s t ls lt ok = record {
  lowers = ls;
  uppers = lt;
  each = λ k l. halves-within q _ _ _ _ _ (omega (arith, ok.few)) (ok.stands.each k l);
}

pub loop-r-init : goal.loop-r-init
loop-r-init c =
    let a = c.args in (
      omega arith,
      λ F z. (
        sym (Nat.zero-mul a.d),
        filled_none (row_places a.d (λ i. reduced a.q a.d (F i))) a.out.now
            ∙ ap (λ n. filled (row_places a.d (λ i. reduced a.q a.d (F i))) n a.out.now) (sym (Nat.zero-mul a.d)),
      ),
    )

pub returns-then-out-at : goal.returns-then-out-at
returns-then-out-at c = λ F z. let l = c.loop-r in absurd
    (omega (arith, (l.invariant.1 F z).0, row_inside c.args.d c.args.rows l.r (omega arith), z.5))

reduced-places : (q d : ℕ) (F : Element) (out : List ℕ) → filled (λ k. modulo q (F k)) d out ≡ filled (element_places (reduced q d F)) d out
unfolding reduced
reduced-places q d F out = filled_ext _ _ d out (λ k h. sym (tabulate_at d (λ j. modulo q (F j)) 0 k h))

pub loop-r-preserved : goal.loop-r-preserved
loop-r-preserved c =
    let a = c.args in
    let l = c.loop-r in
    let join = c.join_strand in (
      omega arith,
      λ F z.
          let w = l.invariant.1 F z in
          let h : l.r < a.rows = omega arith in
          let is = join.ensures a.q F (
            c.prepare-joint.ensures z.0,
            record { few = z.2; degree = z.1; inside = h; room = omega (arith, tail-length l.at l.out) },
            summed-stand a.q (a.d * a.rows) (woven a.rows F) a.s.now a.t.now z.3 z.4 z.6,
          ) ∙ reduced-places a.q a.d (F l.r) _ in (
            omega (arith, w.0, Nat.add-mul l.r 1 a.d),
            ap (λ n. put_mid n (length l.out - n) l.out join.new.out) w.0
                ∙ row_turn a.d (λ i. reduced a.q a.d (F i)) l.r a.out.now l.out (omega (arith, row_inside a.d a.rows l.r h, z.5)) w.1 _
                (is ∙ ap (λ n. filled (element_places (reduced a.q a.d (F l.r))) a.d (take (length l.out - n) (drop n l.out))) w.0),
          ),
    )

pub returns : goal.returns
returns c = λ F z.
    let a = c.args in
    let l = c.loop-r in
    (l.invariant.1 F z).1 ∙ ap (λ m. filled (row_places a.d (λ i. reduced a.q a.d (F i))) (m * a.d) a.out.now) {x = l.r} {y = a.rows} (omega arith)
