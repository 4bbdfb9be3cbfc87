-- One value more.
use Rattle.std.proofs.Common.{◌≡◌, ℕ, zero, suc, ◌<◌, List, [], ◌∷◌, ◌++◌, length, get_or, drop, map, take, set, ℤ, pos, w64, refl, sym, ap, ◌∙◌, add-one, arith, rules}
use Rattle.ranges.proofs.Magnitude.{through-bits}
use Rattle.table_reader.proofs.store.fill.Goals as goal

fill_next : {A : Type 0} (f : ℤ → A) (i : ℕ) (vs : List ℤ) (z : List A) (d : ℤ) → i < length vs → i < length z
    → set (map f (take i vs) ++ drop i z) i (f (get_or vs i d)) ≡ map f (take (suc i) vs) ++ drop (suc i) z
fill_next f i [] z d h k = absurd (omega arith)
fill_next f i (v ∷ vs) [] d h k = absurd (omega arith)
fill_next f zero (v ∷ vs) (y ∷ z) d h k = refl
fill_next f (suc i) (v ∷ vs) (y ∷ z) d h k = ap (λ l. f v ∷ l) (fill_next f i vs z d (omega arith) (omega arith))

pub loop-i-preserved : goal.loop-i-preserved
loop-i-preserved g c =
    let l = c.loop-i in
    let vs = c.args.values.now in
    let z = c.args.table.now in
    let f = g.T.Held.held in
    let v = get_or vs l.i (pos 0) in
    (λ j. set (l.invariant j) l.i ((c.held.ensures ∙ ap f (through-bits w64 v (search rules))) j))
    ∙ fill_next f l.i vs z (pos 0) (omega arith) (omega arith) ∙ ap (λ k. map f (take k vs) ++ drop k z) (sym (add-one l.i))
