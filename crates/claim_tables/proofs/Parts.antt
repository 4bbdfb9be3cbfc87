-- Two parts of tables are equal where the numbers at their places are.
use mathlib.Core.Path.{◌≡◌, sym, ap, ◌∙◌}
use mathlib.Core.List.{List}
use Prim.Native.Nat.{ℕ, suc, ◌+◌, ◌≤◌}
use native.Mathlib.Omega.{arith}
use borrow.Author.Tests.{eqb-true, eq-eqb}
use lib.Dec.{eqb}
use lib.ListN.{length, get_or, take, drop, length-drop}
use lib.Pointwise.{pointwise, bytes_decides}
use lib.Seq.{ext_get_or, get_or-drop, get_or-take, length-take-le}
use Rattle.protocol.specs.Basic.{every}
use Rattle.protocol.proofs.Tests.{same_test, every_at, every-intro}

module _ (n at : ℕ) (row table : List ℕ) (inside : n ≤ length row) (behind : at + n ≤ length table) where
  abbrev part : List ℕ
  part = take n (drop at table)

  long : length part ≡ n
  long = length-take-le n (drop at table) (omega (arith, length-drop at table))

  part_at : (k : ℕ) → suc k ≤ n → get_or part k 0 ≡ get_or table (at + k) 0
  part_at k l = get_or-take n (drop at table) k 0 l ∙ get_or-drop at table k 0

  pub parts_same : pointwise eqb part (take n row) ≡ every n (λ k. eqb (get_or table (at + k) 0) (get_or row k 0))
  parts_same = same_test
      (λ e. let is : part ≡ take n row = (bytes_decides part (take n row)).0 e in
      every-intro (λ k l. eq-eqb _ _ (sym (part_at k l) ∙ ap (λ x. get_or x k 0) is ∙ get_or-take n row k 0 l)))
      (λ e. (bytes_decides part (take n row)).1 (ext_get_or 0 part (take n row) (long ∙ sym (length-take-le n row inside))
      (λ k l. let below : suc k ≤ n = omega (arith, long) in part_at k below ∙ eqb-true _ _ (every_at n _ e k below) ∙ sym (get_or-take n row k 0 below))))
