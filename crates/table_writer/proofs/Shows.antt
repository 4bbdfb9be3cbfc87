-- Bytes put at the front of an output slice.
--
--   shown_all, shown-none   there is room for them, and there is not
--   shown_as                bytes that are others
--   shown-told              what was put stands at the front of the slice
use mathlib.Core.Path.{◌≡◌, sym, ap, subst, ◌∙◌}
use mathlib.Core.Bool.{Bool, true, false}
use mathlib.Core.List.{List, ◌++◌}
use Prim.Native.Nat.{ℕ, ◌<◌, ◌≤◌}
use native.Mathlib.Omega.{arith}
use borrow.Author.Tests.{le-leb, lt-leb}
use lib.Dec.{leb}
use lib.ListN.{length, drop, length-append}
use lib.Seq.{length-take-le}
use Rattle.protocol.specs.Basic.{choose}
use Rattle.table_writer.specs.Shown.{Shown, Within}

pub shown_all : (bytes out out' : List ℕ) → length bytes ≤ length out → out' ≡ bytes ++ drop (length bytes) out → Shown bytes out (length bytes) out'
unfolding choose
shown_all bytes out out' h e = record {
  count = sym (ap (λ b. choose b (length bytes) 0) (le-leb _ _ h));
  out_exit = e ∙ sym (ap (λ b. choose b (bytes ++ drop (length bytes) out) out) (le-leb _ _ h));
}

pub shown-none : (bytes out : List ℕ) → length out < length bytes → Shown bytes out 0 out
unfolding choose
shown-none bytes out h = record {
  count = sym (ap (λ b. choose b (length bytes) 0) (lt-leb _ _ h));
  out_exit = sym (ap (λ b. choose b (bytes ++ drop (length bytes) out) out) (lt-leb _ _ h));
}

pub shown_as : {bytes others out out' : List ℕ} {r : ℕ} → bytes ≡ others → Shown bytes out r out' → Shown others out r out'
shown_as {out = out} {out' = out'} {r = r} e p = subst (λ l. Shown l out r out') e p

counted : (b : Bool) (bytes out : List ℕ) → choose b (length bytes) 0 ≤ length (choose b (bytes ++ drop (length bytes) out) out)
unfolding choose
counted true bytes out = omega (arith, length-append bytes (drop (length bytes) out))
counted false bytes out = omega arith

within : {bytes out out' : List ℕ} {r : ℕ} → Shown bytes out r out' → r ≤ length out'
within {bytes} {out} {out'} {r} p = omega (arith, p.count, ap length p.out_exit, counted (leb (length bytes) (length out)) bytes out)

pub shown-told : {bytes out out' : List ℕ} {r : ℕ} → Shown bytes out r out' → Shown bytes out r out' × Within r out'
shown-told {out' = out'} {r = r} p = (p, (within p, sym (length-take-le r out' (within p))))
