-- The judge's equation at each place, as the code tests it.
use mathlib.Core.Path.{◌≡◌, ap, ◌∙◌}
use mathlib.Core.Bool.{Bool}
use mathlib.Core.List.{List}
use Prim.Native.Nat.{ℕ, ◌*◌, ◌%◌, ◌<◌}
use native.Mathlib.Omega.{arith}
use lib.Dec.{eqb}
use lib.IntN.{ℤ}
use lib.ListN.{get_or, get_or-append}
use Rattle.protocol.specs.declared.Settings.{Settings}
use Rattle.protocol.specs.Basic.{every, tabulate}
use Rattle.protocol.specs.Element.{modulo, residue, times, padded}
use Rattle.protocol.specs.Judge.{scaled_commitment, combination, opens}
use Rattle.protocol.proofs.Reading.{tabulate_length, tabulate_at}
use Rattle.protocol.proofs.Agreement.{every_ext}

-- the test at place k, as the code makes it
abbrev pub same : ℕ → ℕ → List ℕ → List ℕ → ℕ → Bool
same q c C sums k = eqb (c * get_or C k 0 % q) (get_or sums k 0)

pub same_is : (S : Settings) (key C : List ℕ) (c : ℕ) (w : List ℤ) (sums : List ℕ) → sums ≡ padded S.degree (tabulate S.degree (combination S key w))
    → every S.degree (same S.modulus c C sums) ≡ opens S key C c w
unfolding opens scaled_commitment times residue modulo padded
same_is S key C c w sums e = every_ext S.degree (λ k l. ap (eqb (c * get_or C k 0 % S.modulus)) (entry k l))
  where
    entry : (k : ℕ) → k < S.degree → get_or sums k 0 ≡ combination S key w k
    entry k l =
        ap (λ m. get_or m k 0) e
        ∙ get_or-append (tabulate S.degree (combination S key w)) _ 0 k (omega (arith, tabulate_length S.degree (combination S key w)))
        ∙ tabulate_at S.degree (combination S key w) 0 k l
