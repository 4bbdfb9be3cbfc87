-- Polynomials of a row of a flat table, from parts of it: an element of a table is the front of the part that begins with it.
--   part at t   the table t from place `at` on, as the code lends it
use mathlib.Core.Path.{◌≡◌, refl, sym, ap, ◌∙◌, subst}
use mathlib.Core.List.{List}
use Prim.Native.Nat.{ℕ, ◌+◌, ◌*◌, ◌-◌, ◌<◌, ◌≤◌}
use native.Mathlib.Nat as Nat
use native.Mathlib.Omega.{arith}
use lib.IntN.{pos}
use lib.ListN.{length, get_or, take, drop}
use Rattle.protocol.specs.declared.Settings.{Settings}
use Rattle.protocol.specs.Element.{Element, residue, reduced}
use Rattle.protocol.specs.Layout.{item_of, item_cells, polynomial_at}
use Rattle.protocol.specs.Transcript.{round_holds, next_claim}
use Rattle.protocol.proofs.Reading.{tabulate_at}
use Rattle.rotations.specs.Values.{value_at}
use Rattle.residues.specs.Lists.{spliced}
use Rattle.residues.specs.Residues.{Residues}
use Rattle.residues.proofs.Parts.{tail_at, tail-length}
use Rattle.residues.proofs.Splice.{spliced-inside}
use Rattle.protocol.proofs.Agreement.{Same, Alike, claim_same, round_same}
use Rattle.equations.specs.Items.{row_element}

abbrev pub part {ℓ} : {A : Type ℓ} → ℕ → List A → List A
part at t = take (length t - at) (drop at t)

pub part-long {ℓ} : {A : Type ℓ} (at n : ℕ) (t : List A) → at + n ≤ length t → n ≤ length (part at t)
part-long at n t h = omega (arith, tail-length at t)

pub part-residues : (q at n : ℕ) (t : List ℕ) → at + n ≤ length t → ((j : ℕ) → j < at + n → get_or t j 0 < q) → Residues q n 0 (part at t)
part-residues q at n t h below = record {
  long = omega (arith, part-long at n t h);
  each = λ k l. subst (λ x. x < q) (sym (tail_at at t (0 + k) 0)) (below (at + (0 + k)) (omega arith));
}

module _ (S : Settings) (rounds : List ℕ) (k : ℕ) where
  open S use {degree as d, modulus as q}

  abbrev c : ℕ → Element
  c j = row_element S rounds (item_of k j)

  element_same : (j at : ℕ) → at ≡ polynomial_at S k + j * item_cells S → Same d (residue (part at rounds)) (c j)
  unfolding residue row_element
  element_same j at e i l = ap pos (tail_at at rounds i 0 ∙ ap (λ x. get_or rounds x 0) (omega (arith, e, Nat.add-mul (3 * k) j (item_cells S))))

  module _ (at third : ℕ) (is_at : at ≡ polynomial_at S k) (is-third : third ≡ at + 2 * item_cells S) where
    first_same : Same d (residue (part at rounds)) (c 0)
    first_same = element_same 0 at (omega (arith, Nat.zero-mul (item_cells S)))

    third_same : Same d (residue (part third rounds)) (c 2)
    third_same = element_same 2 third (omega arith)

    pub holds_is : (claim : List ℕ) → round_holds S claim (residue (part at rounds)) (residue (part third rounds)) ≡ round_holds S claim (c 0) (c 2)
    holds_is claim = round_same S {c1 = c 1} first_same (λ i l. refl) third_same claim claim (λ i l. refl)

    -- the next claim, where it is written to the front of a list
    module _ (e second : ℕ) (is-second : second ≡ at + item_cells S) where
      abbrev value : ℕ → ℕ
      value = value_at q d e (residue (part at rounds)) (residue (part second rounds)) (residue (part third rounds))

      coefficient_is : (i : ℕ) → i < d → value i ≡ get_or (next_claim S e (c 0) (c 1) (c 2)) i 0
      unfolding value_at next_claim reduced
      coefficient_is i l =
          sym (tabulate_at d value 0 i l)
          ∙ ap (λ s. get_or s i 0) (claim_same S first_same (element_same 1 second (omega (arith, Nat.one-mul (item_cells S)))) third_same e)

      pub claim-alike : (l₀ : List ℕ) {l : List ℕ} → l ≡ spliced value 0 d l₀ → Alike d l (next_claim S e (c 0) (c 1) (c 2))
      claim-alike l₀ is i l =
          ap (λ s. get_or s i 0) is
          ∙ ap (λ x. get_or (spliced value 0 d l₀) x 0) (sym (Nat.zero-add i))
          ∙ spliced-inside value 0 d l₀ (omega arith) i l
          ∙ coefficient_is i l
