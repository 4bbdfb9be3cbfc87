-- Laws of written claims: the test is the statement, and the claims of a transcript are as many residues, each the one that is worked out.
use mathlib.Core.Path.{◌≡◌, sym, ◌∙◌, subst}
use mathlib.Core.Bool.{true}
use mathlib.Core.List.{List}
use Prim.Native.Nat.{ℕ, ◌+◌, ◌*◌, ◌/◌, ◌%◌, ◌<◌}
use borrow.Author.Tests.{eq-eqb, eqb-true}
use lib.Dec.{eqb}
use lib.ListN.{length, get_or}
use Rattle.protocol.specs.declared.Settings.{Settings}
use Rattle.protocol.specs.Basic.{every}
use Rattle.protocol.specs.Inputs.{Below}
use Rattle.protocol.specs.Layout.{claim_items, claim_cells}
use Rattle.protocol.specs.Transcript.{Transcript, next_claim, claim_after}
use Rattle.protocol.specs.WrittenClaims.{claim_of, claim_table, claim_written, claims_written, ClaimsWritten}
use Rattle.protocol.proofs.Tests.{every_at, every-intro}
use Rattle.protocol.proofs.Reading.{by_cells, flat-length, flat_at}
use Rattle.protocol.proofs.Rows.{item-inside, item_row, item-index}
use Rattle.protocol.proofs.Ranges.{reduced-below}

module _ (S : Settings) (T : Transcript) where
  open S use {degree as d, depth as L, modulus as q, rows as rows}

  -- ---- the test is the statement

  pub claims-written : (claims : List ℕ) → claims_written S T claims ≡ true → ClaimsWritten S T claims
  unfolding claims_written claim_written
  claims-written claims e t ht r hr k hk =
      eqb-true _ _
      (every_at d (λ k. eqb (get_or claims ((rows * t + r) * d + k) 0) (get_or (claim_of S T t r) k 0))
      (every_at rows (claim_written S T claims t) (every_at L (λ t. every rows (claim_written S T claims t)) e t ht) r hr) k hk)

  pub claims-written-test : (claims : List ℕ) → ClaimsWritten S T claims → claims_written S T claims ≡ true
  unfolding claims_written claim_written
  claims-written-test claims w = every-intro λ t ht. every-intro λ r hr. every-intro λ k hk. eq-eqb _ _ (w t ht r hr k hk)

  -- ---- the claims of a transcript

  pub claim-table-length : length (claim_table S T) ≡ claim_cells S
  unfolding claim_table
  claim-table-length = flat-length d (claim_items S) _

  pub claim-table-written : ClaimsWritten S T (claim_table S T)
  unfolding claim_table
  claim-table-written t ht r hr k hk =
      flat_at d (claim_items S) (λ i k. get_or (claim_of S T (i / rows) (i % rows)) k 0) 0 (rows * t + r) k (item-inside rows L t r ht hr) hk
      ∙ λ z. get_or (claim_of S T (item-index rows t r hr z) (item_row rows t r hr z)) k 0

  claim-below : 0 < q → (t r k : ℕ) → k < d → get_or (claim_of S T t r) k 0 < q
  unfolding claim_of claim_after next_claim
  claim-below p t r k h = (reduced-below q p d _).each k h

  pub claim-table-below : 0 < q → 0 < d → Below q (claim_cells S) (claim_table S T)
  unfolding claim_table
  claim-table-below p e = record {
    long = claim-table-length;
    each = by_cells d (claim_items S) e (λ j. get_or (claim_table S T) j 0 < q) λ i k hi hk.
        subst (λ x. x < q) (sym (flat_at d (claim_items S) (λ i k. get_or (claim_of S T (i / rows) (i % rows)) k 0) 0 i k hi hk)) (claim-below p (i / rows) (i % rows) k hk);
  }
