-- The answers of the prover's calls, with a refusal and without one.
use mathlib.Core.Path.{◌≡◌, sym, ◌∙◌}
use mathlib.Core.List.{List}
use Prim.Native.Nat.{ℕ}
use lib.IntN.{ℤ}
use Rattle.protocol.specs.declared.Settings.{Settings}
use Rattle.std.specs.Prelude.{Ok, Err}
use Rattle.protocol.specs.declared.Refusal.{Refusal}
use Rattle.protocol.specs.Answers.{as_committed, as_polynomial, as_ended}
use Rattle.protocol.specs.Refusal.{number}
use Rattle.protocol.specs.Element.{width, zeros, signed_zeros, padded_signed}
use Rattle.protocol.specs.Layout.{rows_width}
use Rattle.protocol.specs.Opening.{fold_signed, half_left, fold_message, final_element}
use Rattle.protocol.specs.Rows.{at_rows, fold_keys}
use Rattle.protocol.specs.Calls.{commit_refusal, commit_answer, polynomial, no_polynomial, round_refusal, round_answer, fold_refusal, fold_key_exit, fold_message_exit, end_refusal, end_answer}
use Rattle.protocol.specs.Promises.{Folded}
use Rattle.protocol.proofs.Tests.{granted-zero, granted_refused}
use Rattle.prover_refusals.proofs.Given.{number_least}
use native.Mathlib.Omega.{arith}
use Rattle.prover.specs.Rowwise.{committed}

-- ---- commit

module _ (S : Settings) (key : List ℕ) (message : List ℤ) where
  abbrev all_rows : List ℕ
  all_rows = at_rows S (committed S key message)

  pub commit-refused : (r : Refusal) → number r ≡ commit_refusal S key message → as_committed (Err r) ≡ commit_answer S key message
  unfolding commit_answer
  commit-refused r e = let none = sym (granted_refused (commit_refusal S key message) all_rows (zeros rows_width) (λ z. omega (arith, number_least r, e, z))) in λ i. record { refusal = e i; commitment = none i }

  pub commit-done : commit_refusal S key message ≡ 0 → (a : List ℕ) → a ≡ all_rows → as_committed (Ok a) ≡ commit_answer S key message
  unfolding commit_answer
  commit-done z a g = let all = g ∙ sym (granted-zero _ all_rows (zeros rows_width) z) in λ i. record { refusal = sym z i; commitment = all i }

-- ---- the round

module _ (S : Settings) (t : ℕ) (key : List ℕ) (message : List ℤ) where
  pub round_refused : (r : Refusal) → number r ≡ round_refusal S t key message → as_polynomial (Err r) ≡ round_answer S t key message
  unfolding round_answer
  round_refused r e = let none = sym (granted_refused (round_refusal S t key message) (polynomial S t key message) no_polynomial (λ z. omega (arith, number_least r, e, z))) in λ i. record { refusal = e i; elements = none i }

  pub round-done : round_refusal S t key message ≡ 0 → (p : List (List ℕ)) → p ≡ polynomial S t key message → as_polynomial (Ok p) ≡ round_answer S t key message
  unfolding round_answer
  round-done z p g = let all = g ∙ sym (granted-zero _ (polynomial S t key message) no_polynomial z) in λ i. record { refusal = sym z i; elements = all i }

-- ---- the fold

module _ (S : Settings) (t x : ℕ) (key : List ℕ) (message : List ℤ) where
  pub fold-refused : (r : Refusal) → number r ≡ fold_refusal S t x key message → Folded S t x key message (number r) key message
  unfolding fold_key_exit fold_message_exit
  fold-refused r e = let n : fold_refusal S t x key message ≡ 0 → ⊥ = λ z. omega (arith, number_least r, e, z) in record { refusal = e; key_exit = sym (granted_refused _ _ _ n); message_exit = sym (granted_refused _ _ _ n) }

  pub fold_done : fold_refusal S t x key message ≡ 0 → (key' : List ℕ) (message' : List ℤ)
      → key' ≡ fold_keys S t x key → message' ≡ fold_signed S.degree (half_left S t) x message → Folded S t x key message 0 key' message'
  unfolding fold_key_exit fold_message_exit fold_message
  fold_done z key' message' k m = record { refusal = sym z; key_exit = k ∙ sym (granted-zero _ _ _ z); message_exit = m ∙ sym (granted-zero _ _ _ z) }

-- ---- the end

module _ (S : Settings) (t : ℕ) (message : List ℤ) where
  abbrev last : List ℤ
  last = padded_signed S.degree (final_element S message)

  pub end_refused : (r : Refusal) → number r ≡ end_refusal S t message → as_ended (Err r) ≡ end_answer S t message
  unfolding end_answer
  end_refused r e = let none = sym (granted_refused (end_refusal S t message) last (signed_zeros width) (λ z. omega (arith, number_least r, e, z))) in λ i. record { refusal = e i; last = none i }

  pub end_done : end_refusal S t message ≡ 0 → (f : List ℤ) → f ≡ last → as_ended (Ok f) ≡ end_answer S t message
  unfolding end_answer
  end_done z f g = let all = g ∙ sym (granted-zero _ last (signed_zeros width) z) in λ i. record { refusal = sym z i; last = all i }
