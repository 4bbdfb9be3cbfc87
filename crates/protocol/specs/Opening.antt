-- PROTOCOL 2: commitment, round polynomial, folds and final element.
-- Tables are flat, d numbers to an element; t is how many rounds are done, so the next round is round i = t + 1.
--
--   inner d h m G               ⟨m, G⟩ of h elements
--   second h m                  what stands from element h on
--   cross d h m G j             ⟨m0,G0⟩, ⟨m0,G1⟩ + ⟨m1,G0⟩, ⟨m1,G1⟩ for j = 0, 1, 2, the halves having h elements
--   fold_signed, fold_residues  a table after a fold by X^e, the halves having h elements
--   commitment S key message    the commitment
--   left S t, half_left S t     passed on from Layout
--   round_element S t .. j      c_j of round t + 1
--   fold_message, fold_key      a table after the fold of round t + 1
--   message_after, key_after    a table after t folds by the first t of the challenges E
--   final_element S message     the final element
--   round_table S E ..          the round elements of a whole opening, flat: element 3t + j is c_j of round t + 1
use Rattle.std.specs.Prelude.{List, ◌++◌, ℕ, zero, suc, ◌+◌, ◌*◌, ◌/◌, ◌%◌, ◌^◌, get_or, drop, ℤ, pos, ◌+ℤ◌}
use Rattle.protocol.specs.declared.Settings.{Settings}
use Rattle.protocol.specs.Basic.{sum, flat}
use Rattle.protocol.specs.Element.{Element, modulo, rotate, product, plus, times, signed_at, residue_at, coefficients, reduced}
use Rattle.protocol.specs.Settings.{size, half}
use Rattle.protocol.specs.Layout.{round_items}
unfoldable pub use Rattle.protocol.specs.Layout.{left, half_left}

-- the sum of m_i·G_i over i from 0 to h − 1, over whole numbers
unfoldable pub inner : ℕ → ℕ → (ℕ → Element) → (ℕ → Element) → Element
inner d h m G k = sum h (λ i. product d (m i) (G i) k)

unfoldable pub second : ℕ → (ℕ → Element) → ℕ → Element
second h m i = m (h + i)

unfoldable pub cross : ℕ → ℕ → (ℕ → Element) → (ℕ → Element) → ℕ → Element
cross d h m G zero = inner d h m G
cross d h m G (suc zero) = plus (inner d h m (second h G)) (inner d h (second h m) G)
cross d h m G (suc (suc j)) = inner d h (second h m) (second h G)

-- PROTOCOL 2.4, the message: the second half, turned by X^e, is added to the first; all numbers behind the first half are kept
unfoldable pub fold_signed : ℕ → ℕ → ℕ → List ℤ → List ℤ
fold_signed d h e m = flat d h (λ i k. signed_at d m i k +ℤ rotate d e (signed_at d m (h + i)) k) ++ drop (h * d) m

-- PROTOCOL 2.4, the key: the same, reduced
unfoldable pub fold_residues : ℕ → ℕ → ℕ → ℕ → List ℕ → List ℕ
fold_residues q d h e G = flat d h (λ i k. modulo q (residue_at d G i k +ℤ rotate d e (residue_at d G (h + i)) k)) ++ drop (h * d) G

module _ (S : Settings) where
  open S use {degree as d, depth as L, modulus as q}

  -- PROTOCOL 2.1
  unfoldable pub commitment : List ℕ → List ℤ → List ℕ
  commitment key message = reduced q d (inner d (size S) (signed_at d message) (residue_at d key))

  -- PROTOCOL 2.3; this is round t + 1
  unfoldable pub round_element : ℕ → List ℕ → List ℤ → ℕ → List ℕ
  round_element t key message j = reduced q d (times (pos (half S ^ (t + 1))) (cross d (half_left S t) (signed_at d message) (residue_at d key) j))

  unfoldable pub fold_message : ℕ → ℕ → List ℤ → List ℤ
  fold_message t e message = fold_signed d (half_left S t) e message

  unfoldable pub fold_key : ℕ → ℕ → List ℕ → List ℕ
  fold_key t e key = fold_residues q d (half_left S t) e key

  unfoldable pub message_after : List ℕ → ℕ → List ℤ → List ℤ
  message_after E zero message = message
  message_after E (suc t) message = fold_message t (get_or E t 0) (message_after E t message)

  unfoldable pub key_after : List ℕ → ℕ → List ℕ → List ℕ
  key_after E zero key = key
  key_after E (suc t) key = fold_key t (get_or E t 0) (key_after E t key)

  -- PROTOCOL 2.5
  unfoldable pub final_element : List ℤ → List ℤ
  final_element message = coefficients d (signed_at d message 0)

  -- PROTOCOL 1.4: three elements for each round, in the order of the rounds
  unfoldable pub round_table : List ℕ → List ℕ → List ℤ → List ℕ
  round_table E key message = flat d (round_items S) (λ i k. get_or (round_element (i / 3) (key_after E (i / 3) key) (message_after E (i / 3) message) (i % 3)) k 0)
