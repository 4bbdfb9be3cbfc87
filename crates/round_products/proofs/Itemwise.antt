-- Items: what is halved of them, and the items of a round.
use mathlib.Core.Path.{◌≡◌, sym, ap, ◌∙◌}
use mathlib.Core.Bool.{true, false}
use mathlib.Core.List.{List}
use Prim.Native.Nat.{ℕ, ◌+◌, ◌*◌, ◌/◌, ◌%◌, ◌^◌, ◌<◌, ◌≤◌}
use native.Mathlib.Nat as Nat
use native.Mathlib.Omega.{arith}
use lib.IntN.{ℤ, pos, ◌*ℤ◌}
use lib.ListN.{length, get_or}
use Rattle.protocol.specs.declared.Settings.{Settings}
use Rattle.protocol.specs.Element.{Element, modulo, times, reduced, signed_at, residue_at}
use Rattle.protocol.specs.Settings.{settings_refusal, cells}
use Rattle.protocol.specs.Settings as settings
use Rattle.protocol.specs.Layout.{item_cells, key_cells}
use Rattle.protocol.specs.Opening.{inner, cross, half_left, round_element}
use Rattle.protocol.specs.Rows.{key_row}
use Rattle.protocol.specs.Calls.{round_refusal}
use Rattle.protocol.specs.Inputs.{Valid}
use Rattle.protocol.proofs.Inputs.{settings-valid}
use Rattle.protocol.proofs.Modulo.{reduced_at, modulo-lt, modulo_times}
use Rattle.residues.specs.Lists.{filled}
use Rattle.residues.proofs.Fill.{filled_at, filled_ext, filled-again}
use Rattle.prover_refusals.proofs.Given.{RoundGiven, first_row, round_given, round_key}
use Rattle.sizes.proofs.Limits.{degree_least}
use Rattle.product_sums.specs.Sums.{size_of, message_sums, key_sums, messages_of, keys_of, Given}
use Rattle.plain_products.specs.Rowwise.{row_places}
use Rattle.round_products.specs.Messages.{Halved}
use Rattle.round_products.specs.Sums.{Halvables, less_both, inner_of_sums}
use Rattle.round_products.specs.Items.{inner_item, ItemsGiven, round_item}
use Rattle.round_products.proofs.Products.{summable, first_halves, second_halves, cross_last}
use Rattle.round_products.proofs.Halves.{round-tables, halves-inside}
use Rattle.round_products.proofs.Mixing.{halves_summable, inner_mixed, spread, less_is}
use Rattle.round_products.proofs.Rowwise.{tail, row_long, keys_given, tails_given}

-- the numbers of an item of reduced elements
module _ (q d n : ℕ) (p : 0 < q) (pd : 0 < d) (F : ℕ → Element) where
  pub item_at : (k : ℕ) → row_places d (λ r. reduced q d (F r)) k ≡ modulo q (F (k / d) (k % d))
  item_at k = reduced_at q d (F (k / d)) (k % d) (Nat.mod-lt k pd)

  module _ (l s : List ℕ) (is : s ≡ filled (row_places d (λ r. reduced q d (F r))) n l) where
    pub written_at : (k : ℕ) → k < n → get_or s k 0 ≡ modulo q (F (k / d) (k % d))
    written_at k h = ap (λ x. get_or x k 0) is ∙ filled_at _ n l 0 k h ∙ item_at k

    pub written_below : (k : ℕ) → k < n → get_or s k 0 < q
    written_below k h = omega (arith, written_at k h, modulo-lt q p (F (k / d) (k % d)))

    pub written_halvable : q % 2 ≡ 1 → Halvables q n s
    written_halvable odd k h = record { odd = odd; residue = written_below k h }

    -- .. times a number
    times_at : (c k : ℕ) → k < n → c * get_or s k 0 % q ≡ row_places d (λ r. reduced q d (times (pos c) (F r))) k
    unfolding times
    times_at c k h =
        ap (λ x. c * x % q) (written_at k h)
        ∙ sym (modulo_times q p c (F (k / d) (k % d)))
        ∙ sym (reduced_at q d (λ j. pos c *ℤ F (k / d) j) (k % d) (Nat.mod-lt k pd))

    pub written-times : (c : ℕ) → filled (λ k. c * get_or s k 0 % q) n s ≡ filled (row_places d (λ r. reduced q d (times (pos c) (F r)))) n l
    written-times c = ap (filled _ n) is ∙ filled-again _ _ n l ∙ filled_ext _ _ n l (times_at c)

    -- .. copied to another table
    pub copied-times : (c : ℕ) (out : List ℕ) → filled (λ k. c * get_or s k 0 % q) n out ≡ filled (row_places d (λ r. reduced q d (times (pos c) (F r)))) n out
    copied-times c out = filled_ext _ _ n out (times_at c)

-- an item of other elements, with the same numbers
pub item_same : (q d n : ℕ) → 0 < d → (F F' : ℕ → Element) → ((k : ℕ) → k < n → modulo q (F (k / d) (k % d)) ≡ modulo q (F' (k / d) (k % d))) → (l : List ℕ)
    → filled (row_places d (λ r. reduced q d (F r))) n l ≡ filled (row_places d (λ r. reduced q d (F' r))) n l
item_same q d n pd F F' e l = filled_ext _ _ n l (λ k h. reduced_at q d (F (k / d)) (k % d) (Nat.mod-lt k pd) ∙ e k h ∙ sym (reduced_at q d (F' (k / d)) (k % d) (Nat.mod-lt k pd)))

-- ---- a round

module _ (S : Settings) (t : ℕ) (key : List ℕ) (message : List ℤ) (z : round_refusal S t key message ≡ 0) where
  open S use {degree as d, modulus as q, rows as rows}

  abbrev h : ℕ
  h = half_left S t

  abbrev s : ℕ
  s = settings.half S ^ (t + 1)

  pub allowed : settings_refusal S ≡ 0
  allowed = (round_key S key message t z).0

  long : length key ≡ key_cells S
  long = (round_key S key message t z).1

  ok : Valid S
  ok = settings-valid S allowed

  pub pq : 0 < q
  pq = omega (arith, ok.modulus_least)

  pub pd : 0 < d
  pd = omega (arith, degree_least S ok)

  given : (r : ℕ) → r < rows → RoundGiven S t (key_row S key r) message
  given = round_given S key message t z

  tables : (r : ℕ) → r < rows → Halved q d h message (key_row S key r)
  tables r l = round-tables S t (key_row S key r) message (given r l)

  pub turn : t < S.depth
  turn = (given 0 (first_row S allowed)).turn

  inside : 2 * (h * d) ≤ cells S
  inside = halves-inside S ok t turn

  pub half-inside : (h * d ≤ length message) × (h * d ≤ length key)
  half-inside = (omega (arith, inside, (given 0 (first_row S allowed)).tables.message_long), omega (arith, inside, row_long S key 0 long (first_row S allowed)))

  pub first_given : ItemsGiven false S h message key (key_row S key)
  unfolding size_of Given
  first_given = keys_given S key allowed long false h message (omega (arith, inside)) (λ r l. summable q d h message (key_row S key r)
      (first_halves q d h message (key_row S key r) (tables r l).tables))

  pub second_given : ItemsGiven false S h (tail (h * d) message) (tail (h * d) key) (λ r. tail (h * d) (key_row S key r))
  unfolding size_of Given
  second_given = tails_given S key allowed long false h (tail (h * d) message) (h * d) (omega (arith, inside))
      (λ r l. summable q d h _ _ (second_halves q d h message (key_row S key r) (tables r l).tables))

  pub sum_given : ItemsGiven true S h message key (key_row S key)
  unfolding size_of Given
  sum_given = keys_given S key allowed long true h message inside (λ r l. halves_summable q d h message (key_row S key r) (tables r l))

  -- the row of a place
  row : (k : ℕ) → k < item_cells S → k / d < rows
  row k l = (Nat.div-lt_iff_lt-mul pd).1 l

  module _ (l : List ℕ) where
    pub first-item : filled (row_places d (inner_item false S h s message (key_row S key))) (item_cells S) l ≡ filled (row_places d (round_item S t key message 0)) (item_cells S) l
    unfolding round_element cross messages_of keys_of
    first-item = λ i. filled (row_places d (inner_item false S h s message (key_row S key))) (item_cells S) l

    pub last_item : filled (row_places d (inner_item false S h s (tail (h * d) message) (λ r. tail (h * d) (key_row S key r)))) (item_cells S) l ≡ filled (row_places d (round_item S t key message 2))
        (item_cells S) l
    unfolding round_element messages_of keys_of times
    last_item = item_same q d (item_cells S) pd (λ r. times (pos s) (inner d h (signed_at d (tail (h * d) message)) (residue_at d (tail (h * d) (key_row S key r)))))
        (λ r. times (pos s) (cross d h (signed_at d message) (residue_at d (key_row S key r)) 2))
        (λ k m. ap (λ v. modulo q (pos s *ℤ v)) (cross_last q d h message (key_row S key (k / d)) (tables (k / d) (row k m)).tables (k % d))) l

    pub sum-item : filled (row_places d (inner_item true S h s message (key_row S key))) (item_cells S) l
        ≡ filled (row_places d (λ r. reduced q d (times (pos s) (inner_of_sums d h (signed_at d message) (residue_at d (key_row S key r)))))) (item_cells S) l
    unfolding messages_of keys_of times
    sum-item = item_same q d (item_cells S) pd (λ r. times (pos s) (inner d h (message_sums d h message) (key_sums q d h (key_row S key r))))
        (λ r. times (pos s) (inner_of_sums d h (signed_at d message) (residue_at d (key_row S key r)))) (λ k m.
        modulo_times q pq s _ ∙ ap (λ x. s * x % q) (inner_mixed q d h message (key_row S key (k / d)) (tables (k / d) (row k m)) (k % d) (Nat.mod-lt k pd)) ∙ sym (modulo_times q pq s _)) l

  -- c1, where x is the item of the sums
  module _ (x a b l0 l1 l2 : List ℕ)
      (x-is : x ≡ filled (row_places d (λ r. reduced q d (times (pos s) (inner_of_sums d h (signed_at d message) (residue_at d (key_row S key r)))))) (item_cells S) l1)
      (a-is : a ≡ filled (row_places d (round_item S t key message 0)) (item_cells S) l0) (b-is : b ≡ filled (row_places d (round_item S t key message 2)) (item_cells S) l2) where
    element-at : (j : ℕ) (l c : List ℕ) → c ≡ filled (row_places d (round_item S t key message j)) (item_cells S) l → (k : ℕ) → k < item_cells S
        → get_or c k 0 ≡ modulo q (pos s *ℤ cross d h (signed_at d message) (residue_at d (key_row S key (k / d))) j (k % d))
    unfolding round_element times
    element-at j l c e = written_at q d (item_cells S) pq pd (λ r. times (pos s) (cross d h (signed_at d message) (residue_at d (key_row S key r)) j)) l c e

    sum_at : (k : ℕ) → k < item_cells S → get_or x k 0 ≡ modulo q (pos s *ℤ inner_of_sums d h (signed_at d message) (residue_at d (key_row S key (k / d))) (k % d))
    unfolding times
    sum_at = written_at q d (item_cells S) pq pd (λ r. times (pos s) (inner_of_sums d h (signed_at d message) (residue_at d (key_row S key r)))) l1 x x-is

    pub three-below : (k : ℕ) → k < item_cells S → (get_or x k 0 < q) × (get_or a k 0 < q) × (get_or b k 0 < q)
    three-below k m = (
      omega (arith, sum_at k m, modulo-lt q pq (pos s *ℤ inner_of_sums d h (signed_at d message) (residue_at d (key_row S key (k / d))) (k % d))),
      omega (arith, element-at 0 l0 a a-is k m, modulo-lt q pq (pos s *ℤ cross d h (signed_at d message) (residue_at d (key_row S key (k / d))) 0 (k % d))),
      omega (arith, element-at 2 l2 b b-is k m, modulo-lt q pq (pos s *ℤ cross d h (signed_at d message) (residue_at d (key_row S key (k / d))) 2 (k % d))),
    )

    pub middle-item : (n : ℕ) → n ≡ item_cells S → filled (λ k. less_both q (get_or x k 0) (get_or a k 0) (get_or b k 0)) n x ≡ filled (row_places d (round_item S t key message 1)) (item_cells S) l1
    unfolding round_element times
    middle-item n e =
        (λ i. filled (λ k. less_both q (get_or x k 0) (get_or a k 0) (get_or b k 0)) (e i) (x-is i))
        ∙ filled-again _ _ (item_cells S) l1
        ∙ filled_ext _ _ (item_cells S) l1 (λ k m.
        let M = signed_at d message in
        let G = residue_at d (key_row S key (k / d)) in
        let part : ℕ → ℕ = λ j. modulo q (pos s *ℤ cross d h M G j (k % d)) in
        (λ i. less_both q ((sum_at k m ∙ spread q d h s pq pd M G (k % d) (Nat.mod-lt k pd)) i) (element-at 0 l0 a a-is k m i) (element-at 2 l2 b b-is k m i))
        ∙ less_is q (part 0) (part 1) (part 2) (modulo-lt q pq _) (modulo-lt q pq _) (modulo-lt q pq _)
        ∙ sym (reduced_at q d (λ j. pos s *ℤ cross d h M G 1 j) (k % d) (Nat.mod-lt k pd)))
