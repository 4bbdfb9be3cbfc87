-- What an opening begins with: the commitment in two parts, the first of which gives c0 of round 1 on the way.
use mathlib.Core.Path.{◌≡◌, sym, ap, ◌∙◌, subst}
use mathlib.Core.Bool.{false}
use mathlib.Core.List.{List}
use Prim.Native.Nat.{ℕ, ◌+◌, ◌*◌, ◌-◌, ◌/◌, ◌%◌, ◌^◌, ◌<◌, ◌≤◌}
use native.Mathlib.Nat as Nat
use native.Mathlib.Omega.{arith}
use lib.IntN.{ℤ, pos, nat_abs, ◌+ℤ◌}
use lib.ListN.{length, get_or, take, drop}
use Rattle.protocol.specs.declared.Settings.{Settings}
use Rattle.protocol.specs.Basic.{sum}
use Rattle.protocol.specs.Element.{Element, modulo, product, times, reduced, signed_at, residue_at}
use Rattle.protocol.specs.Settings.{settings_refusal, size, cells, half}
use Rattle.protocol.specs.Layout.{left, item_cells, key_cells}
use Rattle.protocol.specs.Opening.{inner, cross, half_left, commitment, round_element}
use Rattle.protocol.specs.Rows.{key_row}
use Rattle.protocol.specs.Calls.{commit_refusal}
use Rattle.protocol.proofs.Inputs.{settings-valid}
use Rattle.protocol.proofs.SumLaws.{sum-split}
use Rattle.protocol.proofs.Modulo.{reduced_at, modulo_add}
use Rattle.protocol.proofs.Rows.{key_row-length}
use Rattle.residues.specs.Lists.{filled}
use Rattle.residues.specs.Residues.{Residues}
use Rattle.residues.proofs.Fill.{filled_ext, filled-again}
use Rattle.residues.proofs.Parts.{tail_at, tail-length}
use Rattle.prover_refusals.proofs.Given.{first_row, commit_given, commit_key}
use Rattle.sizes.proofs.Limits.{degree_least}
use Rattle.product_sums.specs.Sums.{size_of, messages_of, keys_of, Given, RowsGiven}
use Rattle.plain_products.specs.Sums.{inner_element}
use Rattle.plain_products.specs.Rowwise.{row_places}
use Rattle.plain_products.proofs.Rows.{inner_same}
use Rattle.round_products.specs.Messages.{Tables}
use Rattle.round_products.specs.Sums.{Halvables}
use Rattle.round_products.proofs.Products.{summable, left_whole, commit-tables}
use Rattle.round_products.proofs.Rowwise.{tail, row_long, keys_given, tails_given}
use Rattle.round_products.proofs.Itemwise.{written_at, written_below, written_halvable, copied-times}
use Rattle.opening_rounds.specs.Rounds.{sum_at, round_item, commitment_item}

-- ---- an inner product in two parts

module _ (q d n h : ℕ) (m : List ℤ) (G : List ℕ) (t : Tables q d n m G) (part : h ≤ n) where
  -- the second parts, as the code hands them on
  abbrev m1 : List ℤ
  m1 = take (length m - h * d) (drop (h * d) m)

  abbrev G1 : List ℕ
  G1 = take (length G - h * d) (drop (h * d) G)

  split : n * d ≡ h * d + (n - h) * d
  split = ap (λ x. x * d) {x = n} {y = h + (n - h)} (omega arith) ∙ Nat.add-mul h (n - h) d

  pub first_part : Tables q d h m G
  first_part = record {
    modulus = t.modulus;
    modulus_odd = t.modulus_odd;
    modulus_most_holds = t.modulus_most_holds;
    degree = t.degree;
    degree_most = t.degree_most;
    elements = omega (arith, t.elements);
    message_long = omega (arith, t.message_long, split);
    key_long = omega (arith, t.key_long, split);
    message_small = λ j l. t.message_small j (omega (arith, split));
    key_residues = λ j l. t.key_residues j (omega (arith, split));
  }

  pub second_part : Tables q d (n - h) m1 G1
  second_part = record {
    modulus = t.modulus;
    modulus_odd = t.modulus_odd;
    modulus_most_holds = t.modulus_most_holds;
    degree = t.degree;
    degree_most = t.degree_most;
    elements = omega (arith, t.elements);
    message_long = omega (arith, tail-length (h * d) m, t.message_long, split);
    key_long = omega (arith, tail-length (h * d) G, t.key_long, split);
    message_small = λ j l. subst (λ z. nat_abs z ≤ 2 ^ 15) (sym (tail_at (h * d) m j (pos 0))) (t.message_small (h * d + j) (omega (arith, split)));
    key_residues = λ j l. subst (λ z. z < q) (sym (tail_at (h * d) G j 0)) (t.key_residues (h * d + j) (omega (arith, split)));
  }

  second_message : (i j : ℕ) → signed_at d m1 i j ≡ signed_at d m (h + i) j
  unfolding signed_at
  second_message i j = tail_at (h * d) m (i * d + j) (pos 0) ∙ ap (λ x. get_or m x (pos 0)) {x = h * d + (i * d + j)} {y = (h + i) * d + j} (omega (arith, Nat.add-mul h i d))

  second_key : (i j : ℕ) → residue_at d G1 i j ≡ residue_at d G (h + i) j
  unfolding residue_at
  second_key i j = ap pos (tail_at (h * d) G (i * d + j) 0 ∙ ap (λ x. get_or G x 0) {x = h * d + (i * d + j)} {y = (h + i) * d + j} (omega (arith, Nat.add-mul h i d)))

  inner_cut : (u v : ℕ → Element) (k : ℕ) → inner d h u v k +ℤ inner d (n - h) (λ i. u (h + i)) (λ i. v (h + i)) k ≡ inner d n u v k
  unfolding inner
  inner_cut u v k =
      sym (sum-split h (n - h) (λ i. product d (u i) (v i) k))
      ∙ ap (λ x. sum x (λ i. product d (u i) (v i) k)) {x = h + (n - h)} {y = n} (omega arith)

  pub inner-parts : (k : ℕ) → inner d h (signed_at d m) (residue_at d G) k +ℤ inner d (n - h) (signed_at d m1) (residue_at d G1) k ≡ inner d n (signed_at d m) (residue_at d G) k
  inner-parts k =
      ap (λ z. inner d h (signed_at d m) (residue_at d G) k +ℤ z)
      (inner_same d (n - h) t.degree {m = signed_at d m1} {m' = λ i. signed_at d m (h + i)} {G = residue_at d G1} {G' = λ i. residue_at d G (h + i)}
      (λ i _ j _. second_message i j) (λ i _ j _. second_key i j) k)
      ∙ inner_cut (signed_at d m) (residue_at d G) k

-- ---- c0 of a round, and the commitment

half-whole : (S : Settings) → left S 0 / 2 ≡ half_left S 0
unfolding left half_left
half-whole S = ap (λ n. n / 2) (Nat.div-one (size S))

-- the items that an opening begins with: n elements, the first h of them apart
module _ (S : Settings) (key : List ℕ) (message : List ℤ) (z : commit_refusal S key message ≡ 0) (n : ℕ) (n-is : n ≡ left S 0) where
  open S use {degree as d, modulus as q, rows as rows}

  abbrev h : ℕ
  h = n / 2

  allowed : settings_refusal S ≡ 0
  allowed = (commit_key S key message z).0

  long : length key ≡ key_cells S
  long = (commit_key S key message z).1

  tables : (r : ℕ) → r < rows → Tables q d n message (key_row S key r)
  tables r l = subst (λ m. Tables q d m message (key_row S key r)) (sym n-is) (commit-tables S (key_row S key r) message (commit_given S key message z r l))

  first_tables : Tables q d n message (key_row S key 0)
  first_tables = tables 0 (first_row S allowed)

  parts : n * d ≡ h * d + (n - h) * d
  parts = ap (λ x. x * d) {x = n} {y = h + (n - h)} (omega arith) ∙ Nat.add-mul h (n - h) d

  whole : n * d ≤ cells S
  whole = omega (arith, first_tables.key_long, key_row-length S key 0)

  pub half-inside : (h * d ≤ length message) × (h * d ≤ length key)
  half-inside = (omega (arith, parts, first_tables.message_long), omega (arith, parts, whole, row_long S key 0 long (first_row S allowed)))

  pub first_rows : (m : ℕ) → m ≡ cells S → RowsGiven false q d h rows m message key (key_row S key)
  unfolding size_of Given
  first_rows m e = subst (λ m. RowsGiven false q d h rows m message key (key_row S key)) (sym e)
      (keys_given S key allowed long false h message (omega (arith, parts, whole)) (λ r l. summable _ _ _ _ _ (first_part q d n h message (key_row S key r) (tables r l) (omega arith)))).rows

  pub second_rows : (m : ℕ) → m ≡ cells S → RowsGiven false q d (n - h) rows m (tail (h * d) message) (tail (h * d) key) (λ r. tail (h * d) (key_row S key r))
  unfolding size_of Given
  second_rows m e = subst (λ m. RowsGiven false q d (n - h) rows m (tail (h * d) message) (tail (h * d) key) (λ r. tail (h * d) (key_row S key r))) (sym e)
      (tails_given S key allowed long false (n - h) (tail (h * d) message) (h * d) (omega (arith, parts, whole))
      (λ r l. summable _ _ _ _ _ (second_part q d n h message (key_row S key r) (tables r l) (omega arith)))).rows

  pq : 0 < q
  pq = first_tables.modulus

  pd : 0 < d
  pd = first_tables.degree

  abbrev one : ℕ → Element
  one r = inner d h (signed_at d message) (residue_at d (key_row S key r))

  abbrev two : ℕ → Element
  two r = inner d (n - h) (signed_at d (tail (h * d) message)) (residue_at d (tail (h * d) (key_row S key r)))

  module _ (C C1 : List ℕ) (is1 : C1 ≡ filled (row_places d (λ r. inner_element false q d h message (key_row S key r))) (item_cells S) C) where
    table1 : C1 ≡ filled (row_places d (λ r. reduced q d (one r))) (item_cells S) C
    unfolding messages_of keys_of
    table1 = is1

    pub first_halvable : Halvables q (item_cells S) C1
    first_halvable = written_halvable q d (item_cells S) pq pd one C C1 table1 first_tables.modulus_odd

    pub first_begun : (out : List ℕ) → filled (λ k. half S ^ 1 * get_or C1 k 0 % q) (item_cells S) out ≡ filled (row_places d (round_item S 0 key message 0)) (item_cells S) out
    unfolding round_element cross
    first_begun out = copied-times q d (item_cells S) pq pd one C C1 table1 (half S ^ 1) out
        ∙ ap (λ i. filled (row_places d (λ r. reduced q d (times (pos (half S ^ 1)) (inner d i (signed_at d message) (residue_at d (key_row S key r)))))) (item_cells S) out)
        (ap (λ i. i / 2) n-is ∙ half-whole S)

    module _ (Z C2 : List ℕ) (is2 : C2 ≡ filled (row_places d (λ r. inner_element false q d (n - h) (tail (h * d) message) (tail (h * d) (key_row S key r)))) (item_cells S) Z)
        (long1 : item_cells S ≤ length C1) (long2 : item_cells S ≤ length C2) where
      table2 : C2 ≡ filled (row_places d (λ r. reduced q d (two r))) (item_cells S) Z
      unfolding messages_of keys_of
      table2 = is2

      pub both_residues : Residues q (item_cells S) 0 C1 × Residues q (item_cells S) 0 C2
      both_residues = (
        record { long = omega arith; each = λ k l. omega (arith, ap (λ j. get_or C1 j 0) (Nat.zero-add k), written_below q d (item_cells S) pq pd one C C1 table1 k l) },
        record { long = omega arith; each = λ k l. omega (arith, ap (λ j. get_or C2 j 0) (Nat.zero-add k), written_below q d (item_cells S) pq pd two Z C2 table2 k l) },
      )

      pub commitment_begun : filled (sum_at q C1 C2) (item_cells S) C1 ≡ filled (row_places d (commitment_item S key message)) (item_cells S) C
      unfolding commitment
      commitment_begun =
          ap (filled (sum_at q C1 C2) (item_cells S)) table1
          ∙ filled-again _ _ (item_cells S) C
          ∙ filled_ext _ _ (item_cells S) C (λ k l.
          let r = k / d in
          let j = k % d in
          (λ i. (written_at q d (item_cells S) pq pd one C C1 table1 k l i + written_at q d (item_cells S) pq pd two Z C2 table2 k l i) % q)
          ∙ sym (modulo_add q pq (one r j) (two r j))
          ∙ ap (modulo q) (inner-parts q d n h message (key_row S key r) (tables r ((Nat.div-lt_iff_lt-mul pd).1 l)) (omega arith) j)
          ∙ ap (λ i. modulo q (inner d i (signed_at d message) (residue_at d (key_row S key r)) j)) (n-is ∙ left_whole S)
          ∙ sym (reduced_at q d (inner d (size S) (signed_at d message) (residue_at d (key_row S key r))) j (Nat.mod-lt k pd)))

-- an item has numbers
pub item-some : (S : Settings) → settings_refusal S ≡ 0 → 0 < item_cells S
item-some S ok = omega (arith, Nat.mul-le-mul {n₁ = 1} {m₁ = 1} {n₂ = S.rows} {m₂ = S.degree} (first_row S ok) (omega (arith, degree_least S (settings-valid S ok))))
