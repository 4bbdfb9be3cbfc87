-- The elements of the rounds of a whole opening, from the inner products and the claim that the code works with.
use mathlib.Core.Path.{◌≡◌, sym, ap, ◌∙◌}
use mathlib.Core.List.{List}
use Prim.Native.Nat.{ℕ, ◌+◌, ◌*◌, ◌-◌, ◌/◌, ◌%◌, ◌^◌, ◌<◌}
use native.Mathlib.Nat as Nat
use native.Mathlib.Omega.{arith}
use lib.IntN.{ℤ, pos, ◌*ℤ◌}
use lib.ListN.{length, get_or}
use Rattle.protocol.specs.declared.Settings.{Settings}
use Rattle.protocol.specs.Element.{Element, modulo, times, signed_at, residue_at}
use Rattle.protocol.specs.Settings.{half}
use Rattle.protocol.specs.Layout.{item_cells}
use Rattle.protocol.specs.Opening.{cross, half_left, round_element}
use Rattle.protocol.specs.Rows.{key_row}
use Rattle.protocol.specs.Inputs.{Valid}
use Rattle.protocol.proofs.Inputs.{settings-valid}
use Rattle.protocol.proofs.Modulo.{reduced_at}
use Rattle.protocol.proofs.Ranges.{round-below}
use Rattle.residues.specs.Lists.{spliced}
use Rattle.residues.specs.Residues.{Residues}
use Rattle.residues.proofs.Parts.{same_long}
use Rattle.residues.proofs.Splice.{spliced_ext, spliced-over, spliced-before, spliced-inside}
use Rattle.prover_refusals.proofs.Given.{RoundGiven, round_given, round_key}
use Rattle.sizes.proofs.Limits.{degree_least}
use Rattle.plain_products.specs.Rowwise.{row_places}
use Rattle.round_products.specs.Messages.{Halved}
use Rattle.round_products.specs.Sums.{Halvables}
use Rattle.round_products.proofs.Halves.{round-tables}
use Rattle.round_products.proofs.Mixing.{spread}
use Rattle.opening_rounds.specs.Rounds.{half_of, middle_at, last_at, sum_element, round_item, sum_item, Continuing}
use Rattle.opening_rounds.proofs.Claimed.{claim_halvable, last_is, middle_is}

module _ (S : Settings) (t : ℕ) (key : List ℕ) (message : List ℤ) where
  open S use {degree as d, modulus as q}

  element-at : (j k : ℕ) → k < d → get_or (round_element S t key message j) k 0 ≡ modulo q (pos (half S ^ (t + 1)) *ℤ cross d (half_left S t) (signed_at d message) (residue_at d key) j k)
  unfolding round_element times
  element-at j k l = reduced_at q d _ k l

  -- ---- the sum of the three, as one inner product

  module _ (given : RoundGiven S t key message) where
    pq : 0 < q
    pq = omega (arith, given.tables.settings.modulus_least)

    halves : Halved q d (half_left S t) message key
    halves = round-tables S t key message given

    abbrev c : ℕ → ℕ → ℕ
    c j k = get_or (round_element S t key message j) k 0

    element-below : (j k : ℕ) → k < d → c j k < q
    element-below j k l = (round-below S pq t key message j).each k l

    sum_at_lem : (k : ℕ) → k < d → get_or (sum_element S t key message) k 0 ≡ ((c 0 k + c 1 k) % q + c 2 k) % q
    unfolding sum_element times
    sum_at_lem k l =
        let n : ℕ = half S ^ (t + 1) in
        let m : ℕ → Element = signed_at d message in
        let G : ℕ → Element = residue_at d key in
        let one : (j : ℕ) → modulo q (pos n *ℤ cross d (half_left S t) m G j k) ≡ c j k = λ j. sym (element-at j k l) in
        reduced_at q d _ k l
        ∙ spread q d (half_left S t) n pq halves.tables.degree m G k l
        ∙ λ i. ((one 0 i + one 1 i) % q + one 2 i) % q

-- ---- c1 and c2 in every row, n being the numbers of an item

module _ (S : Settings) (t : ℕ) (key : List ℕ) (message : List ℤ) (claim p : List ℕ) (g : Continuing S t key message claim p) (n : ℕ) (n-is : n ≡ item_cells S) where
  open S use {degree as d, modulus as q, rows as rows}

  ok : Valid S
  ok = settings-valid S (round_key S key message t g.passed).0

  pd : 0 < d
  pd = omega (arith, degree_least S ok)

  -- the row of a place, and its place there
  row : (k : ℕ) → k < n → k / d < rows
  row k l = (Nat.div-lt_iff_lt-mul pd).1 (omega (arith, n-is))

  place : (k : ℕ) → k % d < d
  place k = Nat.mod-lt k pd

  at_row : (k : ℕ) → k < n → RoundGiven S t (key_row S key (k / d)) message
  at_row k l = round_given S key message t g.passed (k / d) (row k l)

  abbrev item : ℕ → ℕ → ℕ
  item j = row_places d (round_item S t key message j)

  abbrev sums : ℕ → ℕ
  sums = row_places d (sum_item S t key message)

  item-below : (j k : ℕ) → k < n → item j k < q
  item-below j k l = element-below S t (key_row S key (k / d)) message (at_row k l) j (k % d) (place k)

  sums_at : (k : ℕ) → k < n → sums k ≡ ((item 0 k + item 1 k) % q + item 2 k) % q
  sums_at k l = sum_at_lem S t (key_row S key (k / d)) message (at_row k l) (k % d) (place k)

  claimed : (k : ℕ) → k < n → get_or claim k 0 ≡ 2 * (item 0 k + item 2 k) % q
  claimed k l = g.claimed k (omega (arith, n-is))

  pub claim-halves : Halvables q n claim
  claim-halves k l = claim_halvable q ok.modulus_odd (item 0 k) (item 2 k) (get_or claim k 0) (item-below 0 k l) (item-below 2 k l) (claimed k l)

  -- the sums stand in the place of c1
  module _ (p1 : List ℕ) (is1 : p1 ≡ spliced sums n n p) where
    p1_long : length p1 ≡ length p
    p1_long = same_long sums n n p p1 (omega (arith, n-is, g.room)) is1

    p1_at : (k : ℕ) → k < n → get_or p1 (n + k) 0 ≡ ((item 0 k + item 1 k) % q + item 2 k) % q
    p1_at k l = ap (λ z. get_or z (n + k) 0) is1 ∙ spliced-inside sums n n p (omega (arith, n-is, g.room)) k l ∙ sums_at k l

    pub sum-residues : Residues q n n p1
    sum-residues = record {
      long = omega (arith, p1_long, n-is, g.room);
      each = λ k l. omega (arith, p1_at k l, Nat.mod-lt ((item 0 k + item 1 k) % q + item 2 k) {m = q} (omega (arith, ok.modulus_least)));
    }

    middle : (k : ℕ) → k < n → middle_at q n claim p1 k ≡ item 1 k
    middle k l = middle_is q ok.modulus_odd (item 0 k) (item 2 k) (get_or claim k 0) (item-below 0 k l) (item-below 2 k l) (claimed k l) (item 1 k) (get_or p1 (n + k) 0) (item-below 1 k l) (p1_at k l)

    -- c1 stands there
    module _ (p2 : List ℕ) (is2 : p2 ≡ spliced (middle_at q n claim p1) n n p1) where
      p2_is : p2 ≡ spliced (item 1) n n p
      p2_is =
          is2
          ∙ ap (spliced (middle_at q n claim p1) n n) is1
          ∙ spliced-over sums (middle_at q n claim p1) n n p (omega (arith, n-is, g.room))
          ∙ spliced_ext (middle_at q n claim p1) (item 1) n n p middle

      front_at : (k : ℕ) → k < n → get_or p2 k 0 ≡ item 0 k
      front_at k l = ap (λ z. get_or z k 0) p2_is ∙ spliced-before (item 1) n n p (omega (arith, n-is, g.room)) k l ∙ g.first k (omega (arith, n-is))

      pub front-residues : Residues q n 0 p2
      front-residues = record {
        long = omega (arith, same_long (item 1) n n p p2 (omega (arith, n-is, g.room)) p2_is, n-is, g.room);
        each = λ k l. omega (arith, ap (λ j. get_or p2 j 0) (Nat.zero-add k), front_at k l, item-below 0 k l);
      }

      last : (k : ℕ) → k < n → last_at q claim p2 k ≡ item 2 k
      last k l =
          ap (λ z. (half_of q (get_or claim k 0) + (q - z)) % q) (front_at k l)
          ∙ last_is q ok.modulus_odd (item 0 k) (item 2 k) (get_or claim k 0) (item-below 0 k l) (item-below 2 k l) (claimed k l)

      pub rest-is : (p3 : List ℕ) → p3 ≡ spliced (last_at q claim p2) (2 * n) n p2 → p3 ≡ spliced (item 2) (2 * item_cells S) (item_cells S) (spliced (item 1) (item_cells S) (item_cells S) p)
      rest-is p3 is3 =
          is3
          ∙ spliced_ext (last_at q claim p2) (item 2) (2 * n) n p2 last
          ∙ ap (spliced (item 2) (2 * n) n) p2_is
          ∙ λ i. spliced (item 2) (2 * n-is i) (n-is i) (spliced (item 1) (n-is i) (n-is i) p)
