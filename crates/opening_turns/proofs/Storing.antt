-- The table of the round elements, one round after the other: the front of what it will be, and the rest of what was lent.
use mathlib.Core.Path.{◌≡◌, sym, ap, ◌∙◌, subst}
use mathlib.Core.List.{List, ◌++◌, append_assoc, append-nil}
use Prim.Native.Nat.{ℕ, suc, ◌+◌, ◌*◌, ◌-◌, ◌/◌, ◌%◌, ◌<◌, ◌≤◌}
use borrow.Rule.Slice.PartMut.{put_mid}
use native.Mathlib.Nat as Nat
use native.Mathlib.Decide.{dec_lt}
use native.Mathlib.Omega.{arith}
use lib.IntN.{ℤ}
use lib.ListN.{length, get_or, take, drop, length-append, length-drop, get_or-append}
use lib.Seq.{length-take-le, take_at, drop_at, take-add, drop-drop, get_or-drop, get_or-take, ext_get_or, take_all}
use Rattle.protocol.specs.declared.Settings.{Settings}
use Rattle.protocol.specs.Basic.{tabulate}
use Rattle.protocol.specs.Layout.{item_cells, polynomial_at, round_cells}
use Rattle.protocol.specs.Calls.{round_refusal}
use Rattle.prover_refusals.proofs.Given.{first_row, round_given, round_key}
use Rattle.protocol.specs.Settings.{settings_refusal}
use Rattle.protocol.specs.Inputs.{Valid, Below}
use Rattle.protocol.specs.Opening.{round_element, round_table, message_after}
use Rattle.protocol.specs.Rows.{key_row, keys_after, round_tables}
use Rattle.protocol.proofs.Inputs.{settings-valid}
use Rattle.protocol.proofs.Reading.{tabulate_at, tabulate_length, cell-inside}
use Rattle.protocol.proofs.OpeningLaws.{round_at}
use Rattle.protocol.proofs.Rows.{interleaved_at, keys_row}
use Rattle.claims.proofs.RowLaws.{tables-below}
use Rattle.sizes.proofs.Limits.{degree_least}
use Rattle.residues.specs.Lists.{spliced}
use Rattle.residues.proofs.Parts.{tail_all}
use Rattle.plain_products.specs.Rowwise.{row_places}
use Rattle.plain_products.proofs.Rowwise.{empty, put-tail}
use Rattle.opening_rounds.specs.Rounds.{round_item}
use Rattle.opening_turns.specs.Turns.{rest_stored}

-- where round t + 1 stands in it
pub place : (S : Settings) (t : ℕ) (key : List ℕ) (message : List ℤ) → round_refusal S t key message ≡ 0 → (at : ℕ)
    → (settings_refusal S ≡ 0 → t ≤ 3280 → at ≡ polynomial_at S t) → at ≡ polynomial_at S t
place S t key message z at is =
    let ok = (round_key S key message t z).0 in
    let g = round_given S key message t z 0 (first_row S ok) in
    is ok (omega (arith, g.turn, g.tables.settings.depth_most))

-- ---- what a callee wrote into a table from place `at` on, handed back

tail-spliced : (f : ℕ → ℕ) (a n at : ℕ) (l : List ℕ) → take at l ++ spliced f a n (drop at l) ≡ spliced f (at + a) n l
unfolding spliced
tail-spliced f a n at l =
    sym (append_assoc (take at l) (take a (drop at l)) (tabulate n f ++ drop n (drop a (drop at l))))
    ∙ λ i. sym (take-add at a l) i ++ (tabulate n f ++ drop n (drop-drop a at l i))

pub put_rest : (f g : ℕ → ℕ) (at d : ℕ) (l last : List ℕ) → at ≤ length l → last ≡ spliced g (2 * d) d (spliced f d d (take (length l - at) (drop at l)))
    → put_mid at (length l - at) l last ≡ spliced g (at + 2 * d) d (spliced f (at + d) d l)
put_rest f g at d l last h e =
    let m : List ℕ = spliced f d d (drop at l) in
    let long : length (take at l) ≡ at = length-take-le at l h in
    put-tail at l last
    ∙ ap (λ x. take at l ++ x) (e ∙ ap (λ x. spliced g (2 * d) d (spliced f d d x)) (tail_all at l))
    ∙ (λ i. sym (take_at (take at l) m at long) i ++ spliced g (2 * d) d (sym (drop_at (take at l) m at long) i))
    ∙ tail-spliced g (2 * d) d at (take at l ++ m)
    ∙ ap (spliced g (at + 2 * d) d) (tail-spliced f d d at l)

-- the first n numbers of X, then what R has from there on
abbrev pub front : List ℕ → List ℕ → ℕ → List ℕ
front X R n = take n X ++ drop n R

module _ (X R : List ℕ) (n m : ℕ) (inside : n + m ≤ length X) (f : ℕ → ℕ) (same : (k : ℕ) → k < m → f k ≡ get_or X (n + k) 0) where
  head_long : length (take n X) ≡ n
  head_long = length-take-le n X (omega arith)

  written : tabulate m f ≡ take m (drop n X)
  written = ext_get_or 0 (tabulate m f) (take m (drop n X)) (tabulate_length m f ∙ sym (length-take-le m (drop n X) (omega (arith, length-drop n X))))
      (λ k h. let l : k < m = omega (arith, tabulate_length m f) in tabulate_at m f 0 k l ∙ same k l ∙ sym (get_or-drop n X k 0) ∙ sym (get_or-take m (drop n X) k 0 l))

  -- m numbers more
  pub front_more : spliced f n m (front X R n) ≡ front X R (n + m)
  unfolding spliced
  front_more =
      (λ i. take_at (take n X) (drop n R) n head_long i ++ (written i ++ drop m (drop_at (take n X) (drop n R) n head_long i)))
      ∙ sym (append_assoc (take n X) (take m (drop n X)) (drop m (drop n R)))
      ∙ (λ i. sym (take-add n m X) i ++ drop-drop m n R i)

-- an item has numbers
pub item-positive : (S : Settings) → settings_refusal S ≡ 0 → 0 < item_cells S
item-positive S z = let ok = settings-valid S z in Nat.mul-pos (omega (arith, ok.rows_least)) (omega (arith, degree_least S ok))

-- the numbers of all rounds, as so many items
pub round_items : (S : Settings) → round_cells S ≡ 3 * S.depth * item_cells S
round_items S = ap (λ x. x * S.degree) (Nat.mul_comm S.rows (3 * S.depth)) ∙ Nat.mul_assoc (3 * S.depth) S.rows S.degree

-- place k of row r in item i
place_is : (S : Settings) (i r k : ℕ) → r * S.degree + (i * item_cells S + k) ≡ (S.rows * i + r) * S.degree + k
place_is S i r k = omega (arith, Nat.add-mul (S.rows * i) r S.degree, Nat.mul_assoc i S.rows S.degree, ap (λ x. x * S.degree) (Nat.mul_comm i S.rows))

module _ (S : Settings) (ok : Valid S) (G : List ℕ) (M : List ℤ) (E R : List ℕ) (lent : length R ≡ round_cells S) where
  open S use {degree as d, depth as L, rows as rows}

  abbrev n : ℕ
  n = item_cells S

  abbrev X : List ℕ
  X = round_tables S E G M

  pd : 0 < d
  pd = omega (arith, degree_least S ok)

  long : length R ≡ 3 * L * n
  long = lent ∙ round_items S

  below : Below S.modulus (round_cells S) X
  below = tables-below S (omega (arith, ok.modulus_least)) (omega (arith, ok.rows_least)) pd E G M

  X_long : length X ≡ 3 * L * n
  X_long = below.long ∙ round_items S

  pub front-none : R ≡ front X R (3 * 0 * n)
  front-none = ap (λ m. front X R m) {x = 0} (sym (Nat.zero-mul n))

  -- all of it
  pub front-past : (m : ℕ) → 3 * L * n ≤ m → front X R m ≡ X
  front-past m l = (λ i. take_all m X (omega (arith, X_long)) i ++ empty (drop m R) (length-drop m R ∙ omega (arith, long)) i) ∙ append-nil X

  -- however much of it stands there
  pub front_length : (m : ℕ) → length (front X R m) ≡ 3 * L * n
  front_length m = elim (dec_lt (3 * L * n) m) [
    | yes h ↦ ap length (front-past m (omega arith)) ∙ X_long
    | no h ↦ length-append (take m X) (drop m R) ∙ omega (arith, length-take-le m X (omega (arith, X_long)), length-drop m R, long)
  ]

  pub front_at : (m i : ℕ) → i < m → i < 3 * L * n → get_or (front X R m) i 0 ≡ get_or X i 0
  front_at m i l h = elim (dec_lt (3 * L * n) m) [
    | yes g ↦ ap (λ x. get_or x i 0) (front-past m (omega arith))
    | no g ↦ get_or-append (take m X) (drop m R) 0 i (omega (arith, length-take-le m X (omega (arith, X_long)))) ∙ get_or-take m X i 0 l
  ]

  -- place k of row r in item i of the rounds
  at_row : (i r k : ℕ) → i < 3 * L → r < rows → k < d → get_or X ((rows * i + r) * d + k) 0 ≡ get_or (round_table S E (key_row S G r) M) (i * d + k) 0
  unfolding round_tables
  at_row i r k hi hr hk = interleaved_at S (3 * L) (λ r. round_table S E (key_row S G r) M) r i k hr hi hk

  module _ (t : ℕ) (l : t < L) where
    abbrev c : ℕ → ℕ → List ℕ
    c j = round_item S t (keys_after S E t G) (message_after S E t M) j

    -- item c_j of round t + 1, as it stands in the table
    pub entry : (j p : ℕ) → j < 3 → p < n → row_places d (c j) p ≡ get_or X (3 * t * n + j * n + p) 0
    entry j p lj lp =
        let r = p / d in
        let k = p % d in
        let hr : r < rows = (Nat.div-lt_iff_lt-mul pd).1 lp in
        let hk : k < d = Nat.mod-lt p pd in
        ap (λ K. get_or (round_element S t K (message_after S E t M) j) k 0) (keys_row S E G t r hr)
        ∙ sym (round_at S E (key_row S G r) M t j k l lj hk)
        ∙ sym (at_row (3 * t + j) r k (omega arith) hr hk)
        ∙ ap (λ x. get_or X x 0) (sym (place_is S (3 * t + j) r k) ∙ omega (arith, Nat.add-mul (3 * t) j n, Nat.div-add-mod' p d))

    pub inside : 3 * t * n + 3 * n ≤ 3 * L * n
    inside = omega (arith, Nat.add-mul (3 * t) 3 n, Nat.mul-le-mul_right {m = 3 * t + 3} {n = 3 * L} n (omega arith))

    pub next : 3 * t * n + 3 * n ≡ 3 * suc t * n
    next = sym (Nat.add-mul (3 * t) 3 n) ∙ ap (λ m. m * n) (omega arith)

    pub front_first : spliced (row_places d (c 0)) (3 * t * n) n (front X R (3 * t * n)) ≡ front X R (3 * t * n + n)
    front_first = front_more X R (3 * t * n) n (omega (arith, inside, X_long)) (row_places d (c 0))
        (λ k h. entry 0 k (omega arith) h ∙ ap (λ m. get_or X m 0) {x = 3 * t * n + 0 * n + k} (omega (arith, Nat.zero-mul n)))

    pub front_rest : rest_stored S t (keys_after S E t G) (message_after S E t M) (front X R (3 * t * n + n)) ≡ front X R (3 * suc t * n)
    unfolding rest_stored
    front_rest =
        ap (λ r. spliced (row_places d (c 2)) (3 * t * n + 2 * n) n r)
        (front_more X R (3 * t * n + n) n (omega (arith, inside, X_long)) (row_places d (c 1))
        (λ k h. entry 1 k (omega arith) h ∙ ap (λ m. get_or X m 0) {x = 3 * t * n + 1 * n + k} (omega (arith, Nat.one-mul n))))
        ∙ ap (λ m. spliced (row_places d (c 2)) (3 * t * n + 2 * n) n (front X R m)) {x = 3 * t * n + n + n} {y = 3 * t * n + 2 * n} (omega arith)
        ∙ front_more X R (3 * t * n + 2 * n) n (omega (arith, inside, X_long)) (row_places d (c 2)) (λ k h. entry 2 k (omega arith) h)
        ∙ ap (λ m. front X R m) {x = 3 * t * n + 2 * n + n} {y = 3 * suc t * n} (omega (arith, next))

    -- an item of a row is read from the table once the items of its round stand there
    pub front-element : (m : ℕ) → 3 * suc t * n ≤ m → (j r k : ℕ) → j < 3 → r < rows → k < d
        → get_or (front X R m) (r * d + ((3 * t + j) * n + k)) 0 ≡ get_or (round_table S E (key_row S G r) M) ((3 * t + j) * d + k) 0
    front-element m h j r k lj lr lk =
        let place : r * d + ((3 * t + j) * n + k) < 3 * t * n + 3 * n =
        omega (arith, cell-inside d rows r k lr lk, Nat.add-mul (3 * t) j n, Nat.mul-le-mul_right {m = j} {n = 2} n (omega arith)) in
        front_at m (r * d + ((3 * t + j) * n + k)) (omega (arith, next, place)) (omega (arith, inside, place))
        ∙ ap (λ x. get_or X x 0) (place_is S (3 * t + j) r k)
        ∙ at_row (3 * t + j) r k (omega arith) lr lk

    -- so far there are residues
    pub front_below : (m : ℕ) → 3 * suc t * n ≤ m → (i : ℕ) → i < 3 * t * n + 3 * n → get_or (front X R m) i 0 < S.modulus
    front_below m h i li = subst (λ x. x < S.modulus) (sym (front_at m i (omega (arith, next)) (omega (arith, inside)))) (below.each i (omega (arith, inside, round_items S)))
