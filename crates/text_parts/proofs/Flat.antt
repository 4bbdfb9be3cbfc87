-- Values of tables that stand one table after the other.
--
--   start_next, start_most     where a table ends, and that it ends among the values
--   part_of_holds              a part of a list by its two ends
--   piece-joined, start-joined lists one after the other: the list at a place, and how long they are
--   values-lengths             the lengths of the tables are those of their values
use mathlib.Core.Path.{◌≡◌, refl, sym, ap, ◌∙◌}
use mathlib.Core.List.{List, [], ◌∷◌, ◌++◌, append_assoc, map, flat_map}
use Prim.Native.Nat.{ℕ, zero, suc, ◌+◌, ◌-◌, ◌<◌, ◌≤◌}
use native.Mathlib.Nat as Nat
use native.Mathlib.Omega.{arith}
use native.Mathlib.Numerals.{add-one}
use lib.ListN.{length, get_or, take, drop, length-append, length-map}
use lib.Seq.{take-append_seam, drop-append-add}
use lib.IntN.{ℤ}
use Rattle.text_format.specs.Text.{Tables, contents}
use Rattle.text_parts.specs.Parts.{table_count, lengths_of}
use Rattle.text_parts.specs.Flat.{start, total, piece, joined, table_values}

pub start_next : (n : List ℕ) (k : ℕ) → start n (k + 1) ≡ start n k + get_or n k 0
unfolding start
start_next n k = ap (start n) (add-one k)

start-rises : (n : List ℕ) (k m : ℕ) → start n k ≤ start n (k + m)
unfolding start
start-rises n k zero = omega (arith, ap (start n) (Nat.add-zero k))
start-rises n k (suc m) = omega (arith, start-rises n k m, ap (start n) (Nat.add-suc k m))

pub start_most : (n : List ℕ) (k : ℕ) → k < table_count → start n k + get_or n k 0 ≤ total n
unfolding total
start_most n k h =
    let whole : k + 1 + (table_count - (k + 1)) ≡ table_count = omega arith in
    omega (arith, start_next n k, start-rises n (k + 1) (table_count - (k + 1)), ap (start n) whole)

-- a part of a list by its two ends
pub part_of_holds : (vs : List ℤ) (a b n : ℕ) → b ≡ a + n → take (b - a) (drop a vs) ≡ take n (drop a vs)
part_of_holds vs a b n e = ap (λ k. take k (drop a vs)) {x = b - a} {y = n} (omega arith)

-- ---- lists one after the other

start-cons : (a : ℕ) (n : List ℕ) (k : ℕ) → start (a ∷ n) (suc k) ≡ a + start n k
unfolding start
start-cons a n zero = omega arith
start-cons a n (suc k) = ap (λ m. m + get_or n k 0) (start-cons a n k) ∙ Nat.add_assoc a (start n k) (get_or n k 0)

-- the list at place k stands where the lengths of those before it end
pub piece-joined : (vs : List (List ℤ)) (rest : List ℤ) (k : ℕ) → k < length vs → piece (map length vs) k (joined vs ++ rest) ≡ get_or vs k []
unfolding start flat_map
piece-joined [] rest k h = absurd (omega arith)
piece-joined (v ∷ vs) rest zero h = ap (take (length v)) (append_assoc v (joined vs) rest) ∙ take-append_seam v (joined vs ++ rest)
piece-joined (v ∷ vs) rest (suc k) h =
    let n = map length vs in
    let m = get_or n k 0 in
    (λ j. take m (drop (start-cons (length v) n k j) (append_assoc v (joined vs) rest j)))
    ∙ ap (take m) (drop-append-add v (joined vs ++ rest) (start n k)) ∙ piece-joined vs rest k (omega arith)

pub start-joined : (vs : List (List ℤ)) → start (map length vs) (length vs) ≡ length (joined vs)
unfolding start flat_map
start-joined [] = refl
start-joined (v ∷ vs) = start-cons (length v) (map length vs) (length vs) ∙ ap (λ m. length v + m) (start-joined vs) ∙ sym (length-append v (joined vs))

pub values-lengths : (t : Tables) → map length (table_values t) ≡ lengths_of t
unfolding lengths_of table_values contents
values-lengths t = simp (length-map)
