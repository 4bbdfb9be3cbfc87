-- A prepared element: three rows of residues that stand at the front of a room.
use Rattle.std.proofs.Common.{◌≡◌, ℕ, ◌+◌, ◌-◌, ◌*◌, ◌/◌, ◌%◌, ◌<◌, ◌≤◌, List, length, get_or, pos, neg_ℤ, sym, ap, ◌∙◌, arith}
use native.Mathlib.Nat as Nat
use Rattle.protocol.specs.Element.{Element, modulo, flips, around}
use Rattle.residues.specs.Lists.{spliced}
use Rattle.protocol.proofs.Modulo.{modulo-lt}
use Rattle.protocol.proofs.Reading.{cell-element, cell-place}
use Rattle.residues.proofs.Around.{around_first, around-third, around_next}
use Rattle.residues.proofs.Signs.{negative-again}
use Rattle.residues.proofs.Splice.{spliced-inside, spliced-length}
use Rattle.rows.specs.Rows.{strand, woven, turned, Prepared}

-- number k of strand r
pub woven_at : (c r : ℕ) → r < c → (F : ℕ → Element) (k : ℕ) → woven c F (k * c + r) ≡ F r k
unfolding woven
woven_at c r lr F k = λ i. F (cell-place c k r lr i) (cell-element c k r lr i)

-- a strand of what stands going round is what stands going round of the strand
pub strand-around : (c d r : ℕ) → r < c → 0 < d → (a : Element) (y : ℕ) → around (d * c) a (y * c + r) ≡ around d (strand c r a) y
unfolding around strand
strand-around c d r lr pd a y = λ i. flips (times i) (a (place i))
  where
    inside : y % d * c + r < d * c
    inside = omega (arith, Nat.mul-le-mul_right c (mod_below y), Nat.add-mul (y % d) 1 c)
      where
        mod_below : (y : ℕ) → y % d + 1 ≤ d
        mod_below y = omega (arith, Nat.mod-lt y pd)

    whole : y * c + r ≡ y / d * (d * c) + (y % d * c + r)
    whole = omega (arith, ap (λ n. n * c) (Nat.div-add-mod' y d), Nat.add-mul (y / d * d) (y % d) c, Nat.mul_assoc (y / d) d c)

    times : (y * c + r) / (d * c) ≡ y / d
    times = ap (λ n. n / (d * c)) whole ∙ cell-element (d * c) (y / d) (y % d * c + r) inside

    place : (y * c + r) % (d * c) ≡ y % d * c + r
    place = ap (λ n. n % (d * c)) whole ∙ cell-place (d * c) (y / d) (y % d * c + r) inside

module _ (q d : ℕ) (p : 0 < q) (pd : 0 < d) (a : Element) where
  pub turned_lt : (y : ℕ) → turned q d a y < q
  unfolding turned
  turned_lt y = modulo-lt q p (around d a y)

  turned_first : (k : ℕ) → k < d → modulo q (a k) ≡ turned q d a k
  unfolding turned
  turned_first k h = sym (ap (modulo q) (around_first d a k h))

  turned_next : (y : ℕ) → modulo q (neg_ℤ (pos (turned q d a y))) ≡ turned q d a (y + d)
  unfolding turned
  turned_next y = negative-again q p (around d a y) ∙ sym (ap (modulo q) (around_next d a y pd))

  -- the rows at the front of a room x₀, whatever stands behind them
  pub front-prepared : (x₀ x : List ℕ) → 3 * d ≤ length x₀ → x ≡ spliced (turned q d a) 0 (3 * d) x₀ → Prepared q d a x
  front-prepared x₀ x room e = record {
    places = omega (arith, ap length e, spliced-length (turned q d a) 0 (3 * d) x₀ (omega arith) (omega arith));
    each = λ y h.
        ap (λ l. get_or l y 0) e
        ∙ ap (λ n. get_or (spliced (turned q d a) 0 (3 * d) x₀) n 0) (sym (Nat.zero-add y))
        ∙ spliced-inside (turned q d a) 0 (3 * d) x₀ (omega arith) y h;
  }

  -- what stands at place k of each row, v being the residue
  module _ (k v : ℕ) (h : k < d) (e : v ≡ modulo q (a k)) where
    pub place_first : v ≡ turned q d a k
    place_first = e ∙ turned_first k h

    pub place_second : modulo q (neg_ℤ (pos v)) ≡ turned q d a (d + k)
    place_second = ap (λ n. modulo q (neg_ℤ (pos n))) place_first ∙ turned_next k ∙ ap (turned q d a) (Nat.add_comm k d)

    pub place-third : v ≡ turned q d a (2 * d + k)
    unfolding turned
    place-third =
        place_first
        ∙ ap (modulo q) (around_first d a k h ∙ ap a {y = 2 * d + k - d - d} (omega arith) ∙ sym (around-third d a (2 * d + k) (omega arith) (omega arith)))
