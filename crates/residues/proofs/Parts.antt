-- Residues of a part of a row, of a copy, of the parts of a table as the code lends them, and of a row behind what is written.
use Rattle.std.proofs.Common.{◌≡◌, ℕ, ◌+◌, ◌-◌, ◌<◌, ◌≤◌, List, ◌++◌, length, get_or, take, drop, replicate, sym, refl, ap, ◌∙◌, arith, length-drop, get_or-drop, take_all}
use lib.ListN.{length-replicate, get_or-eq_default}
use Rattle.protocol.specs.Basic.{tabulate}
use Rattle.protocol.specs.Element.{width}
use Rattle.protocol.proofs.Reading.{tabulate_own}
use Rattle.residues.specs.Lists.{filled, spliced}
use Rattle.residues.specs.Residues.{Residues}
use Rattle.residues.proofs.Fill.{filled_ext, filled-further, replicate_at, filled-replicate}
use Rattle.residues.proofs.Splice.{spliced-length, spliced-inside, spliced-behind}

pub residues-part : (q n at m part : ℕ) {l : List ℕ} → Residues q n at l → at ≤ part → part + m ≤ at + n → Residues q m part l
residues-part q n at m part {l} r g h = record {
  long = omega (arith, r.long);
  each = λ k b. omega (arith, ap (λ p. get_or l p 0) {x = part + k} {y = at + (part - at + k)} (omega arith), r.each (part - at + k) (omega arith));
}

-- a whole list, copied to the front of another
pub front-own : (l s : List ℕ) → spliced (λ k. get_or l k 0) 0 (length l) s ≡ l ++ drop (length l) s
unfolding spliced
front-own l s = ap (λ x. x ++ drop (length l) s) (tabulate_own (length l) l 0 refl)

-- lists that agree on a row
pub residues-alike : (q n at part : ℕ) {l s : List ℕ} → Residues q n at l → part + n ≤ length s → ((k : ℕ) → k < n → get_or s (part + k) 0 ≡ get_or l (at + k) 0) → Residues q n part s
residues-alike q n at part r long same = record { long = long; each = λ k h. omega (arith, same k h, r.each k h) }

-- the tail of a list as the code lends it
pub tail_all {ℓ} : {A : Type ℓ} (s : ℕ) (l : List A) → take (length l - s) (drop s l) ≡ drop s l
tail_all s l = take_all (length l - s) (drop s l) (omega (arith, length-drop s l))

pub tail_at {ℓ} : {A : Type ℓ} (s : ℕ) (l : List A) (j : ℕ) (z : A) → get_or (take (length l - s) (drop s l)) j z ≡ get_or l (s + j) z
tail_at s l j z = ap (λ x. get_or x j z) (tail_all s l) ∙ get_or-drop s l j z

pub tail-length {ℓ} : {A : Type ℓ} (s : ℕ) (l : List A) → length (take (length l - s) (drop s l)) ≡ length l - s
tail-length s l = ap length (tail_all s l) ∙ length-drop s l

-- the d entries of a table from place `at` on, of which m are there, by the part that the code lends; the others are z
module _ {ℓ} {A : Type ℓ} (z : A) (d m at : ℕ) (t : List A) (less : m ≤ d) (most : d ≤ width) (all : m < d → length t ≤ at + m) where
  pub part_filled : filled (λ k. get_or (take (length t - at) (drop at t)) k z) m (replicate width z) ≡ filled (λ k. get_or t (at + k) z) d (replicate width z)
  part_filled =
      filled_ext _ (λ k. get_or t (at + k) z) m (replicate width z) (λ k _. tail_at at t k z)
      ∙ filled-further (λ k. get_or t (at + k) z) m d (replicate width z) z less (omega (arith, length-replicate width z))
      (λ k l h. get_or-eq_default t z (omega (arith, all (omega arith))) ∙ sym (replicate_at z width k))

  -- the part, written to the front of the place for an element
  pub part : {w : A} → w ≡ z → spliced (λ k. get_or (take (length t - at) (drop at t)) k z) 0 m (replicate width w) ≡ tabulate d (λ k. get_or t (at + k) z) ++ replicate (width - d) z
  unfolding spliced filled
  part e = ap (λ w. spliced (λ k. get_or (take (length t - at) (drop at t)) k z) 0 m (replicate width w)) e ∙ part_filled ∙ filled-replicate z _ width d

module _ (f : ℕ → ℕ) (to m : ℕ) (t t₁ : List ℕ) (room : to + m ≤ length t) (e : t₁ ≡ spliced f to m t) where
  pub as_was : (p : ℕ) → to + m ≤ p → get_or t₁ p 0 ≡ get_or t p 0
  as_was p h = ap (λ l. get_or l p 0) e ∙ spliced-behind f to m t (omega arith) p h

  pub same_long : length t₁ ≡ length t
  same_long = ap length e ∙ spliced-length f to m t (omega arith) room

  pub residues_kept : (q n at : ℕ) → Residues q n at t → to + m ≤ at → Residues q n at t₁
  residues_kept q n at r h = record { long = omega (arith, r.long, same_long); each = λ k l. omega (arith, as_was (at + k) (omega arith), r.each k l) }

  -- what is written, where it is residues
  pub residues-written : (q : ℕ) → ((k : ℕ) → k < m → f k < q) → Residues q m to t₁
  residues-written q h = record {
    long = omega (arith, same_long);
    each = λ k l. omega (arith, ap (λ x. get_or x (to + k) 0) e, spliced-inside f to m t (omega arith) k l, h k l);
  }
