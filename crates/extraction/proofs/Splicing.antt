-- Loops that replace the elements of a flat list one after the other, from a place on: each turn lends the list from its element on and has it back.
use mathlib.Core.Path.{◌≡◌, sym, ap, ◌∙◌}
use mathlib.Core.List.{List, ◌++◌, append-nil}
use Prim.Native.Nat.{ℕ, ◌+◌, ◌*◌, ◌-◌, ◌/◌, ◌%◌, ◌<◌, ◌≤◌}
use native.Mathlib.Nat as Nat
use native.Mathlib.Omega.{arith}
use lib.ListN.{length, get_or, take, drop, length-drop, take-append-drop, drop_of_length-le}
use lib.Seq.{length-take-le, take_at, drop_at, drop-drop}
use borrow.Rule.Slice.PartMut.{put_mid}
use Rattle.protocol.specs.Basic.{tabulate}
use Rattle.protocol.proofs.Reading.{cell-inside, cell-element, cell-place}
use Rattle.residues.specs.Lists.{filled, spliced, spliced_rows}
use Rattle.residues.proofs.Parts.{tail_all, tail_at}
use Rattle.residues.proofs.Splice.{spliced-none, spliced-length, spliced-append, entry-inside, entry-behind, spliced-twice}

module _ {A : Type 0} where
  -- a list when a part that runs to its end is back
  pub put-end : (x : ℕ) (m q : List A) → put_mid x (length m - x) m q ≡ take x m ++ q
  put-end x m q = ap (λ r. take x m ++ r) (ap (λ r. q ++ r) (drop_of_length-le (drop x m) {i = length m - x} (omega (arith, length-drop x m))) ∙ append-nil q)

  pub drop-put-end : (x y : ℕ) (m q : List A) → x ≤ length m → drop (x + y) (put_mid x (length m - x) m q) ≡ drop y q
  drop-put-end x y m q h =
      ap (drop (x + y)) (put-end x m q)
      ∙ sym (drop-drop y x (take x m ++ q))
      ∙ ap (drop y) (drop_at (take x m) q x (length-take-le x m h))

  -- splices of parts that lie apart, in either order
  pub spliced-apart : (f g : ℕ → A) (a n b m : ℕ) (l : List A) → a + n ≤ b → b ≤ length l → spliced g b m (spliced f a n l) ≡ spliced f a n (spliced g b m l)
  unfolding spliced
  spliced-apart f g a n b m l apart inside =
      (λ i. take b (split i) ++ (tabulate m g ++ drop m (drop b (split i))))
      ∙ (λ i. take_at front (drop b l) b long i ++ (tabulate m g ++ drop m (drop_at front (drop b l) b long i)))
      ∙ spliced-append f a n (take b l) (tabulate m g ++ drop m (drop b l)) fits
    where
      front : List A
      front = spliced f a n (take b l)

      fits : a + n ≤ length (take b l)
      fits = omega (arith, length-take-le b l inside)

      long : length front ≡ b
      long = spliced-length f a n (take b l) (omega (arith, fits)) fits ∙ length-take-le b l inside

      split : spliced f a n l ≡ front ++ drop b l
      split = ap (spliced f a n) (sym (take-append-drop b l)) ∙ sym (spliced-append f a n (take b l) (drop b l) fits)

  module _ (F : ℕ → ℕ → A) (at d : ℕ) (l : List A) where
    abbrev f : ℕ → A
    f p = F (p / d) (p % d)

    pub rows_none : l ≡ spliced_rows F at d 0 l
    rows_none = spliced-none f at l ∙ ap (λ n. spliced f at n l) (sym (Nat.zero-mul d))

    pub rows_at : (n : ℕ) → at + n * d ≤ length l → (z : A) (i k : ℕ) → i < n → k < d → get_or (spliced_rows F at d n l) (at + (i * d + k)) z ≡ F i k
    rows_at n h z i k li lk =
        entry-inside f at (n * d) l (omega arith) z (i * d + k) (cell-inside d n i k li lk) ∙ λ j. F (cell-element d i k lk j) (cell-place d i k lk j)

    -- the turn of element n, with the list m before it
    module _ (n x : ℕ) (is : x ≡ at + n * d) (h : at + n * d + d ≤ length l) {m : List A} (e : m ≡ spliced_rows F at d n l) where
      -- what is lent is as it was
      pub lent_at : (k : ℕ) (z : A) → get_or (take (length m - x) (drop x m)) k z ≡ get_or l (x + k) z
      lent_at k z = tail_at x m k z ∙ ap (λ s. get_or s (x + k) z) e ∙ entry-behind f at (n * d) l (omega arith) z (x + k) (omega arith)

      -- what comes back has its first d entries replaced
      pub rows_turn : {p : List A} → p ≡ filled (F n) d (take (length m - x) (drop x m)) → put_mid x (length m - x) m p ≡ spliced_rows F at d (n + 1) l
      rows_turn {p} q =
          put-end x m p
          ∙ ap (λ r. take x m ++ r) (q ∙ ap (filled (F n) d) (tail_all x m))
          ∙ unfold filled spliced in (λ i. spliced (F n) (is i) d (e i))
          ∙ spliced-twice f (F n) at (n * d) d l h (λ k lk. sym (λ i. F (cell-element d n k lk i) (cell-place d n k lk i)))
          ∙ ap (λ y. spliced f at y l) (omega (arith, Nat.add-mul n 1 d))
