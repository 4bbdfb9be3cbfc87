-- Loops that make each number of a row out of itself and the number at the same place of another row.
--
--   both base row j   what number j becomes; z is what is read behind the end of a list, and P what is asked of two numbers
--   row_turn          a turn of such a loop
--   RowKept, row_kept what such a loop keeps where all its numbers are allowed, and that a turn does
--   part_filled       a part of a list that was lent and filled, as it is handed back
--   pair_turn, front_filled   the same of a loop that fills the front of a list from two others
--   row_added         a part of a list to which the numbers of a part of another are added, as it is handed back
use Rattle.std.proofs.Common.{◌≡◌, ℕ, ◌+◌, ◌-◌, ◌<◌, ◌≤◌, List, ◌++◌, length, get_or, take, drop, set, sym, ap, ◌∙◌, subst, arith, length-drop, length-take-le, get_or-drop, get_or-take}
use native.Mathlib.Nat as Nat
use Rattle.std.proofs.lemmas.List.{append-nil, drop_all, get_or_read, get_or_default}
use Rattle.protocol.specs.Basic.{tabulate}
use Rattle.protocol.proofs.Reading.{tabulate_ext}
use Rattle.residues.specs.Lists.{filled, spliced}
use Rattle.residues.proofs.Fill.{filled-turn, filled-end, filled-behind}
use Rattle.residues.proofs.Parts.{tail_at}

-- a list that is filled to its end
pub filled-all : {A : Type 0} (f : ℕ → A) (l : List A) {k : ℕ} {s : List A} → s ≡ filled f k l → length l ≤ k → k ≤ length l → s ≡ tabulate (length l) f
unfolding filled
filled-all f l e h m = filled-end f l e (Nat.le_antisymm m h) ∙ ap (λ t. tabulate (length l) f ++ t) (drop_all (length l) l (Nat.le_refl _)) ∙ append-nil (tabulate (length l) f)

-- a part that was lent and filled, as it is handed back
module _ {A : Type 0} (f : ℕ → A) (at n : ℕ) (l s : List A) (k : ℕ) (room : at + n ≤ length l) where
  abbrev Back : ℕ → Type 0
  Back m = s ≡ filled f k (take m (drop at l)) → length (take m (drop at l)) ≤ k → k ≤ length (take m (drop at l)) → take at l ++ (s ++ drop m (drop at l)) ≡ spliced f at n l

  back : Back n
  unfolding spliced
  back e h m = ap (λ t. take at l ++ (t ++ drop n (drop at l))) (filled-all f (take n (drop at l)) e h m ∙ ap (λ k. tabulate k f) (length-take-le n (drop at l) (omega (arith, length-drop at l))))

  pub part_filled : {m : ℕ} → m ≡ n → Back m
  part_filled e = subst Back (sym e) back

-- a front that was lent and filled, as it is handed back
pub front_filled : {A : Type 0} (f : ℕ → A) (n : ℕ) (l : List A) {k : ℕ} {s : List A} → n ≤ length l → s ≡ filled f k (take n l) → length (take n l) ≤ k → k ≤ length (take n l) → s ++ drop n l ≡ filled f n l
unfolding filled
front_filled f n l room e h m = ap (λ t. t ++ drop n l) (filled-all f (take n l) e h m ∙ ap (λ k. tabulate k f) (length-take-le n l room))

module _ {A : Type 0} (z : A) (P : A → A → Type 0) (f : A → A → A) where
  abbrev pub both : List A → List A → ℕ → A
  both base row j = f (get_or base j z) (get_or row j z)

  -- what is promised of numbers holds of numbers that are the same
  pub promised : {x u y v r : A} → u ≡ x → v ≡ y → (P u v → r ≡ f u v) → P x y → r ≡ f x y
  promised {x} {u} {y} {v} {r} ex ey h = subst (λ w. P x w → r ≡ f x w) ey (subst (λ w. P w v → r ≡ f w v) ex h)

  module _ (base row s : List A) (k : ℕ) (is : s ≡ filled (both base row) k base) (inside : k < length base) (there : k < length row) where
    own : (d : A) → get_or s k d ≡ get_or base k z
    own d = ap (λ l. get_or l k d) is ∙ filled-behind (both base row) k base d k (Nat.le_refl k) ∙ get_or_default base k d z inside

    pub row_turn : (d y : A) {r : A} → y ≡ get_or row k y → (P (get_or s k d) y → r ≡ f (get_or s k d) y) → P (get_or base k z) (get_or row k z)
        → set s k r ≡ filled (both base row) (k + 1) base
    row_turn d y read h allowed = filled-turn (both base row) k base is (promised (own d) (get_or_read row k y there read z) h allowed) inside

  -- a turn of a loop that fills a list from two others
  pub pair_turn : (first second base s : List A) (k : ℕ) (x y : A) {r : A} → s ≡ filled (both first second) k base → k < length base → k < length first → k < length second
      → x ≡ get_or first k x → y ≡ get_or second k y → (P x y → r ≡ f x y) → P (get_or first k z) (get_or second k z) → set s k r ≡ filled (both first second) (k + 1) base
  pair_turn first second base s k x y is inside one two ex ey h allowed =
      filled-turn (both first second) k base is (promised (get_or_read first k x one ex z) (get_or_read second k y two ey z) h allowed) inside

  abbrev pub Allowed : List A → List A → Type 0
  Allowed base row = (j : ℕ) → j < length base → P (get_or base j z) (get_or row j z)

  abbrev pub RowKept : List A → List A → ℕ → List A → Type 0
  RowKept base row k s = Allowed base row → s ≡ filled (both base row) k base

  pub row_kept : (base row s : List A) (k : ℕ) → RowKept base row k s → k < length base → k < length row → (d y : A) {r : A} → y ≡ get_or row k y
      → (P (get_or s k d) y → r ≡ f (get_or s k d) y) → RowKept base row (k + 1) (set s k r)
  row_kept base row s k kept inside there d y read h = λ allowed. row_turn base row s k (kept allowed) inside there d y read h (allowed k inside)

  module _ (n from to : ℕ) (a out s : List A) (room : to + n ≤ length out) (h : (j : ℕ) → j < n → P (get_or out (to + j) z) (get_or a (from + j) z)) where
    abbrev row : List A
    row = take (length a - from) (drop from a)

    abbrev Owed : ℕ → Type 0
    Owed m = (Allowed (take m (drop to out)) row → s ≡ tabulate (length (take m (drop to out))) (both (take m (drop to out)) row))
        → take to out ++ (s ++ drop m (drop to out)) ≡ spliced (λ j. f (get_or out (to + j) z) (get_or a (from + j) z)) to n out

    owed : Owed n
    unfolding spliced
    owed e =
        ap (λ t. take to out ++ (t ++ drop n (drop to out)))
        (e (λ j l. let b : j < n = omega (arith, l, long) in subst (λ x. P x (get_or row j z)) (sym (at j b)) (subst (P (get_or out (to + j) z)) (sym (tail_at from a j z)) (h j b)))
        ∙ ap (λ m. tabulate m (both (take n (drop to out)) row)) long
        ∙ tabulate_ext n (λ j b. (λ i. f (at j b i) (tail_at from a j z i))))
      where
        long : length (take n (drop to out)) ≡ n
        long = length-take-le n (drop to out) (omega (arith, length-drop to out))

        at : (j : ℕ) → j < n → get_or (take n (drop to out)) j z ≡ get_or out (to + j) z
        at j b = get_or-take n (drop to out) j z b ∙ get_or-drop to out j z

    pub row_added : {m : ℕ} → m ≡ n → Owed m
    row_added e = subst Owed (sym e) owed
