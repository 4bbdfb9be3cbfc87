-- How tabulated lists are read: lengths, entries, a loop that stores one entry after the other, and the entries of a flat table.
use mathlib.Core.Path.{◌≡◌, refl, sym, ap, ◌∙◌, subst}
use mathlib.Core.List.{List, [], ◌∷◌, ◌++◌}
use Prim.Native.Nat.{ℕ, zero, suc, ◌+◌, ◌*◌, ◌-◌, ◌/◌, ◌%◌, ◌<◌, ◌≤◌}
use native.Mathlib.Nat as Nat
use native.Mathlib.Omega.{arith}
use lib.ListN.{length, get_or, drop, set, get_or-append}
use lib.Seq.{get_or-append-add, get_or-drop, ext_get_or}
use Rattle.protocol.specs.Basic.{tabulate, flat}

-- place k of element i stands inside a table of n elements
pub cell-inside : (d n i k : ℕ) → i < n → k < d → i * d + k < n * d
cell-inside d n i k hi hk = omega (arith, Nat.mul-le-mul_right d hi, Nat.suc-mul i d)

-- element i stands inside a table of n elements
pub row_inside : (d n i : ℕ) → i < n → i * d + d ≤ n * d
row_inside d n i h = omega (arith, Nat.mul-le-mul_right d h, Nat.suc-mul i d)

pub cell-element : (d i k : ℕ) → k < d → (i * d + k) / d ≡ i
cell-element d i k h = Nat.mul-add-div_right {m = d} (omega arith) i k ∙ ap (λ x. i + x) (Nat.div-eq_of_lt h) ∙ Nat.add-zero i

pub cell-place : (d i k : ℕ) → k < d → (i * d + k) % d ≡ k
cell-place d i k h = Nat.mul-add-mod_self_right i d k ∙ Nat.mod-eq_of_lt h

-- a place below n·d is a place of an element
pub by_cells : (d n : ℕ) → 0 < d → (P : ℕ → Type 0) → ((i k : ℕ) → i < n → k < d → P (i * d + k)) → (j : ℕ) → j < n * d → P j
by_cells d n p P h j l = subst P (Nat.div-add-mod' j d) (h (j / d) (j % d) ((Nat.div-lt_iff_lt-mul p).1 l) (Nat.mod-lt j p))

module _ {ℓ} {A : Type ℓ} where
  pub tabulate_length : (n : ℕ) (f : ℕ → A) → length (tabulate n f) ≡ n
  unfolding tabulate
  tabulate_length zero f = refl
  tabulate_length (suc n) f = ap suc (tabulate_length n (λ i. f (suc i)))

  pub tabulate_at : (n : ℕ) (f : ℕ → A) (z : A) (k : ℕ) → k < n → get_or (tabulate n f) k z ≡ f k
  unfolding tabulate
  tabulate_at zero f z k h = absurd (omega arith)
  tabulate_at (suc n) f z zero h = refl
  tabulate_at (suc n) f z (suc k) h = tabulate_at n (λ i. f (suc i)) z k (omega arith)

  pub tabulate_ext : (n : ℕ) {f g : ℕ → A} → ((k : ℕ) → k < n → f k ≡ g k) → tabulate n f ≡ tabulate n g
  unfolding tabulate
  tabulate_ext zero e = refl
  tabulate_ext (suc n) e = λ i. e 0 (omega arith) i ∷ tabulate_ext n (λ k h. e (suc k) (omega arith)) i

  -- a list is tabulated by its own entries
  pub tabulate_own : (n : ℕ) (l : List A) (z : A) → length l ≡ n → tabulate n (λ k. get_or l k z) ≡ l
  tabulate_own n l z e = ext_get_or z _ l (tabulate_length n _ ∙ sym e) (λ i h. tabulate_at n _ z i (omega (arith, tabulate_length n (λ k. get_or l k z))))

  pub tabulate_add : (n m : ℕ) (f : ℕ → A) → tabulate (n + m) f ≡ tabulate n f ++ tabulate m (λ i. f (n + i))
  unfolding tabulate
  tabulate_add zero m f = λ j. tabulate (Nat.zero-add m j) (λ i. f (sym (Nat.zero-add i) j))
  tabulate_add (suc n) m f =
      ap (λ k. tabulate k f) (Nat.suc-add n m) ∙ ap (λ l. f 0 ∷ l) (tabulate_add n m (λ i. f (suc i))) ∙ λ j. f 0 ∷ (tabulate n (λ i. f (suc i)) ++ tabulate m (λ i. f (sym (Nat.suc-add n i) j)))

  -- a loop that stores f 0, f 1, … over the list l: one turn more
  pub store_next : (p : ℕ) (f : ℕ → A) (l : List A) → p < length l → set (tabulate p f ++ drop p l) p (f p) ≡ tabulate (suc p) f ++ drop (suc p) l
  unfolding tabulate
  store_next zero f [] h = absurd (omega arith)
  store_next zero f (x ∷ l) h = refl
  store_next (suc p) f [] h = absurd (omega arith)
  store_next (suc p) f (x ∷ l) h = ap (λ s. f 0 ∷ s) (store_next p (λ i. f (suc i)) l (omega arith))

  -- what it reads from place p on is as it was
  pub store-behind : (p : ℕ) (f : ℕ → A) (l : List A) (z : A) (j : ℕ) → p ≤ j → get_or (tabulate p f ++ drop p l) j z ≡ get_or l j z
  store-behind p f l z j h =
      ap (λ n. get_or (tabulate p f ++ drop p l) n z) whole ∙ get_or-append-add (tabulate p f) (drop p l) (j - p) z ∙ get_or-drop p l (j - p) z ∙ ap (λ n. get_or l n z) (omega arith)
    where
      whole : j ≡ length (tabulate p f) + (j - p)
      whole = omega (arith, tabulate_length p f)

  -- ---- flat tables

  pub flat-length : (d n : ℕ) (F : ℕ → ℕ → A) → length (flat d n F) ≡ n * d
  unfolding flat
  flat-length d n F = tabulate_length (n * d) _

  pub flat_at : (d n : ℕ) (F : ℕ → ℕ → A) (z : A) (i k : ℕ) → i < n → k < d → get_or (flat d n F) (i * d + k) z ≡ F i k
  unfolding flat
  flat_at d n F z i k hi hk = tabulate_at (n * d) (λ p. F (p / d) (p % d)) z (i * d + k) (cell-inside d n i k hi hk) ∙ λ j. F (cell-element d i k hk j) (cell-place d i k hk j)

  -- the same where something stands behind the table
  pub flat-front : (d n : ℕ) (F : ℕ → ℕ → A) (rest : List A) (z : A) (i k : ℕ) → i < n → k < d → get_or (flat d n F ++ rest) (i * d + k) z ≡ F i k
  flat-front d n F rest z i k hi hk = get_or-append (flat d n F) rest z (i * d + k) inside ∙ flat_at d n F z i k hi hk
    where
      inside : i * d + k < length (flat d n F)
      inside = omega (arith, flat-length d n F, cell-inside d n i k hi hk)

  -- two lists of n elements are equal by their elements' places
  pub flat-own : (d n : ℕ) (l : List A) (z : A) → 0 < d → length l ≡ n * d → flat d n (λ i k. get_or l (i * d + k) z) ≡ l
  unfolding flat
  flat-own d n l z p e = tabulate_ext (n * d) (λ q h. ap (λ x. get_or l x z) (Nat.div-add-mod' q d)) ∙ tabulate_own (n * d) l z e

  pub flat_ext : (d n : ℕ) {F G : ℕ → ℕ → A} → 0 < d → ((i k : ℕ) → i < n → k < d → F i k ≡ G i k) → flat d n F ≡ flat d n G
  unfolding flat
  flat_ext d n p e = tabulate_ext (n * d) (λ q h. e (q / d) (q % d) ((Nat.div-lt_iff_lt-mul p).1 h) (Nat.mod-lt q p))

  -- one element more
  pub flat-suc : (d n : ℕ) (F : ℕ → ℕ → A) → flat d (suc n) F ≡ flat d n F ++ tabulate d (F n)
  unfolding flat
  flat-suc d n F =
      ap (λ m. tabulate m P) (Nat.suc-mul n d)
      ∙ tabulate_add (n * d) d P
      ∙ ap (λ l. tabulate (n * d) P ++ l) (tabulate_ext d (λ k h. λ j. F (cell-element d n k h j) (cell-place d n k h j)))
    where
      P : ℕ → A
      P p = F (p / d) (p % d)
