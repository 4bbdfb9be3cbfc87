-- A loop that fills a list from the front with f 0, f 1, …, over a list z.
use Rattle.std.proofs.Common.{◌≡◌, ℕ, zero, suc, ◌+◌, ◌-◌, ◌<◌, ◌≤◌, List, ◌++◌, length, get_or, drop, set, replicate, sym, refl, ap, ◌∙◌, add-one, arith, length-append, length-drop, ext_get_or, drop_at}
use native.Mathlib.Nat as Nat
use native.Mathlib.Decide.{dec_lt}
use lib.ListN.{length-replicate, get_or-append}
use Rattle.protocol.specs.Basic.{tabulate}
use Rattle.protocol.specs.Element.{width, zeros, padded}
unfoldable pub use Rattle.residues.specs.Lists.{filled}
use Rattle.protocol.proofs.Reading.{tabulate_length, tabulate_at, tabulate_ext, store_next, store-behind}

module _ {ℓ} {A : Type ℓ} where
  pub filled_none : (f : ℕ → A) (z : List A) → z ≡ filled f 0 z
  unfolding filled tabulate
  filled_none f z = refl

  pub filled_more : (f : ℕ → A) (k : ℕ) (z : List A) → k < length z → set (filled f k z) k (f k) ≡ filled f (k + 1) z
  unfolding filled
  filled_more f k z h = store_next k f z h ∙ ap (λ n. tabulate n f ++ drop n z) (sym (add-one k))

  -- what is not yet filled is as it was
  pub filled-behind : (f : ℕ → A) (k : ℕ) (z : List A) (d : A) (j : ℕ) → k ≤ j → get_or (filled f k z) j d ≡ get_or z j d
  unfolding filled
  filled-behind f k z d j h = store-behind k f z d j h

  pub filled-length : (f : ℕ → A) (k : ℕ) (z : List A) → k ≤ length z → length (filled f k z) ≡ length z
  unfolding filled
  filled-length f k z h = length-append (tabulate k f) (drop k z) ∙ omega (arith, tabulate_length k f, length-drop k z)

  pub filled_ext : (f g : ℕ → A) (k : ℕ) (z : List A) → ((i : ℕ) → i < k → f i ≡ g i) → filled f k z ≡ filled g k z
  unfolding filled
  filled_ext f g k z e = ap (λ l. l ++ drop k z) (tabulate_ext k e)

  pub filled_at : (f : ℕ → A) (k : ℕ) (z : List A) (d : A) (j : ℕ) → j < k → get_or (filled f k z) j d ≡ f j
  unfolding filled
  filled_at f k z d j h = get_or-append (tabulate k f) (drop k z) d j (omega (arith, tabulate_length k f)) ∙ tabulate_at k f d j h

  -- a turn of such a loop, its end, and a list that is filled twice
  pub filled-turn : (f : ℕ → A) (k : ℕ) (z : List A) {a : List A} {v : A} → a ≡ filled f k z → v ≡ f k → k < length z → set a k v ≡ filled f (k + 1) z
  filled-turn f k z e h l = (λ i. set (e i) k (h i)) ∙ filled_more f k z l

  pub filled-end : (f : ℕ → A) (z : List A) {k d : ℕ} {a : List A} → a ≡ filled f k z → k ≡ d → a ≡ filled f d z
  filled-end f z e h = e ∙ ap (λ n. filled f n z) h

  pub filled-again : (f g : ℕ → A) (k : ℕ) (z : List A) → filled g k (filled f k z) ≡ filled g k z
  unfolding filled
  filled-again f g k z = ap (λ t. tabulate k g ++ t) (drop_at (tabulate k f) (drop k z) k (tabulate_length k f))

  -- filled further with what stood there
  pub filled-further : (f : ℕ → A) (m n : ℕ) (l : List A) (z : A) → m ≤ n → n ≤ length l → ((k : ℕ) → m ≤ k → k < n → f k ≡ get_or l k z) → filled f m l ≡ filled f n l
  filled-further f m n l z less room same =
      ext_get_or z (filled f m l) (filled f n l) (filled-length f m l (omega arith) ∙ sym (filled-length f n l room)) (λ j _. elim (dec_lt j n) [
        | no past ↦ filled-behind f m l z j (omega arith) ∙ sym (filled-behind f n l z j (omega arith))
        | yes inside ↦ elim (dec_lt j m) [
          | yes first ↦ filled_at f m l z j first ∙ sym (filled_at f n l z j inside)
          | no second ↦ filled-behind f m l z j (omega arith) ∙ sym (same j (omega arith) inside) ∙ sym (filled_at f n l z j inside)
        ]
      ])

-- ---- over n times z

module _ {ℓ} {A : Type ℓ} (z : A) where
  pub replicate_at : (n j : ℕ) → get_or (replicate n z) j z ≡ z
  replicate_at zero j = refl
  replicate_at (suc n) zero = refl
  replicate_at (suc n) (suc j) = replicate_at n j

  pub drop-replicate : (n m : ℕ) → drop n (replicate m z) ≡ replicate (m - n) z
  drop-replicate zero m = ap (λ k. replicate k z) (sym (Nat.sub-zero m))
  drop-replicate (suc n) zero = ap (λ k. replicate k z) (sym (Nat.zero-sub (suc n)))
  drop-replicate (suc n) (suc m) = drop-replicate n m ∙ ap (λ k. replicate k z) (sym (Nat.suc-sub-suc m n))

  pub filled-replicate : (f : ℕ → A) (n d : ℕ) → filled f d (replicate n z) ≡ tabulate d f ++ replicate (n - d) z
  unfolding filled
  filled-replicate f n d = ap (λ t. tabulate d f ++ t) (drop-replicate d n)

-- ---- over zeros, which stay shut

pub zeros-length : (n : ℕ) → length (zeros n) ≡ n
unfolding zeros
zeros-length n = length-replicate n 0

pub zeros_at : (n j : ℕ) → get_or (zeros n) j 0 ≡ 0
unfolding zeros
zeros_at n j = replicate_at 0 n j

pub fill_none : (n : ℕ) (f : ℕ → ℕ) → replicate n 0 ≡ filled f 0 (zeros n)
unfolding zeros
fill_none n f = filled_none f (replicate n 0)

pub fill_more : (n : ℕ) (f : ℕ → ℕ) (k x : ℕ) (a : List ℕ) → a ≡ filled f k (zeros n) → k < n → x ≡ f k → set a k x ≡ filled f (k + 1) (zeros n)
fill_more n f k x a e h v = filled-turn f k (zeros n) e v (omega (arith, zeros-length n))

pub fill_done : (n : ℕ) (f : ℕ → ℕ) (k d : ℕ) (a : List ℕ) → a ≡ filled f k (zeros n) → k ≡ d → a ≡ tabulate d f ++ zeros (n - d)
unfolding zeros
fill_done n f k d a e p = filled-end f (zeros n) e p ∙ filled-replicate 0 f n d

-- an element that is passed by value
pub element-done : (f : ℕ → ℕ) (k d : ℕ) (a : List ℕ) → a ≡ filled f k (zeros width) → k ≡ d → a ≡ padded d (tabulate d f)
unfolding padded
element-done f k d a e p = fill_done width f k d a e p
