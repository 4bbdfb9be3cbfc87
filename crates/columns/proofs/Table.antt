-- Four sums that are held apart while the products of two tables' elements are added to them.
use Rattle.std.proofs.Common.{◌≡◌, ℕ, zero, suc, ◌+◌, ◌<◌, ◌≤◌, List, length, get_or, set, ℤ, pos, ◌+ℤ◌, sym, refl, ap, ◌∙◌, add-one, arith}
use Rattle.protocol.specs.Element.{product, signed}
use Rattle.residues.proofs.Fill.{filled, filled_none, filled-turn, filled_ext, filled_at, filled-again, filled-further}
use Rattle.columns.specs.Columns.{narrow, add_columns, element, add_table}
use Rattle.columns.proofs.Words.{word}

abbrev pub pick : ℕ → ℕ → ℕ → ℕ → ℕ → ℕ
pick a b c e zero = a
pick a b c e (suc zero) = b
pick a b c e (suc (suc zero)) = c
pick a b c e (suc (suc (suc k))) = e

four : (f : ℕ → ℕ) (a b c e : ℕ) → f 0 ≡ a → f 1 ≡ b → f 2 ≡ c → f 3 ≡ e → (k : ℕ) → k < 4 → f k ≡ pick a b c e k
four f a b c e ea eb ec ee zero l = ea
four f a b c e ea eb ec ee (suc zero) l = eb
four f a b c e ea eb ec ee (suc (suc zero)) l = ec
four f a b c e ea eb ec ee (suc (suc (suc zero))) l = ee
four f a b c e ea eb ec ee (suc (suc (suc (suc k)))) l = absurd (omega arith)

-- before the first element they are the sums themselves
pub table_none : (f : List ℤ) (g s : List ℕ) → 4 ≤ length s → add_table f g 0 s ≡ filled (pick (get_or s 0 0) (get_or s 1 0) (get_or s 2 0) (get_or s 3 0)) 4 s
unfolding add_table
table_none f g s l =
    filled_none (λ k. get_or s k 0) s
    ∙ filled-further (λ k. get_or s k 0) 0 4 s 0 (omega arith) l (λ _ _ _. refl)
    ∙ filled_ext (λ k. get_or s k 0) _ 4 s (four (λ k. get_or s k 0) _ _ _ _ refl refl refl refl)

-- an element more
module _ (f : List ℤ) (g s : List ℕ) (i a b c e : ℕ) (at : add_table f g i s ≡ filled (pick a b c e) 4 s) where
  abbrev pub More : ℕ → ℕ → ℕ
  More k n = word (pos n +ℤ product 4 (signed (element i f)) (narrow (element i g)) k)

  cell : ℕ → ℕ
  cell k = More k (get_or (filled (pick a b c e) 4 s) k 0)

  cell_is : (k n : ℕ) → k < 4 → n ≡ More k (pick a b c e k) → cell k ≡ n
  unfolding cell
  cell_is k n l h = ap (More k) (filled_at (pick a b c e) 4 s 0 k l) ∙ sym h

  pub table-turn : (a' b' c' e' : ℕ) → a' ≡ More 0 a → b' ≡ More 1 b → c' ≡ More 2 c → e' ≡ More 3 e → add_table f g (i + 1) s ≡ filled (pick a' b' c' e') 4 s
  unfolding add_table add_columns cell
  table-turn a' b' c' e' ha hb hc he =
      ap (λ n. add_table f g n s) (add-one i)
      ∙ ap (add_columns 4 (element i f) (element i g)) at
      ∙ filled-again (pick a b c e) cell 4 s
      ∙ filled_ext cell _ 4 s (four cell a' b' c' e' (cell_is 0 a' (omega arith) ha) (cell_is 1 b' (omega arith) hb) (cell_is 2 c' (omega arith) hc) (cell_is 3 e' (omega arith) he))

-- the four are written back
pub four-written : (s : List ℕ) (a b c e : ℕ) → 4 ≤ length s → set (set (set (set s 0 a) 1 b) 2 c) 3 e ≡ filled (pick a b c e) 4 s
four-written s a b c e l =
    let p = pick a b c e in
    filled-turn p 3 s (filled-turn p 2 s (filled-turn p 1 s (filled-turn p 0 s (filled_none p s) refl (omega arith)) refl (omega arith)) refl (omega arith)) refl (omega arith)
