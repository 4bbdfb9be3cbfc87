-- Laws about the lines of tables: the lines of parts have the wanted spots, the values of each part are its column, and lines at
-- the wanted spots are the lines of their columns. The parts may be any list of shapes whose part numbers rise.
use mathlib.Core.Path.{◌≡◌, refl, sym, ◌∙◌, ap, ap₂, subst}
use mathlib.Core.List.{List, [], ◌∷◌, ◌++◌, append-nil, flat_map, zip_with}
use Prim.Native.Nat.{ℕ, zero, suc, ◌≤◌}
use native.Mathlib.Omega.{arith}
use lib.ListN.{length, get_or}
use lib.IntN.{ℤ, pos}
use Rattle.protocol.specs.Basic.{tabulate}
use Rattle.text_format.specs.Text.{Spot, Line, Shape, shape_size, spot_at, spots, block, block_lines, spots_of, values_of, column}
use Rattle.text_format.proofs.ColumnLaws.{column_all, column-below, spots-part, spots-rise, columns-skip, spots_of-append, spots_of-length, spots-length}
pub use Rattle.text_format.proofs.ColumnLaws.{AllParts, Rising, parts, columns, column-append, column-none}

-- a list of values for each shape, of its length
abbrev pub Fit : List Shape → List (List ℤ) → Type 0
Fit [] [] = Unit {0}
Fit [] (v ∷ vs) = ⊥
Fit (b ∷ bs) [] = ⊥
Fit (b ∷ bs) (v ∷ vs) = (length v ≡ shape_size b) × Fit bs vs

lined-spots : (n : ℕ) (f : ℕ → Spot) (g : ℕ → ℤ) → spots_of (tabulate n (λ p. record { spot = f p; value = g p })) ≡ tabulate n f
unfolding tabulate spots_of
lined-spots zero f g = refl
lined-spots (suc n) f g = ap (λ (l : List Spot). f 0 ∷ l) (lined-spots n (λ i. f (suc i)) (λ i. g (suc i)))

lined-values : (n : ℕ) (f : ℕ → Spot) (v : List ℤ) → length v ≡ n → values_of (tabulate n (λ p. record { spot = f p; value = get_or v p (pos 0) })) ≡ v
unfolding tabulate values_of
lined-values zero f [] e = refl
lined-values zero f (x ∷ v) e = absurd (omega arith)
lined-values (suc n) f [] e = absurd (omega arith)
lined-values (suc n) f (x ∷ v) e = ap (λ (l : List ℤ). x ∷ l) (lined-values n (λ i. f (suc i)) v (omega arith))

lined_of : (n : ℕ) (f : ℕ → Spot) (ls : List Line) → spots_of ls ≡ tabulate n f
    → tabulate n (λ p. record { spot = f p; value = get_or (values_of ls) p (pos 0) }) ≡ ls
unfolding tabulate spots_of values_of
lined_of zero f [] e = refl
lined_of zero f (l ∷ ls) e = absurd (omega (arith, ap length e))
lined_of (suc n) f [] e = absurd (omega (arith, ap length e))
lined_of (suc n) f (l ∷ ls) e =
    let e₀ : l.spot ∷ spots_of ls ≡ f 0 ∷ tabulate n (λ i. f (suc i)) = e in
    let here : l.spot ≡ f 0 = cc in
    let more : spots_of ls ≡ tabulate n (λ i. f (suc i)) = cc in
    ap₂
    (λ (x : Spot) (y : List Line). record { spot = x; value = l.value } ∷ y)
    (sym here)
    (lined_of n (λ i. f (suc i)) ls more)

-- the lines of a part stand at its spots, and have its values
pub block_lines-spots : (b : Shape) (v : List ℤ) → spots_of (block_lines (block b v)) ≡ spots b
unfolding block_lines block spots
block_lines-spots b v = lined-spots (shape_size b) (spot_at b) (λ p. get_or v p (pos 0))

pub block_lines-values : (b : Shape) (v : List ℤ) → length v ≡ shape_size b → values_of (block_lines (block b v)) ≡ v
unfolding block_lines block
block_lines-values b v e = lined-values (shape_size b) (spot_at b) v e

-- lines at the spots of a part are its lines
pub block_lines_of : (b : Shape) (ls : List Line) → spots_of ls ≡ spots b → block_lines (block b (values_of ls)) ≡ ls
unfolding block_lines block spots
block_lines_of b ls e = lined_of (shape_size b) (spot_at b) ls e

pub written-spots : (bs : List Shape) (vs : List (List ℤ)) → Fit bs vs → spots_of (flat_map block_lines (zip_with block bs vs)) ≡ flat_map spots bs
unfolding flat_map zip_with
written-spots [] [] h = unfold spots_of in refl
written-spots [] (v ∷ vs) h = absurd h
written-spots (b ∷ bs) [] h = absurd h
written-spots (b ∷ bs) (v ∷ vs) h =
    spots_of-append (block_lines (block b v)) (flat_map block_lines (zip_with block bs vs))
    ∙ ap₂ (λ (x y : List Spot). x ++ y) (block_lines-spots b v) (written-spots bs vs h.1)

-- the columns of written lines are the values that were written
pub written-columns : (q : ℕ) (bs : List Shape) (vs : List (List ℤ)) → Rising q (parts bs) → Fit bs vs
    → columns (parts bs) (flat_map block_lines (zip_with block bs vs)) ≡ vs
unfolding flat_map zip_with
written-columns q [] [] r h = refl
written-columns q [] (v ∷ vs) r h = absurd h
written-columns q (b ∷ bs) [] r h = absurd h
written-columns q (b ∷ bs) (v ∷ vs) r h =
    let ks = block_lines (block b v) in
    let ls = flat_map block_lines (zip_with block bs vs) in
    let own : AllParts (λ p. p ≡ b.part) (spots_of ks) = subst (AllParts (λ p. p ≡ b.part)) (sym (block_lines-spots b v)) (spots-part b) in
    let above : AllParts (λ p. suc b.part ≤ p) (spots_of ls) =
    subst (AllParts (λ p. suc b.part ≤ p)) (sym (written-spots bs vs h.1)) (spots-rise (suc b.part) bs r.1) in
    ap₂
    (λ (x : List ℤ) (y : List (List ℤ)). x ∷ y)
    (column-append b.part ks ls
    ∙ ap₂ (λ (x y : List ℤ). x ++ y) (column_all b.part ks own ∙ block_lines-values b v h.0) (column-below b.part ls above)
    ∙ append-nil v)
    (columns-skip b.part (suc b.part) (parts bs) ks ls (omega arith) r.1 own ∙ written-columns (suc b.part) bs vs r.1 h.1)

-- lines in two pieces, as their spots are
pub record Cut (ls : List Line) (a c : List Spot) : Type 0 where
  pub front : List Line
  pub back : List Line
  pub joined : ls ≡ front ++ back
  pub front_spots : spots_of front ≡ a
  pub back_spots : spots_of back ≡ c

pub cut : (ls : List Line) (a c : List Spot) → spots_of ls ≡ a ++ c → Cut ls a c
unfolding spots_of
cut ls [] c e = record { front = []; back = ls; joined = refl; front_spots = refl; back_spots = e }
cut [] (s ∷ a) c e = absurd (omega (arith, ap length e))
cut (l ∷ ls) (s ∷ a) c e =
    let e₀ : l.spot ∷ spots_of ls ≡ s ∷ (a ++ c) = e in
    let here : l.spot ≡ s = cc in
    let more : spots_of ls ≡ a ++ c = cc in
    let r = cut ls a c more in
    record {
      front = l ∷ r.front;
      back = r.back;
      joined = ap (λ (x : List Line). l ∷ x) r.joined;
      front_spots = ap₂ (λ (x : Spot) (y : List Spot). x ∷ y) here r.front_spots;
      back_spots = r.back_spots;
    }

-- lines whose spots are those of a part and of parts that rise behind it
pub record Split (b : Shape) (bs : List Shape) (ls : List Line) : Type 0 where
  pub front : List Line
  pub back : List Line
  pub joined : ls ≡ front ++ back
  pub front_spots : spots_of front ≡ spots b
  pub back_spots : spots_of back ≡ flat_map spots bs
  pub mine : column b.part ls ≡ values_of front
  pub others : columns (parts bs) ls ≡ columns (parts bs) back

pub split : (b : Shape) (bs : List Shape) (ls : List Line) → Rising (suc b.part) (parts bs) → spots_of ls ≡ spots b ++ flat_map spots bs
    → Split b bs ls
split b bs ls r e =
    let c = cut ls (spots b) (flat_map spots bs) e in
    let ks = c.front in
    let ms = c.back in
    let own : AllParts (λ p. p ≡ b.part) (spots_of ks) = subst (AllParts (λ p. p ≡ b.part)) (sym c.front_spots) (spots-part b) in
    let above : AllParts (λ p. suc b.part ≤ p) (spots_of ms) =
    subst (AllParts (λ p. suc b.part ≤ p)) (sym c.back_spots) (spots-rise (suc b.part) bs r) in
    record {
      front = ks;
      back = ms;
      joined = c.joined;
      front_spots = c.front_spots;
      back_spots = c.back_spots;
      mine = ap (column b.part) c.joined
          ∙ column-append b.part ks ms
          ∙ ap₂ (λ (x y : List ℤ). x ++ y) (column_all b.part ks own) (column-below b.part ms above)
          ∙ append-nil (values_of ks);
      others = ap (columns (parts bs)) c.joined ∙ columns-skip b.part (suc b.part) (parts bs) ks ms (omega arith) r own;
    }

-- lines at the wanted spots are the lines of their columns
pub read-lines : (q : ℕ) (bs : List Shape) (ls : List Line) → Rising q (parts bs) → spots_of ls ≡ flat_map spots bs
    → flat_map block_lines (zip_with block bs (columns (parts bs) ls)) ≡ ls
unfolding flat_map zip_with spots_of
read-lines q [] [] r e = refl
read-lines q [] (l ∷ ls) r e = absurd (omega (arith, ap length e))
read-lines q (b ∷ bs) ls r e =
    let c = split b bs ls r.1 e in
    ap₂
    (λ (x y : List Line). x ++ y)
    (ap (λ (v : List ℤ). block_lines (block b v)) c.mine ∙ block_lines_of b c.front c.front_spots)
    (ap (λ (vs : List (List ℤ)). flat_map block_lines (zip_with block bs vs)) c.others ∙ read-lines (suc b.part) bs c.back r.1 c.back_spots)
    ∙ sym c.joined

-- and their columns have the lengths of their parts
pub read-fit : (q : ℕ) (bs : List Shape) (ls : List Line) → Rising q (parts bs) → spots_of ls ≡ flat_map spots bs → Fit bs (columns (parts bs) ls)
unfolding flat_map
read-fit q [] ls r e = tt
read-fit q (b ∷ bs) ls r e =
    let c = split b bs ls r.1 e in (
      ap length c.mine ∙ sym (spots_of-length c.front) ∙ ap length c.front_spots ∙ spots-length b,
      subst (Fit bs) (sym c.others) (read-fit (suc b.part) bs c.back r.1 c.back_spots),
    )
