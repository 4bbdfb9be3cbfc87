-- Laws about the spots of lines and the columns of parts: which lines a part has, by the numbers of the parts.
use mathlib.Core.Path.{◌≡◌, refl, sym, ◌∙◌, ap, ap₂}
use mathlib.Core.Bool.{Bool, true, false, and-eq-true_iff, true≢false}
use mathlib.Core.List.{List, [], ◌∷◌, ◌++◌, map, map-append, flat_map}
use Prim.Native.Nat.{ℕ, zero, suc, ◌<◌, ◌≤◌}
use native.Mathlib.Omega.{arith}
use lib.Dec.{eqb}
use lib.ListN.{length, length-map}
use lib.IntN.{ℤ}
use borrow.Author.Tests.{eq-eqb, eqb-true, ne_eqb}
use Rattle.protocol.specs.Basic.{tabulate, choose}
use Rattle.text_format.specs.Text.{Spot, Line, Shape, shape_size, spot_at, spots, spots_of, values_of, column, same_spot, same_spots}
use Rattle.protocol.proofs.Reading.{tabulate_length}

-- does Q hold of the part of every spot
abbrev pub AllParts : (ℕ → Type 0) → List Spot → Type 0
AllParts Q [] = Unit {0}
AllParts Q (s ∷ ss) = Q s.part × AllParts Q ss

-- part numbers rise, from q on
abbrev pub Rising : ℕ → List ℕ → Type 0
Rising q [] = Unit {0}
Rising q (p ∷ ps) = (q ≤ p) × Rising (suc p) ps

abbrev pub parts : List Shape → List ℕ
parts bs = map (λ (b : Shape). b.part) bs

-- the values of several parts
abbrev pub columns : List ℕ → List Line → List (List ℤ)
columns ps ls = map (λ p. column p ls) ps

-- ---- Columns

column_in : (p : ℕ) (l : Line) (ls : List Line) → l.spot.part ≡ p → column p (l ∷ ls) ≡ l.value ∷ column p ls
unfolding column choose
column_in p l ls e = rw (eq-eqb l.spot.part p e)

column-out : (p : ℕ) (l : Line) (ls : List Line) → ¬ (l.spot.part ≡ p) → column p (l ∷ ls) ≡ column p ls
unfolding column choose
column-out p l ls e = rw (ne_eqb l.spot.part p e)

pub column-append : (p : ℕ) (ks ls : List Line) → column p (ks ++ ls) ≡ column p ks ++ column p ls
unfolding column choose
column-append p [] ls = refl
column-append p (k ∷ ks) ls = go (eqb k.spot.part p) (column-append p ks ls)
  where
    go : (t : Bool) → column p (ks ++ ls) ≡ column p ks ++ column p ls
        → choose t (k.value ∷ column p (ks ++ ls)) (column p (ks ++ ls)) ≡ choose t (k.value ∷ column p ks) (column p ks) ++ column p ls
    go true e = ap (λ (l : List ℤ). k.value ∷ l) e
    go false e = e

pub column_all : (p : ℕ) (ls : List Line) → AllParts (λ q. q ≡ p) (spots_of ls) → column p ls ≡ values_of ls
unfolding spots_of values_of column
column_all p [] h = refl
column_all p (l ∷ ls) h = column_in p l ls h.0 ∙ ap (λ (v : List ℤ). l.value ∷ v) (column_all p ls h.1)

pub column-none : (p : ℕ) (ls : List Line) → AllParts (λ q. ¬ (q ≡ p)) (spots_of ls) → column p ls ≡ []
unfolding spots_of column
column-none p [] h = refl
column-none p (l ∷ ls) h = column-out p l ls h.0 ∙ column-none p ls h.1

-- a part that none of the first lines has
pub column-skip : (p : ℕ) (ks ls : List Line) → AllParts (λ q. ¬ (q ≡ p)) (spots_of ks) → column p (ks ++ ls) ≡ column p ls
column-skip p ks ls h = column-append p ks ls ∙ ap (λ (v : List ℤ). v ++ column p ls) (column-none p ks h)

all_parts_lem : {Q R : ℕ → Type 0} → ((q : ℕ) → Q q → R q) → (ss : List Spot) → AllParts Q ss → AllParts R ss
all_parts_lem f [] h = tt
all_parts_lem f (s ∷ ss) h = (f s.part h.0, all_parts_lem f ss h.1)

-- a part below those of all the lines
pub column-below : (p : ℕ) (ls : List Line) → AllParts (λ q. suc p ≤ q) (spots_of ls) → column p ls ≡ []
column-below p ls h = column-none p ls (all_parts_lem {Q = λ q. suc p ≤ q} (λ q l e. omega arith) (spots_of ls) h)

all_parts-append : (Q : ℕ → Type 0) (ss ts : List Spot) → AllParts Q ss → AllParts Q ts → AllParts Q (ss ++ ts)
all_parts-append Q [] ts h k = k
all_parts-append Q (s ∷ ss) ts h k = (h.0, all_parts-append Q ss ts h.1 k)

all_parts_tabulate : (Q : ℕ → Type 0) (n : ℕ) (f : ℕ → Spot) → ((i : ℕ) → Q (f i).part) → AllParts Q (tabulate n f)
unfolding tabulate
all_parts_tabulate Q zero f h = tt
all_parts_tabulate Q (suc n) f h = (h 0, all_parts_tabulate Q n (λ i. f (suc i)) (λ i. h (suc i)))

-- the spots of a part have its number
pub spots-part : (b : Shape) → AllParts (λ q. q ≡ b.part) (spots b)
unfolding spots spot_at
spots-part b = all_parts_tabulate (λ q. q ≡ b.part) (shape_size b) (spot_at b) (λ i. refl)

-- the spots of parts that rise from q on have numbers from q on
pub spots-rise : (q : ℕ) (bs : List Shape) → Rising q (parts bs) → AllParts (λ p. q ≤ p) (flat_map spots bs)
unfolding flat_map
spots-rise q [] h = tt
spots-rise q (b ∷ bs) h =
    all_parts-append
    (λ p. q ≤ p)
    (spots b)
    (flat_map spots bs)
    (all_parts_lem {Q = λ p. p ≡ b.part} (λ p e. omega (arith, e, h.0)) (spots b) (spots-part b))
    (all_parts_lem {Q = λ p. suc b.part ≤ p} (λ p e. omega (arith, e, h.0)) (flat_map spots bs) (spots-rise (suc b.part) bs h.1))

-- what stands before the parts from q on does not touch their columns
pub columns-skip : (p q : ℕ) (ps : List ℕ) (ks ls : List Line) → p < q → Rising q ps → AllParts (λ r. r ≡ p) (spots_of ks)
    → columns ps (ks ++ ls) ≡ columns ps ls
columns-skip p q [] ks ls l h k = refl
columns-skip p q (r ∷ ps) ks ls l h k =
    ap₂
    (λ (x : List ℤ) (y : List (List ℤ)). x ∷ y)
    (column-skip r ks ls (all_parts_lem {Q = λ x. x ≡ p} (λ x e n. omega (arith, h.0)) (spots_of ks) k))
    (columns-skip p (suc r) ps ks ls (omega (arith, h.0)) h.1 k)

-- ---- Spots and values of lines

pub same_spots-refl : (ss : List Spot) → same_spots ss ss ≡ true
unfolding same_spots same_spot
same_spots-refl [] = refl
same_spots-refl (s ∷ ss) = rw (eq-eqb s.part s.part refl, eq-eqb s.item s.item refl, eq-eqb s.place s.place refl, same_spots-refl ss)

pub same_spots_eq : (ss ts : List Spot) → same_spots ss ts ≡ true → ss ≡ ts
unfolding same_spots same_spot
same_spots_eq [] [] h = refl
same_spots_eq [] (t ∷ ts) h = absurd (true≢false (sym h))
same_spots_eq (s ∷ ss) [] h = absurd (true≢false (sym h))
same_spots_eq (s ∷ ss) (t ∷ ts) h =
    let (here, more) = (and-eq-true_iff (same_spot s t) (same_spots ss ts)).0 h in
    let (p, ik) = (and-eq-true_iff (eqb s.part t.part) _).0 here in
    let (i, k) = (and-eq-true_iff (eqb s.item t.item) (eqb s.place t.place)).0 ik in
    let e₀ : s.part ≡ t.part = eqb-true _ _ p in
    let e₁ : s.item ≡ t.item = eqb-true _ _ i in
    let e₂ : s.place ≡ t.place = eqb-true _ _ k in
    ap₂ (λ (x : Spot) (y : List Spot). x ∷ y) (λ d. record { part = e₀ d; item = e₁ d; place = e₂ d }) (same_spots_eq ss ts more)

pub spots_of-append : (ks ls : List Line) → spots_of (ks ++ ls) ≡ spots_of ks ++ spots_of ls
unfolding spots_of
spots_of-append ks ls = map-append (λ (l : Line). l.spot) ks ls

pub values_of-append : (ks ls : List Line) → values_of (ks ++ ls) ≡ values_of ks ++ values_of ls
unfolding values_of
values_of-append ks ls = map-append (λ (l : Line). l.value) ks ls

pub spots_of-length : (ls : List Line) → length (spots_of ls) ≡ length (values_of ls)
unfolding spots_of values_of
spots_of-length ls = length-map ls _ ∙ sym (length-map ls _)

pub spots-length : (b : Shape) → length (spots b) ≡ shape_size b
unfolding spots
spots-length b = tabulate_length (shape_size b) (spot_at b)
