-- Strands of a woven element, one more at a time, and what stands for the elements of rows that are read from a table.
use mathlib.Core.Path.{◌≡◌, refl, sym, ap, ◌∙◌, subst}
use mathlib.Core.Bool.{Bool, true, false}
use mathlib.Core.List.{List}
use Prim.Native.Nat.{ℕ, ◌+◌, ◌*◌, ◌-◌, ◌/◌, ◌%◌, ◌^◌, ◌<◌, ◌≤◌}
use native.Mathlib.Nat as Nat
use native.Mathlib.Decide.{dec_lt}
use native.Mathlib.Omega.{arith}
use lib.IntN.{pos, nat_abs, ◌+ℤ◌}
use lib.ListN.{length, get_or, set, take, drop}
use lib.Seq.{get_or-set_same, get_or-set_other}
use Rattle.protocol.specs.Element.{Element, width, modulo, residue, residue_at, plus}
use Rattle.protocol.specs.Opening.{second}
use Rattle.protocol.proofs.Agreement.{Same}
use Rattle.protocol.proofs.Modulo.{modulo-lt}
use Rattle.protocol.proofs.Reading.{cell-inside, cell-element, cell-place, row_inside}
use Rattle.residues.proofs.Parts.{tail_at, tail-length}
use Rattle.residues.proofs.Around.{around_ext}
use Rattle.half_sums.specs.Halves.{size_of, key_sum_at, keys_of, KeyAt, KeySum}
use Rattle.rows.specs.Rows.{woven, turned, Residues, Prepared}
use Rattle.strands.specs.Strands.{StrandIn, Woven, KeyGiven, KeyRows}

-- ---- the numbers of a strand, one after the other

same_place : (c i j r s : ℕ) → r < c → s < c → i * c + s ≡ j * c + r → s ≡ r
same_place c i j r s lr ls e = sym (cell-place c i s ls) ∙ ap (λ p. p % c) e ∙ cell-place c j r lr

same_number : (c i j r : ℕ) → r < c → i * c + r ≡ j * c + r → i ≡ j
same_number c i j r lr e = sym (cell-element c i r lr) ∙ ap (λ p. p / c) e ∙ cell-element c j r lr

module _ (c r : ℕ) (lr : r < c) (l k₀ : List ℕ) where
  pub strand-none : StrandIn c r 0 l k₀ k₀
  strand-none = record { own = λ j h. absurd (omega arith); others = λ s j _ _. refl }

  pub strand_more : (j : ℕ) (k : List ℕ) (v : ℕ) → StrandIn c r j l k₀ k → v ≡ get_or l j 0 → j * c + r < length k → StrandIn c r (j + 1) l k₀ (set k (j * c + r) v)
  strand_more j k v w e h = record {
    own = λ i m. elim (dec_lt i j) [
      | yes b ↦ get_or-set_other k (j * c + r) (i * c + r) v 0 (λ s. absurd (omega (arith, same_number c i j r lr s))) ∙ w.own i b
      | no b ↦ ap (λ n. get_or (set k (j * c + r) v) (n * c + r) 0) {x = i} {y = j} (omega arith) ∙ get_or-set_same k (j * c + r) v 0 h ∙ e ∙ ap (λ n. get_or l n 0) {x = j} {y = i} (omega arith)
    ];
    others = λ s i ls apart. get_or-set_other k (j * c + r) (i * c + s) v 0 (λ t. apart (same_place c i j r s lr ls t)) ∙ w.others s i ls apart;
  }

-- ---- one strand more

pub woven_more : (c r d : ℕ) → r < c → (F : ℕ → Element) (l k₀ k : List ℕ) → Woven c r d F k₀ → StrandIn c r d l k₀ k → Same d (residue l) (F r) → Woven c (r + 1) d F k
unfolding residue
woven_more c r d lr F l k₀ k w i e s j ls lj = elim (dec_lt s r) [
  | yes b ↦ ap pos (i.others s j (omega arith) (λ t. absurd (omega arith))) ∙ w s j b lj
  | no b ↦
      let same : s ≡ r = omega arith in
      ap (λ t. pos (get_or k (j * c + t) 0)) same ∙ ap pos (i.own j lj) ∙ e j lj ∙ ap (λ t. F t j) (sym same)
]

-- ---- a prepared element is known by its numbers

pub prepared_same : (q d : ℕ) → 0 < d → {A B : Element} (x : List ℕ) → Same d A B → Prepared q d A x → Prepared q d B x
unfolding turned
prepared_same q d pd x e ready = record { places = ready.places; each = λ y l. ready.each y l ∙ ap (modulo q) (around_ext d y pd e) }

module _ (c d : ℕ) (pc : 0 < c) (F : ℕ → Element) (k : List ℕ) (w : Woven c c d F k) where
  woven-place : (p : ℕ) → p < d * c → pos (get_or k p 0) ≡ F (p % c) (p / c)
  woven-place p l = ap (λ n. pos (get_or k n 0)) (sym (Nat.div-add-mod' p c)) ∙ w (p % c) (p / c) (Nat.mod-lt p pc) ((Nat.div-lt_iff_lt-mul pc).1 l)

  pub all_woven : (q : ℕ) → 0 < d → (x : List ℕ) → Prepared q (d * c) (residue k) x → Prepared q (d * c) (woven c F) x
  unfolding residue woven
  all_woven q pd x = prepared_same q (d * c) (Nat.mul-pos pd pc) x woven-place

  -- if the numbers of every strand are residues, so are all of them
  pub woven-below : (q : ℕ) → ((r j v : ℕ) → r < c → j < d → pos v ≡ F r j → v < q) → Residues q (d * c) k
  woven-below q below = record { each = λ p l. below (p % c) (p / c) (get_or k p 0) (Nat.mod-lt p pc) ((Nat.div-lt_iff_lt-mul pc).1 l) (woven-place p l) }

pub one_woven : (q d : ℕ) → 0 < d → (F : ℕ → Element) (x : List ℕ) → Prepared q d (F 0) x → Prepared q (d * 1) (woven 1 F) x
unfolding woven
one_woven q d pd F x ready = subst (λ n. Prepared q n (woven 1 F) x) (sym (Nat.mul-one d)) (prepared_same q d pd x (λ p l i. F (sym (Nat.mod-one p) i) (sym (Nat.div-one p) i)) ready)

-- ---- element i of a row, as the code reads it

module _ (q d n i : ℕ) (g : List ℕ) (inside : i < n) where
  row : i * d + d ≤ n * d
  row = row_inside d n i inside

  pub sums_at : KeyGiven true q d n g → KeyAt q d n i (i * d) (n * d + i * d) g
  unfolding size_of
  sums_at z = record { long = z.long; residues = z.residues; inside = inside; first = refl; second_at = refl }

  pub sums-are : (a : List ℕ) → KeySum q d n g i a → Same d (residue a) (keys_of true q d n g i)
  unfolding keys_of residue
  sums-are a is j l = ap pos (is j l)

  pub part_is : Same d (residue (take (length g - i * d) (drop (i * d) g))) (keys_of false q d n g i)
  unfolding keys_of residue residue_at
  part_is j l = ap pos (tail_at (i * d) g j 0)

  pub part-long : KeyGiven false q d n g → i * d + d ≤ length g
  unfolding size_of
  part-long z = omega (arith, z.long, row)

-- ---- the numbers of an element of a key are residues

pub keys_below : (sums : Bool) (q d n i j : ℕ) (g : List ℕ) → KeyGiven sums q d n g → i < n → j < d → (v : ℕ) → pos v ≡ keys_of sums q d n g i j → v < q
unfolding keys_of key_sum_at size_of residue_at
keys_below true q d n i j g z li lj v e = subst (λ m. m < q) (sym (ap nat_abs e)) (modulo-lt q z.modulus _)
keys_below false q d n i j g z li lj v e = subst (λ m. m < q) (sym (ap nat_abs e)) (z.residues (i * d + j) (cell-inside d n i j li lj))

module _ (q d n i : ℕ) (g : List ℕ) (inside : i < n) where
  pub sums-below : KeyGiven true q d n g → (a : List ℕ) → KeySum q d n g i a → Residues q d a
  unfolding residue
  sums-below z a is = record { each = λ j l. keys_below true q d n i j g z inside l (get_or a j 0) (sums-are q d n i g inside a is j l) }

  pub part-below : KeyGiven false q d n g → Residues q d (take (length g - i * d) (drop (i * d) g))
  unfolding residue
  part-below z = record { each = λ j l. keys_below false q d n i j g z inside l _ (part_is q d n i g inside j l) }

-- ---- rows in a table

module _ (q d n : ℕ) (g G : List ℕ) where
  pub given_alike : (sums : Bool) → KeyGiven sums q d n G → size_of sums d n ≤ length g → ((p : ℕ) → p < size_of sums d n → get_or g p 0 ≡ get_or G p 0) → KeyGiven sums q d n g
  given_alike sums z long same = record {
    modulus = z.modulus;
    degree = z.degree;
    degree_most = z.degree_most;
    long = long;
    residues = λ j l. subst (λ v. v < q) (sym (same j l)) (z.residues j l);
  }

  pub keys-alike : (sums : Bool) → ((p : ℕ) → p < size_of sums d n → get_or g p 0 ≡ get_or G p 0) → (i : ℕ) → i < n → Same d (keys_of sums q d n g i) (keys_of sums q d n G i)
  unfolding size_of keys_of key_sum_at plus second residue_at
  keys-alike true same i l j h =
      let one = same (i * d + j) (omega (arith, cell-inside d n i j l h)) in
      let two = same ((n + i) * d + j) (omega (arith, cell-inside d n i j l h, Nat.add-mul n i d)) in
      λ t. pos (modulo q (pos (one t) +ℤ pos (two t)))
  keys-alike false same i l j h = ap pos (same (i * d + j) (cell-inside d n i j l h))

module _ (sums : Bool) (q d n c stride : ℕ) (g : List ℕ) (G : ℕ → List ℕ) (z : KeyRows sums q d n c stride g G) (r : ℕ) (lr : r < c) where
  abbrev part : List ℕ
  part = take (length g - r * stride) (drop (r * stride) g)

  alike : (p : ℕ) → p < size_of sums d n → get_or part p 0 ≡ get_or (G r) p 0
  alike p l = tail_at (r * stride) g p 0 ∙ z.alike r p lr l

  pub row_given : KeyGiven sums q d n part
  row_given = given_alike q d n part (G r) sums (z.given r lr) (omega (arith, z.long r lr, tail-length (r * stride) g)) alike

  pub row_same : (i : ℕ) → i < n → Same d (keys_of sums q d n part i) (keys_of sums q d n (G r) i)
  row_same = keys-alike q d n part (G r) sums alike

-- ---- places of elements fit in 64 bits

pub place_most : (d n i : ℕ) → n < 2 ^ 32 → d ≤ width → i ≤ n → i * d ≤ 2 ^ 39
place_most d n i few most l = omega (arith, Nat.mul-le-mul {n₁ = i} {m₁ = d} {n₂ = 2 ^ 32} {m₂ = width} (omega arith) most)

-- ---- one row alone stands at the front of the table

module _ (sums : Bool) (q d n c stride : ℕ) (g : List ℕ) (G : ℕ → List ℕ) (z : KeyRows sums q d n c stride g G) where
  front : (p : ℕ) → p < size_of sums d n → get_or g p 0 ≡ get_or (G 0) p 0
  front p l = ap (λ v. get_or g v 0) {x = p} {y = 0 * stride + p} (omega (arith, Nat.zero-mul stride)) ∙ z.alike 0 p z.some l

  pub first_given : KeyGiven sums q d n g
  first_given = given_alike q d n g (G 0) sums (z.given 0 z.some) (omega (arith, z.long 0 z.some)) front

  pub one_row_lem : c ≡ 1 → (i : ℕ) → i < n → (x : List ℕ) → Prepared q d (keys_of sums q d n g i) x → Prepared q (d * c) (woven c (λ r. keys_of sums q d n (G r) i)) x
  one_row_lem one i l x ready = subst (λ m. Prepared q (d * m) (woven m (λ r. keys_of sums q d n (G r) i)) x) (sym one)
      (one_woven q d first_given.degree (λ r. keys_of sums q d n (G r) i) x (prepared_same q d first_given.degree x (keys-alike q d n g (G 0) sums front i l) ready))
