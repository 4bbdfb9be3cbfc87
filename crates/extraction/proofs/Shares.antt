-- One child's share: what it adds to a node's vector, and how large the numbers are meanwhile.
use mathlib.Core.Path.{◌≡◌, sym, ap, ◌∙◌, subst}
use mathlib.Core.Logic.{◌≢◌}
use mathlib.Core.List.{List, ◌++◌}
use Prim.Native.Nat.{ℕ, ◌+◌, ◌*◌, ◌-◌, ◌%◌, ◌<◌, ◌≤◌}
use native.Mathlib.Nat as Nat
use native.Mathlib.Omega.{arith}
use lib.ListN.{length, get_or, take, drop, length-append, length-drop, get_or-append}
use lib.Seq.{length-take-le, get_or-take, get_or-drop, get_or-append-add}
use lib.IntN.{ℤ, pos, nat_abs, ◌+ℤ◌}
use Rattle.algebra.specs.Magnitude.{weight}
use Rattle.protocol.specs.Element.{Element, rotate, signed, signed_at}
use Rattle.protocol.specs.Tree.{gap, mu, share}
use Rattle.protocol.proofs.Reading.{by_cells, cell-inside}
use Rattle.protocol.proofs.Rotation.{rotate-plus, rotate-add}
use Rattle.claims.proofs.Bounds.{Bounded}
use Rattle.claims.proofs.Growth.{share-turned}
use Rattle.extraction.specs.Steps.{weighted}
use Rattle.extraction.specs.Vectors.{scaled, Scalable, turned_row, turned, Turnable, with_share, Sharing}
use Rattle.protocol.proofs.Agreement.{rotate_same}
use Rattle.extraction.proofs.Mu.{gap-some, gap_below, weighted-mu}
use Rattle.residues.specs.Lists.{spliced_rows}
use Rattle.residues.proofs.Splice.{spliced-length, entry-before}
use Rattle.extraction.proofs.Splicing.{rows_at}
use Rattle.extraction.proofs.Turning.{turned-length}
use Rattle.extraction.proofs.Halves.{two_ext}

rotate-none : (d : ℕ) (a : Element) (k : ℕ) → k < d → rotate d 0 a k ≡ a k
rotate-none d a k l = rotate-plus d 0 a k (omega arith) l (omega arith) ∙ ap a (Nat.sub-zero k)

-- exponents that turn back by X^a, and by X^(2a)
unfoldable pub back_once : ℕ → ℕ → ℕ
back_once d a = (2 * d - a) % (2 * d)

unfoldable pub back_twice : ℕ → ℕ → ℕ
back_twice d a = 2 * back_once d a % (2 * d)

module _ (d n a b c : ℕ) (l : List ℤ) (T : Sharing d n a b c l) where
  abbrev M : List ℤ
  M = mu d a b c

  abbrev v : List ℤ
  v = take (n * d) l

  abbrev R : List ℤ
  R = drop (n * d) l

  v_at : (j : ℕ) → j < n * d → get_or v j (pos 0) ≡ get_or l j (pos 0)
  v_at j h = get_or-take (n * d) l j (pos 0) h

  R_at : (i k : ℕ) → signed_at d R i k ≡ get_or l (n * d + (i * d + k)) (pos 0)
  unfolding signed_at
  R_at i k = get_or-drop (n * d) l (i * d + k) (pos 0)

  v-bounded : (i : ℕ) → i < n → Bounded d T.bound (signed_at d v i)
  unfolding signed_at
  v-bounded i li k lk = let h = cell-inside d n i k li lk in subst (λ z. nat_abs z ≤ T.bound) (sym (v_at (i * d + k) h)) (T.within (i * d + k) h)

  -- how large the share is: by μ's weight
  abbrev grown : ℕ
  grown = weight d (signed M) * T.bound

  -- what the products leave: X^(2a) times the share
  abbrev ahead : ℕ → Element
  ahead i = rotate d (2 * a) (share d M v i)

  ahead-bounded : (i : ℕ) → i < n → Bounded d grown (ahead i)
  ahead-bounded i li = share-turned d T.some T.bound M v i (v-bounded i li) (2 * a)

  abbrev once : ℕ
  once = back_once d a

  abbrev twice : ℕ
  twice = back_twice d a

  once_whole : (once + 2 * a) % (2 * d) ≡ a % (2 * d)
  unfolding back_once
  once_whole =
      Nat.mod-add-mod (2 * d - a) (2 * d) (2 * a)
      ∙ (let whole : 2 * d - a + 2 * a ≡ a + 1 * (2 * d) = omega (arith, T.exponent) in ap (λ x. x % (2 * d)) whole)
      ∙ Nat.add-mul-mod_self_right a 1 (2 * d)

  twice-whole : (twice + 2 * a) % (2 * d) ≡ 0 % (2 * d)
  unfolding back_twice back_once
  twice-whole =
      Nat.mod-add-mod (2 * once) (2 * d) (2 * a)
      ∙ (let apart : 2 * once + 2 * a ≡ once + a + (once + a) = omega arith in ap (λ x. x % (2 * d)) apart)
      ∙ sym (Nat.mod-add-mod (once + a) (2 * d) (once + a))
      ∙ sym (Nat.add-mod-mod ((once + a) % (2 * d)) (once + a) (2 * d))
      ∙ (λ i. (none i + none i) % (2 * d))
    where
      none : (once + a) % (2 * d) ≡ 0
      none =
          Nat.mod-add-mod (2 * d - a) (2 * d) a
          ∙ (let whole : 2 * d - a + a ≡ 2 * d = omega (arith, T.exponent) in ap (λ x. x % (2 * d)) whole)
          ∙ Nat.mod_self (2 * d)

  turned_once : (i k : ℕ) → k < d → rotate d once (ahead i) k ≡ rotate d a (share d M v i) k
  turned_once i k lk = rotate-add d T.some once (2 * a) a once_whole (share d M v i) k

  turned-twice : (i k : ℕ) → k < d → rotate d twice (ahead i) k ≡ share d M v i k
  turned-twice i k lk = rotate-add d T.some twice (2 * a) 0 twice-whole (share d M v i) k ∙ rotate-none d (share d M v i) k lk

  -- the exponents that the products go by
  abbrev k₁ : ℕ
  k₁ = gap d a b

  abbrev k₂ : ℕ
  k₂ = gap d a c

  abbrev e : ℕ
  e = (b + c) % (2 * d)

  products_are : (i k : ℕ) → k < d → weighted d k₁ k₂ e (signed_at d v i) k ≡ ahead i k
  unfolding share
  products_are i k lk = weighted-mu d T.some T.log T.degree_is T.log_most a b c T.exponent T.others.0 T.others.1 T.different.0 T.different.1 (signed_at d v i) k lk

  gap-inside : (x : ℕ) → x < 2 * d → (a ≢ x) → (0 < gap d a x) × (gap d a x < 2 * d)
  gap-inside x l ne =
      (gap-some d T.some T.log T.degree_is T.log_most a x T.exponent l ne, gap_below d T.some T.log T.degree_is T.log_most a x T.exponent l ne)

  pub share_scalable : Scalable d n k₁ k₂ e v
  share_scalable = record {
    long = Nat.le_of_eq (sym (length-take-le (n * d) l (omega (arith, T.long))));
    bound = T.bound;
    factors = record {
      log = T.log;
      log_most = T.log_most;
      degree_is = T.degree_is;
      first = gap-inside b T.others.0 T.different.0;
      second = gap-inside c T.others.1 T.different.1;
      exponent = Nat.mod-lt (b + c) (omega (arith, T.some));
      room = omega (arith, T.room, Nat.mul_assoc d d T.bound, Nat.mul_assoc (d * d) 2 T.bound, Nat.mul_assoc d d (2 * T.bound));
    };
    within = λ j h. subst (λ z. nat_abs z ≤ T.bound) (sym (v_at j h)) (T.within j h);
  }

  -- after the products
  module _ {s : List ℤ} (is-s : s ≡ scaled d n k₁ k₂ e v) where
    v-length : length v ≡ n * d
    v-length = length-take-le (n * d) l (omega (arith, T.long))

    s-length : length s ≡ n * d
    unfolding scaled
    s-length = ap length is-s ∙ spliced-length _ 0 (n * d) v (omega arith) (omega (arith, v-length)) ∙ v-length

    first_length : length (s ++ R) ≡ 3 * (n * d)
    first_length = length-append s R ∙ omega (arith, s-length, length-drop (n * d) l, T.long)

    first_low : (i k : ℕ) → i < n → k < d → get_or (s ++ R) (i * d + k) (pos 0) ≡ ahead i k
    unfolding scaled
    first_low i k li lk =
        get_or-append s R (pos 0) (i * d + k) (omega (arith, s-length, cell-inside d n i k li lk))
        ∙ (λ j. get_or (is-s j) (sym (Nat.zero-add (i * d + k)) j) (pos 0))
        ∙ rows_at (λ i. weighted d k₁ k₂ e (signed_at d v i)) 0 d v n (omega (arith, v-length)) (pos 0) i k li lk
        ∙ products_are i k lk

    first_high : (j : ℕ) → n * d ≤ j → get_or (s ++ R) j (pos 0) ≡ get_or l j (pos 0)
    first_high j h =
        ap (λ x. get_or (s ++ R) x (pos 0)) (omega (arith, s-length))
        ∙ get_or-append-add s R (j - n * d) (pos 0)
        ∙ get_or-drop (n * d) l (j - n * d) (pos 0)
        ∙ ap (λ x. get_or l x (pos 0)) (omega arith)

    first_within : (j : ℕ) → j < n * d → nat_abs (get_or (s ++ R) j (pos 0)) ≤ grown
    first_within =
        by_cells d n T.some (λ j. nat_abs (get_or (s ++ R) j (pos 0)) ≤ grown)
        (λ i k li lk. subst (λ z. nat_abs z ≤ grown) (sym (first_low i k li lk)) (ahead-bounded i li k lk))

    pub share_turnable : Turnable d n twice once (s ++ R)
    unfolding back_twice back_once
    share_turnable = record {
      some = T.some;
      small = T.small;
      exponents = (Nat.mod-lt (2 * once) (omega (arith, T.some)), Nat.mod-lt (2 * d - a) (omega (arith, T.some)));
      long = first_length;
      bound = grown;
      bound_to = T.bound_node;
      within = first_within;
      within_to = λ j h. subst (λ z. nat_abs z ≤ T.bound_node) (sym (first_high j h)) (T.within_node j h);
      room = T.room_node;
    }

    -- after the sums
    module _ {w : List ℤ} (is-w : w ≡ turned d n twice once n (s ++ R)) where
      abbrev lower : List ℤ
      lower = spliced_rows (turned_row d twice (n * d) (s ++ R)) (n * d) d n (s ++ R)

      lower-length : length lower ≡ 3 * (n * d)
      lower-length = spliced-length _ (n * d) (n * d) (s ++ R) (omega (arith, first_length)) (omega (arith, first_length)) ∙ first_length

      -- an element's sum with the product, turned back
      row_sum : (to g : ℕ) → n * d ≤ to → (i k : ℕ) → i < n → k < d → turned_row d g to (s ++ R) i k ≡ get_or l (to + (i * d + k)) (pos 0) +ℤ rotate d g (ahead i) k
      row_sum to g h i k li lk =
          let there = first_high (to + (i * d + k)) (omega arith) in
          let reads : (y : ℕ) → y < d → signed_at d (s ++ R) i y ≡ ahead i y = unfold signed_at in (λ y ly. first_low i y li ly) in
          λ j. there j +ℤ rotate_same T.some g {b = ahead i} reads k j

      pub share-added : drop (n * d) w ≡ with_share d n a M v R
      unfolding with_share
      share-added = two_ext d n _ _ T.some (drop (n * d) w) long low high
        where
          long : length (drop (n * d) w) ≡ 2 * (n * d)
          long = length-drop (n * d) w ∙ omega (arith, ap length is-w ∙ turned-length d n twice once (s ++ R) share_turnable n (Nat.le_refl n) ∙ first_length)

          low : (i k : ℕ) → i < n → k < d → get_or (drop (n * d) w) (i * d + k) (pos 0) ≡ signed_at d R i k +ℤ share d M v i k
          low i k li lk =
              get_or-drop (n * d) w (i * d + k) (pos 0)
              ∙ ap (λ x. get_or x (n * d + (i * d + k)) (pos 0)) is-w
              ∙ entry-before _ (n * d + n * d) (n * d) lower (omega (arith, lower-length)) (pos 0) (n * d + (i * d + k)) (omega (arith, cell-inside d n i k li lk))
              ∙ rows_at (turned_row d twice (n * d) (s ++ R)) (n * d) d (s ++ R) n (omega (arith, first_length)) (pos 0) i k li lk
              ∙ row_sum (n * d) twice (Nat.le_refl (n * d)) i k li lk
              ∙ λ j. sym (R_at i k) j +ℤ turned-twice i k lk j

          high : (i k : ℕ) → i < n → k < d → get_or (drop (n * d) w) (n * d + (i * d + k)) (pos 0) ≡ signed_at d R (n + i) k +ℤ rotate d a (share d M v i) k
          high i k li lk =
              get_or-drop (n * d) w (n * d + (i * d + k)) (pos 0)
              ∙ (λ j. get_or (is-w j) (same j) (pos 0))
              ∙ rows_at (turned_row d once (n * d + n * d) (s ++ R)) (n * d + n * d) d lower n (omega (arith, lower-length)) (pos 0) i k li lk
              ∙ row_sum (n * d + n * d) once (omega arith) i k li lk
              ∙ λ j. sym there j +ℤ turned_once i k lk j
            where
              same : n * d + (n * d + (i * d + k)) ≡ n * d + n * d + (i * d + k)
              same = omega arith

              there : signed_at d R (n + i) k ≡ get_or l (n * d + n * d + (i * d + k)) (pos 0)
              there = R_at (n + i) k ∙ ap (λ x. get_or l x (pos 0)) (omega (arith, Nat.add-mul n i d))
