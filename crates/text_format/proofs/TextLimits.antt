-- Laws about limits: settings and tables that are not refused have lines in which every number is within its limit of magnitude, and so have the lines of
-- every text.
use mathlib.Core.Path.{◌≡◌, refl, subst, ◌∙◌}
use mathlib.Core.Bool.{Bool, true, false, and-eq-true_iff}
use mathlib.Core.Option.{Option, none, some, get_or}
use mathlib.Core.List.{List, [], ◌∷◌, ◌++◌, map, flat_map, zip_with}
use Prim.Native.Nat.{ℕ, zero, suc, ◌*◌, ◌<◌, ◌≤◌}
use native.Mathlib.Omega.{arith}
use native.Mathlib.Nat.{le_trans, zero-mul, pow-le-pow_right, mul-le-mul, div-le_self, mod-le}
use lib.Dec.{leb, ltb, eqb}
use lib.IntN.{ℤ, pos, nat_abs}
use borrow.Author.Tests.{leb-true, le-leb, ltb-true, eqb-true}
use Rattle.protocol.specs.declared.Settings.{Settings}
use Rattle.protocol.specs.declared.Parts.{Parts}
use Rattle.protocol.specs.Basic.{tabulate, all, among, choose, within, first, unless}
use Rattle.protocol.specs.Layout.{width, rows_most, key_items, round_items, claim_items}
use Rattle.protocol.specs.Settings.{settings_refusal, size, all_below, all_within}
use Rattle.protocol.specs.Settings.{exponent, exponents}
use Rattle.text_format.specs.Text.{Line, Shape, Tables, value_limit, narrow_limit, limit_of, shape, settings_shape, shapes, shape_size}
use Rattle.text_format.specs.Text.{spot_at, settings_values, contents, block, block_lines}
use Rattle.text_format.specs.Text.{parsed, lines_of, column, entries_refusal}
use Rattle.protocol.proofs.Tests.{first_zero, unless-zero, all_weaken, all_map, all_get_d, and_intro}
use Rattle.protocol.proofs.Inputs.{settings-valid, degree_most}
use Rattle.text_format.proofs.LineLaws.{Limited, AllLimited, parsed-text}

-- ---- Settings that are not refused

pub record Allowed (S : Settings) : Type 0 where
  pub degree : S.degree ≤ width
  pub depth : S.depth ≤ 8
  pub modulus : S.modulus ≤ value_limit
  pub bound : S.bound ≤ 127
  pub rows : S.rows ≤ rows_most

pub allowed : (S : Settings) → settings_refusal S ≡ 0 → Allowed S
unfolding value_limit
allowed S h = let v = settings-valid S h in record { degree = degree_most S v; depth = v.depth_most; modulus = v.modulus_most_holds; bound = v.bound_most; rows = v.rows_most_holds }

pub size-le : (S : Settings) → Allowed S → size S ≤ 256
unfolding size
size-le S a = pow-le-pow_right {n = 2} (omega arith) {i = S.depth} {j = 8} a.depth

-- ---- Lines within their limits of magnitude

pub all_limited_append : (ks ls : List Line) → AllLimited ks → AllLimited ls → AllLimited (ks ++ ls)
all_limited_append [] ls h k = k
all_limited_append (l ∷ ks) ls h k = (h.0, all_limited_append ks ls h.1 k)

tabulate_limited : (n : ℕ) (f : ℕ → Line) → ((p : ℕ) → p < n → Limited (f p)) → AllLimited (tabulate n f)
unfolding tabulate
tabulate_limited zero f h = tt
tabulate_limited (suc n) f h = (h 0 (omega arith), tabulate_limited n (λ i. f (suc i)) (λ p l. h (suc p) (omega arith)))

pub record SmallShape (b : Shape) : Type 0 where
  pub number : b.part ≤ narrow_limit
  pub lines : shape_size b ≤ narrow_limit

block-limited : (b : Shape) (v : List ℤ) → SmallShape b → all (within (limit_of b.part)) v ≡ true → AllLimited (block_lines (block b v))
unfolding block_lines block spot_at within
block-limited b v s h =
    tabulate_limited (shape_size b) _ λ p l.
    record {
      part = s.number;
      item = omega (arith, div-le_self p b.places, s.lines);
      place = omega (arith, mod-le p b.places, s.lines);
      value = let most = limit_of b.part in leb-true _ most (all_get_d (within most) v p (pos 0) (le-leb 0 most (omega arith)) h);
    }

abbrev pub Limits : List Shape → List (List ℤ) → Type 0
Limits [] vs = Unit {0}
Limits (b ∷ bs) [] = Unit {0}
Limits (b ∷ bs) (v ∷ vs) = (SmallShape b × (all (within (limit_of b.part)) v ≡ true)) × Limits bs vs

pub lines-limited : (bs : List Shape) (vs : List (List ℤ)) → Limits bs vs → AllLimited (flat_map block_lines (zip_with block bs vs))
unfolding flat_map zip_with
lines-limited [] vs h = tt
lines-limited (b ∷ bs) [] h = tt
lines-limited (b ∷ bs) (v ∷ vs) h = all_limited_append (block_lines (block b v)) _ (block-limited b v h.0.0 h.0.1) (lines-limited bs vs h.1)

shape_small : (p : ℕ) (there : Bool) (items places : ℕ) → p ≤ narrow_limit → items * places ≤ narrow_limit → SmallShape (shape p there items places)
unfolding shape choose shape_size
shape_small p true items places h k = record { number = h; lines = k }
shape_small p false items places h k = record { number = h; lines = omega (arith, zero-mul places) }

-- ---- Lines that were read

pub lines-read-limited : (text : List ℕ) → AllLimited (lines_of text)
unfolding lines_of
lines-read-limited text = go (parsed text) refl
  where
    go : (o : Option (List Line)) → parsed text ≡ o → AllLimited (get_or o [])
    go none e = tt
    go (some ls) e = (parsed-text text ls e).0

-- so the values of a part are within the limit of its values
pub column-limited : (p : ℕ) (ls : List Line) → AllLimited ls → all (within (limit_of p)) (column p ls) ≡ true
unfolding column choose all within
column-limited p [] h = refl
column-limited p (l ∷ ls) h = go (eqb l.spot.part p) refl (column-limited p ls h.1)
  where
    go : (t : Bool) → eqb l.spot.part p ≡ t → all (within (limit_of p)) (column p ls) ≡ true
        → all (within (limit_of p)) (choose t (l.value ∷ column p ls) (column p ls)) ≡ true
    go true same e =
        let here : nat_abs l.value ≤ limit_of p = subst (λ q. nat_abs l.value ≤ limit_of q) (eqb-true _ _ same) h.0.value in
        and_intro (le-leb (nat_abs l.value) (limit_of p) here) e
    go false same e = e

-- ---- Tables that are not refused

pub record Passed (S : Settings) (t : Tables) : Type 0 where
  pub key : all_below S t.key ≡ true
  pub commitment : all_below S t.commitment ≡ true
  pub rounds : all_below S t.rounds ≡ true
  pub message : all_within S.bound t.message ≡ true
  pub challenges : exponents S t.challenges ≡ true
  pub last : all (within narrow_limit) t.last ≡ true
  pub claims : all_below S t.claims ≡ true

pub passed : (S : Settings) (last_fits : Bool) (t : Tables) → entries_refusal S last_fits t ≡ 0
    → (last_fits ≡ true → all (within narrow_limit) t.last ≡ true) → Passed S t
unfolding entries_refusal
passed S last_fits t h f =
    let (h₈, r₈) = first_zero _ _ h in
    let (h₉, r₉) = first_zero _ _ r₈ in
    let (h₁₀, r₁₀) = first_zero _ _ r₉ in
    let (k, cr) = (and-eq-true_iff (all_below S t.key) _).0 (unless-zero 7 _ h₈) in
    let (c, rv) = (and-eq-true_iff (all_below S t.commitment) _).0 cr in
    let (r, v) = (and-eq-true_iff (all_below S t.rounds) _).0 rv in
    let (m, l) = (and-eq-true_iff (all_within S.bound t.message) last_fits).0 (unless-zero 8 _ h₉) in
    record { key = k; commitment = c; rounds = r; message = m; challenges = unless-zero 9 _ h₁₀; last = f l; claims = v }

pub unrefused : (S : Settings) (last_fits : Bool) (t : Tables) → Passed S t → last_fits ≡ true → entries_refusal S last_fits t ≡ 0
unfolding entries_refusal first unless
unrefused S last_fits t p l = rw (p.key, p.commitment, p.rounds, p.claims, p.message, l, p.challenges)

pub below-limited : (most m : ℕ) (v : List ℕ) → m ≤ most → all (λ x. ltb x m) v ≡ true → all (λ x. leb x most) v ≡ true
below-limited most m v l h = all_weaken (λ x. ltb x m) (λ x. leb x most) (λ x e. le-leb x most (omega (arith, ltb-true x m e))) v h

-- the largest exponent is far below the limit
pub exponent-le : (S : Settings) → Allowed S → 2 * S.degree ≤ narrow_limit
unfolding narrow_limit
exponent-le S a = omega (arith, a.degree)

residues-limited : (S : Settings) (v : List ℕ) → Allowed S → all_below S v ≡ true → all (within value_limit) (map pos v) ≡ true
unfolding all_below within
residues-limited S v a h = all_map (within value_limit) pos v ∙ below-limited value_limit S.modulus v a.modulus h

exponents-limited : (S : Settings) (v : List ℕ) → Allowed S → exponents S v ≡ true → all (within narrow_limit) (map pos v) ≡ true
unfolding exponents exponent within
exponents-limited S v a h = all_map (within narrow_limit) pos v ∙ below-limited narrow_limit (2 * S.degree) v (exponent-le S a) h

small_limited : (S : Settings) (v : List ℤ) → Allowed S → all_within S.bound v ≡ true → all (within narrow_limit) v ≡ true
unfolding all_within within narrow_limit
small_limited S v a h =
    all_weaken (within S.bound) (within narrow_limit) (λ z e. le-leb (nat_abs z) narrow_limit (omega (arith, leb-true (nat_abs z) S.bound e, a.bound))) v h

settings-limited : (S : Settings) → Allowed S
    → all (within value_limit) (settings_values S) ≡ true
unfolding settings_values all within
settings-limited S a =
    let wide : width ≤ value_limit = unfold value_limit in (omega arith) in
    rw (
      le-leb S.degree value_limit (omega (arith, a.degree)),
      le-leb S.depth value_limit (omega (arith, a.depth)),
      le-leb S.modulus value_limit a.modulus,
      le-leb S.bound value_limit (omega (arith, a.bound)),
      le-leb S.rows value_limit (omega (arith, a.rows)),
    )

-- the values of parts 0 to 7 and the shapes of parts 0 to 7 are within their limits
pub contents-limited : (S : Settings) (P : Parts) (t : Tables) → Allowed S → Passed S t → Limits (shapes S P) (contents S t)
unfolding shapes contents settings_shape shape limit_of among choose
contents-limited S P t a p =
    let wide : rows_most * 256 * width ≤ narrow_limit = unfold narrow_limit in (omega arith) in
    let n : size S ≤ 256 = size-le S a in
    let table : size S * S.degree ≤ narrow_limit = le_trans (mul-le-mul n a.degree) (omega arith) in
    let key : key_items S * S.degree ≤ narrow_limit = le_trans (mul-le-mul (mul-le-mul a.rows n) a.degree) wide in
    let element : S.rows * S.degree ≤ narrow_limit = le_trans (mul-le-mul a.rows a.degree) (omega arith) in
    let items : round_items S ≤ 256 = omega (arith, a.depth) in
    let rounds : S.rows * round_items S * S.degree ≤ narrow_limit = le_trans (mul-le-mul (mul-le-mul a.rows items) a.degree) wide in
    let deep : S.depth ≤ 256 = omega (arith, a.depth) in
    let claims : claim_items S * S.degree ≤ narrow_limit = le_trans (mul-le-mul (mul-le-mul a.rows deep) a.degree) wide in (
      (shape_small 0 true 1 5 (omega arith) (omega arith), settings-limited S a),
      (
        (shape_small 1 P.key (key_items S) S.degree (omega arith) key, residues-limited S t.key a p.key),
        (
          (shape_small 2 P.message (size S) S.degree (omega arith) table, small_limited S t.message a p.message),
          (
            (shape_small 3 P.commitment S.rows S.degree (omega arith) element, residues-limited S t.commitment a p.commitment),
            (
              (shape_small 4 P.rounds (S.rows * round_items S) S.degree (omega arith) rounds, residues-limited S t.rounds a p.rounds),
              (
                (shape_small 5 P.challenges S.depth 1 (omega arith) (omega (arith, a.depth)), exponents-limited S t.challenges a p.challenges),
                (
                  (shape_small 6 P.last 1 S.degree (omega arith) (omega (arith, a.degree)), p.last),
                  ((shape_small 7 P.claims (claim_items S) S.degree (omega arith) claims, residues-limited S t.claims a p.claims), tt),
                ),
              ),
            ),
          ),
        ),
      ),
    )
