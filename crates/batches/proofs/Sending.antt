-- The batches of a message, transformed one behind the other: C numbers for each.
--
--   part C t x      batch t of the room x
--   Begun D .. t x  the first t batches are transformed, and the room may be filled on
use mathlib.Core.Path.{◌≡◌, sym, ap, ◌∙◌, subst}
use mathlib.Core.List.{List, ◌++◌}
use Prim.Native.Nat.{ℕ, ◌+◌, ◌*◌, ◌-◌, ◌/◌, ◌^◌, ◌<◌, ◌≤◌}
use borrow.Rule.Slice.PartMut.{put_mid}
use native.Mathlib.Nat as Nat
use native.Mathlib.Decide.{dec_lt}
use native.Mathlib.Omega.{arith}
use lib.ListN.{length, get_or, take, drop, length-drop, get_or-eq_default}
use lib.Seq.{length-take-le, get_or-take, get_or-drop, ext_get_or}
use Rattle.protocol.specs.Element.{Element}
use Rattle.protocol.proofs.Reading.{row_inside, tabulate_own}
use Rattle.residues.specs.Lists.{spliced}
use Rattle.residues.proofs.Splice.{spliced-length, spliced-before, spliced-inside, spliced-behind}
use Rattle.powers.specs.Powers.{modulus, Below}
use Rattle.transform.specs.Strands.{strands, Room, Values}

-- batch t ends inside n elements
pub batch_inside : (d n t : ℕ) → t < n / strands → t * (d * strands) + d * strands ≤ n * d
batch_inside d n t h =
    omega (
      arith,
      row_inside (d * strands) (n / strands) t h,
      ap (λ m. n / strands * m) (Nat.mul_comm d strands),
      Nat.mul_assoc (n / strands) strands d,
      Nat.mul-le-mul {n₁ = n / strands * strands} {m₁ = d} {n₂ = n} {m₂ = d} (omega arith) (Nat.le_refl d),
    )

abbrev pub part : ℕ → ℕ → List ℕ → List ℕ
part C t x = take C (drop (t * C) x)

pub part_length : (C t : ℕ) (x : List ℕ) → t * C + C ≤ length x → length (part C t x) ≡ C
part_length C t x h = length-take-le C (drop (t * C) x) (omega (arith, length-drop (t * C) x))

part_at : (C t : ℕ) (x : List ℕ) (p : ℕ) → p < C → get_or (part C t x) p 0 ≡ get_or x (t * C + p) 0
part_at C t x p h = get_or-take C (drop (t * C) x) p 0 h ∙ get_or-drop (t * C) x p 0

-- batch t was lent, and is handed back
module _ (C t : ℕ) (x last : List ℕ) (long : length last ≡ C) (room : t * C + C ≤ length x) where
  put_is : put_mid (t * C) C x last ≡ spliced (λ k. get_or last k 0) (t * C) C x
  unfolding spliced
  put_is = ap (λ v. take (t * C) x ++ (v ++ drop C (drop (t * C) x))) (sym (tabulate_own C last 0 long))

  put_at : (p : ℕ) → get_or (put_mid (t * C) C x last) p 0 ≡ get_or (spliced (λ k. get_or last k 0) (t * C) C x) p 0
  put_at p = ap (λ l. get_or l p 0) put_is

  pub put-length : length (put_mid (t * C) C x last) ≡ length x
  put-length = ap length put_is ∙ spliced-length (λ k. get_or last k 0) (t * C) C x (omega arith) room

  pub put_same : part C t (put_mid (t * C) C x last) ≡ last
  put_same = ext_get_or 0 (part C t (put_mid (t * C) C x last)) last (part_length C t (put_mid (t * C) C x last) (omega (arith, put-length)) ∙ sym long) (λ p h.
      part_at C t (put_mid (t * C) C x last) p (omega (arith, part_length C t (put_mid (t * C) C x last) (omega (arith, put-length))))
      ∙ put_at (t * C + p)
      ∙ spliced-inside (λ k. get_or last k 0) (t * C) C x (omega arith) p (omega (arith, part_length C t (put_mid (t * C) C x last) (omega (arith, put-length)))))

  pub put-before : (b : ℕ) → b < t → part C b (put_mid (t * C) C x last) ≡ part C b x
  put-before b l =
      let inside : b * C + C ≤ t * C = row_inside C t b l in
      let long' : length (part C b (put_mid (t * C) C x last)) ≡ C = part_length C b (put_mid (t * C) C x last) (omega (arith, put-length)) in
      ext_get_or 0 (part C b (put_mid (t * C) C x last)) (part C b x) (long' ∙ sym (part_length C b x (omega arith))) (λ p h.
      part_at C b (put_mid (t * C) C x last) p (omega (arith, long'))
      ∙ put_at (b * C + p)
      ∙ spliced-before (λ k. get_or last k 0) (t * C) C x (omega arith) (b * C + p) (omega (arith, long'))
      ∙ sym (part_at C b x p (omega (arith, long'))))

  pub put-below : (m : ℕ) → Below m x → Below m last → Below m (put_mid (t * C) C x last)
  put-below m bx bl p = subst (λ v. v < m) (sym (put_at p)) (elim (dec_lt p (t * C)) [
    | yes h ↦ subst (λ v. v < m) (sym (spliced-before (λ k. get_or last k 0) (t * C) C x (omega arith) p h)) (bx p)
    | no h ↦ elim (dec_lt p (t * C + C)) [
      | yes i ↦ subst (λ v. get_or (spliced (λ k. get_or last k 0) (t * C) C x) v 0 < m) {x = t * C + (p - t * C)} (omega arith)
          (subst (λ v. v < m) (sym (spliced-inside (λ k. get_or last k 0) (t * C) C x (omega arith) (p - t * C) (omega arith))) (bl (p - t * C)))
      | no i ↦ subst (λ v. v < m) (sym (spliced-behind (λ k. get_or last k 0) (t * C) C x (omega arith) p (omega arith))) (bx p)
    ]
  ])

pub record Begun (D C t : ℕ) (F : ℕ → Element) (x : List ℕ) : Type 0 where
  pub done : (b : ℕ) → b < t → Values D (λ l. F (b * strands + l)) (part C b x)
  pub below : Below (4 * modulus) x

pub begun-none : (D C : ℕ) (F : ℕ → Element) (x : List ℕ) → Below (4 * modulus) x → Begun D C 0 F x
begun-none D C F x h = record { done = λ b l. absurd (omega arith); below = h }

module _ (D C t : ℕ) (F : ℕ → Element) (x : List ℕ) (begun : Begun D C t F x) (room : t * C + C ≤ length x) where
  pub next_room : C ≡ 2 ^ D * strands → Room D (part C t x)
  next_room e = record {
    long = part_length C t x room ∙ e;
    below = λ p. elim (dec_lt p C) [
      | yes h ↦ subst (λ v. v < 4 * modulus) (sym (part_at C t x p h)) (begun.below (t * C + p))
      | no h ↦ omega (arith, get_or-eq_default (part C t x) 0 {n = p} (omega (arith, part_length C t x room)))
    ];
  }

  pub begun_more : (last : List ℕ) → length last ≡ C → Values D (λ l. F (t * strands + l)) last → Begun D C (t + 1) F (put_mid (t * C) C x last)
  begun_more last long v = record {
    done = λ b l. elim (dec_lt b t) [
      | yes h ↦ subst (Values D (λ i. F (b * strands + i))) (sym (put-before C t x last long room b h)) (begun.done b h)
      | no h ↦
          let is : b ≡ t = omega arith in
          subst (λ n. Values D (λ i. F (n * strands + i)) (part C n (put_mid (t * C) C x last))) (sym is) (subst (Values D (λ i. F (t * strands + i))) (sym (put_same C t x last long room)) v)
    ];
    below = put-below C t x last long room (4 * modulus) begun.below v.room.below;
  }
