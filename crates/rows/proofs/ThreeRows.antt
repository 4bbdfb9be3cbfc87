-- Three rows of d numbers at the front of a list, written side by side.
--
--   Written f at k y     the first k numbers of y from place `at` on are those of f
--   ThreeRows f d k ..   the first k numbers of each row are in place, what stands behind the rows is as it was
use Rattle.std.proofs.Common.{◌≡◌, ℕ, ◌+◌, ◌-◌, ◌*◌, ◌<◌, ◌≤◌, ◌≢◌, List, length, get_or, set, sym, ap, ◌∙◌, arith, length-set, get_or-set_other, get_or-set_same, ext_get_or}
use native.Mathlib.Nat as Nat
use native.Mathlib.Decide.{dec_lt}
use Rattle.residues.specs.Lists.{spliced}
use Rattle.residues.proofs.Splice.{spliced-length, spliced-inside, spliced-behind}

module _ (f : ℕ → ℕ) where
  abbrev Written : ℕ → ℕ → List ℕ → Type 0
  Written at k y = (j : ℕ) → j < k → get_or y (at + j) 0 ≡ f (at + j)

  written_next : (at k : ℕ) (y : List ℕ) (v : ℕ) → Written at k y → v ≡ f (at + k) → at + k < length y → Written at (k + 1) (set y (at + k) v)
  written_next at k y v w e h j l = elim (dec_lt j k) [
    | yes b ↦ get_or-set_other y (at + k) (at + j) v 0 (λ s. absurd (omega arith)) ∙ w j b
    | no b ↦ ap (λ i. get_or (set y (at + k) v) (at + i) 0) {x = j} {y = k} (omega arith) ∙ get_or-set_same y (at + k) v 0 h ∙ e ∙ ap (λ i. f (at + i)) {x = k} {y = j} (omega arith)
  ]

  written_kept : (at k p : ℕ) (y : List ℕ) (v : ℕ) → Written at k y → ((j : ℕ) → j < k → at + j ≢ p) → Written at k (set y p v)
  written_kept at k p y v w a j l = get_or-set_other y p (at + j) v 0 (a j l) ∙ w j l

  pub record ThreeRows (d k : ℕ) (y₀ y : List ℕ) : Type 0 where
    pub same : length y ≡ length y₀
    pub first : Written 0 k y
    pub second : Written d k y
    pub third : Written (2 * d) k y
    pub rest : (p : ℕ) → 3 * d ≤ p → get_or y p 0 ≡ get_or y₀ p 0

  pub three_none : (d : ℕ) (y : List ℕ) → ThreeRows d 0 y y
  three_none d y = record {
    same = λ i. length y;
    first = λ j l. absurd (omega arith);
    second = λ j l. absurd (omega arith);
    third = λ j l. absurd (omega arith);
    rest = λ p l i. get_or y p 0;
  }

  module _ (d k : ℕ) (y₀ y : List ℕ) (r : ThreeRows d k y₀ y) (l : k < d) (long : 3 * d ≤ length y₀) where
    module _ (v0 v1 v2 : ℕ) (e0 : v0 ≡ f k) (e1 : v1 ≡ f (d + k)) (e2 : v2 ≡ f (2 * d + k)) where
      abbrev y1 : List ℕ
      y1 = set y k v0

      abbrev y2 : List ℕ
      y2 = set y1 (d + k) v1

      abbrev y3 : List ℕ
      y3 = set y2 (2 * d + k) v2

      length1 : length y1 ≡ length y₀
      length1 = length-set y k v0 ∙ r.same

      length2 : length y2 ≡ length y₀
      length2 = length-set y1 (d + k) v1 ∙ length1

      first1 : Written 0 (k + 1) y1
      first1 j m = ap (λ n. get_or (set y n v0) (0 + j) 0) (sym (Nat.zero-add k)) ∙ written_next 0 k y v0 r.first (e0 ∙ ap f (sym (Nat.zero-add k))) (omega (arith, r.same)) j m

      second2 : Written d (k + 1) y2
      second2 = written_next d k y1 v1 (written_kept d k k y v0 r.second (λ j m s. absurd (omega arith))) e1 (omega (arith, length1))

      third2 : Written (2 * d) k y2
      third2 = written_kept (2 * d) k (d + k) y1 v1 (written_kept (2 * d) k k y v0 r.third (λ j m s. absurd (omega arith))) (λ j m s. absurd (omega arith))

      pub three_turn : ThreeRows d (k + 1) y₀ y3
      three_turn = record {
        same = length-set y2 (2 * d + k) v2 ∙ length2;
        first = written_kept 0 (k + 1) (2 * d + k) y2 v2 (written_kept 0 (k + 1) (d + k) y1 v1 first1 (λ j m s. absurd (omega arith))) (λ j m s. absurd (omega arith));
        second = written_kept d (k + 1) (2 * d + k) y2 v2 second2 (λ j m s. absurd (omega arith));
        third = written_next (2 * d) k y2 v2 third2 e2 (omega (arith, length2));
        rest = λ p m.
            get_or-set_other y2 (2 * d + k) p v2 0 (λ s. absurd (omega arith))
            ∙ get_or-set_other y1 (d + k) p v1 0 (λ s. absurd (omega arith))
            ∙ get_or-set_other y k p v0 0 (λ s. absurd (omega arith))
            ∙ r.rest p m;
      }

  module _ (d : ℕ) (y₀ y : List ℕ) (r : ThreeRows d d y₀ y) (long : 3 * d ≤ length y₀) where
    written_at : (p : ℕ) → p < 3 * d → get_or y p 0 ≡ f p
    written_at p h = elim (dec_lt p d) [
      | yes a ↦ (λ i. get_or y (sym (Nat.zero-add p) i) 0) ∙ r.first p a ∙ ap f (Nat.zero-add p)
      | no a ↦ elim (dec_lt p (2 * d)) [
        | yes b ↦ ap (λ n. get_or y n 0) {y = d + (p - d)} (omega arith) ∙ r.second (p - d) (omega arith) ∙ ap f (omega arith)
        | no b ↦ ap (λ n. get_or y n 0) {y = 2 * d + (p - 2 * d)} (omega arith) ∙ r.third (p - 2 * d) (omega arith) ∙ ap f (omega arith)
      ]
    ]

    entry : (p : ℕ) → get_or y p 0 ≡ get_or (spliced f 0 (3 * d) y₀) p 0
    entry p = elim (dec_lt p (3 * d)) [
      | yes a ↦ written_at p a ∙ sym (spliced-inside f 0 (3 * d) y₀ (omega arith) p a) ∙ ap (λ n. get_or (spliced f 0 (3 * d) y₀) n 0) (Nat.zero-add p)
      | no a ↦ r.rest p (omega arith) ∙ sym (spliced-behind f 0 (3 * d) y₀ (omega arith) p (omega arith))
    ]

    pub three_done : y ≡ spliced f 0 (3 * d) y₀
    three_done = ext_get_or 0 y (spliced f 0 (3 * d) y₀) (r.same ∙ sym (spliced-length f 0 (3 * d) y₀ (omega arith) (omega arith))) (λ p _. entry p)
