-- One row more: of the verifier's equations and next claims, and of the ends.
--
--   RowsSoFar ..    the equations of r rows are tested and their next claims written; the other claims are as they were
--   EndsSoFar ..    the ends of r rows are tested
use mathlib.Core.Path.{◌≡◌, refl, sym, ap, ap₂, ◌∙◌, subst}
use mathlib.Core.Bool.{Bool, true, ◌&&◌}
use mathlib.Core.List.{List}
use Prim.Native.Nat.{ℕ, ◌+◌, ◌*◌, ◌-◌, ◌<◌, ◌≤◌}
use borrow.Rule.Slice.PartMut.{put_mid}
use native.Mathlib.Nat as Nat
use native.Mathlib.Numerals.{add-one}
use native.Mathlib.Decide.{dec_lt}
use native.Mathlib.Omega.{arith}
use lib.IntN.{ℤ}
use lib.ListN.{length, get_or, take, drop, length-drop}
use lib.Seq.{length-take-le, get_or-drop, get_or-take}
use Rattle.protocol.specs.declared.Settings.{Settings}
use Rattle.protocol.specs.Basic.{every}
use Rattle.protocol.specs.Element.{signed, residue}
use Rattle.protocol.specs.Settings.{cells}
use Rattle.protocol.specs.Layout.{item_cells, item_of}
use Rattle.protocol.specs.Nodes.{Alike}
use Rattle.protocol.specs.Transcript.{round_holds, next_claim, end_met}
use Rattle.protocol.specs.Rows.{key_row}
use Rattle.protocol.proofs.Inputs.{settings-valid}
use Rattle.protocol.proofs.Reading.{row_inside, cell-inside}
use Rattle.protocol.proofs.Rows.{key_row-length}
use Rattle.protocol.proofs.Agreement.{Same, round_same}
use Rattle.sizes.proofs.Limits.{degree-inside}
use Rattle.residues.specs.Lists.{spliced}
use Rattle.residues.proofs.Parts.{tail_all, tail-length}
use Rattle.residues.proofs.Splice.{spliced-before, spliced-inside, spliced-behind}
use Rattle.equations.specs.Given.{RoundRead, ClaimRead, ElementsGiven, ElementReduced}
use Rattle.equations.specs.Items.{row_element}
use Rattle.plain_products.specs.Rowwise.{element_places}
use Rattle.plain_products.proofs.Rowwise.{put-part}
use Rattle.round_products.proofs.Rowwise.{row_long, lent_row}
use Rattle.opening_checks.specs.Checks.{row_claim, RowsRead, sent_element, EndsRead}

-- ---- what a row's equations read

module _ (S : Settings) (t x : ℕ) (rounds : List ℕ) (g : RowsRead S t x rounds) (r : ℕ) (h : r < S.rows) where
  row_end : r * S.degree + S.degree ≤ item_cells S
  row_end = row_inside S.degree S.rows r h

  pub row_read : (y : ℕ) → S.degree ≤ y → ClaimRead S t y (drop (r * S.degree) rounds)
  row_read y long = record {
    of_round = record {
      allowed = g.allowed;
      index = g.index;
      inside = omega (arith, length-drop (r * S.degree) rounds, g.inside, row_end);
      claim_long = long;
    };
    below = λ j l. subst (λ z. z < S.modulus) (sym (get_or-drop (r * S.degree) rounds j 0)) (g.below (r * S.degree + j) (omega (arith, row_end)));
  }

-- one test more
every_more : (n : ℕ) (f : ℕ → Bool) {a b : Bool} → a ≡ every n f → b ≡ f n → (a && b) ≡ every (n + 1) f
unfolding every
every_more n f e g = ap₂ ◌&&◌ e g ∙ ap (λ m. every m f) (sym (add-one n))

-- ---- the verifier's equations

module _ (S : Settings) (t e : ℕ) (claims₀ rounds : List ℕ) where
  open S use {degree as d, rows as rows}

  abbrev c : ℕ → ℕ → ℕ → ℤ
  c r j = sent_element S t rounds r j

  abbrev met_at : ℕ → Bool
  met_at r = round_holds S (row_claim S claims₀ r) (c r 0) (c r 2)

  pub record RowsSoFar (r at : ℕ) (met : Bool) (claims : List ℕ) : Type 0 where
    pub at-is : at ≡ r * d
    pub met_is : met ≡ every r met_at
    pub written : (i k : ℕ) → i < r → k < d → get_or claims (i * d + k) 0 ≡ get_or (next_claim S e (c i 0) (c i 1) (c i 2)) k 0
    pub kept : (p : ℕ) → r * d ≤ p → get_or claims p 0 ≡ get_or claims₀ p 0

  pub rows_none : RowsSoFar 0 0 true claims₀
  unfolding every
  rows_none = record { at-is = sym (Nat.zero-mul d); met_is = refl; written = λ i k h _. absurd (omega arith); kept = λ p _. refl }

  module _ (g : RowsRead S t (length claims₀) rounds) where
    pub row_room : {r at : ℕ} {met : Bool} {claims : List ℕ} → RowsSoFar r at met claims → r < rows → (at + d ≤ length claims₀) × (at ≤ length rounds)
    row_room {r} w h = (omega (arith, w.at-is, row_inside d rows r h, g.claims-long), omega (arith, w.at-is, row_inside d rows r h, g.inside))

    module _ {r at : ℕ} {met : Bool} {claims : List ℕ} (w : RowsSoFar r at met claims) (h : r < rows) (same : length claims ≡ length claims₀) where
      abbrev K : List ℕ
      K = take (at + d - at) (drop at claims)

      abbrev U : List ℕ
      U = take (length rounds - at) (drop at rounds)

      K-long : length K ≡ d
      K-long = length-take-le (at + d - at) (drop at claims) (omega (arith, length-drop at claims, (row_room w h).0)) ∙ omega arith

      K-at : (k : ℕ) → k < d → get_or K k 0 ≡ get_or (row_claim S claims₀ r) k 0
      K-at k l =
          get_or-take (at + d - at) (drop at claims) k 0 (omega arith)
          ∙ get_or-drop at claims k 0
          ∙ w.kept (at + k) (omega (arith, w.at-is))
          ∙ ap (λ p. get_or claims₀ (p + k) 0) w.at-is
          ∙ sym (get_or-drop (r * d) claims₀ k 0)

      U-is : U ≡ drop (r * d) rounds
      U-is = tail_all at rounds ∙ ap (λ p. drop p rounds) w.at-is

      read : ClaimRead S t (length K) U
      read = subst (ClaimRead S t (length K)) (sym U-is) (row_read S t (length claims₀) rounds g r h (length K) (omega (arith, K-long)))

      element_is : (j : ℕ) → Same d (row_element S U (item_of t j)) (c r j)
      element_is j k _ = ap (λ l. row_element S l (item_of t j) k) U-is

      pub rows_more : (holds : Bool) → (RoundRead S t (length K) (length U) → holds ≡ round_holds S K (row_element S U (item_of t 0)) (row_element S U (item_of t 2)))
          → (last : List ℕ) → length last ≡ length K
          → (ClaimRead S t (length K) U → Alike d last (next_claim S e (row_element S U (item_of t 0)) (row_element S U (item_of t 1)) (row_element S U (item_of t 2))))
          → RowsSoFar (r + 1) (at + d) (met && holds) (put_mid at (at + d - at) claims last)
      rows_more holds tests last long writes = record {
        at-is = next;
        met_is = every_more r met_at w.met_is (tests read.of_round ∙ round_same S (element_is 0) (element_is 1) (element_is 2) K (row_claim S claims₀ r) K-at);
        written = λ i k hi hk. elim (dec_lt i r) [
          | yes before ↦
              ap (λ l. get_or l (i * d + k) 0) is
              ∙ spliced-before (element_places last) at d claims inside (i * d + k) (omega (arith, w.at-is, cell-inside d r i k before hk))
              ∙ w.written i k before hk
          | no now ↦
              let here : i ≡ r = omega arith in
              ap (λ l. get_or l (i * d + k) 0) is
              ∙ ap (λ p. get_or (spliced (element_places last) at d claims) (p + k) 0) (ap (λ x. x * d) here ∙ sym w.at-is)
              ∙ spliced-inside (element_places last) at d claims inside k hk
              ∙ writes read k hk
              ∙ ap (λ l. get_or (next_claim S e (row_element S l (item_of t 0)) (row_element S l (item_of t 1)) (row_element S l (item_of t 2))) k 0) U-is
              ∙ ap (λ x. get_or (next_claim S e (c x 0) (c x 1) (c x 2)) k 0) (sym here)
        ];
        kept = λ p l.
            ap (λ z. get_or z p 0) is
            ∙ spliced-behind (element_places last) at d claims inside p (omega (arith, next))
            ∙ w.kept p (omega (arith, next, w.at-is));
      }
        where
          next : at + d ≡ (r + 1) * d
          next = omega (arith, w.at-is, Nat.add-mul r 1 d)

          inside : at ≤ length claims
          inside = omega (arith, same, (row_room w h).0)

          is : put_mid at (at + d - at) claims last ≡ spliced (element_places last) at d claims
          is = ap (λ n. put_mid at n claims last) {x = at + d - at} {y = d} (omega arith) ∙ put-part at d claims last (long ∙ K-long)

-- ---- the ends

module _ (S : Settings) (claims : List ℕ) (f : List ℤ) (key : List ℕ) where
  open S use {degree as d, rows as rows}

  abbrev end_at : ℕ → Bool
  end_at r = end_met S (row_claim S claims r) (signed f) (residue (key_row S key r))

  pub record EndsSoFar (r from at : ℕ) (met : Bool) : Type 0 where
    pub from_is : from ≡ r * cells S
    pub at-is : at ≡ r * d
    pub met_is : met ≡ every r end_at

  pub ends_none : EndsSoFar 0 0 0 true
  unfolding every
  ends_none = record { from_is = sym (Nat.zero-mul (cells S)); at-is = sym (Nat.zero-mul d); met_is = refl }

  module _ (g : EndsRead S (length claims) (length f) key) {r from at : ℕ} {met : Bool} (w : EndsSoFar r from at met) (h : r < rows) where
    pub end_room : (from + cells S ≤ length key) × (at + d ≤ length claims)
    end_room = (omega (arith, w.from_is, row_long S key r g.key_long h), omega (arith, w.at-is, row_inside d rows r h, g.claims-long))

    module _ (m : ℕ) (m-is : m ≡ cells S) where
      abbrev P : List ℕ
      P = take (length claims - at) (drop at claims)

      abbrev Q : List ℕ
      Q = take (from + m - from) (drop from key)

      P-is : P ≡ row_claim S claims r
      P-is = tail_all at claims ∙ ap (λ p. drop p claims) w.at-is

      Q-is : Q ≡ key_row S key r
      Q-is = (λ i. take (size i) (drop (w.from_is i) key)) ∙ lent_row S key r g.key_long h
        where
          size : from + m - from ≡ cells S
          size = omega (arith, m-is)

      Q-below : ElementReduced S Q
      Q-below k l = subst (λ q. get_or q k 0 < S.modulus) (sym Q-is) ((g.rows_below_holds r h).each k (omega (arith, degree-inside S (settings-valid S g.allowed))))

      pub ends_more : (holds : Bool) → (ElementsGiven S (length P) (length f) (length Q) → ElementReduced S Q → holds ≡ end_met S P (signed f) (residue Q))
          → EndsSoFar (r + 1) (from + m) (at + d) (met && holds)
      ends_more holds tests = record {
        from_is = omega (arith, w.from_is, m-is, Nat.add-mul r 1 (cells S));
        at-is = omega (arith, w.at-is, Nat.add-mul r 1 d);
        met_is = every_more r end_at w.met_is (tests (record {
          allowed = g.allowed;
          first = omega (arith, tail-length at claims, end_room.1);
          second = g.final_long;
          third = omega (arith, ap length Q-is, key_row-length S key r, degree-inside S (settings-valid S g.allowed));
        }) Q-below ∙ λ i. end_met S (P-is i) (signed f) (residue (Q-is i)));
      }
