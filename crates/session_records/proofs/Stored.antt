-- Records in slices: what a slice holds after a record was written to it.
use mathlib.Core.Path.{◌≡◌, sym, ap, ◌∙◌}
use mathlib.Core.Logic.{◌≢◌}
use mathlib.Core.List.{List, ◌++◌, map, append-nil}
use Prim.Native.Nat.{ℕ, ◌+◌, ◌<◌, ◌≤◌}
use native.Mathlib.Omega.{arith}
use borrow.Author.Tests.{eq-eqb, ne_eqb, lt-ltb, le-ltb}
use lib.ListN.{length, get_or, take, drop, length-drop}
use lib.Seq.{drop-length, get_or-drop, get_or-take, length-take-le}
use borrow.Rule.Slice.PartMut.{put_mid}
use Rattle.protocol.specs.declared.Session.{Session}
use Rattle.protocol.specs.Basic.{tabulate, choose}
use Rattle.protocol.specs.Element.{zeros}
use Rattle.protocol.specs.Layout.{rows_width}
use Rattle.protocol.specs.Settings.{has_length}
use Rattle.protocol.proofs.Reading.{tabulate_length, tabulate_at, tabulate_ext, tabulate_own}
use Rattle.residues.specs.Lists.{spliced}
use Rattle.residues.proofs.Fill.{zeros-length, zeros_at}
use Rattle.residues.proofs.Splice.{spliced_ext, spliced-twice, spliced_same, spliced-length, spliced-behind}
use Rattle.slices.specs.Slices.{capped}
use Rattle.session_records.specs.Records.{record_width, challenges_of, claims_of, head_of, number_of, numbers_of, record_stored}

module _ (r : Session) where
  pub stays : (t : List ℕ) → length t ≢ record_width → t ≡ record_stored r t
  unfolding record_stored has_length choose
  stays t h = sym (ap (λ b. choose b (numbers_of r) t) (ne_eqb _ _ h))

  pub stored : (t : List ℕ) → length t ≡ record_width → record_stored r t ≡ numbers_of r
  unfolding record_stored has_length choose
  stored t h = ap (λ b. choose b (numbers_of r) t) (eq-eqb _ _ h)

  pub head-number : (k : ℕ) → k < 7 → get_or (head_of r) k 0 ≡ number_of r k
  unfolding number_of choose
  head-number k l = simp (lt-ltb k 7 l)

  pub challenge-number : (k : ℕ) → k < 8 → get_or r.challenges k 0 ≡ number_of r (7 + k)
  unfolding number_of choose
  challenge-number k l =
      let past : 7 ≤ 7 + k = omega arith in
      let before : 7 + k < 15 = omega arith in
      simp (le-ltb (7 + k) 7 past, lt-ltb (7 + k) 15 before) (ap (λ n. get_or r.challenges n 0) (omega arith))

  pub place-number : (k : ℕ) → k < rows_width → get_or r.claims k 0 ≡ number_of r (15 + k)
  unfolding number_of choose
  place-number k l =
      let past : 7 ≤ 15 + k = omega arith in
      let behind : 15 ≤ 15 + k = omega arith in
      simp (le-ltb (15 + k) 7 past, le-ltb (15 + k) 15 behind) (ap (λ n. get_or r.claims n 0) (omega arith))

  -- the numbers before the challenges, the challenges and the claims, written one after the other
  pub parts-stored : (first t : List ℕ) → first ≡ head_of r → length t ≡ record_width
      → spliced (λ k. get_or r.claims k 0) 15 rows_width (spliced (λ k. get_or r.challenges k 0) 7 8 (spliced (λ k. get_or first k 0) 0 7 t)) ≡ record_stored r t
  unfolding numbers_of spliced
  parts-stored first t e h =
      ap (λ l. spliced (λ k. get_or r.claims k 0) 15 rows_width (spliced (λ k. get_or r.challenges k 0) 7 8 l))
      (spliced_ext _ (number_of r) 0 7 t (λ k l. ap (λ x. get_or x k 0) e ∙ head-number k l))
      ∙ ap (spliced (λ k. get_or r.claims k 0) 15 rows_width) (spliced-twice (number_of r) (λ k. get_or r.challenges k 0) 0 7 8 t (omega arith) challenge-number)
      ∙ spliced-twice (number_of r) (λ k. get_or r.claims k 0) 0 15 rows_width t (omega arith) place-number
      ∙ ap (λ l. tabulate record_width (number_of r) ++ l) (ap (λ n. drop n t) (sym h) ∙ drop-length t) ∙ append-nil _ ∙ sym (stored t h)

  -- the same where the claims stand there already
  pub front-stored : (first t : List ℕ) → first ≡ head_of r → r.claims ≡ claims_of t → length t ≡ record_width
      → spliced (λ k. get_or r.challenges k 0) 7 8 (spliced (λ k. get_or first k 0) 0 7 t) ≡ record_stored r t
  unfolding claims_of
  front-stored first t e own h =
      spliced_same 15 rows_width written (omega (arith, written_long))
      ∙ spliced_ext _ (λ k. get_or r.claims k 0) 15 rows_width written
      (λ k l. spliced-behind _ 7 8 before (omega (arith, before_long)) (15 + k) (omega arith) ∙ spliced-behind _ 0 7 t (omega arith) (15 + k) (omega arith)
      ∙ sym (ap (λ c. get_or c k 0) own ∙ tabulate_at rows_width (λ k. get_or t (15 + k) 0) 0 k l))
      ∙ parts-stored first t e h
    where
      before : List ℕ
      before = spliced (λ k. get_or first k 0) 0 7 t

      before_long : length before ≡ record_width
      before_long = spliced-length _ 0 7 t (omega arith) (omega arith) ∙ h

      written : List ℕ
      written = spliced (λ k. get_or r.challenges k 0) 7 8 before

      written_long : length written ≡ record_width
      written_long = spliced-length _ 7 8 before (omega (arith, before_long)) (omega (arith, before_long)) ∙ before_long

  -- so written by parts
  pub parts-put : (first wide t : List ℕ) → first ≡ head_of r → wide ≡ r.challenges → length wide ≡ 8 → r.claims ≡ claims_of t → length t ≡ record_width
      → put_mid 7 8 (first ++ drop 7 t) wide ≡ record_stored r t
  unfolding spliced head_of
  parts-put first wide t e w long own h =
      (λ i. take 7 (first ++ drop 7 t) ++ (sym (tabulate_own 8 wide 0 long) i ++ drop 8 (drop 7 (first ++ drop 7 t))))
      ∙ (λ i. spliced (λ k. get_or (w i) k 0) 7 8 (sym (tabulate_own 7 first 0 (ap length e)) i ++ drop 7 t))
      ∙ front-stored first t e own h

  -- what stood in the slice does not matter
  pub stored-over : (t u : List ℕ) → length t ≡ record_width → length u ≡ record_width → record_stored r t ≡ record_stored r u
  stored-over t u h g = stored t h ∙ sym (stored u g)

  pub numbers-length : length (numbers_of r) ≡ record_width
  unfolding numbers_of
  numbers-length = tabulate_length record_width (number_of r)

-- the claims in a slice of zeros
pub claims-zero : claims_of (zeros record_width) ≡ zeros rows_width
unfolding claims_of
claims-zero = tabulate_ext rows_width (λ k _. zeros_at record_width (15 + k) ∙ sym (zeros_at rows_width k)) ∙ tabulate_own rows_width (zeros rows_width) 0 (zeros-length rows_width)

-- the challenges in a slice, one by one
pub challenges-read : (t : List ℕ) → length t ≡ record_width → map capped (take 8 (drop 7 t)) ≡ challenges_of t
unfolding challenges_of tabulate
challenges-read t h =
    ap (map capped) (sym (tabulate_own 8 (take 8 (drop 7 t)) 0 (length-take-le 8 (drop 7 t) (omega (arith, length-drop 7 t)))))
    ∙ ap (map capped) (tabulate_ext 8 {f = λ k. get_or (take 8 (drop 7 t)) k 0} {g = λ k. get_or t (7 + k) 0} (λ k l. get_or-take 8 (drop 7 t) k 0 l ∙ get_or-drop 7 t k 0))
