-- The laws of records in slices, for a reader: a record that was stored and is loaded is the record, and a slice that was loaded and is stored is the slice,
-- where its numbers for 32 bits are such. Every record that a move hands back has arrays of their lengths and numbers of 32 bits, so the first law holds of it.
use mathlib.Core.Path.{◌≡◌, refl, sym, ap, subst, ◌∙◌}
use mathlib.Core.Logic.{◌≢◌}
use mathlib.Core.Bool.{Bool, true, false}
use mathlib.Core.List.{List}
use Prim.Native.Nat.{ℕ, zero, suc, ◌+◌, ◌*◌, ◌-◌, ◌^◌, ◌<◌, ◌≤◌}
use native.Mathlib.Decide.{dec_lt, ℕ_discrete}
use native.Mathlib.Omega.{arith}
use borrow.Author.Tests.{lt-ltb, le-ltb, leb-true, ltb-true}
use lib.Dec.{leb, ltb, eqb}
use lib.IntN.{ℤ}
use lib.ListN.{length, get_or, set, length-set, get_or-eq_default}
use lib.Seq.{ext_get_or, get_or-set_same, get_or-set_other}
use Rattle.protocol.specs.declared.Settings.{Settings}
use Rattle.protocol.specs.declared.Session.{Session}
use Rattle.protocol.specs.Answers.Verdict.{Holds, Rejected}
use Rattle.protocol.specs.Basic.{tabulate, choose, granted}
use Rattle.protocol.specs.Element.{zeros}
use Rattle.protocol.specs.Layout.{rows_width}
use Rattle.protocol.specs.Settings.{settings_refusal, exponent}
use Rattle.protocol.specs.Settings as S
use Rattle.protocol.specs.Session.{opened, blank, start_refusal, start, shut, session_round_refusal, advanced, session_round_holds, round, session_end_refusal, end, refused_move, session_end_holds, verdict}
use Rattle.protocol.proofs.Tests.{first_zero, unless-zero, and_split}
use Rattle.protocol.proofs.Inputs.{settings-valid}
use Rattle.protocol.proofs.Rows.{at_rows-length}
use Rattle.protocol.proofs.Reading.{tabulate_length, tabulate_at, tabulate_ext, tabulate_own}
use Rattle.residues.proofs.Fill.{zeros-length, zeros_at}
use Rattle.slices.specs.Slices.{capped}
use Rattle.sizes.proofs.Limits.{degree_most}
use Rattle.session_records.specs.Records.{record_width, challenges_of, claims_of, session_of, flagged, head_of, number_of, numbers_of}
use Rattle.session_records.proofs.Stored.{head-number, challenge-number, place-number}

-- a record whose arrays have their lengths, and whose numbers but for modulus and claims are of 32 bits, as every record has that is passed by value
pub record Whole (r : Session) : Type 0 where
  pub claims : length r.claims ≡ rows_width
  pub challenges : length r.challenges ≡ 8
  pub degree : r.settings.degree < 2 ^ 32
  pub depth : r.settings.depth < 2 ^ 32
  pub bound : r.settings.bound < 2 ^ 32
  pub rows : r.settings.rows < 2 ^ 32
  pub done : r.done < 2 ^ 32
  pub exponents_small : (k : ℕ) → get_or r.challenges k 0 < 2 ^ 32

capped_small : (x : ℕ) → x < 2 ^ 32 → capped x ≡ x
unfolding capped choose
capped_small x h = ap (λ b. choose b x (2 ^ 32 - 1)) (lt-ltb x (2 ^ 32) h)

capped-below : (x : ℕ) → capped x < 2 ^ 32
unfolding capped choose
capped-below x = go (ltb x (2 ^ 32)) refl
  where
    go : (b : Bool) → ltb x (2 ^ 32) ≡ b → choose b x (2 ^ 32 - 1) < 2 ^ 32
    go true e = ltb-true x (2 ^ 32) e
    go false e = omega arith

-- ---- storing, then loading

module _ (r : Session) where
  number_at : (k : ℕ) → k < record_width → get_or (numbers_of r) k 0 ≡ number_of r k
  unfolding numbers_of
  number_at k h = tabulate_at record_width (number_of r) 0 k h

  head_at : (k : ℕ) → k < 7 → get_or (numbers_of r) k 0 ≡ get_or (head_of r) k 0
  head_at k h = number_at k (omega arith) ∙ sym (head-number r k h)

  challenge_at : (k : ℕ) → k < 8 → get_or (numbers_of r) (7 + k) 0 ≡ get_or r.challenges k 0
  challenge_at k h = number_at (7 + k) (omega arith) ∙ sym (challenge-number r k h)

  place_at : (k : ℕ) → k < rows_width → get_or (numbers_of r) (15 + k) 0 ≡ get_or r.claims k 0
  place_at k h = number_at (15 + k) (omega arith) ∙ sym (place-number r k h)

  flag : (b : Bool) → eqb (choose b 1 0) 1 ≡ b
  unfolding choose
  flag true = refl
  flag false = refl

  flag_small : (b : Bool) → leb (choose b 1 0) 1 ≡ true
  unfolding choose
  flag_small true = refl
  flag_small false = refl

  own : {x y : ℕ} → x ≡ y → y < 2 ^ 32 → capped x ≡ y
  own e h = ap capped e ∙ capped_small _ h

  pub flagged-stored : flagged (numbers_of r) ≡ true
  unfolding flagged head_of choose
  flagged-stored = ap (λ n. leb n 1) (head_at 6 (omega arith)) ∙ flag_small r.closed

  pub load_stored : Whole r → session_of (numbers_of r) ≡ r
  unfolding session_of challenges_of claims_of head_of choose
  load_stored w =
      let claims = tabulate_ext rows_width place_at ∙ tabulate_own rows_width r.claims 0 w.claims in
      let challenges = tabulate_ext 8 (λ k h. own (challenge_at k h) (w.exponents_small k)) ∙ tabulate_own 8 r.challenges 0 w.challenges in
      let closed = ap (λ n. eqb n 1) (head_at 6 (omega arith)) ∙ flag r.closed in
      λ i. record {
        settings = record {
          degree = own (head_at 0 (omega arith)) w.degree i;
          depth = own (head_at 1 (omega arith)) w.depth i;
          modulus = head_at 2 (omega arith) i;
          bound = own
              (head_at 3 (omega arith)) w.bound i;
          rows = own (head_at 4 (omega arith)) w.rows i;
        };
        done = own (head_at 5 (omega arith)) w.done i;
        claims = claims i;
        challenges = challenges i;
        closed = closed i;
      }

-- ---- loading, then storing

module _ (t : List ℕ) (long : length t ≡ record_width) (good : flagged t ≡ true) (small : (k : ℕ) → k < 15 → k ≢ 2 → get_or t k 0 < 2 ^ 32) where
  kept_at : (k : ℕ) → k < 15 → k ≢ 2 → capped (get_or t k 0) ≡ get_or t k 0
  kept_at k h n = capped_small (get_or t k 0) (small k h n)

  flag-number : (x : ℕ) → x ≤ 1 → choose (eqb x 1) 1 0 ≡ x
  unfolding choose
  flag-number zero h = refl
  flag-number (suc zero) h = refl
  flag-number (suc (suc x)) h = absurd (omega arith)

  head_kept : (k : ℕ) → k < 7 → get_or (head_of (session_of t)) k 0 ≡ get_or t k 0
  unfolding head_of session_of choose flagged
  head_kept zero h = kept_at 0 (omega arith) (λ e. omega arith)
  head_kept (suc zero) h = kept_at 1 (omega arith) (λ e. omega arith)
  head_kept (suc (suc zero)) h = refl
  head_kept (suc (suc (suc zero))) h = kept_at 3 (omega arith) (λ e. omega arith)
  head_kept (suc (suc (suc (suc zero)))) h = kept_at 4 (omega arith) (λ e. omega arith)
  head_kept (suc (suc (suc (suc (suc zero))))) h = kept_at 5 (omega arith) (λ e. omega arith)
  head_kept (suc (suc (suc (suc (suc (suc zero)))))) h = flag-number (get_or t 6 0) (leb-true _ _ good)
  head_kept (suc (suc (suc (suc (suc (suc (suc k))))))) h = absurd (omega arith)

  number_kept : (k : ℕ) → k < record_width → number_of (session_of t) k ≡ get_or t k 0
  unfolding number_of choose
  number_kept k h = elim (dec_lt k 7) [
    | yes l ↦ simp (lt-ltb k 7 l) (head_kept k l)
    | no g ↦ elim (dec_lt k 15) [
      | yes l ↦ simp (le-ltb k 7 (omega arith), lt-ltb k 15 l) (challenge_kept k (omega arith) l)
      | no g' ↦ simp (le-ltb k 7 (omega arith), le-ltb k 15 (omega arith)) (place_kept k (omega arith) h)
    ]
  ]
    where
      challenge_kept : (k : ℕ) → 7 ≤ k → k < 15 → get_or (session_of t).challenges (k - 7) 0 ≡ get_or t k 0
      challenge_kept k a b = unfold session_of in unfold challenges_of in tabulate_at 8 (λ j. capped (get_or t (7 + j) 0)) 0 (k - 7) (omega arith) ∙ ap (λ n. capped (get_or t n 0)) (omega arith) ∙
          kept_at k (omega arith) (λ e. omega arith)

      place_kept : (k : ℕ) → 15 ≤ k → k < record_width → get_or (session_of t).claims (k - 15) 0 ≡ get_or t k 0
      place_kept k a b = unfold session_of in unfold claims_of in tabulate_at rows_width (λ j. get_or t (15 + j) 0) 0 (k - 15) (omega arith) ∙ ap (λ n. get_or t n 0) (omega arith)

  pub stored-load : numbers_of (session_of t) ≡ t
  unfolding numbers_of
  stored-load =
      ext_get_or 0 _ t (tabulate_length record_width _ ∙ sym long)
      (λ k h. let l : k < record_width = omega (arith, tabulate_length record_width (number_of (session_of t))) in tabulate_at record_width (number_of (session_of t)) 0 k l ∙ number_kept k l)

-- ---- the records that moves hand back

pub session-whole : (t : List ℕ) → Whole (session_of t)
unfolding session_of claims_of challenges_of
session-whole t = record {
  claims = tabulate_length rows_width _;
  challenges = tabulate_length 8 _;
  degree = capped-below (get_or t 0 0);
  depth = capped-below (get_or t 1 0);
  bound = capped-below (get_or t 3 0);
  rows = capped-below (get_or t 4 0);
  done = capped-below (get_or t 5 0);
  exponents_small = λ k. elim (dec_lt k 8) [
    | yes l ↦ subst (λ x. x < 2 ^ 32) (sym (tabulate_at 8 (λ j. capped (get_or t (7 + j) 0)) 0 k l)) (capped-below (get_or t (7 + k) 0))
    | no g ↦ subst (λ x. x < 2 ^ 32) (sym (get_or-eq_default (tabulate 8 (λ j. capped (get_or t (7 + j) 0))) 0 (omega (arith, tabulate_length 8 (λ j. capped (get_or t (7 + j) 0)))))) (omega arith)
  ];
}

zero_small : (k : ℕ) → get_or (zeros 8) k 0 < 2 ^ 32
zero_small k = omega (arith, zeros_at 8 k)

pub start-whole : (S : Settings) (C : List ℕ) → Whole (start S C).next
unfolding start start_refusal granted opened blank
start-whole S C = go (start_refusal S C) refl
  where
    go : (n : ℕ) → start_refusal S C ≡ n → Whole (granted n (opened S C) blank)
    go zero e =
        let v = settings-valid S (first_zero _ _ e).0 in
        record {
          claims = at_rows-length S _;
          challenges = zeros-length 8;
          degree = omega (arith, degree_most S v);
          depth = omega (arith, v.depth_most);
          bound = omega (arith, v.bound_most);
          rows = omega (arith, v.rows_most_holds);
          done = omega arith;
          exponents_small = zero_small;
        }
    go (suc n) e = record {
      claims = zeros-length rows_width;
      challenges = zeros-length 8;
      degree = omega arith;
      depth = omega arith;
      bound = omega arith;
      rows = omega arith;
      done = omega arith;
      exponents_small = zero_small;
    }

module _ (r : Session) (w : Whole r) where
  shut_whole : Whole (shut r)
  unfolding shut
  shut_whole = record { claims = w.claims; challenges = w.challenges; degree = w.degree; depth = w.depth; bound = w.bound; rows = w.rows; done = w.done; exponents_small = w.exponents_small }

  set_small : (i e : ℕ) → e < 2 ^ 32 → (k : ℕ) → get_or (set r.challenges i e) k 0 < 2 ^ 32
  set_small i e h k = elim (ℕ_discrete k i) [
    | yes s ↦ elim (dec_lt i (length r.challenges)) [
      | yes l ↦ subst (λ x. x < 2 ^ 32) (sym (ap (λ j. get_or (set r.challenges i e) j 0) s ∙ get_or-set_same r.challenges i e 0 l)) h
      | no g ↦ subst (λ x. x < 2 ^ 32) (sym (get_or-eq_default (set r.challenges i e) 0 (omega (arith, length-set r.challenges i e)))) (omega arith)
    ]
    | no n ↦ subst (λ x. x < 2 ^ 32) (sym (get_or-set_other r.challenges i k e 0 n)) (w.exponents_small k)
  ]

  advanced_whole : (p : List (List ℕ)) (e : ℕ) → settings_refusal r.settings ≡ 0 → exponent r.settings e ≡ true → r.done < r.settings.depth → Whole (advanced r p e)
  unfolding advanced exponent
  advanced_whole p e h small left =
      let v = settings-valid r.settings h in
      record {
        claims = at_rows-length r.settings _;
        challenges = simp length-set w.challenges;
        degree = w.degree;
        depth = w.depth;
        bound = w.bound;
        rows = w.rows;
        done = omega (arith, v.depth_most);
        exponents_small = set_small r.done e (omega (arith, ltb-true e (2 * r.settings.degree) small, degree_most r.settings v));
      }

  pub move_whole : (p : List (List ℕ)) (e : ℕ) → Whole (round r p e).next
  unfolding round session_round_refusal granted choose refused_move
  move_whole p e = go (session_round_refusal r p e) refl (session_round_holds r p)
    where
      go : (n : ℕ) → session_round_refusal r p e ≡ n → (b : Bool)
          → Whole (granted n (choose b (record { refusal = 0; verdict = Holds; next = advanced r p e }) (record { refusal = 0; verdict = Rejected; next = shut r })) (refused_move r n)).next
      go zero h true =
          let (settings, h8) = first_zero _ _ h in
          let (residues, h10) = first_zero _ _ h8 in
          let (exponents, h11) = first_zero _ _ h10 in
          advanced_whole p e settings (and_split {a = S.exponents r.settings r.challenges} (unless-zero 9 _ exponents)).1
          (ltb-true _ _ (and_split {a = ltb r.done r.settings.depth} (unless-zero 10 _ (first_zero _ _ h11).0)).0)
      go zero h false = shut_whole
      go (suc n) h b = w

  pub close_whole : (f : List ℤ) (key : List ℕ) → Whole (end r f key).next
  unfolding end granted refused_move
  close_whole f key = go (session_end_refusal r key)
    where
      go : (n : ℕ) → Whole (granted n (record { refusal = 0; verdict = verdict (session_end_holds r f key); next = shut r }) (refused_move r n)).next
      go zero = shut_whole
      go (suc n) = w
