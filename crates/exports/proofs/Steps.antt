-- The exported calls of an opening, on slices of their lengths: none is refused, and each leaves what its call of protocol answers, in its slice.
use mathlib.Core.Path.{◌≡◌, sym, ap, ◌∙◌, subst}
use mathlib.Core.Bool.{Bool, true, ◌&&◌}
use mathlib.Core.List.{List, [], ◌++◌, append-nil}
use Prim.Native.Nat.{ℕ, zero, suc, ◌<◌, ◌≤◌}
use native.Mathlib.Nat as Nat
use native.Mathlib.Omega.{arith}
use borrow.Author.Tests.{eq-eqb}
use lib.IntN.{ℤ}
use lib.ListN.{length, get_or, take, length-append}
use Rattle.protocol.specs.declared.Settings.{Settings}
use Rattle.protocol.specs.declared.Session.{Session}
use Rattle.protocol.specs.Answers.{Committed}
use Rattle.protocol.specs.Answers.{Polynomial}
use Rattle.protocol.specs.Answers.{Ended}
use Rattle.protocol.specs.Answers.{Started}
use Rattle.protocol.specs.Answers.{Moved}
use Rattle.protocol.specs.Answers.Verdict.{Holds, Accepted}
use Rattle.protocol.specs.Element.{padded_signed}
use Rattle.protocol.specs.Layout.{item_cells, polynomial_cells}
use Rattle.protocol.specs.Settings.{has_length}
use Rattle.protocol.specs.Opening.{commitment, round_element, message_after, final_element}
use Rattle.protocol.specs.Rows.{key_row, at_rows, together, commitments, keys_after}
use Rattle.protocol.specs.Session.{opened, blank, start_refusal, start, shut, part, round, end}
use Rattle.protocol.specs.Calls.{polynomial}
use Rattle.protocol.specs.Inputs.{Valid}
use Rattle.protocol.proofs.Tests.{and_intro, granted-zero}
use Rattle.protocol.proofs.Refusals.{first_passes, first_holds, first_only}
use Rattle.protocol.proofs.Inputs.{valid-settings, degree_most}
use Rattle.protocol.proofs.Reading.{flat-length}
use Rattle.protocol.proofs.Ranges.{last_length}
use Rattle.claims.proofs.RowLaws.{commitments-together, commitments-below}
use Rattle.claims.proofs.Honest.{Given, degree-positive, modulus-positive}
use Rattle.claims.proofs.Prover.{commit-answer, round-answer, end-answer}
use Rattle.claims.proofs.Sessions.{session_after, start-answer, session-round-answer, session-end-answer}
use Rattle.slices.specs.Slices.{lent, values_of, polynomial_of, laid}
use Rattle.protocol.specs.Session.{verdict_number}
use Rattle.slices.proofs.Laws.{whole_back, element_there, polynomial_there}
use Rattle.session_records.specs.Records.{record_width, session_of, flagged, numbers_of, record_stored}
use Rattle.sessions.specs.Promises.{start_number, start_exit, move_number, move_exit, move_verdict, polynomial_fits, round_on, last_fits, end_on}
use Rattle.session_records.proofs.Stored.{stored, numbers-length}
use Rattle.sessions.proofs.Laws.{Whole, load_stored, flagged-stored, start-whole, move_whole}
use Rattle.exports.specs.Border as Border

-- where the settings are allowed and the slices beside have their lengths, the call's own refusal is all
pub own : (S : Settings) → Valid S → (fits : Bool) (N : ℕ) → fits ≡ true → lent S fits N ≡ N
unfolding lent
own S v fits N e = first_passes _ _ (valid-settings S v) ∙ first_holds 7 _ _ e ∙ first_only N

pub fit {ℓ} : {A : Type ℓ} (n : ℕ) (t : List A) → length t ≡ n → has_length n t ≡ true
unfolding has_length
fit n t e = eq-eqb _ _ e

-- a move on a record in a slice
module _ (S : Settings) (v : Valid S) (fits : Bool) (m : Moved) (r : Session) (e : (session_of (numbers_of r)).settings ≡ S) (f : fits ≡ true) (z : m.refusal ≡ 0) where
  pub move-number : move_number fits m (numbers_of r) ≡ 0
  unfolding move_number
  move-number =
      first_holds 7 _ _ (fit record_width (numbers_of r) (numbers-length r))
      ∙ first_only _
      ∙ ap (λ s. lent s (fits && flagged (numbers_of r)) m.refusal) e
      ∙ own S v _ _ (and_intro f (flagged-stored r))
      ∙ z

  pub move_exit_lem : move_exit fits m (numbers_of r) ≡ numbers_of m.next
  unfolding move_exit
  move_exit_lem = granted-zero _ _ _ move-number ∙ stored m.next (numbers_of r) (numbers-length r)

  pub move-verdict : move_verdict fits m (numbers_of r) ≡ verdict_number m.verdict
  unfolding move_verdict
  move-verdict = granted-zero _ _ _ move-number

module _ {S : Settings} {G : List ℕ} {M : List ℤ} {E : List ℕ} (ok : Given S G M E) where
  open S use {degree as d, depth as L}

  abbrev session : ℕ → Session
  session = session_after S G M E

  abbrev pub p : ℕ → List (List ℕ)
  p t = polynomial S t (keys_after S E t G) (message_after S E t M)

  some-degree : 0 < d
  some-degree = degree-positive S ok.settings

  -- ---- commit and start

  -- the commitment by value, and as a slice
  abbrev committed : List ℕ
  committed = at_rows S (λ r. commitment S (key_row S G r) M)

  abbrev pub C : List ℕ
  C = commitments S G M

  pub commitment-laid : together S committed ≡ C
  commitment-laid = commitments-together S ok.settings.rows_most_holds (degree_most S ok.settings) G M some-degree

  commitment-long : length C ≡ item_cells S
  commitment-long = (commitments-below S (modulus-positive S ok.settings) some-degree G M).long

  commitment-read : values_of S C ≡ committed
  commitment-read = ap (values_of S) (sym commitment-laid ∙ sym (append-nil (together S committed))) ∙ element_there S ok.settings (λ r. commitment S (key_row S G r) M) []

  module _ (c : List ℕ) (long : length c ≡ item_cells S) where
    pub commit-number : Border.commit_number S G M c ≡ 0
    unfolding Border.commit_number
    commit-number = own S ok.settings _ _ (fit (item_cells S) c long) ∙ ap (λ (r : Committed). r.refusal) (commit-answer ok)

    pub commit_exit_lem : Border.commit_exit S G M c ≡ C
    unfolding Border.commit_exit
    commit_exit_lem = granted-zero _ _ _ commit-number ∙ ap (λ (r : Committed). together S r.commitment) (commit-answer ok) ∙ commitment-laid

  started : start S (values_of S C) ≡ record { refusal = 0; next = session 0 }
  started = ap (start S) commitment-read ∙ start-answer ok

  module _ (r : List ℕ) (long : length r ≡ record_width) where
    start-granted : start_refusal S (values_of S C) ≡ 0
    unfolding start
    start-granted = ap (λ (x : Started). x.refusal) started

    pub start-number : start_number S C r ≡ 0
    unfolding start_number
    start-number = own S ok.settings _ _ (and_intro (fit (item_cells S) C commitment-long) (fit record_width r long)) ∙ start-granted

    pub start_exit_lem : start_exit S C r ≡ numbers_of (session 0)
    unfolding start_exit start
    start_exit_lem =
        ap (λ x. record_stored x r) (granted-zero _ _ _ start-number ∙ sym (granted-zero _ (opened S (values_of S C)) blank start-granted) ∙ ap (λ (x : Started). x.next) started)
        ∙ stored (session 0) r long

  -- ---- the record after t rounds

  whole : (t : ℕ) → t ≤ L → Whole (session t)
  whole zero l = subst Whole (ap (λ (x : Started). x.next) started) (start-whole S (values_of S C))
  whole (suc t) l = subst Whole (ap (λ (x : Moved). x.next) (session-round-answer ok t l)) (move_whole (session t) (whole t (omega arith)) (p t) (get_or E t 0))

  module _ (t : ℕ) (l : t ≤ L) where
    loaded : session_of (numbers_of (session t)) ≡ session t
    loaded = load_stored (session t) (whole t l)

    settings_are : (session_of (numbers_of (session t))).settings ≡ S
    unfolding session_after
    settings_are = ap (λ (x : Session). x.settings) loaded

  -- ---- a round

  module _ (t : ℕ) (l : t < L) where
    abbrev slice : List ℕ
    slice = laid S (p t)

    module _ (q : List ℕ) (long : length q ≡ polynomial_cells S) where
      pub round_number_lem : Border.round_number S t (keys_after S E t G) (message_after S E t M) q ≡ 0
      unfolding Border.round_number
      round_number_lem = own S ok.settings _ _ (fit (polynomial_cells S) q long) ∙ ap (λ (r : Polynomial). r.refusal) (round-answer ok t l)

      pub round_exit_lem : Border.round_exit S t (keys_after S E t G) (message_after S E t M) q ≡ slice
      unfolding Border.round_exit
      round_exit_lem = granted-zero _ _ _ round_number_lem ∙ ap (λ (r : Polynomial). laid S r.elements) (round-answer ok t l)

    pub slice_long : length slice ≡ polynomial_cells S
    unfolding laid together
    slice_long =
        length-append (item 0) (item 1 ++ item 2)
        ∙ omega (arith, length-append (item 1) (item 2), item_long 0, item_long 1, item_long 2)
      where
        item : ℕ → List ℕ
        item j = together S (part (p t) j)

        item_long : (j : ℕ) → length (item j) ≡ item_cells S
        item_long j = flat-length d S.rows _

    slice-read : polynomial_of S slice ≡ p t
    unfolding polynomial
    slice-read = polynomial_there S ok.settings (λ j r. round_element S t (key_row S (keys_after S E t G) r) (message_after S E t M) j)

    slice_fits : polynomial_fits slice (numbers_of (session t)) ≡ true
    unfolding polynomial_fits
    slice_fits = ap (λ s. has_length (polynomial_cells s) slice) (settings_are t (omega arith)) ∙ fit (polynomial_cells S) slice slice_long

    made : round_on slice (get_or E t 0) (numbers_of (session t)) ≡ record { refusal = 0; verdict = Holds; next = session (suc t) }
    unfolding round_on session_after
    made =
        ap (λ (s : Session). round s (polynomial_of s.settings slice) (get_or E t 0)) (loaded t (omega arith))
        ∙ ap (λ x. round (session t) x (get_or E t 0)) slice-read
        ∙ session-round-answer ok t l

    abbrev m : Moved
    m = round_on slice (get_or E t 0) (numbers_of (session t))

    pub check-number : move_number (polynomial_fits slice (numbers_of (session t))) m (numbers_of (session t)) ≡ 0
    check-number = move-number S ok.settings _ m (session t) (settings_are t (omega arith)) slice_fits (ap (λ (x : Moved). x.refusal) made)

    pub check_exit : move_exit (polynomial_fits slice (numbers_of (session t))) m (numbers_of (session t)) ≡ numbers_of (session (suc t))
    check_exit = move_exit_lem S ok.settings _ m (session t) (settings_are t (omega arith)) slice_fits (ap (λ (x : Moved). x.refusal) made) ∙ ap (λ (x : Moved). numbers_of x.next) made

    pub check-verdict : move_verdict (polynomial_fits slice (numbers_of (session t))) m (numbers_of (session t)) ≡ 1
    unfolding verdict_number
    check-verdict = move-verdict S ok.settings _ m (session t) (settings_are t (omega arith)) slice_fits (ap (λ (x : Moved). x.refusal) made) ∙ ap (λ (x : Moved). verdict_number x.verdict) made

  -- ---- the end

  abbrev pub final : List ℤ
  final = final_element S (message_after S E L M)

  final_long : length final ≡ d
  final_long = last_length S (message_after S E L M)

  module _ (f : List ℤ) (long : length f ≡ d) where
    pub end-number : Border.end_number S L (message_after S E L M) f ≡ 0
    unfolding Border.end_number
    end-number = own S ok.settings _ _ (fit d f long) ∙ ap (λ (r : Ended). r.refusal) (end-answer ok)

    pub end_exit_lem : Border.end_exit S L (message_after S E L M) f ≡ final
    unfolding Border.end_exit
    end_exit_lem = granted-zero _ _ _ end-number ∙ ap (λ (r : Ended). take d r.last) (end-answer ok) ∙ whole_back d final final_long

  final-fits : last_fits final (numbers_of (session L)) ≡ true
  unfolding last_fits
  final-fits = ap (λ s. has_length s.degree final) (settings_are L (Nat.le_refl L)) ∙ fit d final final_long

  closed : end_on final G (numbers_of (session L)) ≡ record { refusal = 0; verdict = Accepted; next = shut (session L) }
  unfolding end_on session_after
  closed = ap (λ (s : Session). end s (padded_signed s.settings.degree final) G) (loaded L (Nat.le_refl L)) ∙ session-end-answer ok

  abbrev n : Moved
  n = end_on final G (numbers_of (session L))

  pub close-number : move_number (last_fits final (numbers_of (session L))) n (numbers_of (session L)) ≡ 0
  close-number = move-number S ok.settings _ n (session L) (settings_are L (Nat.le_refl L)) final-fits (ap (λ (x : Moved). x.refusal) closed)

  pub close_exit : move_exit (last_fits final (numbers_of (session L))) n (numbers_of (session L)) ≡ numbers_of (shut (session L))
  close_exit = move_exit_lem S ok.settings _ n (session L) (settings_are L (Nat.le_refl L)) final-fits (ap (λ (x : Moved). x.refusal) closed) ∙ ap (λ (x : Moved). numbers_of x.next) closed

  pub close-verdict : move_verdict (last_fits final (numbers_of (session L))) n (numbers_of (session L)) ≡ 2
  unfolding verdict_number
  close-verdict =
      move-verdict S ok.settings _ n (session L) (settings_are L (Nat.le_refl L)) final-fits (ap (λ (x : Moved). x.refusal) closed)
      ∙ ap (λ (x : Moved). verdict_number x.verdict) closed
