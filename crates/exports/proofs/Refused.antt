-- A refused exported call changes no slice that is held, whichever call it is and whatever it was lent. So a run with refused calls between its steps is the
-- run of its steps.
--   runs S E steps a    the steps alone, one after the other
use mathlib.Core.Path.{◌≡◌, refl, ap, ◌∙◌}
use mathlib.Core.Logic.{◌≢◌}
use mathlib.Core.List.{List, [], ◌∷◌}
use Prim.Native.Nat.{ℕ}
use lib.IntN.{ℤ}
use Rattle.protocol.specs.declared.Settings.{Settings}
use Rattle.protocol.specs.Basic.{granted}
use Rattle.protocol.specs.Calls.{fold_key_exit, fold_message_exit}
use Rattle.text_format.specs.Text.{lines_of, tables_in}
use Rattle.one_claim.specs.Demand3.{Step}
use Rattle.protocol.proofs.Tests.{granted_refused}
use Rattle.sessions.specs.Promises.{move_exit}
use Rattle.text_calls.specs.Promises.{read_number}
use Rattle.exports.specs.Border as Border
use Rattle.exports.specs.Claim.{Held, State, Words, Wholes, Call, words, wholes, tables, refusal, put_words, put_wholes, after, step, Gap, none, refused, Run, stop, go}

-- ---- what comes back as it was lent, to what is as it was

back_words : (s : Words) {h x : Held} {t : List ℕ} → t ≡ words h s → x ≡ h → put_words s t x ≡ h
unfolding put_words words
back_words Words.key e f = λ i.
    record { message = (f i).message; key = e i; copy = (f i).copy; session = (f i).session; commitment = (f i).commitment; polynomial = (f i).polynomial; last = (f i).last; folds = (f i).folds }
back_words Words.copy e f = λ i.
    record { message = (f i).message; key = (f i).key; copy = e i; session = (f i).session; commitment = (f i).commitment; polynomial = (f i).polynomial; last = (f i).last; folds = (f i).folds }
back_words Words.session e f = λ i.
    record { message = (f i).message; key = (f i).key; copy = (f i).copy; session = e i; commitment = (f i).commitment; polynomial = (f i).polynomial; last = (f i).last; folds = (f i).folds }
back_words Words.commitment e f = λ i.
    record { message = (f i).message; key = (f i).key; copy = (f i).copy; session = (f i).session; commitment = e i; polynomial = (f i).polynomial; last = (f i).last; folds = (f i).folds }
back_words Words.polynomial e f = λ i.
    record { message = (f i).message; key = (f i).key; copy = (f i).copy; session = (f i).session; commitment = (f i).commitment; polynomial = e i; last = (f i).last; folds = (f i).folds }
back_words (Words.other t) e f = f

back_wholes : (s : Wholes) {h x : Held} {t : List ℤ} → t ≡ wholes h s → x ≡ h → put_wholes s t x ≡ h
unfolding put_wholes wholes
back_wholes Wholes.message e f = λ i.
    record { message = e i; key = (f i).key; copy = (f i).copy; session = (f i).session; commitment = (f i).commitment; polynomial = (f i).polynomial; last = (f i).last; folds = (f i).folds }
back_wholes Wholes.last e f = λ i.
    record { message = (f i).message; key = (f i).key; copy = (f i).copy; session = (f i).session; commitment = (f i).commitment; polynomial = (f i).polynomial; last = e i; folds = (f i).folds }
back_wholes (Wholes.other t) e f = f

-- ---- every call

pub refused-keeps : (c : Call) (h : Held) → refusal h c ≢ 0 → after c h ≡ h
unfolding after refusal Border.commit_exit Border.round_exit fold_key_exit fold_message_exit Border.end_exit Border.open_key_exit Border.open_message_exit Border.open_rounds_exit
    Border.open_commitment_exit Border.open_last_exit move_exit tables
refused-keeps (Call.commit S k m c) h r = back_words c (granted_refused _ _ _ r) refl
refused-keeps (Call.round S t k m p) h r = back_words p (granted_refused _ _ _ r) refl
refused-keeps (Call.fold S t e k m) h r = back_words k (granted_refused _ _ _ r) (back_wholes m (granted_refused _ _ _ r) refl)
refused-keeps (Call.end S t m f) h r = back_wholes f (granted_refused _ _ _ r) refl
refused-keeps (Call.opening S k m e o c f) h r =
    back_words k (granted_refused _ _ _ r)
    (back_wholes m (granted_refused _ _ _ r) (back_words o (granted_refused _ _ _ r) (back_words c (granted_refused _ _ _ r) (back_wholes f (granted_refused _ _ _ r) refl))))
refused-keeps (Call.session_round p e s) h r = back_words s (granted_refused _ _ _ r) refl
refused-keeps (Call.session_end f k s) h r = back_words s (granted_refused _ _ _ r) refl
refused-keeps (Call.check S c f k o e) h r = refl
refused-keeps (Call.judge S c s k w) h r = refl
refused-keeps (Call.extract S c k o e f w) h r = refl
refused-keeps (Call.look text s) h r = back_words s (granted_refused _ _ _ r) refl
refused-keeps (Call.read n text s k m c o e f v) h r =
    let kept : granted (read_number n text (words h s) (tables h k m c o e f v)) (tables_in (lines_of text)) (tables h k m c o e f v) ≡ tables h k m c o e f v = granted_refused _ _ _ r in
    back_words s (granted_refused _ _ _ r)
    (back_words k (ap (λ x. x.key) kept) (back_wholes m (ap (λ x. x.message) kept) (back_words c (ap (λ x. x.commitment) kept)
    (back_words o (ap (λ x. x.rounds) kept) (back_words e (ap (λ x. x.challenges) kept) (back_wholes f (ap (λ x. x.last) kept) (back_words v (ap (λ x. x.claims) kept) refl)))))))
refused-keeps (Call.write S n k m c o e f v out) h r = refl

-- ---- gaps

gap-keeps : {h h' : Held} → Gap h h' → h' ≡ h
gap-keeps none = refl
gap-keeps (refused c r g) = gap-keeps g ∙ refused-keeps c _ r

module _ (S : Settings) (E : List ℕ) where
  unfoldable pub runs : List Step → State → State
  runs [] a = a
  runs (s ∷ rest) a = runs rest (step S E s a.held a.heard)

  pub run-steps : {steps : List Step} {a b : State} → Run S E steps a b → b ≡ runs steps a
  unfolding runs
  run-steps (stop {a} g) = λ i. record { held = gap-keeps g i; heard = a.heard }
  run-steps (go {a} {s} {rest} g r) = run-steps r ∙ ap (λ h. runs rest (step S E s h a.heard)) (gap-keeps g)
