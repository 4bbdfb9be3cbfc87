-- A refused call changes nothing that is held, whichever call it is and whatever it was given. So a run with refused calls between its steps is the run of its steps.
--   runs S E steps a    the steps alone, one after the other
use mathlib.Core.Path.{◌≡◌, refl, ap, ◌∙◌}
use mathlib.Core.Logic.{◌≢◌}
use mathlib.Core.Bool.{Bool, true, false}
use mathlib.Core.List.{List, [], ◌∷◌}
use Prim.Native.Nat.{ℕ, zero, suc}
use lib.IntN.{ℤ}
use Rattle.protocol.specs.declared.Settings.{Settings}
use Rattle.protocol.specs.declared.Session.{Session}
use Rattle.protocol.specs.Answers.{Moved}
use Rattle.protocol.specs.Basic.{choose, granted}
use Rattle.protocol.specs.Session as Verifier
use Rattle.protocol.specs.Session.{refused_move}
use Rattle.protocol.specs.Calls as Calls
use Rattle.text_format.specs.Text as Text
use Rattle.one_claim.specs.Demand3.{Held, State, KeyTable, MessageTable, Record, Call, Step, lent_key, lent_message, handed, tables, refusal, back_key, back_message, back_record, after}
use Rattle.one_claim.specs.Demand3.{step, Gap, none, refused, Run, stop, go}
use Rattle.protocol.proofs.Tests.{granted_refused}

-- ---- what comes back as it was lent, to what is as it was

back_key_lem : (k : KeyTable) {h x : Held} {t : List ℕ} → t ≡ lent_key h k → x ≡ h → back_key k t x ≡ h
unfolding back_key lent_key
back_key_lem KeyTable.ours e f = λ i. record { message = (f i).message; key = e i; copy = (f i).copy; session = (f i).session; folds = (f i).folds }
back_key_lem KeyTable.copy e f = λ i. record { message = (f i).message; key = (f i).key; copy = e i; session = (f i).session; folds = (f i).folds }
back_key_lem (KeyTable.other t) e f = f

back_message_lem : (m : MessageTable) {h x : Held} {t : List ℤ} → t ≡ lent_message h m → x ≡ h → back_message m t x ≡ h
unfolding back_message lent_message
back_message_lem MessageTable.ours e f = λ i. record { message = e i; key = (f i).key; copy = (f i).copy; session = (f i).session; folds = (f i).folds }
back_message_lem (MessageTable.other t) e f = f

back_record_lem : (r : Record) {h : Held} {t : Session} → t ≡ handed h r → back_record r t h ≡ h
unfolding back_record handed
back_record_lem Record.ours {h} e = λ i. record { message = h.message; key = h.key; copy = h.copy; session = e i; folds = h.folds }
back_record_lem (Record.other s) e = refl

-- ---- a record is handed back as it was

-- a move that was made answers with 0
move_kept : (n : ℕ) (made : Moved) (r : Session) → made.refusal ≡ 0 → (granted n made (refused_move r n)).refusal ≢ 0 → (granted n made (refused_move r n)).next ≡ r
unfolding granted refused_move
move_kept zero made r e f = absurd (f e)
move_kept (suc n) made r e f = refl

choose-number : (b : Bool) (x y : Moved) → x.refusal ≡ 0 → y.refusal ≡ 0 → (choose b x y).refusal ≡ 0
unfolding choose
choose-number true x y ex ey = ex
choose-number false x y ex ey = ey

-- ---- every call

pub refused-keeps : (c : Call) (h : Held) → refusal h c ≢ 0 → after c h ≡ h
unfolding after refusal Calls.fold_key_exit Calls.fold_message_exit Calls.opening_answer Calls.opening_key_exit Calls.opening_message_exit Calls.opening_rounds_exit Verifier.round Verifier.end
    Text.read_answer Text.loaded Text.read_exit tables
refused-keeps (Call.commit S k m) h r = refl
refused-keeps (Call.round S t k m) h r = refl
refused-keeps (Call.fold S t e k m) h r = back_key_lem k (granted_refused _ _ _ r) (back_message_lem m (granted_refused _ _ _ r) refl)
refused-keeps (Call.end S t m) h r = refl
refused-keeps (Call.opening S k m e o) h r = back_key_lem k (granted_refused _ _ _ r) (back_key_lem o (granted_refused _ _ _ r) (back_message_lem m (granted_refused _ _ _ r) refl))
refused-keeps (Call.session_round s p e) h r = back_record_lem s (move_kept _ _ (handed h s) (choose-number _ _ _ refl refl) r)
refused-keeps (Call.session_end s f k) h r = back_record_lem s (move_kept _ _ (handed h s) refl r)
refused-keeps (Call.check S C f k o e) h r = refl
refused-keeps (Call.judge S C c k w) h r = refl
refused-keeps (Call.extract S C k o e f w) h r = refl
refused-keeps (Call.read P text k m c o e f v) h r =
    let kept : Text.read_exit P text (tables h k m c o e f v) ≡ tables h k m c o e f v = granted_refused _ _ _ r in
    back_key_lem k (ap (λ x. x.key) kept) (back_message_lem m (ap (λ x. x.message) kept) (back_key_lem c (ap (λ x. x.commitment) kept)
    (back_key_lem o (ap (λ x. x.rounds) kept) (back_key_lem e (ap (λ x. x.challenges) kept) (back_message_lem f (ap (λ x. x.last) kept) (back_key_lem v (ap (λ x. x.claims) kept) refl))))))
refused-keeps (Call.write S P k m c o e f v out) h r = refl

-- ---- gaps

pub gap-keeps : {h h' : Held} → Gap h h' → h' ≡ h
gap-keeps none = refl
gap-keeps (refused c r g) = gap-keeps g ∙ refused-keeps c _ r

module _ (S : Settings) (E : List ℕ) where
  unfoldable pub runs : List Step → State → State
  runs [] a = a
  runs (s ∷ rest) a = runs rest (step S E s a.held a.heard)

  pub run-steps : {steps : List Step} {a b : State} → Run S E steps a b → b ≡ runs steps a
  unfolding runs
  run-steps (stop {a} g) = λ i. record { held = gap-keeps g i; heard = a.heard }
  run-steps (go {a} {s} {rest} g r) = run-steps r ∙ ap (λ h. runs rest (step S E s h a.heard)) (gap-keeps g)
