-- Demand 3 of the functions themselves. Where Demand3 speaks of definitions, here every answer and every table at exit is a value of its own, of which no more is known than
-- what the contract of the function that gave it says: an equation with the answer's definition, or the record of Promises that the contract cites.
--
--   Answers c h n h'              a function was called as the call c says where h is held: n is the number that it answered with, h' what is held after it
--   Refusals h h'                 calls one after the other, each of them refused
--   Performs S E s h a b          the step s was made by its function: h is held and a was heard before it, b is the state after it
--   Performance S E steps a b     steps one after the other, with refused calls before each and after the last
--   SameAsAnswered                commitment, round elements, final element, verdict and both tables as one call of the whole opening gave them
--   OpeningPerformed              what is owed of a call of the whole opening, and of an opening move by move
--   ExtractionPerformed           what is owed of a call of the extractor
--   PerformedDemand3              demand 3, of the functions
use Rattle.std.specs.Prelude.{◌≡◌, ◌≢◌, true, List, [], ◌∷◌, map, ℕ, ◌+◌, ◌*◌, ◌<◌, ◌≤◌, length, get_or, replicate, ℤ, pos, ◌*ℤ◌}
use Rattle.protocol.specs.declared.Settings.{Settings}
use Rattle.protocol.specs.declared.Session.{Session}
use Rattle.protocol.specs.declared.Parts.{Parts}
use Rattle.protocol.specs.Answers.{Committed}
use Rattle.protocol.specs.Answers.{Polynomial}
use Rattle.protocol.specs.Answers.{Ended}
use Rattle.protocol.specs.Answers.{Opened}
use Rattle.protocol.specs.Answers.{Started}
use Rattle.protocol.specs.Answers.{Moved}
use Rattle.protocol.specs.Answers.{Checked}
use Rattle.protocol.specs.Answers.{Judged}
use Rattle.protocol.specs.Answers.{Loaded}
use Rattle.protocol.specs.Answers.{Written}
use Rattle.protocol.specs.Answers.{Verdict as Says}
use Rattle.protocol.specs.Layout.{key_cells, round_cells, exponent_count}
use Rattle.protocol.specs.Inputs.{Valid, Below, Within}
use Rattle.protocol.specs.Settings.{cells}
use Rattle.protocol.specs.Element.{value_row}
use Rattle.protocol.specs.Rows.{key_row, together, AllAccepted}
use Rattle.protocol.specs.Session as Verifier
use Rattle.protocol.specs.Tree.{growth, growth_limit}
use Rattle.protocol.specs.Judge.{slack, Opens}
use Rattle.protocol.specs.Calls as Calls
use Rattle.text_format.specs.Text.{Tables}
use Rattle.protocol.specs.Promises.{Folded, Opening, Extracted}
use Rattle.text_format.specs.Promises.{Read, Wrote}
use Rattle.one_claim.specs.Demand3.{Held, Heard, State, KeyTable, MessageTable, Record, Call, Step, moves, begun, FullTree, FoldsOf}
use Rattle.one_claim.specs.Demand3.{lent_key, lent_message, handed, tables, back_key, back_message, back_record, hear, hear_commitment, hear_polynomial, hear_last, hear_verdict}

-- ════ calls

-- one for each kind of call; what a function was lent for writing goes back to whose it is
pub data Answers : Call → Held → ℕ → Held → Type 0 where
  commit : {h : Held} {S : Settings} {k : KeyTable} {m : MessageTable} (r : Committed)
      → r ≡ Calls.commit_answer S (lent_key h k) (lent_message h m)
      → Answers (Call.commit S k m) h r.refusal h
  round : {h : Held} {S : Settings} {t : ℕ} {k : KeyTable} {m : MessageTable} (r : Polynomial)
      → r ≡ Calls.round_answer S t (lent_key h k) (lent_message h m)
      → Answers (Call.round S t k m) h r.refusal h
  fold : {h : Held} {S : Settings} {t e : ℕ} {k : KeyTable} {m : MessageTable} (r : ℕ) (key' : List ℕ) (message' : List ℤ)
      → Folded S t e (lent_key h k) (lent_message h m) r key' message'
      → Answers (Call.fold S t e k m) h r (back_key k key' (back_message m message' h))
  end : {h : Held} {S : Settings} {t : ℕ} {m : MessageTable} (r : Ended)
      → r ≡ Calls.end_answer S t (lent_message h m)
      → Answers (Call.end S t m) h r.refusal h
  opening : {h : Held} {S : Settings} {k : KeyTable} {m : MessageTable} {e o : KeyTable} (r : Opened) (key' : List ℕ) (message' : List ℤ) (rounds' : List ℕ)
      → Opening S (lent_key h k) (lent_message h m) (lent_key h e) (lent_key h o) r key' message' rounds'
      → Answers (Call.opening S k m e o) h r.refusal (back_key k key' (back_key o rounds' (back_message m message' h)))
  session_round : {h : Held} {s : Record} {p : List (List ℕ)} {e : ℕ} (r : Moved)
      → r ≡ Verifier.round (handed h s) p e
      → Answers (Call.session_round s p e) h r.refusal (back_record s r.next h)
  session_end : {h : Held} {s : Record} {f : List ℤ} {k : KeyTable} (r : Moved)
      → r ≡ Verifier.end (handed h s) f (lent_key h k)
      → Answers (Call.session_end s f k) h r.refusal (back_record s r.next h)
  check : {h : Held} {S : Settings} {C : List ℕ} {f : List ℤ} {k o e : KeyTable} (r : Checked)
      → r ≡ Calls.check_answer S C f (lent_key h k) (lent_key h o) (lent_key h e)
      → Answers (Call.check S C f k o e) h r.refusal h
  judge : {h : Held} {S : Settings} {C : List ℕ} {c : ℕ} {k : KeyTable} {w : List ℤ} (r : Judged)
      → r ≡ Calls.judge_answer S C c (lent_key h k) w
      → Answers (Call.judge S C c k w) h r.refusal h
  extract : {h : Held} {S : Settings} {C : List ℕ} {k o e : KeyTable} {f : MessageTable} {w : List ℤ} (r : ℕ) (w' : List ℤ)
      → Extracted S C (lent_key h k) (lent_key h o) (lent_key h e) (lent_message h f) w r w'
      → Answers (Call.extract S C k o e f w) h r h
  read : {h : Held} {P : Parts} {text : List ℕ} {k : KeyTable} {m : MessageTable} {c o e : KeyTable} {f : MessageTable} {v : KeyTable} (r : Loaded) (t' : Tables)
      → Read P text (tables h k m c o e f v) r t'
      → Answers (Call.read P text k m c o e f v) h r.refusal
      (back_key k t'.key (back_message m t'.message (back_key c t'.commitment
      (back_key o t'.rounds (back_key e t'.challenges (back_message f t'.last (back_key v t'.claims h)))))))
  write : {h : Held} {S : Settings} {P : Parts} {k : KeyTable} {m : MessageTable} {c o e : KeyTable} {f : MessageTable} {v : KeyTable} {out : List ℕ}
      (r : Written) (out' : List ℕ)
      → Wrote S P (tables h k m c o e f v) out r out'
      → Answers (Call.write S P k m c o e f v out) h r.refusal h

pub data Refusals : Held → Held → Type 0 where
  none : {h : Held} → Refusals h h
  refused : {h h' h'' : Held} {c : Call} {n : ℕ} → Answers c h n h' → n ≢ 0 → Refusals h' h'' → Refusals h h''

-- ════ the list of calls

-- a function is given what is held and what was answered, and nothing else but S and E
pub data Performs (S : Settings) (E : List ℕ) : Step → Held → Heard → State → Type 0 where
  commits : {h : Held} {a : Heard} (r : Committed)
      → r ≡ Calls.commit_answer S h.key h.message
      → Performs S E Step.commits h a (record { held = h; heard = hear_commitment r.commitment (hear r.refusal a) })
  starts : {h : Held} {a : Heard} (r : Started)
      → r ≡ Verifier.start S a.commitment
      → Performs S E Step.starts h a (record { held = back_record Record.ours r.next h; heard = hear r.refusal a })
  proves : {h : Held} {a : Heard} (r : Polynomial)
      → r ≡ Calls.round_answer S h.folds h.key h.message
      → Performs S E Step.proves h a (record { held = h; heard = hear_polynomial S r.elements (hear r.refusal a) })
  checks : {h : Held} {a : Heard} (r : Moved)
      → r ≡ Verifier.round h.session a.polynomial (get_or E h.folds 0)
      → Performs S E Step.checks h a (record { held = back_record Record.ours r.next h; heard = hear_verdict r.verdict (hear r.refusal a) })
  folds : {h : Held} {a : Heard} (r : ℕ) (key' : List ℕ) (message' : List ℤ)
      → Folded S h.folds (get_or E h.folds 0) h.key h.message r key' message'
      → Performs S E Step.folds h a (record { held = record { message = message'; key = key'; copy = h.copy; session = h.session; folds = h.folds + 1 }; heard = hear r a })
  ends : {h : Held} {a : Heard} (r : Ended)
      → r ≡ Calls.end_answer S h.folds h.message
      → Performs S E Step.ends h a (record { held = h; heard = hear_last r.last (hear r.refusal a) })
  closes : {h : Held} {a : Heard} (r : Moved)
      → r ≡ Verifier.end h.session a.last h.copy
      → Performs S E Step.closes h a (record { held = back_record Record.ours r.next h; heard = hear_verdict r.verdict (hear r.refusal a) })

pub data Performance (S : Settings) (E : List ℕ) : List Step → State → State → Type 0 where
  stop : {a : State} {h : Held} → Refusals a.held h → Performance S E [] a (record { held = h; heard = a.heard })
  go : {a b c : State} {h : Held} {s : Step} {rest : List Step} → Refusals a.held h → Performs S E s h a.heard b → Performance S E rest b c → Performance S E (s ∷ rest) a c

-- ════ the claim

-- r, key', message' and rounds' are what a call of the whole opening answered and left
pub record SameAsAnswered (S : Settings) (G : List ℕ) (r : Opened) (key' : List ℕ) (message' : List ℤ) (rounds' : List ℕ) (st : State) : Type 0 where
  pub no_refusal : st.heard.numbers ≡ replicate (4 + 3 * S.depth) 0
  pub same_commitment : st.heard.commitment ≡ r.commitment
  pub same_rounds : st.heard.rounds ≡ rounds'
  pub same_last : st.heard.last ≡ r.last
  pub same_verdict : st.heard.verdict ≡ r.verdict
  pub same_message : st.held.message ≡ message'
  pub same_key : st.held.key ≡ key'
  pub copy_kept : st.held.copy ≡ G

pub record OpeningPerformed (S : Settings) (G : List ℕ) (M : List ℤ) (E : List ℕ) (r : Opened) (key' : List ℕ) (message' : List ℤ) (rounds' : List ℕ) : Type 0 where
  pub not_refused : r.refusal ≡ 0
  pub says_accepted : r.verdict ≡ Says.Accepted
  pub is_accepted : AllAccepted S G (record { commitment = together S r.commitment; rounds = rounds'; challenges = E; last = r.last })
  pub by_moves : (s : Session) (st : State) → Performance S E (moves S.depth) (begun M G s) st → SameAsAnswered S G r key' message' rounds' st

-- n and w' are what a call of the extractor answered and left; j is what a call of the judge answered
pub record ExtractionPerformed (S : Settings) (G C E : List ℕ) (finals : List ℤ) (n : ℕ) (w' : List ℤ) : Type 0 where
  pub not_refused : n ≡ 0
  pub in_bound : Within (growth S) (cells S) w'
  pub opens : (r : ℕ) → r < S.rows → Opens S (key_row S G r) (value_row C r) (slack S) w'
  pub judge_says_yes : (j : Judged) → j ≡ Calls.judge_answer S C (slack S) G w' → j ≡ record { refusal = 0; yes = true }
  pub exact : (m : List ℤ) → FoldsOf S E finals m → w' ≡ map (λ x. pos (slack S) *ℤ x) m

pub record PerformedClaim (S : Settings) (G : List ℕ) : Type 0 where
  pub opening : (M : List ℤ) (E rounds : List ℕ) → Within S.bound (cells S) M → Below (exponent_count S) S.depth E → length rounds ≡ round_cells S
      → (r : Opened) (key' : List ℕ) (message' : List ℤ) (rounds' : List ℕ) → Opening S G M E rounds r key' message' rounds'
      → OpeningPerformed S G M E r key' message' rounds'
  pub extraction : (C rounds E : List ℕ) (finals w : List ℤ) → FullTree S G C rounds E finals → growth S ≤ growth_limit → length w ≡ cells S
      → (n : ℕ) (w' : List ℤ) → Extracted S C G rounds E finals w n w'
      → ExtractionPerformed S G C E finals n w'

abbrev pub PerformedDemand3 : Type 0
PerformedDemand3 = (S : Settings) (G : List ℕ) → Valid S → Below S.modulus (key_cells S) G → PerformedClaim S G
