-- Demand 3 as one statement, PROTOCOL 11.2: all calls of an opening in their order, and all of a tree, in one claim.
-- It is stated over the definitions that the public promises cite. Each public function's promise is an equation with its definition;
-- Performed states the same over what the functions give, of which only these promises are known.
--
-- The list of calls
--   Held                     what is held: both tables, an unfolded copy of the key, the record, how many folds are done
--   Heard                    what the calls of the list answered
--   KeyTable, MessageTable   a table that a call is lent, and
--   Record                   a record that it takes: one of those held, or any other
--   Call                     any call that can be given one of those held, with all its arguments; no start
--   refusal h c, after c h   the number that the call c answers with, and what is held after it
--   Step, moves L            the calls of an opening move by move, in order
--   step S E s h a           what a step does; it is given what is held and what was answered, and nothing else
--   Gap, Run                 refused calls, and a run of steps with a gap before each and one after the last
-- The claim
--   SameAsWhole              commitment, round elements, final element, verdict and both tables as in the whole opening
--   OpeningClaim             what is owed of an opening
--   FullTree, FoldsOf        a full tree, every path accepted; every leaf a fold of m
--   ExtractionClaim          what is owed of the extractor
--   Demand3                  the claim
use Rattle.std.specs.Prelude.{◌≡◌, ◌≢◌, true, List, [], ◌∷◌, ◌++◌, map, ℕ, zero, suc, ◌+◌, ◌*◌, ◌<◌, ◌≤◌, length, get_or, replicate, ℤ, pos, ◌*ℤ◌}
use Rattle.protocol.specs.declared.Settings.{Settings}
use Rattle.protocol.specs.declared.Session.{Session}
use Rattle.protocol.specs.declared.Parts.{Parts}
use Rattle.protocol.specs.Answers.{Verdict}
use Rattle.protocol.specs.Answers.{Verdict as Says}
use Rattle.protocol.specs.Element.{value_row}
use Rattle.protocol.specs.Layout.{key_cells, round_cells, tree_round_cells, tree_challenges, leaf_cells, exponent_count}
use Rattle.protocol.specs.Inputs.{Valid, Below, Within}
use Rattle.protocol.specs.Settings.{cells}
use Rattle.protocol.specs.Transcript.{Accepted}
use Rattle.protocol.specs.Rows.{key_row, together, AllAccepted}
use Rattle.protocol.specs.Session as Verifier
use Rattle.protocol.specs.Tree.{nodes, leaves, challenge, row_path, fold_to, leaf, root_vector, growth, growth_limit}
use Rattle.protocol.specs.Judge.{slack, Opens}
use Rattle.protocol.specs.Calls as Calls
use Rattle.text_format.specs.Text as Text
use Rattle.text_format.specs.Text.{Tables}

-- ════ the list of calls

pub record Held : Type 0 where
  pub message : List ℤ
  pub key : List ℕ
  pub copy : List ℕ
  pub session : Session
  pub folds : ℕ

-- every number that was answered, in order; the last commitment, polynomial, final element and verdict; all round elements so far, flat
pub record Heard : Type 0 where
  pub numbers : List ℕ
  pub commitment : List ℕ
  pub polynomial : List (List ℕ)
  pub rounds : List ℕ
  pub last : List ℤ
  pub verdict : Verdict

pub record State : Type 0 where
  pub held : Held
  pub heard : Heard

-- each table argument by itself
pub data KeyTable : Type 0 where
  ours : KeyTable
  copy : KeyTable
  other : List ℕ → KeyTable

pub data MessageTable : Type 0 where
  ours : MessageTable
  other : List ℤ → MessageTable

pub data Record : Type 0 where
  ours : Record
  other : Session → Record

unfoldable pub lent_key : Held → KeyTable → List ℕ
lent_key h KeyTable.ours = h.key
lent_key h KeyTable.copy = h.copy
lent_key h (KeyTable.other t) = t

unfoldable pub lent_message : Held → MessageTable → List ℤ
lent_message h MessageTable.ours = h.message
lent_message h (MessageTable.other t) = t

unfoldable pub handed : Held → Record → Session
handed h Record.ours = h.session
handed h (Record.other r) = r

-- the calls in the order of PROTOCOL 8: prover, whole opening, session, check, judge, extractor, reader, writer.
-- A table of residues or exponents may be ours wherever one is lent, and a table of signed 32-bit numbers too.
pub data Call : Type 0 where
  commit : Settings → KeyTable → MessageTable → Call
  round : Settings → ℕ → KeyTable → MessageTable → Call
  fold : Settings → ℕ → ℕ → KeyTable → MessageTable → Call
  end : Settings → ℕ → MessageTable → Call
  opening : Settings → KeyTable → MessageTable → KeyTable → KeyTable → Call
  session_round : Record → List (List ℕ) → ℕ → Call
  session_end : Record → List ℤ → KeyTable → Call
  check : Settings → List ℕ → List ℤ → KeyTable → KeyTable → KeyTable → Call
  judge : Settings → List ℕ → ℕ → KeyTable → List ℤ → Call
  extract : Settings → List ℕ → KeyTable → KeyTable → KeyTable → MessageTable → List ℤ → Call
  read : Parts → List ℕ → KeyTable → MessageTable → KeyTable → KeyTable → KeyTable → MessageTable → KeyTable → Call
  write : Settings → Parts → KeyTable → MessageTable → KeyTable → KeyTable → KeyTable → MessageTable → KeyTable → List ℕ → Call

unfoldable pub tables : Held → KeyTable → MessageTable → KeyTable → KeyTable → KeyTable → MessageTable → KeyTable → Tables
tables h k m c r e f v = record {
  key = lent_key h k;
  message = lent_message h m;
  commitment = lent_key h c;
  rounds = lent_key h r;
  challenges = lent_key h e;
  last = lent_message h f;
  claims = lent_key h v;
}

unfoldable pub refusal : Held → Call → ℕ
refusal h (Call.commit S k m) = (Calls.commit_answer S (lent_key h k) (lent_message h m)).refusal
refusal h (Call.round S t k m) = (Calls.round_answer S t (lent_key h k) (lent_message h m)).refusal
refusal h (Call.fold S t e k m) = Calls.fold_refusal S t e (lent_key h k) (lent_message h m)
refusal h (Call.end S t m) = (Calls.end_answer S t (lent_message h m)).refusal
refusal h (Call.opening S k m e r) = (Calls.opening_answer S (lent_key h k) (lent_message h m) (lent_key h e) (lent_key h r)).refusal
refusal h (Call.session_round r p e) = (Verifier.round (handed h r) p e).refusal
refusal h (Call.session_end r f k) = (Verifier.end (handed h r) f (lent_key h k)).refusal
refusal h (Call.check S C f k r e) = (Calls.check_answer S C f (lent_key h k) (lent_key h r) (lent_key h e)).refusal
refusal h (Call.judge S C c k w) = (Calls.judge_answer S C c (lent_key h k) w).refusal
refusal h (Call.extract S C k r e f w) = Calls.extract_refusal S C (lent_key h k) (lent_key h r) (lent_key h e) (lent_message h f) w
refusal h (Call.read P text k m c r e f v) = (Text.read_answer P text (tables h k m c r e f v)).refusal
refusal h (Call.write S P k m c r e f v out) = (Text.write_answer S P (tables h k m c r e f v) out).refusal

-- ---- what a call leaves behind

-- a table at exit, or a record handed back, goes to whose it is
unfoldable pub back_key : KeyTable → List ℕ → Held → Held
back_key KeyTable.ours t h = record { message = h.message; key = t; copy = h.copy; session = h.session; folds = h.folds }
back_key KeyTable.copy t h = record { message = h.message; key = h.key; copy = t; session = h.session; folds = h.folds }
back_key (KeyTable.other old) t h = h

unfoldable pub back_message : MessageTable → List ℤ → Held → Held
back_message MessageTable.ours t h = record { message = t; key = h.key; copy = h.copy; session = h.session; folds = h.folds }
back_message (MessageTable.other old) t h = h

unfoldable pub back_record : Record → Session → Held → Held
back_record Record.ours r h = record { message = h.message; key = h.key; copy = h.copy; session = r; folds = h.folds }
back_record (Record.other old) r h = h

-- what was lent for writing is as the promise says, all else as it was
unfoldable pub after : Call → Held → Held
after (Call.commit S k m) h = h
after (Call.round S t k m) h = h
after (Call.fold S t e k m) h =
    back_key k (Calls.fold_key_exit S t e (lent_key h k) (lent_message h m))
    (back_message m (Calls.fold_message_exit S t e (lent_key h k) (lent_message h m)) h)
after (Call.end S t m) h = h
after (Call.opening S k m e r) h =
    back_key k (Calls.opening_key_exit S (lent_key h k) (lent_message h m) (lent_key h e) (lent_key h r))
    (back_key r (Calls.opening_rounds_exit S (lent_key h k) (lent_message h m) (lent_key h e) (lent_key h r))
    (back_message m (Calls.opening_message_exit S (lent_key h k) (lent_message h m) (lent_key h e) (lent_key h r)) h))
after (Call.session_round r p e) h = back_record r (Verifier.round (handed h r) p e).next h
after (Call.session_end r f k) h = back_record r (Verifier.end (handed h r) f (lent_key h k)).next h
after (Call.check S C f k r e) h = h
after (Call.judge S C c k w) h = h
after (Call.extract S C k r e f w) h = h
after (Call.read P text k m c r e f v) h =
    let exit = Text.read_exit P text (tables h k m c r e f v) in
    back_key k exit.key (back_message m exit.message (back_key c exit.commitment
    (back_key r exit.rounds (back_key e exit.challenges (back_message f exit.last (back_key v exit.claims h))))))
after (Call.write S P k m c r e f v out) h = h

-- ---- an opening as a list of calls, PROTOCOL 11.1

pub data Step : Type 0 where
  commits starts proves checks folds ends closes : Step

-- PROTOCOL 11.1, step 2
unfoldable pub turns : ℕ → List Step
turns zero = []
turns (suc n) = Step.proves ∷ Step.checks ∷ Step.folds ∷ turns n

-- PROTOCOL 11.1, steps 1 to 3
unfoldable pub moves : ℕ → List Step
moves L = Step.commits ∷ Step.starts ∷ (turns L ++ (Step.ends ∷ Step.closes ∷ []))

-- one more number is heard, and with it a commitment, a polynomial, a final element, a verdict
unfoldable pub hear : ℕ → Heard → Heard
hear n a = record { numbers = a.numbers ++ (n ∷ []); commitment = a.commitment; polynomial = a.polynomial; rounds = a.rounds; last = a.last; verdict = a.verdict }

unfoldable pub hear_commitment : List ℕ → Heard → Heard
hear_commitment c a = record { numbers = a.numbers; commitment = c; polynomial = a.polynomial; rounds = a.rounds; last = a.last; verdict = a.verdict }

-- item by item, in each row by row
unfoldable pub hear_polynomial : Settings → List (List ℕ) → Heard → Heard
hear_polynomial S p a = record {
  numbers = a.numbers;
  commitment = a.commitment;
  polynomial = p;
  rounds = a.rounds ++ together S (get_or p 0 []) ++ together S (get_or p 1 []) ++ together S (get_or p 2 []);
  last = a.last;
  verdict = a.verdict;
}

unfoldable pub hear_last : List ℤ → Heard → Heard
hear_last f a = record { numbers = a.numbers; commitment = a.commitment; polynomial = a.polynomial; rounds = a.rounds; last = f; verdict = a.verdict }

unfoldable pub hear_verdict : Verdict → Heard → Heard
hear_verdict v a = record { numbers = a.numbers; commitment = a.commitment; polynomial = a.polynomial; rounds = a.rounds; last = a.last; verdict = v }

-- PROTOCOL 11.1: a step is given what is held and what was answered before; the prover's t is the count of folds so far
unfoldable pub step : Settings → List ℕ → Step → Held → Heard → State
step S E Step.commits h a =
    let x = Calls.commit_answer S h.key h.message in
    record { held = h; heard = hear_commitment x.commitment (hear x.refusal a) }
step S E Step.starts h a =
    let x = Verifier.start S a.commitment in
    record { held = back_record Record.ours x.next h; heard = hear x.refusal a }
step S E Step.proves h a =
    let x = Calls.round_answer S h.folds h.key h.message in
    record { held = h; heard = hear_polynomial S x.elements (hear x.refusal a) }
step S E Step.checks h a =
    let x = Verifier.round h.session a.polynomial (get_or E h.folds 0) in
    record { held = back_record Record.ours x.next h; heard = hear_verdict x.verdict (hear x.refusal a) }
step S E Step.folds h a =
    let e = get_or E h.folds 0 in
    record {
      held = record {
        message = Calls.fold_message_exit S h.folds e h.key h.message;
        key = Calls.fold_key_exit S h.folds e h.key h.message;
        copy = h.copy;
        session = h.session;
        folds = h.folds + 1;
      };
      heard = hear (Calls.fold_refusal S h.folds e h.key h.message) a;
    }
step S E Step.ends h a =
    let x = Calls.end_answer S h.folds h.message in
    record { held = h; heard = hear_last x.last (hear x.refusal a) }
step S E Step.closes h a =
    let x = Verifier.end h.session a.last h.copy in
    record { held = back_record Record.ours x.next h; heard = hear_verdict x.verdict (hear x.refusal a) }

-- before the first call: both tables unfolded, any record
unfoldable pub begun : List ℤ → List ℕ → Session → State
begun M G r = record {
  held = record { message = M; key = G; copy = G; session = r; folds = 0 };
  heard = record { numbers = []; commitment = []; polynomial = []; rounds = []; last = []; verdict = Says.Silent };
}

-- PROTOCOL 11.1: what may stand between; a `Call` is no start, and has any arguments.
-- A gap leads from what is held before it to what is held after it, by calls each of which is refused where it stands.
pub data Gap : Held → Held → Type 0 where
  none : {h : Held} → Gap h h
  refused : {h h' : Held} (c : Call) → refusal h c ≢ 0 → Gap (after c h) h' → Gap h h'

pub data Run (S : Settings) (E : List ℕ) : List Step → State → State → Type 0 where
  stop : {a : State} {h : Held} → Gap a.held h → Run S E [] a (record { held = h; heard = a.heard })
  go : {a b : State} {h : Held} {s : Step} {rest : List Step} → Gap a.held h → Run S E rest (step S E s h a.heard) b → Run S E (s ∷ rest) a b

-- ════ an opening

-- PROTOCOL 11.2: the steps give what the one call gives, and no step is refused
pub record SameAsWhole (S : Settings) (G : List ℕ) (M : List ℤ) (E rounds : List ℕ) (st : State) : Type 0 where
  pub no_refusal : st.heard.numbers ≡ replicate (4 + 3 * S.depth) 0
  pub same_commitment : st.heard.commitment ≡ (Calls.opening_answer S G M E rounds).commitment
  pub same_rounds : st.heard.rounds ≡ Calls.opening_rounds_exit S G M E rounds
  pub same_last : st.heard.last ≡ (Calls.opening_answer S G M E rounds).last
  pub same_verdict : st.heard.verdict ≡ (Calls.opening_answer S G M E rounds).verdict
  pub same_message : st.held.message ≡ Calls.opening_message_exit S G M E rounds
  pub same_key : st.held.key ≡ Calls.opening_key_exit S G M E rounds
  pub copy_kept : st.held.copy ≡ G

-- `rounds` is the table lent for the round elements, whatever stood in it
pub record OpeningClaim (S : Settings) (G : List ℕ) (M : List ℤ) (E rounds : List ℕ) : Type 0 where
  pub not_refused : (Calls.opening_answer S G M E rounds).refusal ≡ 0
  pub says_accepted : (Calls.opening_answer S G M E rounds).verdict ≡ Says.Accepted
  pub is_accepted : AllAccepted S G (record {
    commitment = together S (Calls.opening_answer S G M E rounds).commitment;
    rounds = Calls.opening_rounds_exit S G M E rounds;
    challenges = E;
    last = (Calls.opening_answer S G M E rounds).last;
  })
  pub by_moves : (r : Session) (st : State) → Run S E (moves S.depth) (begun M G r) st → SameAsWhole S G M E rounds st

-- ════ a tree

-- PROTOCOL 5.2: a full tree has all its branching nodes and leaves, whatever was answered in it, with three different challenges at every node and every path accepted.
-- Nothing is asked of the commitment: that it is residues follows (proofs/Ranges, accepted-commitment)
pub record FullTree (S : Settings) (G C rounds E : List ℕ) (finals : List ℤ) : Type 0 where
  pub rounds_below : Below S.modulus (tree_round_cells S) rounds
  pub challenges_below : Below (exponent_count S) (tree_challenges S) E
  pub finals_long : length finals ≡ leaf_cells S
  pub different : (k : ℕ) → k < nodes S → (challenge E k 0 ≢ challenge E k 1) × (challenge E k 0 ≢ challenge E k 2) × (challenge E k 1 ≢ challenge E k 2)
  pub accepted : (r : ℕ) → r < S.rows → (j : ℕ) → j < leaves S → Accepted S (key_row S G r) (row_path S C rounds E finals r j)

-- PROTOCOL 5.7: every leaf is what m folds to along its path; nothing is asked of how large m is
pub record FoldsOf (S : Settings) (E : List ℕ) (finals m : List ℤ) : Type 0 where
  pub long : length m ≡ cells S
  pub each : (j : ℕ) → j < leaves S → fold_to S E j m ≡ leaf S finals j

-- w is the lent output, whatever stood in it
pub record ExtractionClaim (S : Settings) (G C rounds E : List ℕ) (finals w : List ℤ) : Type 0 where
  pub not_refused : Calls.extract_refusal S C G rounds E finals w ≡ 0
  pub is_root_vector : Calls.extract_exit S C G rounds E finals w ≡ root_vector S E finals
  pub in_bound : Within (growth S) (cells S) (Calls.extract_exit S C G rounds E finals w)
  pub opens : (r : ℕ) → r < S.rows → Opens S (key_row S G r) (value_row C r) (slack S) (Calls.extract_exit S C G rounds E finals w)
  pub judge_says_yes : Calls.judge_answer S C (slack S) G (Calls.extract_exit S C G rounds E finals w) ≡ record { refusal = 0; yes = true }
  pub exact : (m : List ℤ) → FoldsOf S E finals m → Calls.extract_exit S C G rounds E finals w ≡ map (λ x. pos (slack S) *ℤ x) m

-- ════ the claim

pub record Claim (S : Settings) (G : List ℕ) : Type 0 where
  pub opening : (M : List ℤ) (E rounds : List ℕ) → Within S.bound (cells S) M → Below (exponent_count S) S.depth E → length rounds ≡ round_cells S
      → OpeningClaim S G M E rounds
  pub extraction : (C rounds E : List ℕ) (finals w : List ℤ) → FullTree S G C rounds E finals → growth S ≤ growth_limit → length w ≡ cells S
      → ExtractionClaim S G C rounds E finals w

abbrev pub Demand3 : Type 0
Demand3 = (S : Settings) (G : List ℕ) → Valid S → Below S.modulus (key_cells S) G → Claim S G
