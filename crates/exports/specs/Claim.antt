-- Demand 3 for the exported calls on lent slices: a corollary of the one claim (`Demand3` of protocol), in the same shape. It is stated over the definitions
-- that the exported functions' promises cite, so what it says of the definitions holds of the functions.
--
-- The list of calls
--   Held                    the caller's slices: both tables, an unfolded copy of the key, the session record, commitment, round polynomial and final element;
--                           and how many folds are done
--   Heard                   what the calls of the list answered: every number, the round polynomials one after the other, the last verdict
--   Words, Wholes           a slice of unsigned, of signed 32-bit numbers that a call is lent: one of those held, or any other
--   words h s, wholes h s   its numbers
--   Call                    any exported call that can be lent one of those held, with all its arguments; no start
--   refusal h c, after c h  the number that the call c answers with, and what is held after it
--   step S E s h a          what a step of the list does (the steps are those of Demand3); it is lent the slices held, and nothing else
--   Gap, Run                refused calls, and a run of steps with a gap before each and one after the last
-- The claim
--   Lengths                 the slices that are written have their lengths; what stands in them is free
--   SameAsWhole             every slice as the exported whole opening leaves it
--   OpeningClaim            what is owed of an opening
--   ExtractionClaim         what is owed of the extractor and the judge
--   ExportedDemand3         the claim
use Rattle.std.specs.Prelude.{◌≡◌, ◌≢◌, List, [], ◌∷◌, ◌++◌, map, ℕ, ◌+◌, ◌*◌, ◌<◌, ◌≤◌, length, get_or, take, drop, replicate, ℤ, pos, ◌*ℤ◌}
use Rattle.protocol.specs.declared.Settings.{Settings}
use Rattle.protocol.specs.Basic.{granted}
use Rattle.protocol.specs.Inputs.{Valid, Below, Within}
use Rattle.protocol.specs.Settings.{cells}
use Rattle.protocol.specs.Layout.{key_cells, item_cells, polynomial_cells, polynomial_at, round_cells, exponent_count}
use Rattle.protocol.specs.Opening.{message_after}
use Rattle.protocol.specs.Rows.{key_row, keys_after}
use Rattle.protocol.specs.Tree.{root_vector, growth, growth_limit}
use Rattle.protocol.specs.Judge.{slack, Opens}
use Rattle.protocol.specs.Calls.{fold_refusal, fold_key_exit, fold_message_exit}
use Rattle.text_format.specs.Text.{Tables, lines_of, settings_in, tables_in}
use Rattle.one_claim.specs.Demand3.{Step, moves, FullTree, FoldsOf}
use Rattle.slices.specs.Slices.{values_of}
use Rattle.session_records.specs.Records.{record_width}
use Rattle.sessions.specs.Promises.{start_number, start_exit, move_number, move_exit, move_verdict, polynomial_fits, round_on, last_fits, end_on}
use Rattle.text_calls.specs.Texts.{settings_numbers}
use Rattle.text_calls.specs.Promises.{look_number, read_number, write_number}
use Rattle.exports.specs.Border as Border

-- ════ the list of calls

pub record Held : Type 0 where
  pub message : List ℤ
  pub key : List ℕ
  pub copy : List ℕ
  pub session : List ℕ
  pub commitment : List ℕ
  pub polynomial : List ℕ
  pub last : List ℤ
  pub folds : ℕ

pub record Heard : Type 0 where
  pub numbers : List ℕ
  pub rounds : List ℕ
  pub verdict : ℕ

pub record State : Type 0 where
  pub held : Held
  pub heard : Heard

pub data Words : Type 0 where
  key copy session commitment polynomial : Words
  other : List ℕ → Words

pub data Wholes : Type 0 where
  message last : Wholes
  other : List ℤ → Wholes

unfoldable pub words : Held → Words → List ℕ
words h Words.key = h.key
words h Words.copy = h.copy
words h Words.session = h.session
words h Words.commitment = h.commitment
words h Words.polynomial = h.polynomial
words h (Words.other t) = t

unfoldable pub wholes : Held → Wholes → List ℤ
wholes h Wholes.message = h.message
wholes h Wholes.last = h.last
wholes h (Wholes.other t) = t

-- in the order of the header; the arguments of a call in the order of its parameters, those that no slice held fits into as lists
pub data Call : Type 0 where
  commit : Settings → Words → Wholes → Words → Call
  round : Settings → ℕ → Words → Wholes → Words → Call
  fold : Settings → ℕ → ℕ → Words → Wholes → Call
  end : Settings → ℕ → Wholes → Wholes → Call
  opening : Settings → Words → Wholes → Words → Words → Words → Wholes → Call
  session_round : Words → ℕ → Words → Call
  session_end : Wholes → Words → Words → Call
  check : Settings → Words → Wholes → Words → Words → Words → Call
  judge : Settings → Words → ℕ → Words → List ℤ → Call
  extract : Settings → Words → Words → Words → Words → Wholes → List ℤ → Call
  look : List ℕ → Words → Call
  read : ℕ → List ℕ → Words → Words → Wholes → Words → Words → Words → Wholes → Words → Call
  write : Settings → ℕ → Words → Wholes → Words → Words → Words → Wholes → Words → List ℕ → Call

unfoldable pub tables : Held → Words → Wholes → Words → Words → Words → Wholes → Words → Tables
tables h k m c r e f v = record {
  key = words h k;
  message = wholes h m;
  commitment = words h c;
  rounds = words h r;
  challenges = words h e;
  last = wholes h f;
  claims = words h v;
}

unfoldable pub refusal : Held → Call → ℕ
refusal h (Call.commit S k m c) = Border.commit_number S (words h k) (wholes h m) (words h c)
refusal h (Call.round S t k m p) = Border.round_number S t (words h k) (wholes h m) (words h p)
refusal h (Call.fold S t e k m) = fold_refusal S t e (words h k) (wholes h m)
refusal h (Call.end S t m f) = Border.end_number S t (wholes h m) (wholes h f)
refusal h (Call.opening S k m e r c f) = Border.open_number S (words h k) (wholes h m) (words h e) (words h r) (words h c) (wholes h f)
refusal h (Call.session_round p e s) = move_number (polynomial_fits (words h p) (words h s)) (round_on (words h p) e (words h s)) (words h s)
refusal h (Call.session_end f k s) = move_number (last_fits (wholes h f) (words h s)) (end_on (wholes h f) (words h k) (words h s)) (words h s)
refusal h (Call.check S c f k r e) = Border.check_number S (words h c) (wholes h f) (words h k) (words h r) (words h e)
refusal h (Call.judge S c s k w) = Border.judge_number S (words h c) s (words h k) w
refusal h (Call.extract S c k r e f w) = Border.extract_number S (words h c) (words h k) (words h r) (words h e) (wholes h f) w
refusal h (Call.look text s) = look_number text (words h s)
refusal h (Call.read n text s k m c r e f v) = read_number n text (words h s) (tables h k m c r e f v)
refusal h (Call.write S n k m c r e f v out) = write_number S n (tables h k m c r e f v) out

-- ---- what a call leaves behind: a slice at exit goes to whose it is

unfoldable pub put_words : Words → List ℕ → Held → Held
put_words Words.key t h = record { message = h.message; key = t; copy = h.copy; session = h.session; commitment = h.commitment; polynomial = h.polynomial; last = h.last; folds = h.folds }
put_words Words.copy t h = record { message = h.message; key = h.key; copy = t; session = h.session; commitment = h.commitment; polynomial = h.polynomial; last = h.last; folds = h.folds }
put_words Words.session t h = record { message = h.message; key = h.key; copy = h.copy; session = t; commitment = h.commitment; polynomial = h.polynomial; last = h.last; folds = h.folds }
put_words Words.commitment t h = record { message = h.message; key = h.key; copy = h.copy; session = h.session; commitment = t; polynomial = h.polynomial; last = h.last; folds = h.folds }
put_words Words.polynomial t h = record { message = h.message; key = h.key; copy = h.copy; session = h.session; commitment = h.commitment; polynomial = t; last = h.last; folds = h.folds }
put_words (Words.other old) t h = h

unfoldable pub put_wholes : Wholes → List ℤ → Held → Held
put_wholes Wholes.message t h = record { message = t; key = h.key; copy = h.copy; session = h.session; commitment = h.commitment; polynomial = h.polynomial; last = h.last; folds = h.folds }
put_wholes Wholes.last t h = record { message = h.message; key = h.key; copy = h.copy; session = h.session; commitment = h.commitment; polynomial = h.polynomial; last = t; folds = h.folds }
put_wholes (Wholes.other old) t h = h

unfoldable pub after : Call → Held → Held
after (Call.commit S k m c) h = put_words c (Border.commit_exit S (words h k) (wholes h m) (words h c)) h
after (Call.round S t k m p) h = put_words p (Border.round_exit S t (words h k) (wholes h m) (words h p)) h
after (Call.fold S t e k m) h =
    put_words k (fold_key_exit S t e (words h k) (wholes h m)) (put_wholes m (fold_message_exit S t e (words h k) (wholes h m)) h)
after (Call.end S t m f) h = put_wholes f (Border.end_exit S t (wholes h m) (wholes h f)) h
after (Call.opening S k m e r c f) h =
    put_words k (Border.open_key_exit S (words h k) (wholes h m) (words h e) (words h r) (words h c) (wholes h f))
    (put_wholes m (Border.open_message_exit S (words h k) (wholes h m) (words h e) (words h r) (words h c) (wholes h f))
    (put_words r (Border.open_rounds_exit S (words h k) (wholes h m) (words h e) (words h r) (words h c) (wholes h f))
    (put_words c (Border.open_commitment_exit S (words h k) (wholes h m) (words h e) (words h r) (words h c) (wholes h f))
    (put_wholes f (Border.open_last_exit S (words h k) (wholes h m) (words h e) (words h r) (words h c) (wholes h f)) h))))
after (Call.session_round p e s) h = put_words s (move_exit (polynomial_fits (words h p) (words h s)) (round_on (words h p) e (words h s)) (words h s)) h
after (Call.session_end f k s) h = put_words s (move_exit (last_fits (wholes h f) (words h s)) (end_on (wholes h f) (words h k) (words h s)) (words h s)) h
after (Call.check S c f k r e) h = h
after (Call.judge S c s k w) h = h
after (Call.extract S c k r e f w) h = h
after (Call.look text s) h = put_words s (granted (look_number text (words h s)) (settings_numbers (settings_in (lines_of text))) (words h s)) h
after (Call.read n text s k m c r e f v) h =
    let N = read_number n text (words h s) (tables h k m c r e f v) in
    let exit = granted N (tables_in (lines_of text)) (tables h k m c r e f v) in
    put_words s (granted N (settings_numbers (settings_in (lines_of text))) (words h s))
    (put_words k exit.key (put_wholes m exit.message (put_words c exit.commitment
    (put_words r exit.rounds (put_words e exit.challenges (put_wholes f exit.last (put_words v exit.claims h)))))))
after (Call.write S n k m c r e f v out) h = h

-- ---- the steps

unfoldable pub hear : ℕ → Heard → Heard
hear n a = record { numbers = a.numbers ++ (n ∷ []); rounds = a.rounds; verdict = a.verdict }

unfoldable pub hear_round : List ℕ → Heard → Heard
hear_round p a = record { numbers = a.numbers; rounds = a.rounds ++ p; verdict = a.verdict }

unfoldable pub hear_verdict : ℕ → Heard → Heard
hear_verdict v a = record { numbers = a.numbers; rounds = a.rounds; verdict = v }

-- each call is lent the slices as the last call on them left them
unfoldable pub step : Settings → List ℕ → Step → Held → Heard → State
step S E Step.commits h a = record {
  held = put_words Words.commitment (Border.commit_exit S h.key h.message h.commitment) h;
  heard = hear (Border.commit_number S h.key h.message h.commitment) a;
}
step S E Step.starts h a = record {
  held = put_words Words.session (start_exit S h.commitment h.session) h;
  heard = hear (start_number S h.commitment h.session) a;
}
step S E Step.proves h a =
    let p = Border.round_exit S h.folds h.key h.message h.polynomial in
    record { held = put_words Words.polynomial p h; heard = hear_round p (hear (Border.round_number S h.folds h.key h.message h.polynomial) a) }
step S E Step.checks h a =
    let fits = polynomial_fits h.polynomial h.session in
    let m = round_on h.polynomial (get_or E h.folds 0) h.session in
    record { held = put_words Words.session (move_exit fits m h.session) h; heard = hear_verdict (move_verdict fits m h.session) (hear (move_number fits m h.session) a) }
step S E Step.folds h a =
    let e = get_or E h.folds 0 in
    record {
      held = record {
        message = fold_message_exit S h.folds e h.key h.message;
        key = fold_key_exit S h.folds e h.key h.message;
        copy = h.copy;
        session = h.session;
        commitment = h.commitment;
        polynomial = h.polynomial;
        last = h.last;
        folds = h.folds + 1;
      };
      heard = hear (fold_refusal S h.folds e h.key h.message) a;
    }
step S E Step.ends h a = record {
  held = put_wholes Wholes.last (Border.end_exit S h.folds h.message h.last) h;
  heard = hear (Border.end_number S h.folds h.message h.last) a;
}
step S E Step.closes h a =
    let fits = last_fits h.last h.session in
    let m = end_on h.last h.copy h.session in
    record { held = put_words Words.session (move_exit fits m h.session) h; heard = hear_verdict (move_verdict fits m h.session) (hear (move_number fits m h.session) a) }

-- message and key as loaded, with an unfolded copy; r, c, p and f are the slices for record, commitment, polynomial and final element
unfoldable pub begun : List ℤ → List ℕ → List ℕ → List ℕ → List ℕ → List ℤ → State
begun M G r c p f = record {
  held = record { message = M; key = G; copy = G; session = r; commitment = c; polynomial = p; last = f; folds = 0 };
  heard = record { numbers = []; rounds = []; verdict = 0 };
}

-- a gap leads from what is held before it to what is held after it, by calls each of which is refused where it stands
pub data Gap : Held → Held → Type 0 where
  none : {h : Held} → Gap h h
  refused : {h h' : Held} (c : Call) → refusal h c ≢ 0 → Gap (after c h) h' → Gap h h'

pub data Run (S : Settings) (E : List ℕ) : List Step → State → State → Type 0 where
  stop : {a : State} {h : Held} → Gap a.held h → Run S E [] a (record { held = h; heard = a.heard })
  go : {a b : State} {h : Held} {s : Step} {rest : List Step} → Gap a.held h → Run S E rest (step S E s h a.heard) b → Run S E (s ∷ rest) a b

-- ════ an opening

pub record Lengths (S : Settings) (r c p : List ℕ) (f : List ℤ) : Type 0 where
  pub session : length r ≡ record_width
  pub commitment : length c ≡ item_cells S
  pub polynomial : length p ≡ polynomial_cells S
  pub last : length f ≡ S.degree

-- C and F are the slices lent to the whole opening for commitment and final element, `rounds` that for the round elements
module _ (S : Settings) (G : List ℕ) (M : List ℤ) (E rounds C : List ℕ) (F : List ℤ) where
  pub record SameAsWhole (st : State) : Type 0 where
    pub no_refusal : st.heard.numbers ≡ replicate (4 + 3 * S.depth) 0
    pub same_commitment : st.held.commitment ≡ Border.open_commitment_exit S G M E rounds C F
    pub same_rounds : st.heard.rounds ≡ Border.open_rounds_exit S G M E rounds C F
    pub same_last : st.held.last ≡ Border.open_last_exit S G M E rounds C F
    pub same_verdict : st.heard.verdict ≡ Border.open_verdict S G M E rounds C F
    pub same_message : st.held.message ≡ Border.open_message_exit S G M E rounds C F
    pub same_key : st.held.key ≡ Border.open_key_exit S G M E rounds C F
    pub copy_kept : st.held.copy ≡ G

  -- part t of the table of rounds is what the prover's round writes in round t + 1, whatever stood in its slice: so a session's round takes that part
  pub record OpeningClaim : Type 0 where
    pub not_refused : Border.open_number S G M E rounds C F ≡ 0
    pub says_accepted : Border.open_verdict S G M E rounds C F ≡ 2
    pub one_layout : (t : ℕ) → t < S.depth → (p : List ℕ) → length p ≡ polynomial_cells S
        → take (polynomial_cells S) (drop (polynomial_at S t) (Border.open_rounds_exit S G M E rounds C F)) ≡ Border.round_exit S t (keys_after S E t G) (message_after S E t M) p
    pub by_moves : (r c p : List ℕ) (f : List ℤ) → Lengths S r c p f → (st : State) → Run S E (moves S.depth) (begun M G r c p f) st → SameAsWhole st

-- ════ a tree

-- C is the slice for the commitment, row i from place i·d on; w that for the vector, whatever stood in it
module _ (S : Settings) (G C rounds E : List ℕ) (finals w : List ℤ) where
  pub record ExtractionClaim : Type 0 where
    pub not_refused : Border.extract_number S C G rounds E finals w ≡ 0
    pub is_root_vector : Border.extract_exit S C G rounds E finals w ≡ root_vector S E finals
    pub in_bound : Within (growth S) (cells S) (Border.extract_exit S C G rounds E finals w)
    pub opens : (i : ℕ) → i < S.rows → Opens S (key_row S G i) (drop (i * S.degree) C) (slack S) (Border.extract_exit S C G rounds E finals w)
    pub judge_answers : Border.judge_number S C (slack S) G (Border.extract_exit S C G rounds E finals w) ≡ 0
    pub judge_says_yes : Border.judge_yes S C (slack S) G (Border.extract_exit S C G rounds E finals w) ≡ 1
    pub exact : (m : List ℤ) → FoldsOf S E finals m → Border.extract_exit S C G rounds E finals w ≡ map (λ x. pos (slack S) *ℤ x) m

-- ════ the claim

pub record Claim (S : Settings) (G : List ℕ) : Type 0 where
  pub opening : (M : List ℤ) (E rounds C : List ℕ) (F : List ℤ) → Within S.bound (cells S) M → Below (exponent_count S) S.depth E
      → length rounds ≡ round_cells S → length C ≡ item_cells S → length F ≡ S.degree → OpeningClaim S G M E rounds C F
  pub extraction : (C rounds E : List ℕ) (finals w : List ℤ) → length C ≡ item_cells S → FullTree S G (values_of S C) rounds E finals → growth S ≤ growth_limit → length w ≡ cells S
      → ExtractionClaim S G C rounds E finals w

abbrev pub ExportedDemand3 : Type 0
ExportedDemand3 = (S : Settings) (G : List ℕ) → Valid S → Below S.modulus (key_cells S) G → Claim S G
