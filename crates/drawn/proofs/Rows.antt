-- Rows of drawn cases: for each call, what its definition gives for the inputs, and the outputs that are wanted, as lists of numbers.
use mathlib.Core.Bool.{Bool}
use mathlib.Core.List.{List, [], ◌∷◌, ◌++◌, map}
use Prim.Native.Nat.{ℕ, zero, suc, ◌-◌}
use lib.ListN.{length, replicate, drop}
use lib.IntN.{ℤ, pos}
use Rattle.protocol.specs.Layout.{width}
use Rattle.protocol.specs.declared.Settings.{Settings}
use Rattle.protocol.specs.declared.Session.{Session}
use Rattle.protocol.specs.declared.Parts.{Parts}
use Rattle.protocol.specs.Answers.{Verdict}
use Rattle.protocol.specs.Transcript.{Transcript}
use Rattle.protocol.specs.Rows.{Cause, cause, together}
use Rattle.protocol.specs.Session.{start, round, end}
use Rattle.protocol.specs.Calls.{commit_answer, round_answer, fold_refusal, fold_key_exit, fold_message_exit, end_answer, opening_answer, opening_key_exit, opening_message_exit}
use Rattle.protocol.specs.Calls.{opening_rounds_exit, check_answer, judge_answer, extract_refusal, extract_exit}
use Rattle.text_format.specs.Text.{Tables, read_answer, read_exit, write_answer, write_exit}
use Rattle.text_format.specs.Programs.{prove_answer, prove_exit, verify_answer, checked}
use Rattle.protocol.proofs.Examples.{Example, as_number, cause_number, verdict_as_number, record_numbers, move_numbers}

-- ---- inputs

abbrev pub set : ℕ → ℕ → ℕ → ℕ → ℕ → Settings
set d l q b r = record { degree = d; depth = l; modulus = q; bound = b; rows = r }

-- an element that is passed by value, its places behind those given being 0
unfoldable pub full : List ℕ → List ℕ
full l = l ++ replicate (width - length l) 0

unfoldable pub full_signed : List ℤ → List ℤ
full_signed l = l ++ replicate (width - length l) (pos 0)

-- an element of each row that is passed by value
unfoldable pub by_row : List ℕ → List ℕ → List ℕ → List ℕ → List ℕ
by_row a b c d = full a ++ full b ++ full c ++ full d

abbrev pub session : Settings → ℕ → List ℕ → List ℕ → Bool → Session
session S done claims challenges closed = record { settings = S; done = done; claims = claims; challenges = challenges; closed = closed }

abbrev pub seven_tables : List ℕ → List ℤ → List ℕ → List ℕ → List ℕ → List ℤ → List ℕ → Tables
seven_tables key message commitment rounds challenges last claims = record
    { key = key; message = message; commitment = commitment; rounds = rounds; challenges = challenges; last = last; claims = claims }

abbrev pub seven_parts : Bool → Bool → Bool → Bool → Bool → Bool → Bool → Parts
seven_parts key message commitment round challenge last claims = record
    { key = key; message = message; commitment = commitment; rounds = round; challenges = challenge; last = last; claims = claims }

-- ---- outputs as numbers

unfoldable pub settings_numbers : Settings → List ℤ
settings_numbers S = map pos (S.degree ∷ S.depth ∷ S.modulus ∷ S.bound ∷ S.rows ∷ [])

unfoldable pub counted : List ℤ → List ℤ
counted l = pos (length l) ∷ l

unfoldable pub tables_numbers : Tables → List ℤ
tables_numbers t =
    counted (map pos t.key) ++ counted t.message ++ counted (map pos t.commitment)
    ++ counted (map pos t.rounds) ++ counted (map pos t.challenges) ++ counted t.last ++ counted (map pos t.claims)

unfoldable pub polynomial_numbers : List (List ℕ) → List ℤ
polynomial_numbers [] = []
polynomial_numbers (c ∷ p) = counted (map pos c) ++ polynomial_numbers p

-- ---- rows

unfoldable pub commit_row : Settings → List ℕ → List ℤ → ℕ → List ℕ → Example
commit_row S key message n c =
    let r = commit_answer S key message in
    record { given = pos r.refusal ∷ map pos r.commitment; wanted = pos n ∷ map pos c }

unfoldable pub round_row : Settings → ℕ → List ℕ → List ℤ → ℕ → List (List ℕ) → Example
round_row S t key message n p =
    let r = round_answer S t key message in
    record { given = pos r.refusal ∷ polynomial_numbers r.elements; wanted = pos n ∷ polynomial_numbers p }

unfoldable pub fold_row : Settings → ℕ → ℕ → List ℕ → List ℤ → ℕ → List ℕ → List ℤ → Example
fold_row S t e key message n key' message' = record {
  given = pos (fold_refusal S t e key message) ∷ (map pos (fold_key_exit S t e key message) ++ fold_message_exit S t e key message);
  wanted = pos n ∷ (map pos key' ++ message');
}

unfoldable pub end_row : Settings → ℕ → List ℤ → ℕ → List ℤ → Example
end_row S t message n f =
    let r = end_answer S t message in
    record { given = pos r.refusal ∷ r.last; wanted = pos n ∷ full_signed f }

unfoldable pub opening_row : Settings → List ℕ → List ℤ → List ℕ → List ℕ → ℕ → Verdict → List ℕ → List ℤ → List ℕ → List ℤ → List ℕ → Example
opening_row S key message E rounds n v c f key' message' rounds' =
    let r = opening_answer S key message E rounds in
    record {
      given = pos r.refusal ∷ verdict_as_number r.verdict ∷ (map pos r.commitment ++ r.last
          ++ map pos (opening_key_exit S key message E rounds) ++ opening_message_exit S key message E rounds ++ map pos (opening_rounds_exit S key message E rounds));
      wanted = pos n ∷ verdict_as_number v ∷ (map pos c ++ full_signed f ++ map pos key' ++ message' ++ map pos rounds');
    }

unfoldable pub start_row : Settings → List ℕ → ℕ → Session → Example
start_row S c n next =
    let r = start S c in
    record { given = pos r.refusal ∷ record_numbers r.next; wanted = pos n ∷ record_numbers next }

unfoldable pub move_row : Session → List (List ℕ) → ℕ → ℕ → Verdict → Session → Example
move_row r p e n v next = record { given = move_numbers (round r p e); wanted = move_numbers (record { refusal = n; verdict = v; next = next }) }

unfoldable pub close_row : Session → List ℤ → List ℕ → ℕ → Verdict → Session → Example
close_row r f key n v next = record { given = move_numbers (end r f key); wanted = move_numbers (record { refusal = n; verdict = v; next = next }) }

-- a transcript is refused or has a cause; a refused one has none
unfoldable pub why_rejected : Settings → ℕ → List ℕ → Transcript → List ℤ
why_rejected S n key T = elim n [ zero ↦ cause_number (cause S key T) | suc m ↦ pos 0 ∷ [] ]

unfoldable pub check_row : Settings → List ℕ → List ℤ → List ℕ → List ℕ → List ℕ → ℕ → Verdict → Cause → Example
check_row S C f key rounds E n v why =
    let r = check_answer S C f key rounds E in
    record {
      given = pos r.refusal ∷ verdict_as_number r.verdict ∷ why_rejected S r.refusal key (record { commitment = together S C; rounds = rounds; challenges = E; last = f });
      wanted = pos n ∷ verdict_as_number v ∷ cause_number why;
    }

unfoldable pub judge_row : Settings → List ℕ → ℕ → List ℕ → List ℤ → ℕ → Bool → Example
judge_row S C c key w n answer =
    let r = judge_answer S C c key w in
    record { given = pos r.refusal ∷ as_number r.yes; wanted = pos n ∷ as_number answer }

unfoldable pub extract_row : Settings → List ℕ → List ℕ → List ℕ → List ℕ → List ℤ → List ℤ → ℕ → List ℤ → Example
extract_row S C key rounds E finals w n w' = record
    { given = pos (extract_refusal S C key rounds E finals w) ∷ extract_exit S C key rounds E finals w; wanted = pos n ∷ w' }

unfoldable pub read_row : Parts → List ℕ → Tables → ℕ → Settings → Tables → Example
read_row P text t n S t' =
    let r = read_answer P text t in
    record { given = pos r.refusal ∷ (settings_numbers r.settings ++ tables_numbers (read_exit P text t)); wanted = pos n ∷ (settings_numbers S ++ tables_numbers t') }

-- the output slice has `room` places, all of which hold `byte`
unfoldable pub write_row : Settings → Parts → Tables → ℕ → ℕ → ℕ → ℕ → List ℕ → Example
write_row S P t room byte n long text =
    let out = replicate room byte in
    let r = write_answer S P t out in
    record { given = pos r.refusal ∷ pos r.count ∷ map pos (write_exit S P t out); wanted = pos n ∷ pos long ∷ map pos (text ++ drop (length text) out) }

unfoldable pub prove_row : List ℕ → ℕ → ℕ → ℕ → ℕ → List ℕ → Example
prove_row input room byte n long text =
    let out = replicate room byte in
    let r = prove_answer input out in
    record { given = pos r.refusal ∷ pos r.count ∷ map pos (prove_exit input out); wanted = pos n ∷ pos long ∷ map pos (text ++ drop (length text) out) }

unfoldable pub verify_row : List ℕ → ℕ → Verdict → Example
verify_row text n v =
    let r = checked (verify_answer text) in
    record { given = pos r.refusal ∷ verdict_as_number r.verdict ∷ []; wanted = pos n ∷ verdict_as_number v ∷ [] }

unfoldable pub rows_unfolded : Unit {0}
unfolding
    full full_signed by_row settings_numbers counted tables_numbers polynomial_numbers
    commit_row round_row fold_row end_row opening_row start_row move_row close_row why_rejected check_row judge_row extract_row read_row write_row prove_row verify_row
rows_unfolded = tt
