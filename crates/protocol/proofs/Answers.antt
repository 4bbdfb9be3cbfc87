-- Answers that are enums, by the numbers and values that PROTOCOL gives them.
--
--   session-round-number, session-end-number         the verdict of a session's round, and of its end
--   check-number, opening-number      the verdict of a transcript, and of a whole opening
use mathlib.Core.Path.{◌≡◌, refl}
use mathlib.Core.Bool.{Bool, true, false}
use mathlib.Core.List.{List}
use Prim.Native.Nat.{ℕ, zero, suc}
use lib.IntN.{ℤ}
use Rattle.protocol.specs.declared.Settings.{Settings}
use Rattle.protocol.specs.declared.Session.{Session}
use Rattle.protocol.specs.Answers.{Moved}
use Rattle.protocol.specs.Answers.Verdict.{Silent, Holds, Rejected}
use Rattle.protocol.specs.Basic.{choose, granted}
use Rattle.protocol.specs.Session.{verdict, verdict_number, round_number, end_number, advanced, shut, refused_move, round, session_round_refusal, session_round_holds, session_round_number}
use Rattle.protocol.specs.Session.{end, session_end_refusal, session_end_holds, session_end_number}
use Rattle.protocol.specs.Rows.{together, transcripts_of, all_accepted}
use Rattle.protocol.specs.Calls.{opening_refusal, opening_answer, opening_number, check_refusal, check_answer, check_number}

-- a round's, by its refusal and whether it holds
abbrev held : Session → Moved
held r = record { refusal = 0; verdict = Holds; next = r }

abbrev failed : Session → Moved
failed r = record { refusal = 0; verdict = Rejected; next = r }

round_says : (n : ℕ) (b : Bool) (after closed kept : Session) → verdict_number (granted n (choose b (held after) (failed closed)) (refused_move kept n)).verdict ≡ round_number n b
unfolding verdict_number granted choose refused_move round_number
round_says zero true after closed kept = refl
round_says zero false after closed kept = refl
round_says (suc n) b after closed kept = refl

-- an end's, as a verdict beside its number and as a part of a move
end_says : (n : ℕ) (b : Bool) → verdict_number (granted n (verdict b) Silent) ≡ end_number n b
unfolding verdict_number granted choose verdict end_number
end_says zero true = refl
end_says zero false = refl
end_says (suc n) b = refl

end-moves : (n : ℕ) (b : Bool) (shut kept : Session) → verdict_number (granted n (record { refusal = 0; verdict = verdict b; next = shut }) (refused_move kept n)).verdict ≡ end_number n b
unfolding verdict_number granted choose verdict refused_move end_number
end-moves zero true shut kept = refl
end-moves zero false shut kept = refl
end-moves (suc n) b shut kept = refl

pub session-round-number : (r : Session) (p : List (List ℕ)) (e : ℕ) → verdict_number (round r p e).verdict ≡ session_round_number r p e
unfolding round session_round_number
session-round-number r p e = round_says (session_round_refusal r p e) (session_round_holds r p) (advanced r p e) (shut r) r

pub session-end-number : (r : Session) (f : List ℤ) (key : List ℕ) → verdict_number (end r f key).verdict ≡ session_end_number r f key
unfolding end session_end_number
session-end-number r f key = end-moves (session_end_refusal r key) (session_end_holds r f key) (shut r) r

pub opening-number : (S : Settings) (key : List ℕ) (message : List ℤ) (E rounds : List ℕ) → verdict_number (opening_answer S key message E rounds).verdict ≡ opening_number S key message E rounds
unfolding opening_answer opening_number
opening-number S key message E rounds = end_says (opening_refusal S key message E rounds) (all_accepted S key (transcripts_of S key message E))

pub check-number : (S : Settings) (C : List ℕ) (f : List ℤ) (key rounds E : List ℕ) → verdict_number (check_answer S C f key rounds E).verdict ≡ check_number S C f key rounds E
unfolding check_answer check_number
check-number S C f key rounds E = end_says (check_refusal S C key rounds E) (all_accepted S key (record { commitment = together S C; rounds = rounds; challenges = E; last = f }))
