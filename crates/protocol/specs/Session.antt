-- PROTOCOL 4: the verifier's session. A move is given a record by value, and answers with the one that follows it.
--
--   slots                    how many challenges a record holds
--   verdict met              what a verifier says of a transcript, or of its end
--   verdict_number v         a verdict as a number: 0 the 0 of a refusal, 1 a round that holds, 2 accepted, 3 rejected
--   round_number N met       the number of a round's verdict, for a refusal N and whether the round holds
--   end_number N met         the number of the verdict of an end, of a transcript or of a whole opening
--   opened S C               the record of a session that starts at the commitment C, which has a place for each row
--   blank                    the closed record of zeros that a refused start hands back
--   shut r                   the record r, closed
--   advanced r p e           the record r after a round that holds, p being the polynomial and e the challenge
--   part p j                 c_j of a polynomial by value, of all rows
--   refused_move r number    a refused move: r unchanged
--   start, round, end        the three moves: refusal, verdict and record
--   session_round_refusal, session_round_holds, session_round_number   a round's refusal, whether its equation is met, the number of its verdict; those of
--                            the prover's round are in Calls
--   session_end_refusal, session_end_holds, session_end_number         the same of the end
use Rattle.std.specs.Prelude.{Bool, true, false, ◌&&◌, not, List, [], ◌∷◌, ℕ, ◌+◌, ltb, eqb, get_or, set, ℤ}
use Rattle.protocol.specs.declared.Settings.{Settings}
use Rattle.protocol.specs.declared.Session.{Session}
use Rattle.protocol.specs.Answers.{Started}
use Rattle.protocol.specs.Answers.{Moved}
use Rattle.protocol.specs.Answers.{Verdict}
use Rattle.protocol.specs.Answers.Verdict.{Silent, Holds, Accepted, Rejected}
use Rattle.protocol.specs.Basic.{every, tabulate, choose, first, unless, granted}
unfoldable pub use Rattle.protocol.specs.Layout.{slots}
use Rattle.protocol.specs.Layout.{rows_width, key_cells}
use Rattle.protocol.specs.Element.{zeros, value_row, signed, residue}
use Rattle.protocol.specs.Settings.{settings_refusal, has_length, all_below, residue_rows, exponent, exponents}
use Rattle.protocol.specs.Transcript.{round_holds, next_claim, end_met, folded_key}
use Rattle.protocol.specs.Rows.{key_row, at_rows}

-- what a verifier says of a transcript, or of its end
unfoldable pub verdict : Bool → Verdict
verdict met = choose met Accepted Rejected

unfoldable pub verdict_number : Verdict → ℕ
verdict_number Silent = 0
verdict_number Holds = 1
verdict_number Accepted = 2
verdict_number Rejected = 3

unfoldable pub round_number : ℕ → Bool → ℕ
round_number refusal met = granted refusal (choose met 1 3) 0

unfoldable pub end_number : ℕ → Bool → ℕ
end_number refusal met = granted refusal (choose met 2 3) 0

-- ---- start

-- PROTOCOL 4.2; of the commitment only the first d places of each row are read
unfoldable pub opened : Settings → List ℕ → Session
opened S C = record {
  settings = S;
  done = 0;
  claims = at_rows S (λ r. tabulate S.degree (λ k. get_or (value_row C r) k 0));
  challenges = zeros slots;
  closed = false;
}

-- PROTOCOL 4.1: what a refused start gives
unfoldable pub blank : Session
blank = record {
  settings = record { degree = 0; depth = 0; modulus = 0; bound = 0; rows = 0 };
  done = 0;
  claims = zeros rows_width;
  challenges = zeros slots;
  closed = true;
}

unfoldable pub start_refusal : Settings → List ℕ → ℕ
start_refusal S C = first (settings_refusal S ∷ unless 8 (residue_rows S C) ∷ [])

unfoldable pub start : Settings → List ℕ → Started
start S C = record { refusal = start_refusal S C; next = granted (start_refusal S C) (opened S C) blank }

-- ---- a move

-- PROTOCOL 4.5 and 7.4
unfoldable pub refused_move : Session → ℕ → Moved
refused_move r number = record { refusal = number; verdict = Silent; next = r }

-- PROTOCOL 4.3 and 4.4: what a final verdict does to the record
unfoldable pub shut : Session → Session
shut r = record { settings = r.settings; done = r.done; claims = r.claims; challenges = r.challenges; closed = true }

-- ---- round

-- c_j of a polynomial that is passed by value
unfoldable pub part : List (List ℕ) → ℕ → List ℕ
part p j = get_or p j []

-- PROTOCOL 8.9: 8 is over claims and polynomial, 10 over every slot and the new exponent, 11 asks for a round that is left and an open record
unfoldable pub session_round_refusal : Session → List (List ℕ) → ℕ → ℕ
session_round_refusal r p e =
    let S = r.settings in
    first
    (settings_refusal S
    ∷ unless 8 (residue_rows S r.claims && residue_rows S (part p 0) && residue_rows S (part p 1) && residue_rows S (part p 2))
    ∷ unless 10 (exponents S r.challenges && exponent S e)
    ∷ unless 11 (ltb r.done S.depth && not r.closed)
    ∷ [])

-- PROTOCOL 4.3: the slot of the challenge is the count before this round
unfoldable pub advanced : Session → List (List ℕ) → ℕ → Session
advanced r p e = record {
  settings = r.settings;
  done = r.done + 1;
  claims = at_rows r.settings (λ i. next_claim r.settings e (residue (value_row (part p 0) i)) (residue (value_row (part p 1) i)) (residue (value_row (part p 2) i)));
  challenges = set r.challenges r.done e;
  closed = r.closed;
}

-- PROTOCOL 4.3: in every row
unfoldable pub session_round_holds : Session → List (List ℕ) → Bool
session_round_holds r p = every r.settings.rows (λ i. round_holds r.settings (value_row r.claims i) (residue (value_row (part p 0) i)) (residue (value_row (part p 2) i)))

unfoldable pub round : Session → List (List ℕ) → ℕ → Moved
round r p e =
    granted (session_round_refusal r p e)
    (choose (session_round_holds r p) (record { refusal = 0; verdict = Holds; next = advanced r p e }) (record { refusal = 0; verdict = Rejected; next = shut r }))
    (refused_move r (session_round_refusal r p e))

unfoldable pub session_round_number : Session → List (List ℕ) → ℕ → ℕ
session_round_number r p e = round_number (session_round_refusal r p e) (session_round_holds r p)

-- ---- end

-- PROTOCOL 8.10: 8 is over key and claims, 10 over every slot, 11 asks that no round is left and for an open record
unfoldable pub session_end_refusal : Session → List ℕ → ℕ
session_end_refusal r key =
    let S = r.settings in
    first
    (settings_refusal S
    ∷ unless 7 (has_length (key_cells S) key)
    ∷ unless 8 (all_below S key && residue_rows S r.claims)
    ∷ unless 10 (exponents S r.challenges)
    ∷ unless 11 (eqb r.done S.depth && not r.closed)
    ∷ [])

-- PROTOCOL 4.4: in every row, each with its own key
unfoldable pub session_end_holds : Session → List ℤ → List ℕ → Bool
session_end_holds r f key =
    every r.settings.rows (λ i. end_met r.settings (value_row r.claims i) (signed f) (folded_key r.settings (key_row r.settings key i) r.challenges))

unfoldable pub end : Session → List ℤ → List ℕ → Moved
end r f key =
    granted (session_end_refusal r key)
    (record { refusal = 0; verdict = verdict (session_end_holds r f key); next = shut r })
    (refused_move r (session_end_refusal r key))

unfoldable pub session_end_number : Session → List ℤ → List ℕ → ℕ
session_end_number r f key = end_number (session_end_refusal r key) (session_end_holds r f key)
