-- Session records in slices of `record_width` numbers: degree, depth, modulus, bound, rows, rounds done, closed, then a challenge for each slot, then the places
-- of the claims. All are numbers of 64 bits, as modulus and claims need them; of the others one that is past 32 bits counts as the largest of 32 bits, which
-- every call refuses.
--
--   head_width         7: the numbers before the challenges
--   claims_at          15: where the claims begin
--   record_width       527: all numbers
--   progress_of t      the record that the slice t holds, beside its claims
--   session_of t       the record that the slice t holds
--   flagged t          is the number that says whether it is closed 0 or 1; any other is refusal 7
--   number_of r k      number k of the record r
--   numbers_of r       the numbers of the record r
--   record_stored r t  the slice t after the record r was written to it: a slice of another length stays as it is
use Rattle.std.specs.Prelude.{Bool, List, [], ◌∷◌, ℕ, ◌+◌, ◌-◌, leb, ltb, eqb, get_or}
use Rattle.protocol.specs.declared.Session.{Session}
use Rattle.protocol.specs.Basic.{tabulate, choose}
use Rattle.protocol.specs.Layout.{rows_width, slots}
use Rattle.protocol.specs.Settings.{has_length}
use Rattle.slices.specs.Slices.{given, capped}
use Rattle.verifier_refusals.specs.declared.Progress.{Progress}
use Rattle.verifier_refusals.specs.Lent.{record_of}

abbrev pub head_width : ℕ
head_width = 7

abbrev pub claims_at : ℕ
claims_at = head_width + slots

abbrev pub record_width : ℕ
record_width = claims_at + rows_width

unfoldable pub challenges_of : List ℕ → List ℕ
challenges_of t = tabulate slots (λ k. capped (get_or t (head_width + k) 0))

unfoldable pub claims_of : List ℕ → List ℕ
claims_of t = tabulate rows_width (λ k. get_or t (claims_at + k) 0)

abbrev pub progress_of : List ℕ → Progress
progress_of t = record {
  settings = given (capped (get_or t 0 0)) (capped (get_or t 1 0)) (get_or t 2 0) (capped (get_or t 3 0)) (capped (get_or t 4 0));
  done = capped (get_or t 5 0);
  challenges = challenges_of t;
  closed = eqb (get_or t 6 0) 1;
}

unfoldable pub session_of : List ℕ → Session
session_of t = record_of (progress_of t) (claims_of t)

unfoldable pub flagged : List ℕ → Bool
flagged t = leb (get_or t 6 0) 1

-- the numbers before the challenges
unfoldable pub head_of : Session → List ℕ
head_of r = let S = r.settings in S.degree ∷ S.depth ∷ S.modulus ∷ S.bound ∷ S.rows ∷ r.done ∷ choose r.closed 1 0 ∷ []

unfoldable pub number_of : Session → ℕ → ℕ
number_of r k = choose (ltb k head_width) (get_or (head_of r) k 0) (choose (ltb k claims_at) (get_or r.challenges (k - head_width) 0) (get_or r.claims (k - claims_at) 0))

unfoldable pub numbers_of : Session → List ℕ
numbers_of r = tabulate record_width (number_of r)

unfoldable pub record_stored : Session → List ℕ → List ℕ
record_stored r t = choose (has_length record_width t) (numbers_of r) t
