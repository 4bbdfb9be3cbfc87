-- The promises of the session's moves on a record in a slice of `record_width` numbers. In a promise x is a slice or a number at entry, and x' the same at exit.
--
--   start_number, start_exit  the start at the commitment in the slice C: its refusal, and the slice for the record at exit. A refused start writes the
--                             closed record of zeros
--   StartStored               the promise of the start
--   move_number fits m rec    the refusal of the move m on the record in the slice rec, `fits` saying whether the slices lent beside it have their lengths.
--                             A slice of another length holds no record, so nothing of it is tested: that is 7 at once
--   move_exit, move_verdict   the slice for the record, and the verdict's number, at exit: a refused move writes nothing and says nothing
--   MoveStored                the promise of a move
--   round_on P e rec          the round with the polynomial in the slice P on the record in the slice rec
--   end_on f key rec          the end with the final element in the slice f
--   polynomial_fits, last_fits have these slices their lengths, which the record's settings give
--   Answered                 what a move leaves where nothing beside it is refused
use Rattle.std.specs.Prelude.{◌≡◌, Bool, ◌&&◌, List, [], ◌∷◌, ℕ, ℤ}
use Rattle.protocol.specs.declared.Settings.{Settings}
use Rattle.protocol.specs.Answers.{Moved}
use Rattle.protocol.specs.Basic.{first, unless, granted}
use Rattle.protocol.specs.Element.{padded_signed}
use Rattle.protocol.specs.Layout.{item_cells, polynomial_cells}
use Rattle.protocol.specs.Settings.{has_length}
use Rattle.protocol.specs.Session.{opened, blank, start_refusal, round, end, verdict_number}
use Rattle.slices.specs.Slices.{lent, values_of, polynomial_of}
use Rattle.session_records.specs.Records.{record_width, session_of, flagged, record_stored}

unfoldable pub start_number : Settings → List ℕ → List ℕ → ℕ
start_number S C rec = lent S (has_length (item_cells S) C && has_length record_width rec) (start_refusal S (values_of S C))

unfoldable pub start_exit : Settings → List ℕ → List ℕ → List ℕ
start_exit S C rec = record_stored (granted (start_number S C rec) (opened S (values_of S C)) blank) rec

pub record StartStored (S : Settings) (C rec : List ℕ) (r : ℕ) (rec' : List ℕ) : Type 0 where
  pub refusal : r ≡ start_number S C rec
  pub record_exit : rec' ≡ start_exit S C rec

unfoldable pub move_number : Bool → Moved → List ℕ → ℕ
move_number fits m rec = first (unless 7 (has_length record_width rec) ∷ lent (session_of rec).settings (fits && flagged rec) m.refusal ∷ [])

unfoldable pub move_exit : Bool → Moved → List ℕ → List ℕ
move_exit fits m rec = granted (move_number fits m rec) (record_stored m.next rec) rec

unfoldable pub move_verdict : Bool → Moved → List ℕ → ℕ
move_verdict fits m rec = granted (move_number fits m rec) (verdict_number m.verdict) 0

pub record MoveStored (fits : Bool) (m : Moved) (rec : List ℕ) (r : ℕ) (rec' : List ℕ) (verdict' : ℕ) : Type 0 where
  pub refusal : r ≡ move_number fits m rec
  pub record_exit : rec' ≡ move_exit fits m rec
  pub verdict_exit : verdict' ≡ move_verdict fits m rec

unfoldable pub polynomial_fits : List ℕ → List ℕ → Bool
polynomial_fits P rec = has_length (polynomial_cells (session_of rec).settings) P

unfoldable pub round_on : List ℕ → ℕ → List ℕ → Moved
round_on P e rec = round (session_of rec) (polynomial_of (session_of rec).settings P) e

unfoldable pub last_fits : List ℤ → List ℕ → Bool
last_fits f rec = has_length (session_of rec).settings.degree f

unfoldable pub end_on : List ℤ → List ℕ → List ℕ → Moved
end_on f key rec = end (session_of rec) (padded_signed (session_of rec).settings.degree f) key

pub record Answered (m : Moved) (rec : List ℕ) (r : ℕ) (rec' : List ℕ) (verdict' : ℕ) : Type 0 where
  pub refusal : r ≡ m.refusal
  pub record_exit : rec' ≡ granted m.refusal (record_stored m.next rec) rec
  pub verdict_exit : verdict' ≡ granted m.refusal (verdict_number m.verdict) 0
