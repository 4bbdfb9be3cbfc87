-- Bytes that a program is to print.
--
--   Shown bytes out r out'   what a function promises that puts bytes at the front of an output slice: all of them where there is room, and else nothing
--   Within r out             r bytes stand at the front of a slice
use Rattle.std.specs.Prelude.{◌≡◌, List, ◌++◌, ℕ, ◌≤◌, leb, length, take, drop}
use Rattle.protocol.specs.Basic.{choose}

-- behind the bytes stands what stood there
pub record Shown (bytes out : List ℕ) (r : ℕ) (out' : List ℕ) : Type 0 where
  pub count : r ≡ choose (leb (length bytes) (length out)) (length bytes) 0
  pub out_exit : out' ≡ choose (leb (length bytes) (length out)) (bytes ++ drop (length bytes) out) out

-- the second part follows from the first; both are what a part `&out[..r]` asks
abbrev pub Within : ℕ → List ℕ → Type 0
Within r out = (r ≤ length out) × (r ≡ length (take r out))
