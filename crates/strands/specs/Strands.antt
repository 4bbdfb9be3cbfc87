-- Elements of several rows of a key, woven.
--
--   StrandIn c r d l k₀ k  the first d numbers of strand r of k, of c strands, are those of the list l, and the other strands are as they are in k₀
--   Woven c r d F k        the first r strands of k are the elements F 0, F 1, .. F (r − 1), of d numbers each
--   KeyGiven sums q d n g  a key of n elements of residues, or one whose halves have n elements
--   KeyRows .. c stride .. c such keys, in a table g, at the distance `stride`: row r begins with the numbers of G r
use Rattle.std.specs.Prelude.{Bool, List, ◌≢◌, ◌≡◌, ℕ, ◌+◌, ◌*◌, ◌<◌, ◌≤◌, pos, length, get_or}
use Rattle.protocol.specs.Element.{Element, width}
use Rattle.protocol.specs.Layout.{rows_most}
use Rattle.half_sums.specs.Halves.{size_of}

pub record StrandIn (c r d : ℕ) (l k₀ k : List ℕ) : Type 0 where
  pub own : (j : ℕ) → j < d → get_or k (j * c + r) 0 ≡ get_or l j 0
  pub others : (s j : ℕ) → s < c → s ≢ r → get_or k (j * c + s) 0 ≡ get_or k₀ (j * c + s) 0

abbrev pub Woven : ℕ → ℕ → ℕ → (ℕ → Element) → List ℕ → Type 0
Woven c r d F k = (s j : ℕ) → s < r → j < d → pos (get_or k (j * c + s) 0) ≡ F s j

pub record KeyGiven (sums : Bool) (q d n : ℕ) (g : List ℕ) : Type 0 where
  pub modulus : 0 < q
  pub degree : 0 < d
  pub degree_most : d ≤ width
  pub long : size_of sums d n ≤ length g
  pub residues : (j : ℕ) → j < size_of sums d n → get_or g j 0 < q

pub record KeyRows (sums : Bool) (q d n c stride : ℕ) (g : List ℕ) (G : ℕ → List ℕ) : Type 0 where
  pub some : 0 < c
  pub most : c ≤ rows_most
  pub long : (r : ℕ) → r < c → r * stride + size_of sums d n ≤ length g
  pub alike : (r p : ℕ) → r < c → p < size_of sums d n → get_or g (r * stride + p) 0 ≡ get_or (G r) p 0
  pub given : (r : ℕ) → r < c → KeyGiven sums q d n (G r)
