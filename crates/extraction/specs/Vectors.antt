-- What the steps on a node's vector leave.
--
--   scaled d n k m e v     v with each of its first n elements `weighted`, which is multiplied by X^(2a)·μ (Mu)
--   Scalable d n k m e v   the places are there, and the numbers are small enough
--   turned_row d e to l i  the element i places behind place `to`, with X^e times element i added
--   turned d n e f i l     l with X^e times each of its first i elements added to that n elements behind it, and X^f times each to that 2n behind it
--   Turnable d n e f l     l has 3n elements, and the sums fit
--   with_share d n e m v R a node's vector R, of 2n elements, with μ·v added to its first half and X^e·μ·v to its second, μ being m
--   Sharing d n a b c l    a child's vector, of n elements, then the node's: the degree is one, the exponents are different ones, and the sums fit, the share being bounded by μ's weight
--   other j, another j     the other two children beside child j
--   branch_added d n k ..  the node's vector after the share of child j at node k, the child's vector standing before it
--   Branching d n k ..     the list is n free elements, the child's vector and the node's; the challenges of node k are there
use Rattle.std.specs.Prelude.{◌≡◌, ◌≢◌, List, ◌++◌, ℕ, zero, suc, ◌+◌, ◌*◌, ◌^◌, ◌<◌, ◌≤◌, length, get_or, take, drop, ℤ, pos, nat_abs, ◌+ℤ◌}
use Rattle.algebra.specs.Magnitude.{weight}
use Rattle.protocol.specs.Basic.{flat}
use Rattle.protocol.specs.Layout.{width}
use Rattle.protocol.specs.Element.{Element, rotate, signed, signed_at}
use Rattle.protocol.specs.Tree.{challenge, mu, share}
use Rattle.residues.specs.Lists.{spliced_rows}
use Rattle.extraction.specs.Bounds.{Factors}
use Rattle.extraction.specs.Steps.{weighted}

unfoldable pub scaled : ℕ → ℕ → ℕ → ℕ → ℕ → List ℤ → List ℤ
scaled d n k m e v = spliced_rows (λ i. weighted d k m e (signed_at d v i)) 0 d n v

pub record Scalable (d n k m e : ℕ) (v : List ℤ) : Type 0 where
  pub long : n * d ≤ length v
  pub bound : ℕ
  pub factors : Factors d k m e bound
  pub within : (j : ℕ) → j < n * d → nat_abs (get_or v j (pos 0)) ≤ bound

abbrev pub turned_row : ℕ → ℕ → ℕ → List ℤ → ℕ → Element
turned_row d e to l i k = get_or l (to + (i * d + k)) (pos 0) +ℤ rotate d e (signed_at d l i) k

abbrev pub turned : ℕ → ℕ → ℕ → ℕ → ℕ → List ℤ → List ℤ
turned d n e f i l =
    spliced_rows (turned_row d f (n * d + n * d) l) (n * d + n * d) d i (spliced_rows (turned_row d e (n * d) l) (n * d) d i l)

pub record Turnable (d n e f : ℕ) (l : List ℤ) : Type 0 where
  pub some : 0 < d
  pub small : d ≤ width
  pub exponents : (e < 2 * d) × (f < 2 * d)
  pub long : length l ≡ 3 * (n * d)
  pub bound : ℕ
  pub bound_to : ℕ
  pub within : (j : ℕ) → j < n * d → nat_abs (get_or l j (pos 0)) ≤ bound
  pub within_to : (j : ℕ) → n * d ≤ j → nat_abs (get_or l j (pos 0)) ≤ bound_to
  pub room : bound_to + bound ≤ 2 ^ 62

unfoldable pub with_share : ℕ → ℕ → ℕ → List ℤ → List ℤ → List ℤ → List ℤ
with_share d n e m v R =
    flat d n (λ i k. signed_at d R i k +ℤ share d m v i k) ++ flat d n (λ i k. signed_at d R (n + i) k +ℤ rotate d e (share d m v i) k)

pub record Sharing (d n a b c : ℕ) (l : List ℤ) : Type 0 where
  pub log : ℕ
  pub log_most : log ≤ 7
  pub degree_is : d ≡ 2 ^ log
  pub some : 0 < d
  pub small : d ≤ width
  pub exponent : a < 2 * d
  pub others : (b < 2 * d) × (c < 2 * d)
  pub different : (a ≢ b) × (a ≢ c)
  pub long : length l ≡ 3 * (n * d)
  pub bound : ℕ
  pub bound_node : ℕ
  pub within : (j : ℕ) → j < n * d → nat_abs (get_or l j (pos 0)) ≤ bound
  pub within_node : (j : ℕ) → n * d ≤ j → nat_abs (get_or l j (pos 0)) ≤ bound_node
  pub room : d * d * 2 * bound ≤ 2 ^ 62
  pub room_node : bound_node + weight d (signed (mu d a b c)) * bound ≤ 2 ^ 62

-- the other two children
abbrev pub other : ℕ → ℕ
other zero = 1
other (suc j) = 0

abbrev pub another : ℕ → ℕ
another zero = 2
another (suc zero) = 2
another (suc (suc j)) = 1

module _ (d n k j x y : ℕ) (E : List ℕ) where
  unfoldable pub branch_added : List ℤ → List ℤ
  branch_added ws =
      with_share d n (challenge E k j) (mu d (challenge E k j) (challenge E k x) (challenge E k y)) (take (n * d) (drop (n * d) ws)) (drop (n * d) (drop (n * d) ws))

  pub record Branching (ws : List ℤ) : Type 0 where
    pub children : (j < 3) × (x < 3) × (y < 3)
    pub inside : 3 * k + 3 ≤ length E
    pub long : length ws ≡ 4 * (n * d)
    pub sharing : Sharing d n (challenge E k j) (challenge E k x) (challenge E k y) (drop (n * d) ws)
