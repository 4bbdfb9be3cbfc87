-- A node's vector, share by share: three shares added to zeros are the vector, and every number on the way is within the growth bound.
--   Branch S E ..   a node above its children, on a list of `space` numbers
--   shared j        the node's vector after the shares of its first j children
--   Stage j W       the list W has room for the node, and its second half is `shared j`
use mathlib.Core.Path.{◌≡◌, sym, ap, ◌∙◌, subst}
use mathlib.Core.Logic.{◌≢◌}
use mathlib.Core.List.{List, ◌++◌}
use Prim.Native.Nat.{ℕ, zero, suc, ◌+◌, ◌*◌, ◌-◌, ◌/◌, ◌^◌, ◌<◌, ◌≤◌}
use native.Mathlib.Nat as Nat
use native.Mathlib.Omega.{arith}
use lib.ListN.{length, get_or, take, drop, length-append, length-drop}
use lib.Seq.{length-take-le, drop_at, drop-append-le, take_at, drop-drop, get_or-take, get_or-drop}
use lib.IntN.{ℤ, pos, nat_abs}
use borrow.Rule.Slice.PartMut.{put_mid}
use Rattle.algebra.specs.Magnitude.{weight}
use Rattle.protocol.specs.declared.Settings.{Settings}
use Rattle.protocol.specs.Element.{signed, signed_zeros}
use Rattle.protocol.specs.Tree.{child, challenge, mu, joined, combined, nodes, vector}
use Rattle.protocol.specs.Nodes.{AtNode}
use Rattle.protocol.proofs.Numbering.{child-depth}
use Rattle.protocol.proofs.Places as Places
use Rattle.claims.proofs.Growth.{height_bound}
pub use Rattle.extraction.specs.Vectors.{other, another}
use Rattle.extraction.specs.Vectors.{with_share, Branching, branch_added}
use Rattle.extraction.specs.Nodes.{Extractable}
use Rattle.residues.proofs.SignedFill.{signed-zeros_at, signed-zeros-length}
use Rattle.residues.proofs.Parts.{tail-length}
use Rattle.extraction.proofs.Halves.{with_share-length}
use Rattle.extraction.proofs.ThreeShares.{three-shares, shared-within}
use Rattle.extraction.proofs.Nodes.{some, small, vector-within, shares-fit, quotient_fits}
use Rattle.extraction.proofs.Splicing.{drop-put-end, put-end}

pub record Staged (half space : ℕ) (R W : List ℤ) : Type 0 where
  pub long : length W ≡ space
  pub rest : drop half W ≡ R

pub record Branch (S : Settings) (E : List ℕ) (finals : List ℤ) (h k first space : ℕ) : Type 0 where
  pub tree : Extractable S E finals
  pub place : AtNode S h k first space
  pub up : 0 < h

-- a node above its children
module _ {S : Settings} {E : List ℕ} {finals : List ℤ} {h k first space : ℕ} (N : Branch S E finals h k first space) where
  open S use {degree as d, depth as L}

  abbrev X : Extractable S E finals
  X = N.tree

  abbrev A : AtNode S h k first space
  A = N.place

  abbrev up : 0 < h
  up = N.up

  branching_node : k < nodes S
  branching_node = Places.branching_node S h k first space A up

  pub challenges_inside : 3 * k + 3 ≤ length E
  challenges_inside = omega (arith, branching_node, X.challenges.long)

  -- where the node's vector starts, and how many elements a child's has
  abbrev half : ℕ
  half = space / 2

  abbrev n : ℕ
  n = space / 2 / 2 / d

  space_four : space ≡ 4 * (2 ^ (h - 1) * d)
  space_four = omega (arith, A.space_is, Places.twice-cells S h up)

  is_n : n ≡ 2 ^ (h - 1)
  is_n = ap (λ x. x / d) quarter ∙ Nat.mul-div_cancel (2 ^ (h - 1)) (some X)
    where
      quarter : space / 2 / 2 ≡ 2 ^ (h - 1) * d
      quarter = omega (arith, space_four)

  is_half : half ≡ 2 * (n * d)
  is_half = omega (arith, space_four, ap (λ x. x * d) is_n)

  space_is : space ≡ 2 * half
  space_is = omega (arith, A.space_is)

  abbrev c : ℕ → ℕ
  c j = challenge E k j

  abbrev v : ℕ → List ℤ
  v j = vector S E finals (h - 1) (child k j)

  abbrev m : ℕ → List ℤ
  m j = mu d (c j) (c (other j)) (c (another j))

  unfoldable pub shared : ℕ → List ℤ
  shared zero = signed_zeros (2 * (n * d))
  shared (suc j) = with_share d n (c j) (m j) (v j) (shared j)

  shared_length : (j : ℕ) → length (shared j) ≡ 2 * (n * d)
  unfolding shared
  shared_length zero = signed-zeros-length (2 * (n * d))
  shared_length (suc j) = with_share-length d n (c j) (m j) (v j) (shared j)

  -- how large a child's numbers and a share's are
  abbrev β : ℕ
  β = height_bound S (h - 1)

  child_within : (j : ℕ) → j < 3 → (i : ℕ) → nat_abs (get_or (v j) i (pos 0)) ≤ β
  child_within j l i = vector-within X (h - 1) (child k j) (suc (L - h)) (omega (arith, A.height)) (child-depth (L - h) k j l A.at_depth) i

  -- how large the numbers of the node's vector are after the shares of its first j children: each share by its own weight
  unfoldable total : ℕ → ℕ
  total zero = 0
  total (suc j) = total j + weight d (signed (m j)) * β

  shared_small : (j : ℕ) → j ≤ 3 → (i : ℕ) → nat_abs (get_or (shared j) i (pos 0)) ≤ total j
  unfolding shared total
  shared_small zero l i = omega (arith, ap nat_abs (signed-zeros_at (2 * (n * d)) i))
  shared_small (suc j) l i = shared-within d n (some X) (c j) (m j) (v j) (shared j) (total j) β (child_within j l) (shared_small j (omega arith)) i

  all_fit : weight d (signed (m 0)) * β + weight d (signed (m 1)) * β + weight d (signed (m 2)) * β ≤ 2 ^ 62
  all_fit = shares-fit X (h - 1) k (L - h) (omega (arith, A.height)) A.at_depth

  room : d * d * 2 * β ≤ 2 ^ 62
  room = quotient_fits X (h - 1) (omega (arith, A.height))

  room_node : (j : ℕ) → j < 3 → total j + weight d (signed (m j)) * β ≤ 2 ^ 62
  unfolding total
  room_node zero l = omega (arith, all_fit)
  room_node (suc zero) l = omega (arith, all_fit)
  room_node (suc (suc zero)) l = omega (arith, all_fit)
  room_node (suc (suc (suc j))) l = absurd (omega arith)

  exponent_small : (j : ℕ) → j < 3 → c j < 2 * d
  unfolding challenge
  exponent_small j l = X.challenges.each (3 * k + j) (omega (arith, branching_node))

  other_small : (j : ℕ) → other j < 3
  other_small zero = omega arith
  other_small (suc j) = omega arith

  another_small : (j : ℕ) → another j < 3
  another_small zero = omega arith
  another_small (suc zero) = omega arith
  another_small (suc (suc j)) = omega arith

  apart : (j : ℕ) → j < 3 → (c j ≢ c (other j)) × (c j ≢ c (another j))
  apart zero l = let h = X.different k branching_node in (h.0, h.1)
  apart (suc zero) l = let h = X.different k branching_node in (λ e. h.0 (sym e), h.2)
  apart (suc (suc zero)) l = let h = X.different k branching_node in (λ e. h.1 (sym e), λ e. h.2 (sym e))
  apart (suc (suc (suc j))) l = absurd (omega arith)

  -- the share of child j may be added where its vector and the node's stand
  module _ (j : ℕ) (l : j < 3) (W : List ℤ) (long : length W ≡ 4 * (n * d))
      (is_child : take (n * d) (drop (n * d) W) ≡ v j) (is_node : drop (2 * (n * d)) W ≡ shared j) where
    behind : drop (n * d) (drop (n * d) W) ≡ shared j
    behind = drop-drop (n * d) (n * d) W ∙ ap (λ x. drop x W) (sym (Nat.two-mul (n * d))) ∙ is_node

    child_at : (i : ℕ) → i < n * d → get_or (drop (n * d) W) i (pos 0) ≡ get_or (v j) i (pos 0)
    child_at i h = sym (get_or-take (n * d) (drop (n * d) W) i (pos 0) h) ∙ ap (λ x. get_or x i (pos 0)) is_child

    node_at : (i : ℕ) → n * d ≤ i → get_or (drop (n * d) W) i (pos 0) ≡ get_or (shared j) (i - n * d) (pos 0)
    node_at i h =
        ap (λ x. get_or (drop (n * d) W) x (pos 0)) (omega arith)
        ∙ sym (get_or-drop (n * d) (drop (n * d) W) (i - n * d) (pos 0))
        ∙ ap (λ x. get_or x (i - n * d) (pos 0)) behind

    pub branching : Branching d n k j (other j) (another j) E W
    branching = record {
      children = (l, other_small j, another_small j);
      inside = challenges_inside;
      long = long;
      sharing = record {
        log = X.valid.log;
        log_most = X.valid.log_most;
        degree_is = X.valid.degree_is;
        some = some X;
        small = small X;
        exponent = exponent_small j l;
        others = (exponent_small (other j) (other_small j), exponent_small (another j) (another_small j));
        different = apart j l;
        long = length-drop (n * d) W ∙ omega arith;
        bound = β;
        bound_node = total j;
        within = λ i h. subst (λ z. nat_abs z ≤ β) (sym (child_at i h)) (child_within j l i);
        within_node = λ i h. subst (λ z. nat_abs z ≤ total j) (sym (node_at i h)) (shared_small j (omega arith) (i - n * d));
        room = room;
        room_node = room_node j l;
      };
    }

    pub branch_shared : branch_added d n k j (other j) (another j) E W ≡ shared (suc j)
    unfolding branch_added shared
    branch_shared = λ i. with_share d n (c j) (m j) (is_child i) (behind i)

  pub whole : shared 3 ≡ vector S E finals h k
  unfolding shared vector combined
  whole =
      three-shares d n (some X) (c 0) (c 1) (c 2) (m 0) (m 1) (m 2) (v 0) (v 1) (v 2) (2 * (n * d))
      ∙ ap (λ x. joined d x (c 0) (c 1) (c 2) (m 0) (m 1) (m 2) (v 0) (v 1) (v 2)) is_n
      ∙ ap (λ x. vector S E finals x k) (let up_one : suc (h - 1) ≡ h = omega arith in up_one)

  -- ---- the list that a node works on: first zeros, then share by share

  abbrev pub Stage : ℕ → List ℤ → Type 0
  Stage j W = Staged half space (shared j) W

  pub lent_length : (W : List ℤ) → length W ≡ space → length (take half W) ≡ half
  lent_length W e = length-take-le half W (omega (arith, space_is))

  pub stage_zero : (ws : List ℤ) {q : List ℤ} → length ws ≡ space → q ≡ signed_zeros (length (take (length ws - half) (drop half ws))) → Stage 0 (put_mid half (length ws - half) ws q)
  unfolding shared
  stage_zero ws {q} e is-q = record {
    long = ap length (put-end half ws q) ∙ length-append (take half ws) q ∙ omega (arith, lent_length ws e, ap length is-q ∙ signed-zeros-length _, tail-length half ws, space_is);
    rest =
        ap (λ x. drop x (put_mid half (length ws - half) ws q)) (sym (Nat.add-zero half))
        ∙ drop-put-end half 0 ws q (omega (arith, space_is))
        ∙ is-q
        ∙ ap signed_zeros (tail-length half ws ∙ omega (arith, space_is, is_half));
  }

  -- where child j works
  pub child_place : (j : ℕ) {x : ℕ} {W : List ℤ} → j < 3 → x ≡ child k j → Stage j W → AtNode S (h - 1) x first (length (take half W))
  child_place j {x} {W} l is st = Places.at-child S h k first space A up j x (length (take half W)) l is (lent_length W st.long)

  pub lent : (j : ℕ) {W : List ℤ} → Stage j W → half ≡ length (take half W)
  lent j {W} st = sym (lent_length W st.long)

  module _ (j : ℕ) (l : j < 3) {x : ℕ} {W : List ℤ} (last : List ℤ) (st : Stage j W) (is : x ≡ child k j) (kept : length last ≡ length (take half W))
      (is_last : drop (2 ^ (h - 1) * d) last ≡ vector S E finals (h - 1) x) where
    last_length : length last ≡ n * d + n * d
    last_length = kept ∙ lent_length W st.long ∙ is_half ∙ Nat.two-mul (n * d)

    W-length : length (last ++ drop half W) ≡ 4 * (n * d)
    W-length = length-append last (drop half W) ∙ omega (arith, last_length, length-drop half W, st.long, space_is, is_half)

    is_child : take (n * d) (drop (n * d) (last ++ drop half W)) ≡ v j
    is_child =
        ap (take (n * d)) (drop-append-le (n * d) last (drop half W) (omega (arith, last_length)))
        ∙ take_at (drop (n * d) last) (drop half W) (n * d) (length-drop (n * d) last ∙ omega (arith, last_length))
        ∙ ap (λ y. drop (y * d) last) is_n
        ∙ is_last
        ∙ ap (vector S E finals (h - 1)) is

    is_node : drop (2 * (n * d)) (last ++ drop half W) ≡ shared j
    is_node = drop_at last (drop half W) (2 * (n * d)) (last_length ∙ sym (Nat.two-mul (n * d))) ∙ st.rest

    pub stage_branching : Branching d n k j (other j) (another j) E (last ++ drop half W)
    stage_branching = branching j l (last ++ drop half W) W-length is_child is_node

    pub stage_next : {U : List ℤ} → drop (2 * (n * d)) U ≡ branch_added d n k j (other j) (another j) E (last ++ drop half W)
        → length U ≡ length (last ++ drop half W) → Stage (suc j) U
    stage_next {U} e same = record {
      long = same ∙ W-length ∙ omega (arith, space_is, is_half);
      rest = ap (λ y. drop y U) is_half ∙ e ∙ branch_shared j l (last ++ drop half W) W-length is_child is_node;
    }

  pub stage_whole : {W : List ℤ} → Stage 3 W → drop (2 ^ h * d) W ≡ vector S E finals h k
  stage_whole {W} st = ap (λ y. drop y W) all ∙ st.rest ∙ whole
    where
      all : 2 ^ h * d ≡ half
      all = omega (arith, A.space_is, space_is)
