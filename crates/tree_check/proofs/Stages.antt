-- A node's children one after the other: the check stops at the first that fails.
--   remaining j     what is still to be tested after the first j children
--   Stage j W       they were accepted, and the workspace W still has the node's key
use mathlib.Core.Path.{◌≡◌, refl, sym, ap, ◌∙◌}
use mathlib.Core.Bool.{Bool, true, false, ◌&&◌}
use mathlib.Core.List.{List}
use Prim.Native.Nat.{ℕ, zero, suc, ◌*◌, ◌-◌, ◌^◌, ◌<◌}
use native.Mathlib.Omega.{arith}
use lib.IntN.{ℤ}
use lib.ListN.{length, drop}
use Rattle.protocol.specs.declared.Settings.{Settings}
use Rattle.protocol.proofs.Refusals.{and_fails_left}
use Rattle.protocol.specs.TreeCheck.{node_holds, tree_accepted}
use Rattle.protocol.proofs.Places.{AtNode}
use Rattle.tree_check.specs.Nodes.{child_accepted}
use Rattle.tree_check.proofs.Descent.{node-tests}

module _ (S : Settings) (rounds E : List ℕ) (finals : List ℤ) (h k first : ℕ) (claim ws : List ℕ) where
  abbrev cells : ℕ
  cells = 2 ^ h * S.degree

  abbrev accepts : List ℕ → ℕ → Bool
  accepts W j = child_accepted S rounds E finals h k (drop cells W) j

  abbrev whole : Bool
  whole = tree_accepted S rounds E finals h k (S.depth - h) claim (drop cells ws)

  unfoldable pub remaining : ℕ → Bool
  remaining zero = accepts ws 0 && (accepts ws 1 && accepts ws 2)
  remaining (suc zero) = accepts ws 1 && accepts ws 2
  remaining (suc (suc j)) = accepts ws 2

  pub record Stage (j : ℕ) (W : List ℕ) : Type 0 where
    pub long : length W ≡ length ws
    pub key : drop cells W ≡ drop cells ws
    pub rest : whole ≡ remaining j

  split : (j : ℕ) → j < 2 → remaining j ≡ (accepts ws j && remaining (suc j))
  unfolding remaining
  split zero l = refl
  split (suc zero) l = refl
  split (suc (suc j)) l = absurd (omega arith)

  module _ (A : AtNode S h k first (length ws)) (up : 0 < h) where
    tests : whole ≡ (node_holds S rounds k claim && remaining 0)
    unfolding remaining
    tests = node-tests S rounds E finals h k first (length ws) A up claim (drop cells ws)

    pub node_stops : node_holds S rounds k claim ≡ false → false ≡ whole
    node_stops e = sym (tests ∙ and_fails_left _ _ e)

    pub stage_first : node_holds S rounds k claim ≡ true → Stage 0 ws
    stage_first e = record { long = refl; key = refl; rest = tests ∙ ap (λ b. b && remaining 0) e }

  -- the test of child j, and what it leaves of the workspace
  module _ (j : ℕ) {W : List ℕ} (st : Stage j W) {r : Bool} (is : r ≡ accepts W j) where
    own : r ≡ accepts ws j
    own = is ∙ ap (λ key. child_accepted S rounds E finals h k key j) st.key

    pub stage_stops : j < 2 → r ≡ false → false ≡ whole
    stage_stops l e = sym (st.rest ∙ split j l ∙ and_fails_left _ _ (sym own ∙ e))

    pub stage_next : j < 2 → r ≡ true → (U : List ℕ) → drop cells U ≡ drop cells W → length U ≡ length W → Stage (suc j) U
    stage_next l e U kept same = record { long = same ∙ st.long; key = kept ∙ st.key; rest = st.rest ∙ split j l ∙ ap (λ b. b && remaining (suc j)) (sym own ∙ e) }

  pub stage_last : {W : List ℕ} → Stage 2 W → {r : Bool} → r ≡ accepts W 2 → r ≡ whole
  unfolding remaining
  stage_last st is = own 2 st is ∙ sym st.rest
