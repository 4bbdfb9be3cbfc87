-- What an honest prover answers in a whole tree.
--
--   way_to E h k                  the challenges that lead from the root to node k, h being at least its depth
--   answer_at S E G M k j         c_j at node k as an honest prover gives it: both tables folded by the challenges that lead there
--   honest_rounds, honest_finals  the round elements of the whole tree in one row, and the final elements, flat
--   honest_table S E G M          the round elements of all rows
use Rattle.std.specs.Prelude.{List, [], ◌∷◌, ◌++◌, ℕ, zero, suc, ◌/◌, ◌%◌, length, get_or, ℤ}
use Rattle.protocol.specs.declared.Settings.{Settings}
use Rattle.protocol.specs.Layout.{tree_challenges}
use Rattle.protocol.specs.Basic.{flat}
use Rattle.protocol.specs.Element.{signed}
use Rattle.protocol.specs.Opening.{round_element, message_after, key_after}
use Rattle.protocol.specs.Rows.{key_row, interleaved}
use Rattle.protocol.specs.Tree.{parent, challenge_to, leaves, fold_to}

-- from the root on: those that lead to the node above, and the one that leads from there to node k
unfoldable pub way_to : List ℕ → ℕ → ℕ → List ℕ
way_to E zero k = []
way_to E (suc h) zero = []
way_to E (suc h) (suc k) = way_to E h (parent (suc k)) ++ (challenge_to E (suc k) ∷ [])

module _ (S : Settings) (E G : List ℕ) (M : List ℤ) where
  unfoldable pub answer_at : ℕ → ℕ → List ℕ
  answer_at k j =
      let way = way_to E S.depth k in
      round_element S (length way) (key_after S way (length way) G) (message_after S way (length way) M) j

  unfoldable pub honest_rounds : List ℕ
  honest_rounds = flat S.degree (tree_challenges S) (λ i k. get_or (answer_at (i / 3) (i % 3)) k 0)

unfoldable pub honest_table : Settings → List ℕ → List ℕ → List ℤ → List ℕ
honest_table S E G M = interleaved S (tree_challenges S) (λ r. honest_rounds S E (key_row S G r) M)

-- leaf j is what L folds of M by its path's challenges give
unfoldable pub honest_finals : Settings → List ℕ → List ℤ → List ℤ
honest_finals S E M = flat S.degree (leaves S) (λ j k. signed (fold_to S E j M) k)
