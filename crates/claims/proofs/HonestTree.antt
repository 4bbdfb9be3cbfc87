-- The tree that honest answers give is full: in every row the path to a leaf is the transcript of the message by the path's challenges, and that is accepted.
use mathlib.Core.Path.{◌≡◌, refl, sym, ap, ap₂, ◌∙◌, subst}
use mathlib.Core.Logic.{◌≢◌}
use mathlib.Core.List.{List, [], ◌∷◌, ◌++◌}
use Prim.Native.Nat.{ℕ, zero, suc, ◌+◌, ◌*◌, ◌-◌, ◌/◌, ◌%◌, ◌<◌, ◌≤◌}
use native.Mathlib.Nat as Nat
use native.Mathlib.Omega.{arith}
use lib.ListN.{length, get_or, take, length-take}
use lib.Seq.{take-suc, get_or-take}
use lib.IntN.{ℤ, pos}
use Rattle.protocol.specs.declared.Settings.{Settings}
use Rattle.protocol.specs.Basic.{tabulate, flat}
use Rattle.protocol.specs.Element.{signed, signed_at, coefficients, value_row}
use Rattle.protocol.specs.Layout.{key_cells, tree_challenges, tree_round_cells}
use Rattle.protocol.specs.Settings.{cells}
use Rattle.protocol.specs.Inputs.{Valid, Below, Within}
use Rattle.protocol.specs.Opening.{commitment, round_element, round_table, message_after, key_after}
use Rattle.protocol.specs.Transcript.{Accepted}
use Rattle.protocol.specs.Rows.{key_row, row_items, at_rows}
use Rattle.protocol.specs.Tree.{parent, challenge, challenge_to, nodes, leaves, on_path, path_challenges, path_rounds, leaf, path, row_path, fold_to}
use Rattle.one_claim.specs.Demand3.{Held, Heard, State, Step, Gap, Run, step, begun, moves}
use Rattle.one_claim.specs.Performed.{Refusals, Performs, Performance}
use Rattle.protocol.specs.HonestTree.{way_to, answer_at, honest_rounds, honest_table, honest_finals}
use Rattle.one_claim.specs.NeverVacuous.{ThreeEach, HonestTree, NeverVacuous}
use Rattle.protocol.proofs.Reading.{tabulate_length, tabulate_at, tabulate_ext, tabulate_own, flat-length, flat_at, flat_ext}
use Rattle.protocol.proofs.OpeningLaws.{key-challenges, message-challenges}
use Rattle.protocol.proofs.Inputs.{degree_most}
use Rattle.protocol.proofs.Ranges.{below-everywhere, round-below, last_length, last_at}
use Rattle.protocol.proofs.Rows.{interleaved_row, at_rows_at}
use Rattle.protocol.proofs.Numbering.{before}
use Rattle.protocol.proofs.Paths.{path-root, path_parent, path-depth, depth-branching}
use Rattle.claims.proofs.Claims.{sent}
use Rattle.claims.proofs.Completeness.{complete-beyond}
use Rattle.claims.proofs.RowLaws.{interleaved-below}
use Rattle.claims.proofs.Honest.{degree-positive, modulus-positive}

-- ---- the way to a node

way-root : (E : List ℕ) (h : ℕ) → way_to E h 0 ≡ []
unfolding way_to
way-root E zero = refl
way-root E (suc h) = refl

way_more : (E : List ℕ) (h k : ℕ) → 0 < k → way_to E (suc h) k ≡ way_to E h (parent k) ++ (challenge_to E k ∷ [])
unfolding way_to
way_more E h zero l = absurd (omega arith)
way_more E h (suc k) l = refl

module _ (S : Settings) (E : List ℕ) (j : ℕ) (lj : j < leaves S) where
  open S use {degree as d, depth as L}

  abbrev way : List ℕ
  way = path_challenges S E j

  way-length : length way ≡ L
  unfolding path_challenges
  way-length = tabulate_length L _

  way_at : (t : ℕ) → t < L → get_or way t 0 ≡ challenge_to E (on_path S j (suc t))
  unfolding path_challenges
  way_at t lt = tabulate_at L _ 0 t lt

  deep : (t : ℕ) → t < L → 0 < on_path S j (suc t)
  unfolding before
  deep t lt = omega (arith, (path-depth S j lj (suc t) (L - suc t) (omega arith)).from)

  -- a path meets its first challenges on the way to its nodes
  way-path : (t h : ℕ) → t ≤ h → t ≤ L → way_to E h (on_path S j t) ≡ take t way
  way-path zero h lh lt = ap (way_to E h) (path-root S j lj) ∙ way-root E h
  way-path (suc t) zero lh lt = absurd (omega arith)
  way-path (suc t) (suc h) lh lt =
      way_more E h (on_path S j (suc t)) (deep t lt)
      ∙ ap₂ (λ l e. l ++ (e ∷ [])) (ap (way_to E h) (path_parent S j t lt) ∙ way-path t h (omega arith) (omega arith)) (sym (way_at t lt))
      ∙ sym (take-suc way t 0 (omega (arith, way-length)))

  module _ (G : List ℕ) (M : List ℤ) where
    -- the answer at a node is that of the round in which the path meets it
    answer-path : (t i : ℕ) → t < L → answer_at S E G M (on_path S j t) i ≡ round_element S t (key_after S way t G) (message_after S way t M) i
    unfolding answer_at
    answer-path t i lt =
        ap (λ w. round_element S (length w) (key_after S w (length w) G) (message_after S w (length w) M) i) (way-path t L (omega arith) (omega arith))
        ∙ ap (λ n. round_element S n (key_after S (take t way) n G) (message_after S (take t way) n M) i) short
        ∙ ap₂ (λ K N. round_element S t K N i) (key-challenges S (take t way) way G t same) (message-challenges S (take t way) way M t same)
      where
        short : length (take t way) ≡ t
        short = simp (length-take, way-length) (omega arith)

        same : (u : ℕ) → u < t → get_or (take t way) u 0 ≡ get_or way u 0
        same u lu = rw get_or-take

    branching : (t : ℕ) → t < L → on_path S j t < nodes S
    branching t lt = depth-branching S t (L - suc t) _ (omega arith) (path-depth S j lj t (L - t) (omega arith))

    path-rounds : 0 < d → path_rounds S (honest_rounds S E G M) j ≡ round_table S way G M
    unfolding path_rounds honest_rounds round_table
    path-rounds p = flat_ext d (3 * L) p (λ i k li lk. at i k (i / 3) (i % 3) (omega arith) (omega arith) lk)
      where
        at : (i k t x : ℕ) → t < L → x < 3 → k < d
            → get_or (flat d (3 * nodes S) (λ i k. get_or (answer_at S E G M (i / 3) (i % 3)) k 0)) ((3 * on_path S j t + x) * d + k) 0
            ≡ get_or (round_element S t (key_after S way t G) (message_after S way t M) x) k 0
        at i k t x lt lx lk =
            flat_at d (3 * nodes S) _ 0 (3 * on_path S j t + x) k (omega (arith, branching t lt)) lk
            ∙ (λ z. get_or (answer_at S E G M (node z) (which z)) k 0)
            ∙ ap (λ l. get_or l k 0) (answer-path t x lt)
          where
            node : (3 * on_path S j t + x) / 3 ≡ on_path S j t
            node = omega arith

            which : (3 * on_path S j t + x) % 3 ≡ x
            which = omega arith

    leaf-fold : leaf S (honest_finals S E M) j ≡ fold_to S E j M
    unfolding leaf coefficients signed_at honest_finals signed fold_to
    leaf-fold = tabulate_ext d (λ k lk. flat_at d (leaves S) _ (pos 0) j k lj lk) ∙ tabulate_own d _ (pos 0) (last_length S (message_after S way L M))

    path-honest : 0 < d → (C : List ℕ) → path S C (honest_rounds S E G M) E (honest_finals S E M) j ≡ sent S G M way C (fold_to S E j M)
    unfolding path
    path-honest p C = λ z. record { commitment = C; rounds = path-rounds p z; challenges = way; last = leaf-fold z }

-- ---- the tree

rounds-honest : (S : Settings) → 0 < S.modulus → (E G : List ℕ) (M : List ℤ) → Below S.modulus (tree_challenges S * S.degree) (honest_rounds S E G M)
unfolding honest_rounds flat answer_at
rounds-honest S pq E G M = record {
  long = tabulate_length _ _;
  each = λ i l. subst (λ x. x < S.modulus) (sym (tabulate_at _ _ 0 i l)) (below-everywhere S.modulus S.degree _ pq (round-below S pq _ _ _ _) (i % S.degree));
}

module _ (S : Settings) (G : List ℕ) (M : List ℤ) (E : List ℕ) (ok : Valid S) (small : Within S.bound (cells S) M) where
  open S use {degree as d, modulus as q}

  p : 0 < d
  p = degree-positive S ok

  pq : 0 < q
  pq = modulus-positive S ok

  table_below : Below q (tree_round_cells S) (honest_table S E G M)
  unfolding honest_table
  table_below = interleaved-below S (tree_challenges S) _ ok.rows_least p (λ r h. rounds-honest S pq E (key_row S G r) M)

  -- by value
  abbrev C : List ℕ
  C = at_rows S (λ r. commitment S (key_row S G r) M)

  table_row : (r : ℕ) → r < S.rows → row_items S (tree_challenges S) (honest_table S E G M) r ≡ honest_rounds S E (key_row S G r) M
  unfolding honest_table
  table_row r h = interleaved_row S (tree_challenges S) (λ r. honest_rounds S E (key_row S G r) M) r p h (rounds-honest S pq E (key_row S G r) M).long

  path-accepted : (r : ℕ) → r < S.rows → (j : ℕ) → j < leaves S → Accepted S (key_row S G r) (row_path S C (honest_table S E G M) E (honest_finals S E M) r j)
  unfolding row_path
  path-accepted r h j l = subst (Accepted S (key_row S G r))
      (sym (ap (λ t. path S (value_row C r) t E (honest_finals S E M) j) (table_row r h) ∙ path-honest S E j l (key_row S G r) M p (value_row C r)))
      (complete-beyond S p pq (key_row S G r) M (path_challenges S E j) (value_row C r) (fold_to S E j M)
      (λ k lk. at_rows_at S (λ r. commitment S (key_row S G r) M) r k ok.rows_most_holds (degree_most S ok) h lk)
      (unfold fold_to in last_at S (message_after S (path_challenges S E j) S.depth M))
      ok.modulus_odd small.each)

pub honest_tree : (S : Settings) (G : List ℕ) (M : List ℤ) (E : List ℕ) → Valid S → Below S.modulus (key_cells S) G → Within S.bound (cells S) M → ThreeEach S E → HonestTree S G M E
honest_tree S G M E ok key message three = record {
  full = record {
    rounds_below = table_below S G M E ok message;
    challenges_below = three.below;
    finals_long = unfold honest_finals in flat-length S.degree (leaves S) _;
    different = three.different;
    accepted = path-accepted S G M E ok message;
  };
  folds = record { long = message.long; each = λ j l. sym (leaf-fold S E j l G M) };
}

-- ---- never vacuous

-- the steps with no refused call between
bare-run : (S : Settings) (E : List ℕ) (steps : List Step) (a : State) → (st : State) × Run S E steps a st
bare-run S E [] a = (_, Run.stop Gap.none)
bare-run S E (s ∷ rest) a = let (st, run) = bare-run S E rest (step S E s a.held a.heard) in (st, Run.go Gap.none run)

-- every function may answer what its definition says
some-step : (S : Settings) (E : List ℕ) (s : Step) (h : Held) (a : Heard) → Performs S E s h a (step S E s h a)
unfolding step
some-step S E Step.commits h a = Performs.commits _ refl
some-step S E Step.starts h a = Performs.starts _ refl
some-step S E Step.proves h a = Performs.proves _ refl
some-step S E Step.checks h a = Performs.checks _ refl
some-step S E Step.folds h a = Performs.folds _ _ _ (record { refusal = refl; key_exit = refl; message_exit = refl })
some-step S E Step.ends h a = Performs.ends _ refl
some-step S E Step.closes h a = Performs.closes _ refl

bare_performance : (S : Settings) (E : List ℕ) (steps : List Step) (a : State) → (st : State) × Performance S E steps a st
bare_performance S E [] a = (_, Performance.stop Refusals.none)
bare_performance S E (s ∷ rest) a =
    let (st, more) = bare_performance S E rest (step S E s a.held a.heard) in
    (st, Performance.go Refusals.none (some-step S E s a.held a.heard) more)

-- the exponents 0, 1, 2 at every node
module _ (S : Settings) where
  abbrev counted : List ℕ
  counted = tabulate (3 * nodes S) (λ i. i % 3)

  counted_at : (k j : ℕ) → k < nodes S → j < 3 → challenge counted k j ≡ j
  unfolding challenge
  counted_at k j lk lj = tabulate_at (3 * nodes S) (λ i. i % 3) 0 (3 * k + j) (omega arith) ∙ omega arith

  degree_least : Valid S → 2 ≤ S.degree
  degree_least ok = subst (λ d. 2 ≤ d) (sym ok.degree_is) (Nat.pow-le-pow_right {n = 2} (omega arith) ok.log_least)

  apart_at : (k i j : ℕ) → k < nodes S → i < 3 → j < 3 → i ≢ j → challenge counted k i ≢ challenge counted k j
  apart_at k i j lk li lj ne e = ne (sym (counted_at k i lk li) ∙ e ∙ counted_at k j lk lj)

  three_each : Valid S → ThreeEach S counted
  three_each ok = record {
    below = record { long = tabulate_length (3 * nodes S) _; each = λ i l. subst (λ x. x < 2 * S.degree) (sym (tabulate_at (3 * nodes S) (λ i. i % 3) 0 i l)) (omega (arith, degree_least ok)) };
    different = λ k l. (
      apart_at k 0 1 l (omega arith) (omega arith) (λ e. omega arith),
      apart_at k 0 2 l (omega arith) (omega arith) (λ e. omega arith),
      apart_at k 1 2 l (omega arith) (omega arith) (λ e. omega arith),
    );
  }

pub never-vacuous : NeverVacuous
never-vacuous = record {
  some_run = λ S G M E r. bare-run S E (moves S.depth) (begun M G r);
  some_performance = λ S G M E r. bare_performance S E (moves S.depth) (begun M G r);
  honest_tree = honest_tree;
  some_challenges = λ S ok. (counted S, three_each S ok);
}
