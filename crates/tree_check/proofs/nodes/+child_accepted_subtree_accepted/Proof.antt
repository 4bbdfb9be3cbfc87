-- A node tests its round and then child by child; a child folds the node's key, works out its claim and tests what is below it.
-- The measure is twice the height, and one more at a node.
use mathlib.Core.Path.{◌≡◌, sym, ap, ◌∙◌, subst}
use mathlib.Core.List.{List}
use Prim.Native.Nat.{ℕ, ◌+◌, ◌*◌, ◌-◌, ◌/◌, ◌^◌, ◌<◌, ◌≤◌}
use native.Mathlib.Omega.{arith}
use lib.ListN.{length, take, drop}
use lib.Seq.{length-take-le, length_front}
use borrow.Author.Rules.{rules}
use borrow.Author.Tests.{not-true, not-false}
use Rattle.protocol.specs.Settings.{settings_refusal}
use Rattle.protocol.specs.Tree.{child, challenge}
use Rattle.protocol.proofs.Inputs.{settings-valid}
use Rattle.sizes.proofs.Limits.{degree_most}
use Rattle.folds.specs.Folds.{fold_down}
use Rattle.protocol.proofs.Places as Places
use Rattle.protocol.proofs.Places.{AtNode}
use Rattle.tree_check.specs.Nodes.{Round, Reduced, Read, tree_row}
use Rattle.tree_check.proofs.Checks as Checks
use Rattle.tree_check.proofs.Descent as Descent
use Rattle.tree_check.proofs.Stages as Stages
use borrow.Fn.Kinds.{In}
use borrow.Fn.PlainCycle.{Measures, is, falls, and}
use Rattle.tree_check.proofs.nodes.child_accepted.Reads as child-accepted
use Rattle.tree_check.proofs.nodes.child_accepted.Kinds as child-accepted-kinds
use Rattle.tree_check.proofs.nodes.+child_accepted_subtree_accepted.Lts-child_accepted as child-accepted-lts
use Rattle.tree_check.proofs.nodes.subtree_accepted.Reads as subtree-accepted
use Rattle.tree_check.proofs.nodes.subtree_accepted.Kinds as subtree-accepted-kinds
use Rattle.tree_check.proofs.nodes.+child_accepted_subtree_accepted.Lts-subtree_accepted as subtree-accepted-lts
use Rattle.tree_check.proofs.nodes.challenge.Reads as challenge-reads
use Rattle.tree_check.proofs.nodes.claim_to.Reads as claim-to-reads
use Rattle.tree_check.proofs.nodes.fold_key.Reads as fold-key-reads
use Rattle.tree_check.proofs.nodes.leaf_accepted.Reads as leaf-accepted-reads
use Rattle.tree_check.proofs.nodes.node_holds.Reads as node-holds-reads
use Rattle.tree_check.proofs.nodes.+child_accepted_subtree_accepted.{statement}
use Rattle.tree_check.proofs.nodes.+child_accepted_subtree_accepted.Tie.{close}

abbrev μ-child-accepted : Measures 4 child-accepted-kinds.ps ℕ
μ-child-accepted κs a = a.1.0 + a.1.0

abbrev μ-subtree-accepted : Measures 5 subtree-accepted-kinds.ps ℕ
μ-subtree-accepted κs a = a.1.0 + a.1.0 + 1

abbrev child-accepted-at : ℕ → In 4 child-accepted-kinds.ps
child-accepted-at t =
    and
    4
    child-accepted-kinds.ps
    (is 4 child-accepted-kinds.ps μ-child-accepted t)
    child-accepted.Pre

abbrev child-accepted-below : ℕ → In 4 child-accepted-kinds.ps
child-accepted-below t =
    and
    4
    child-accepted-kinds.ps
    (falls 4 child-accepted-kinds.ps ◌<◌ μ-child-accepted t)
    child-accepted.Pre

abbrev subtree-accepted-at : ℕ → In 5 subtree-accepted-kinds.ps
subtree-accepted-at t =
    and
    5
    subtree-accepted-kinds.ps
    (is 5 subtree-accepted-kinds.ps μ-subtree-accepted t)
    subtree-accepted.Pre

abbrev subtree-accepted-below : ℕ → In 5 subtree-accepted-kinds.ps
subtree-accepted-below t =
    and
    5
    subtree-accepted-kinds.ps
    (falls 5 subtree-accepted-kinds.ps ◌<◌ μ-subtree-accepted t)
    subtree-accepted.Pre

-- what is known of the functions that are called
abbrev child-calls : ℕ → child-accepted-lts.Claims
child-calls t = (
  claim-to-reads.Asked,
  claim-to-reads.Learnt,
  challenge-reads.Asked,
  challenge-reads.Learnt,
  fold-key-reads.Asked,
  fold-key-reads.Learnt,
  subtree-accepted-below t,
  subtree-accepted.Post,
)

abbrev subtree-calls : ℕ → subtree-accepted-lts.Claims
subtree-calls t = (leaf-accepted-reads.Asked, leaf-accepted-reads.Learnt, node-holds-reads.Asked, node-holds-reads.Learnt, child-accepted-below t, child-accepted.Post)

-- ---- a child's facts, from its entry on

module _ (t : ℕ) (g : child-accepted-lts.Start (child-calls t) (child-accepted-at t) child-accepted.Post) where
  abbrev space : ℕ
  space = length g.args.ws.now

  allowed : settings_refusal g.args.settings ≡ 0
  allowed = g.requires.1.0.0.allowed

  higher : 0 < g.args.h
  higher = g.requires.1.0.1

  place : AtNode g.args.settings g.args.h g.args.k g.args.first space
  place = g.requires.1.1

  round : Round g.args.settings g.args.k (length g.args.rounds.now)
  round = Checks.round-inside g.args.settings g.args.h g.args.k g.args.first space _ _ place g.requires.1.0.0 higher

  few : g.args.k ≤ 3280
  few = round.index

  half_is : (U : List ℕ) → length U ≡ space → length U / 2 ≡ 2 ^ g.args.h * g.args.settings.degree
  half_is U e = ap (λ n. n / 2) e ∙ Places.half_is g.args.settings g.args.h g.args.k g.args.first space place

  lent : (U : List ℕ) → length (take (length U / 2) U) ≡ length U / 2
  lent U = length-take-le (length U / 2) U (omega arith)

  below : (U : List ℕ) → length U ≡ space → AtNode g.args.settings (g.args.h - 1) (3 * g.args.k + 1 + g.args.j) g.args.first (length (take (length U / 2) U))
  unfolding child
  below U e = Places.at-child g.args.settings g.args.h g.args.k g.args.first space place higher g.args.j (child g.args.k g.args.j) _
      g.requires.1.0.2 (λ _. child g.args.k g.args.j) (lent U ∙ ap (λ n. n / 2) e)

-- the workspace after the fold
abbrev after : (t : ℕ) → child-accepted-lts.After-slice_known-2-1 (child-calls t) (child-accepted-at t) child-accepted.Post → List ℕ
after t c = c.fold_key.new.ws

folded-is : (t : ℕ) (c : child-accepted-lts.After-slice_known-2-1 (child-calls t) (child-accepted-at t) child-accepted.Post) →
    let a = c.args in
    Reduced a.settings (drop (2 ^ a.h * a.settings.degree) a.ws.now)
    → after t c
    ≡ fold_down a.settings.modulus a.settings.degree (2 ^ (a.h - 1)) (challenge a.challenges.now a.k a.j) (2 ^ a.h * a.settings.degree)
    (2 ^ (a.h - 1) * a.settings.degree) a.ws.now
folded-is t c below =
    let a = c.args in
    c.fold_key.ensures below
    ∙ ap (λ e. fold_down a.settings.modulus a.settings.degree (2 ^ (a.h - 1)) e (2 ^ a.h * a.settings.degree) (2 ^ (a.h - 1) * a.settings.degree)
    a.ws.now) c.challenge.ensures

folded-long : (t : ℕ) (c : child-accepted-lts.After-slice_known-2-1 (child-calls t) (child-accepted-at t) child-accepted.Post) →
    length (after t c) ≡ length c.args.ws.now
folded-long t c = c.fold_key.auto.ws

claim-room : (t : ℕ) (c : child-accepted-lts.After-slice_known-2-1 (child-calls t) (child-accepted-at t) child-accepted.Post) →
    c.args.settings.degree ≤ length
    c.claim_to.new.claim
claim-room t c =
    omega (arith, c.claim_to.auto.claim, degree_most c.args.settings (settings-valid c.args.settings (allowed t c.before.before.before.before.before.before.before.before.before.before.before)))

child-accepted-slice-aggregate-claim-to : (t : ℕ) → child-accepted-lts.Need-slice_bounds-claim_to-end (child-calls t) (child-accepted-at t) child-accepted.Post
child-accepted-slice-aggregate-claim-to t c = search rules

child-accepted-claim-to-requires : (t : ℕ) → child-accepted-lts.Need-claim_to-requires (child-calls t) (child-accepted-at t) child-accepted.Post
child-accepted-claim-to-requires t c κs = let g = c.before.before.before.before in
    (round t g, omega (arith, c.requires.1.0.2), omega (arith, degree_most c.args.settings (settings-valid c.args.settings (allowed t g))))

child-accepted-challenge-requires : (t : ℕ) → child-accepted-lts.Need-challenge-requires (child-calls t) (child-accepted-at t) child-accepted.Post
child-accepted-challenge-requires t c κs = (few t c.before.before.before.before.before.before, omega (arith, c.requires.1.0.2))

child-accepted-fold-key-requires : (t : ℕ) → child-accepted-lts.Need-fold_key-requires (child-calls t) (child-accepted-at t) child-accepted.Post
child-accepted-fold-key-requires t c κs = let g = c.before.before.before.before.before.before.before.before in
    record { allowed = allowed t g; up = higher t g; height = (place t g).height; space_is = (place t g).space_is }

child-accepted-sub-subtree-accepted : (t : ℕ) → child-accepted-lts.Need-overflow_sub-h (child-calls t) (child-accepted-at t) child-accepted.Post
child-accepted-sub-subtree-accepted t c = higher t c.before.before.before.before.before.before.before.before.before.before.before

child-accepted-mul-subtree-accepted : (t : ℕ) → child-accepted-lts.Need-overflow_mul-k (child-calls t) (child-accepted-at t) child-accepted.Post
child-accepted-mul-subtree-accepted t c = record { fits = omega (arith, few t c.before.before.before.before.before.before.before.before.before.before.before) }

child-accepted-add-subtree-accepted : (t : ℕ) → child-accepted-lts.Need-overflow_add-k (child-calls t) (child-accepted-at t) child-accepted.Post
child-accepted-add-subtree-accepted t c = record { fits = omega (arith, few t c.before.before.before.before.before.before.before.before.before.before.before) }

child-accepted-add-subtree-accepted-2 : (t : ℕ) → child-accepted-lts.Need-overflow_add-k-2 (child-calls t) (child-accepted-at t) child-accepted.Post
child-accepted-add-subtree-accepted-2 t c =
    record {
      fits = omega (
        arith,
        few t c.before.before.before.before.before.before.before.before.before.before.before,
        c.requires.1.0.2,
      );
    }

child-accepted-slice-aggregate-subtree-accepted :
    (t : ℕ) → child-accepted-lts.Need-slice_bounds-subtree_accepted-end (child-calls t) (child-accepted-at t) child-accepted.Post
child-accepted-slice-aggregate-subtree-accepted t c = search rules

child-accepted-slice-relend-prefix-subtree-accepted :
    (t : ℕ) → child-accepted-lts.Need-slice_bounds-subtree_accepted-end-2 (child-calls t) (child-accepted-at t) child-accepted.Post
child-accepted-slice-relend-prefix-subtree-accepted t c = search rules

child-accepted-slice-aggregate-subtree-accepted-2 :
    (t : ℕ) → child-accepted-lts.Need-slice_bounds-subtree_accepted-end-3 (child-calls t) (child-accepted-at t) child-accepted.Post
child-accepted-slice-aggregate-subtree-accepted-2 t c =
    sym (lent t c.before.before.before.before.before.before.before.before.before.before.before.before.before (after t c.before.before))

child-accepted-subtree-accepted-requires :
    (t : ℕ) → child-accepted-lts.Need-subtree_accepted-requires (child-calls t) (child-accepted-at t) child-accepted.Post
child-accepted-subtree-accepted-requires t c κs =
    let g = c.before.before.before.before.before.before.before.before.before.before.before.before.before in
    let b = c.before.before in
    (omega (arith, higher t g), ((c.requires.1.0.0, claim-room t b), below t g (after t b) (folded-long t b)))

child-accepted-same-length : (t : ℕ) → child-accepted-lts.Need-shape_of-ws (child-calls t) (child-accepted-at t) child-accepted.Post
child-accepted-same-length t c = let U = after t c.before.before.before.before.before in
    length_front U c.subtree_accepted.new.ws (length U / 2)
    c.subtree_accepted.auto.ws ∙ folded-long t c.before.before.before.before.before

child-accepted-returns : (t : ℕ) → child-accepted-lts.Need-returns (child-calls t) (child-accepted-at t) child-accepted.Post
child-accepted-returns t c = λ read.
    let g = c in
    let a = g.args in
    let b = c.before.before.before.before.before in
    let U = after t b in
    let half = half_is t g.before.before.before.before.before.before.before.before.before.before.before.before.before.before.before.before U (folded-long t b) in
    let folded = folded-is t b read.key_below in
    let pq : 0 < a.settings.modulus = omega (arith, (settings-valid a.settings (allowed t g.before.before.before.before.before.before.before.before.before.before.before.before.before.before.before.before)).modulus_least) in
    let down = Descent.child-read a.settings (tree_row a.settings a.rounds.now) a.challenges.now a.leaves.now a.h a.k a.first (space t g.before.before.before.before.before.before.before.before.before.before.before.before.before.before.before.before) (place t g.before.before.before.before.before.before.before.before.before.before.before.before.before.before.before.before) (higher t g.before.before.before.before.before.before.before.before.before.before.before.before.before.before.before.before)
    a.j (length U / 2) a.ws.now U (λ _. space t g.before.before.before.before.before.before.before.before.before.before.before.before.before.before.before.before) half folded pq in
    let f = c.subtree_accepted in (
      f.ensures (record { rounds_below = read.rounds_below; key_below = down })
          ∙ Descent.child-tests a.settings (tree_row a.settings a.rounds.now) a.challenges.now a.leaves.now a.h a.k a.first (space t g.before.before.before.before.before.before.before.before.before.before.before.before.before.before.before.before) (place t g.before.before.before.before.before.before.before.before.before.before.before.before.before.before.before.before) (higher t g.before.before.before.before.before.before.before.before.before.before.before.before.before.before.before.before) a.j
          (length U / 2) a.ws.now U (λ _. space t g.before.before.before.before.before.before.before.before.before.before.before.before.before.before.before.before) half folded _ (c.claim_to.ensures read.rounds_below),
      Descent.key-kept a.settings (tree_row a.settings a.rounds.now) a.challenges.now a.leaves.now a.h a.k a.first (space t g.before.before.before.before.before.before.before.before.before.before.before.before.before.before.before.before) (place t g.before.before.before.before.before.before.before.before.before.before.before.before.before.before.before.before) (higher t g.before.before.before.before.before.before.before.before.before.before.before.before.before.before.before.before) a.j
          (length U / 2) a.ws.now U (λ _. space t g.before.before.before.before.before.before.before.before.before.before.before.before.before.before.before.before) half folded f.new.ws f.auto.ws (omega arith),
    )

-- ---- a node's facts

module _ (t : ℕ) (g : subtree-accepted-lts.Start (subtree-calls t) (subtree-accepted-at t) subtree-accepted.Post) where
  granted : settings_refusal g.args.settings ≡ 0
  granted = g.requires.1.0.0.allowed

  position : AtNode g.args.settings g.args.h g.args.k g.args.first (length g.args.ws.now)
  position = g.requires.1.1

  abbrev rounds-many : ℕ
  rounds-many = length g.args.rounds.now

  abbrev finals-many : ℕ
  finals-many = length g.args.leaves.now

  -- a leaf's key, and as much room again
  leaf-twice : g.args.h ≡ 0 → g.args.settings.degree + g.args.settings.degree ≤ length g.args.ws.now
  leaf-twice low = omega (arith, position.space_is, Places.leaf-cells g.args.settings g.args.h g.args.k g.args.first (length g.args.ws.now) position low)

  leaf_room : g.args.h ≡ 0 → g.args.settings.degree ≤ length g.args.ws.now
  leaf_room low = omega (arith, leaf-twice low)

  abbrev Reading : Type 0
  Reading = Read g.args.settings g.args.h g.args.rounds.now g.args.ws.now

  abbrev Stage : ℕ → List ℕ → Type 0
  Stage = Stages.Stage g.args.settings (tree_row g.args.settings g.args.rounds.now) g.args.challenges.now g.args.leaves.now g.args.h g.args.k g.args.first
      g.args.claim.now g.args.ws.now

  stays : {n : ℕ} → n ≡ length g.args.ws.now → AtNode g.args.settings g.args.h g.args.k g.args.first n
  stays long = subst (AtNode g.args.settings g.args.h g.args.k g.args.first) (sym long) position

  -- the key is the same at every stage
  again : {j : ℕ} {W : List ℕ} → Stage j W → Read g.args.settings g.args.h g.args.rounds.now g.args.ws.now → Read g.args.settings g.args.h g.args.rounds.now W
  again st read = record { rounds_below = read.rounds_below; key_below = subst (Reduced g.args.settings) (sym st.key) read.key_below }

module _ (t : ℕ) where
  upper : (c : subtree-accepted-lts.Else-h-eq0 (subtree-calls t) (subtree-accepted-at t) subtree-accepted.Post) → 0 < c.args.h
  upper c = omega arith

  stage-0 : (c : subtree-accepted-lts.Else-not-node_holds (subtree-calls t) (subtree-accepted-at t) subtree-accepted.Post) →
      Stage t c.before.before.before.before.before.before.before 0 c.args.ws.now
  stage-0 c =
      let a = c.args in
      Stages.stage_first a.settings (tree_row a.settings a.rounds.now) a.challenges.now a.leaves.now a.h a.k a.first a.claim.now a.ws.now (position t c.before.before.before.before.before.before.before)
      (upper c.before.before) (sym c.node_holds.ensures ∙ not-false _ c.if-not-node_holds.false-raw)

  long-1 : (c : subtree-accepted-lts.Else-not-child_accepted (subtree-calls t) (subtree-accepted-at t) subtree-accepted.Post) →
      length c.child_accepted.new.ws ≡ length
      c.args.ws.now
  long-1 c = c.child_accepted.auto.ws

  long-2 : (c : subtree-accepted-lts.Else-not-child_accepted-2 (subtree-calls t) (subtree-accepted-at t) subtree-accepted.Post) →
      length c.child_accepted-2.new.ws ≡ length
      c.args.ws.now
  long-2 c = c.child_accepted-2.auto.ws ∙ long-1 c.before.before.before.before.before

  stage-1 : (c : subtree-accepted-lts.Else-not-child_accepted (subtree-calls t) (subtree-accepted-at t) subtree-accepted.Post) →
      Reading t c.before.before.before.before.before.before.before.before.before.before.before.before →
      Stage t c.before.before.before.before.before.before.before.before.before.before.before.before 1 c.child_accepted.new.ws
  stage-1 c read =
      let a = c.args in
      let f = c.child_accepted in
      Stages.stage_next a.settings (tree_row a.settings a.rounds.now) a.challenges.now a.leaves.now a.h a.k a.first a.claim.now a.ws.now 0
      (stage-0 c.before.before.before.before.before) (f.ensures read).0 (omega arith) (not-false _ c.if-not-child_accepted.false-raw) _ (f.ensures read).1 f.auto.ws

  stage-2 : (c : subtree-accepted-lts.Else-not-child_accepted-2 (subtree-calls t) (subtree-accepted-at t) subtree-accepted.Post) →
      Reading t c.before.before.before.before.before.before.before.before.before.before.before.before.before.before.before.before.before →
      Stage t c.before.before.before.before.before.before.before.before.before.before.before.before.before.before.before.before.before 2
      c.child_accepted-2.new.ws
  stage-2 c read =
      let a = c.args in
      let f = c.child_accepted-2 in
      let one = stage-1 c.before.before.before.before.before read in
      let same = again t c.before.before.before.before.before.before.before.before.before.before.before.before.before.before.before.before.before one read in
      Stages.stage_next a.settings (tree_row a.settings a.rounds.now) a.challenges.now a.leaves.now a.h a.k a.first a.claim.now a.ws.now 1 one
      (f.ensures same).0 (omega arith) (not-false _ c.if-not-child_accepted-2.false-raw) _ (f.ensures same).1 f.auto.ws

subtree-accepted-cast-d : (t : ℕ) → subtree-accepted-lts.Need-overflow_cast-d (subtree-calls t) (subtree-accepted-at t) subtree-accepted.Post
subtree-accepted-cast-d t c = search rules

subtree-accepted-sub-leaf-accepted : (t : ℕ) → subtree-accepted-lts.Need-overflow_sub-k (subtree-calls t) (subtree-accepted-at t) subtree-accepted.Post
subtree-accepted-sub-leaf-accepted t c =
    Places.leaf-number c.args.settings c.args.h c.args.k c.args.first _ (position t c.before.before.before.before.before.before) (omega arith)

subtree-accepted-mul-leaf-accepted : (t : ℕ) → subtree-accepted-lts.Need-offset_bounds-ws-d (subtree-calls t) (subtree-accepted-at t) subtree-accepted.Post
subtree-accepted-mul-leaf-accepted t c = let S = c.args.settings in
    record { fits = omega (arith, degree_most S (settings-valid S (granted t c.before.before.before.before.before.before))) }

subtree-accepted-sub-leaf-accepted-2 : (t : ℕ) → subtree-accepted-lts.Need-slice_bounds-leaf_accepted-count (subtree-calls t) (subtree-accepted-at t) subtree-accepted.Post
subtree-accepted-sub-leaf-accepted-2 t c = leaf_room t c.before.before.before.before.before.before (omega arith)

subtree-accepted-part-leaf-accepted-start :
    (t : ℕ) → subtree-accepted-lts.Need-slice_bounds-leaf_accepted-start (subtree-calls t) (subtree-accepted-at t) subtree-accepted.Post
subtree-accepted-part-leaf-accepted-start t c = leaf_room t c.before.before.before.before.before.before (omega arith)

subtree-accepted-part-leaf-accepted-end :
    (t : ℕ) → subtree-accepted-lts.Need-slice_bounds-leaf_accepted-end (subtree-calls t) (subtree-accepted-at t) subtree-accepted.Post
subtree-accepted-part-leaf-accepted-end t c = search rules

subtree-accepted-leaf-accepted-requires :
    (t : ℕ) → subtree-accepted-lts.Need-leaf_accepted-requires (subtree-calls t) (subtree-accepted-at t) subtree-accepted.Post
subtree-accepted-leaf-accepted-requires t c κs =
    let g = c.before.before.before.before.before.before.before in
    let a = c.args in (
      granted t g,
      Checks.leaf-inside a.settings a.h a.k a.first _ (rounds-many t g) (finals-many t g) (position t g) c.requires.1.0.0 (omega arith),
      c.requires.1.0.1,
      Checks.part-long a.settings.degree a.settings.degree a.ws.now (leaf-twice t g (omega arith)),
    )

subtree-accepted-same-length : (t : ℕ) → subtree-accepted-lts.Need-shape_of-ws-then-h-eq0 (subtree-calls t) (subtree-accepted-at t) subtree-accepted.Post
subtree-accepted-same-length t c = search rules

subtree-accepted-returns : (t : ℕ) → subtree-accepted-lts.Need-returns-then-h-eq0 (subtree-calls t) (subtree-accepted-at t) subtree-accepted.Post
subtree-accepted-returns t c = λ read.
    let g = c.before.before.before.before.before.before.before.before in
    let a = c.args in
    c.leaf_accepted.ensures (Descent.leaf-below a.settings (tree_row a.settings a.rounds.now) a.challenges.now a.leaves.now a.h a.k a.first _ (position t g)
    (omega arith) a.ws.now read.key_below) ∙ Descent.leaf-tests a.settings (tree_row a.settings a.rounds.now) a.challenges.now a.leaves.now a.h a.k a.first _
    (position t g)
    (omega arith) a.claim.now a.ws.now

subtree-accepted-node-holds-requires : (t : ℕ) → subtree-accepted-lts.Need-node_holds-requires (subtree-calls t) (subtree-accepted-at t) subtree-accepted.Post
subtree-accepted-node-holds-requires t c κs = let g = c.before.before.before.before.before in let a = c.args in
    (Checks.round-inside a.settings a.h a.k a.first _ (rounds-many t g) (finals-many t g) (position t g) c.requires.1.0.0 (upper t c), c.requires.1.0.1)

subtree-accepted-returns-2 : (t : ℕ) → subtree-accepted-lts.Need-returns-then-not-node_holds (subtree-calls t) (subtree-accepted-at t) subtree-accepted.Post
subtree-accepted-returns-2 t c = λ read.
    let a = c.args in
    Stages.node_stops a.settings (tree_row a.settings a.rounds.now) a.challenges.now a.leaves.now a.h a.k a.first a.claim.now a.ws.now (position t c.before.before.before.before.before.before.before)
    (upper t c.before.before) (sym c.node_holds.ensures ∙ not-true _ c.if-not-node_holds.true-raw)

subtree-accepted-child-accepted-requires :
    (t : ℕ) → subtree-accepted-lts.Need-child_accepted-requires (subtree-calls t) (subtree-accepted-at t) subtree-accepted.Post
subtree-accepted-child-accepted-requires t c κs =
    (omega arith, ((c.requires.1.0.0, upper t c.before.before.before, omega arith), position t c.before.before.before.before.before.before.before.before))

subtree-accepted-same-length-2 : (t : ℕ) → subtree-accepted-lts.Need-shape_of-ws-then-not-child_accepted (subtree-calls t) (subtree-accepted-at t) subtree-accepted.Post
subtree-accepted-same-length-2 t c = search rules

subtree-accepted-returns-3 : (t : ℕ) → subtree-accepted-lts.Need-returns-then-not-child_accepted (subtree-calls t) (subtree-accepted-at t) subtree-accepted.Post
subtree-accepted-returns-3 t c = λ read.
    let a = c.args in
    Stages.stage_stops a.settings (tree_row a.settings a.rounds.now) a.challenges.now a.leaves.now a.h a.k a.first a.claim.now a.ws.now 0
    (stage-0 t c.before.before.before.before.before) (c.child_accepted.ensures read).0 (omega arith) (not-true _ c.if-not-child_accepted.true-raw)

subtree-accepted-child-accepted-requires-2 :
    (t : ℕ) → subtree-accepted-lts.Need-child_accepted-requires-2 (subtree-calls t) (subtree-accepted-at t) subtree-accepted.Post
subtree-accepted-child-accepted-requires-2 t c κs =
    (omega arith, ((c.requires.1.0.0, upper t c.before.before.before.before.before.before.before.before, omega arith), stays t c.before.before.before.before.before.before.before.before.before.before.before.before.before (long-1 t c.before)))

subtree-accepted-same-length-3 : (t : ℕ) → subtree-accepted-lts.Need-shape_of-ws-then-not-child_accepted-2 (subtree-calls t) (subtree-accepted-at t) subtree-accepted.Post
subtree-accepted-same-length-3 t c = c.child_accepted-2.auto.ws ∙ long-1 t c.before.before.before.before.before

subtree-accepted-returns-4 : (t : ℕ) → subtree-accepted-lts.Need-returns-then-not-child_accepted-2 (subtree-calls t) (subtree-accepted-at t) subtree-accepted.Post
subtree-accepted-returns-4 t c = λ read.
    let a = c.args in
    let one = stage-1 t c.before.before.before.before.before read in
    Stages.stage_stops a.settings (tree_row a.settings a.rounds.now) a.challenges.now a.leaves.now a.h a.k a.first a.claim.now a.ws.now 1 one
    (c.child_accepted-2.ensures
    (again t c.before.before.before.before.before.before.before.before.before.before.before.before.before.before.before.before.before one read)).0
    (omega arith) (not-true _ c.if-not-child_accepted-2.true-raw)

subtree-accepted-child-accepted-requires-3 :
    (t : ℕ) → subtree-accepted-lts.Need-child_accepted-requires-3 (subtree-calls t) (subtree-accepted-at t) subtree-accepted.Post
subtree-accepted-child-accepted-requires-3 t c κs = let g =
    c.before.before.before.before.before.before.before.before.before.before.before.before.before.before.before.before.before.before in (
      omega arith,
      (
        (g.requires.1.0.0, upper t c.before.before.before.before.before.before.before.before.before.before.before.before.before, omega arith),
        stays t g (long-2 t c.before),
      ),
    )

subtree-accepted-same-length-4 : (t : ℕ) → subtree-accepted-lts.Need-shape_of-ws (subtree-calls t) (subtree-accepted-at t) subtree-accepted.Post
subtree-accepted-same-length-4 t c = c.child_accepted-3.auto.ws ∙ long-2 t c.before.before.before.before

subtree-accepted-returns-5 : (t : ℕ) → subtree-accepted-lts.Need-returns (subtree-calls t) (subtree-accepted-at t) subtree-accepted.Post
subtree-accepted-returns-5 t c = λ read.
    let a = c.args in
    let two = stage-2 t c.before.before.before.before read in
    Stages.stage_last a.settings (tree_row a.settings a.rounds.now) a.challenges.now a.leaves.now a.h a.k a.first a.claim.now a.ws.now two
    (c.child_accepted-3.ensures
    (again t c.before.before.before.before.before.before.before.before.before.before.before.before.before.before.before.before.before.before.before.before.before two read)).0

pub +child_accepted_subtree_accepted_spec : {M : Type 1} → statement M
+child_accepted_subtree_accepted_spec =
    close μ-child-accepted μ-subtree-accepted (λ t. child-accepted-lts.spec (child-calls t)
    (child-accepted-at t)
    child-accepted.Post
    (child-accepted-slice-aggregate-claim-to t)
    (child-accepted-claim-to-requires t)
    (child-accepted-challenge-requires t)
    (child-accepted-fold-key-requires t)
    (child-accepted-sub-subtree-accepted t)
    (child-accepted-mul-subtree-accepted t)
    (child-accepted-add-subtree-accepted t)
    (child-accepted-add-subtree-accepted-2 t)
    (child-accepted-slice-aggregate-subtree-accepted t)
    (child-accepted-slice-relend-prefix-subtree-accepted t)
    (child-accepted-slice-aggregate-subtree-accepted-2 t)
    (child-accepted-subtree-accepted-requires t)
    (child-accepted-same-length t)
    (child-accepted-returns t))
    λ t. subtree-accepted-lts.spec (subtree-calls t)
    (subtree-accepted-at t)
    subtree-accepted.Post
    (subtree-accepted-cast-d t)
    (subtree-accepted-sub-leaf-accepted t)
    (subtree-accepted-mul-leaf-accepted t)
    (subtree-accepted-sub-leaf-accepted-2 t)
    (subtree-accepted-part-leaf-accepted-start t)
    (subtree-accepted-part-leaf-accepted-end t)
    (subtree-accepted-leaf-accepted-requires t)
    (subtree-accepted-same-length t)
    (subtree-accepted-returns t)
    (subtree-accepted-node-holds-requires t)
    (subtree-accepted-returns-2 t)
    (subtree-accepted-child-accepted-requires t)
    (subtree-accepted-same-length-2 t)
    (subtree-accepted-returns-3 t)
    (subtree-accepted-child-accepted-requires-2 t)
    (subtree-accepted-same-length-3 t)
    (subtree-accepted-returns-4 t)
    (subtree-accepted-child-accepted-requires-3 t)
    (subtree-accepted-same-length-4 t)
    (subtree-accepted-returns-5 t)
