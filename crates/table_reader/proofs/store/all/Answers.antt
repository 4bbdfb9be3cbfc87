-- Table by table: the place behind each is where the next one begins.
use Rattle.std.proofs.Common.{◌≡◌, ℕ, ◌+◌, ◌≤◌, List, length, drop, map, take, ℤ, sym, ap, ◌∙◌, arith, length-drop, [], ◌∷◌}
use lib.Seq.{drop-drop}
use Rattle.text_format.specs.Text.{value_limit, narrow_limit, unsigned}
use Rattle.text_parts.specs.Parts.{tables_of, lengths_of}
use Rattle.text_parts.specs.Flat.{start, total}
use Rattle.text_parts.specs.Lent.{tables_lent}
use Rattle.table_reader.specs.Cut.{cut_tables, narrowed, narrow_tables}
use Rattle.table_reader.proofs.store.all.Goals as goal

-- what is left behind a table
behind : (k m n : ℕ) (vs r s : List ℤ) → r ≡ drop k vs → s ≡ drop m r → n ≡ k + m → s ≡ drop n vs
behind k m n vs r s e f g = f ∙ ap (drop m) e ∙ drop-drop m k vs ∙ ap (λ i. drop i vs) (sym g)

-- how long it is
left_long : (k n : ℕ) (vs r : List ℤ) → r ≡ drop k vs → k + n ≤ length vs → n ≤ length r
left_long k n vs r e h = omega (arith, ap length e, length-drop k vs)

pub fill-after_key-requires : goal.fill-after_key-requires
unfolding start total lengths_of
fill-after_key-requires c = omega (arith, c.requires)

pub fill-after_message-requires : goal.fill-after_message-requires
unfolding start total lengths_of
fill-after_message-requires c =
    let t = tables_lent c.args.tables.now in
    let vs = c.args.values.now in
    let n = lengths_of t in
    let r0 : c.fill-after_key.result.now ≡ drop (start n 1) vs = c.fill-after_key.ensures.left ∙ ap (λ m. drop m vs) {x = length t.key} {y = start n 1} (omega arith) in
    left_long (start n 1) (length t.message) vs _ r0 (omega (arith, c.requires))

pub fill-after_commitment-requires : goal.fill-after_commitment-requires
unfolding start total lengths_of
fill-after_commitment-requires c =
    let t = tables_lent c.args.tables.now in
    let vs = c.args.values.now in
    let n = lengths_of t in
    let r0 : c.fill-after_key.result.now ≡ drop (start n 1) vs = c.fill-after_key.ensures.left ∙ ap (λ m. drop m vs) {x = length t.key} {y = start n 1} (omega arith) in
    let r1 : c.fill-after_message.result.now ≡ drop (start n 2) vs = behind (start n 1) (length t.message) (start n 2) vs _ _ r0 c.fill-after_message.ensures.left (omega arith) in
    left_long (start n 2) (length t.commitment) vs _ r1 (omega (arith, c.requires))

pub fill-after_rounds-requires : goal.fill-after_rounds-requires
unfolding start total lengths_of
fill-after_rounds-requires c =
    let t = tables_lent c.args.tables.now in
    let vs = c.args.values.now in
    let n = lengths_of t in
    let r0 : c.fill-after_key.result.now ≡ drop (start n 1) vs = c.fill-after_key.ensures.left ∙ ap (λ m. drop m vs) {x = length t.key} {y = start n 1} (omega arith) in
    let r1 : c.fill-after_message.result.now ≡ drop (start n 2) vs = behind (start n 1) (length t.message) (start n 2) vs _ _ r0 c.fill-after_message.ensures.left (omega arith) in
    let r2 : c.fill-after_commitment.result.now ≡ drop (start n 3) vs = behind (start n 2) (length t.commitment) (start n 3) vs _ _ r1 c.fill-after_commitment.ensures.left (omega arith) in
    left_long (start n 3) (length t.rounds) vs _ r2 (omega (arith, c.requires))

pub fill-after_challenges-requires : goal.fill-after_challenges-requires
unfolding start total lengths_of
fill-after_challenges-requires c =
    let t = tables_lent c.args.tables.now in
    let vs = c.args.values.now in
    let n = lengths_of t in
    let r0 : c.fill-after_key.result.now ≡ drop (start n 1) vs = c.fill-after_key.ensures.left ∙ ap (λ m. drop m vs) {x = length t.key} {y = start n 1} (omega arith) in
    let r1 : c.fill-after_message.result.now ≡ drop (start n 2) vs = behind (start n 1) (length t.message) (start n 2) vs _ _ r0 c.fill-after_message.ensures.left (omega arith) in
    let r2 : c.fill-after_commitment.result.now ≡ drop (start n 3) vs = behind (start n 2) (length t.commitment) (start n 3) vs _ _ r1 c.fill-after_commitment.ensures.left (omega arith) in
    let r3 : c.fill-after_rounds.result.now ≡ drop (start n 4) vs = behind (start n 3) (length t.rounds) (start n 4) vs _ _ r2 c.fill-after_rounds.ensures.left (omega arith) in
    left_long (start n 4) (length t.challenges) vs _ r3 (omega (arith, c.requires))

pub fill-after_last-requires : goal.fill-after_last-requires
unfolding start total lengths_of
fill-after_last-requires c =
    let t = tables_lent c.args.tables.now in
    let vs = c.args.values.now in
    let n = lengths_of t in
    let r0 : c.fill-after_key.result.now ≡ drop (start n 1) vs = c.fill-after_key.ensures.left ∙ ap (λ m. drop m vs) {x = length t.key} {y = start n 1} (omega arith) in
    let r1 : c.fill-after_message.result.now ≡ drop (start n 2) vs = behind (start n 1) (length t.message) (start n 2) vs _ _ r0 c.fill-after_message.ensures.left (omega arith) in
    let r2 : c.fill-after_commitment.result.now ≡ drop (start n 3) vs = behind (start n 2) (length t.commitment) (start n 3) vs _ _ r1 c.fill-after_commitment.ensures.left (omega arith) in
    let r3 : c.fill-after_rounds.result.now ≡ drop (start n 4) vs = behind (start n 3) (length t.rounds) (start n 4) vs _ _ r2 c.fill-after_rounds.ensures.left (omega arith) in
    let r4 : c.fill-after_challenges.result.now ≡ drop (start n 5) vs = behind (start n 4) (length t.challenges) (start n 5) vs _ _ r3 c.fill-after_challenges.ensures.left (omega arith) in
    left_long (start n 5) (length t.last) vs _ r4 (omega (arith, c.requires))

pub fill-requires : goal.fill-requires
unfolding start total lengths_of
fill-requires c =
    let t = tables_lent c.args.tables.now in
    let vs = c.args.values.now in
    let n = lengths_of t in
    let r0 : c.fill-after_key.result.now ≡ drop (start n 1) vs = c.fill-after_key.ensures.left ∙ ap (λ m. drop m vs) {x = length t.key} {y = start n 1} (omega arith) in
    let r1 : c.fill-after_message.result.now ≡ drop (start n 2) vs = behind (start n 1) (length t.message) (start n 2) vs _ _ r0 c.fill-after_message.ensures.left (omega arith) in
    let r2 : c.fill-after_commitment.result.now ≡ drop (start n 3) vs = behind (start n 2) (length t.commitment) (start n 3) vs _ _ r1 c.fill-after_commitment.ensures.left (omega arith) in
    let r3 : c.fill-after_rounds.result.now ≡ drop (start n 4) vs = behind (start n 3) (length t.rounds) (start n 4) vs _ _ r2 c.fill-after_rounds.ensures.left (omega arith) in
    let r4 : c.fill-after_challenges.result.now ≡ drop (start n 5) vs = behind (start n 4) (length t.challenges) (start n 5) vs _ _ r3 c.fill-after_challenges.ensures.left (omega arith) in
    let r5 : c.fill-after_last.result.now ≡ drop (start n 6) vs = behind (start n 5) (length t.last) (start n 6) vs _ _ r4 c.fill-after_last.ensures.left (omega arith) in
    left_long (start n 6) (length t.claims) vs _ r5 (omega (arith, c.requires))

pub returns-clause-stored : goal.returns-clause-stored
unfolding start cut_tables narrow_tables lengths_of
returns-clause-stored c =
    let t = tables_lent c.args.tables.now in
    let vs = c.args.values.now in
    let n = lengths_of t in
    let r0 : c.fill-after_key.result.now ≡ drop (start n 1) vs = c.fill-after_key.ensures.left ∙ ap (λ m. drop m vs) {x = length t.key} {y = start n 1} (omega arith) in
    let r1 : c.fill-after_message.result.now ≡ drop (start n 2) vs = behind (start n 1) (length t.message) (start n 2) vs _ _ r0 c.fill-after_message.ensures.left (omega arith) in
    let r2 : c.fill-after_commitment.result.now ≡ drop (start n 3) vs = behind (start n 2) (length t.commitment) (start n 3) vs _ _ r1 c.fill-after_commitment.ensures.left (omega arith) in
    let r3 : c.fill-after_rounds.result.now ≡ drop (start n 4) vs = behind (start n 3) (length t.rounds) (start n 4) vs _ _ r2 c.fill-after_rounds.ensures.left (omega arith) in
    let r4 : c.fill-after_challenges.result.now ≡ drop (start n 5) vs = behind (start n 4) (length t.challenges) (start n 5) vs _ _ r3 c.fill-after_challenges.ensures.left (omega arith) in
    let r5 : c.fill-after_last.result.now ≡ drop (start n 6) vs = behind (start n 5) (length t.last) (start n 6) vs _ _ r4 c.fill-after_last.ensures.left (omega arith) in
    let key = c.fill-after_key.ensures.stored in
    let message = c.fill-after_message.ensures.stored ∙ ap (λ r. map (narrowed) (take (length t.message) r)) r0 in
    let commitment = c.fill-after_commitment.ensures.stored ∙ ap (λ r. map (unsigned value_limit) (take (length t.commitment) r)) r1 in
    let rounds = c.fill-after_rounds.ensures.stored ∙ ap (λ r. map (unsigned value_limit) (take (length t.rounds) r)) r2 in
    let challenges = c.fill-after_challenges.ensures.stored ∙ ap (λ r. map (unsigned narrow_limit) (take (length t.challenges) r)) r3 in
    let last = c.fill-after_last.ensures.stored ∙ ap (λ r. map (narrowed) (take (length t.last) r)) r4 in
    let claims = c.fill.ensures.stored ∙ ap (λ r. map (unsigned value_limit) (take (length t.claims) r)) r5 in
    λ j. tables_of (key j) (message j) (commitment j) (rounds j) (challenges j) (last j) (claims j)

-- every table keeps its length
pub returns-clause-lengths : goal.returns-clause-lengths
unfolding lengths_of
returns-clause-lengths c =
    λ j.
    c.fill-after_key.auto.table j
    ∷ c.fill-after_message.auto.table j
    ∷ c.fill-after_commitment.auto.table j
    ∷ c.fill-after_rounds.auto.table j
    ∷ c.fill-after_challenges.auto.table j
    ∷ c.fill-after_last.auto.table j
    ∷ c.fill.auto.table j
    ∷ []
