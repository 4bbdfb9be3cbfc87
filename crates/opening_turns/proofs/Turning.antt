-- The turns, put together: what a turn does, from what its move does and what the turns after it do.
use mathlib.Core.Path.{◌≡◌, sym, ap, ◌∙◌, subst}
use mathlib.Core.List.{List}
use Prim.Native.Nat.{ℕ, suc, ◌+◌, ◌*◌, ◌/◌, ◌%◌, ◌<◌, ◌≤◌}
use native.Mathlib.Nat as Nat
use native.Mathlib.Numerals.{add-one}
use native.Mathlib.Decide.{dec_lt}
use native.Mathlib.Omega.{arith}
use lib.IntN.{ℤ}
use lib.ListN.{length, get_or, drop, length-drop}
use lib.Seq.{get_or-drop}
use Rattle.protocol.specs.declared.Settings.{Settings}
use Rattle.protocol.specs.Element.{modulo, residue_at}
use Rattle.protocol.specs.Layout.{item_cells, polynomial_at, round_cells}
use Rattle.protocol.specs.Inputs.{Valid}
use Rattle.protocol.specs.Opening.{round_element, key_after, message_after}
use Rattle.protocol.specs.Transcript.{doubled, element, claim_after, transcript_of}
use Rattle.protocol.specs.Rows.{key_row, keys_after, round_tables}
use Rattle.protocol.specs.Calls.{opening_refusal, round_refusal, round_answer, fold_refusal, fold_key_exit, fold_message_exit}
use Rattle.protocol.specs.Promises.{Folded}
use Rattle.claims.proofs.Completeness.{complete}
use Rattle.claims.proofs.Honest.{Given, degree-positive}
use Rattle.claims.proofs.Prover.{round-answer, fold-granted, fold_key_holds, fold-message}
use Rattle.protocol.proofs.OpeningLaws.{round_at}
use Rattle.protocol.proofs.Rows.{keys_row}
use Rattle.residues.specs.Lists.{spliced}
use Rattle.plain_products.specs.Rowwise.{row_places}
use Rattle.opening_rounds.specs.Rounds.{round_item, Continuing}
use Rattle.opening_turns.specs.declared.State.{State}
use Rattle.opening_turns.specs.Turns.{rest_stored, TablesAt, ClaimsAt, CheckedAt, ProverMove, VerifierMove, ProverTurn, VerifierTurn}
use Rattle.opening_turns.proofs.Inputs.{Lent, lent}
use Rattle.opening_turns.proofs.Storing.{front, front_length, front_at, front-past, front_first, front_rest, entry, inside}
use Rattle.opening_turns.proofs.Checking.{checked_more}

-- ---- what the prover's round is given: c0 in its place, and claims that are 2·(c0 + c2)

module _ (S : Settings) (G : List ℕ) (M : List ℤ) (E R : List ℕ) (given : Lent S G M E R) (t : ℕ) (l : t < S.depth) where
  open S use {degree as d, depth as L, modulus as q, rows as rows}

  abbrev ok : Given S G M E
  ok = given.given

  abbrev n : ℕ
  n = item_cells S

  pd : 0 < d
  pd = degree-positive S ok.settings

  pub round_passed : round_refusal S t (keys_after S E t G) (message_after S E t M) ≡ 0
  unfolding round_answer
  round_passed = ap (λ a. a.refusal) (round-answer ok t l)

  -- in row r
  module _ (r : ℕ) (h : r < rows) where
    abbrev c : List ℕ → ℕ → ℕ → ℕ
    c K j k = get_or (round_element S t K (message_after S E t M) j) k 0

    doubled-is : (k : ℕ) → k < d → doubled S (element S (transcript_of S (key_row S G r) M E) t 0) (element S (transcript_of S (key_row S G r) M E) t 2) k
        ≡ 2 * (c (key_after S E t (key_row S G r)) 0 k + c (key_after S E t (key_row S G r)) 2 k) % q
    unfolding doubled element residue_at modulo transcript_of
    doubled-is k m = λ i. 2 * (round_at S E (key_row S G r) M t 0 k l (omega arith) m i + round_at S E (key_row S G r) M t 2 k l (omega arith) m i) % q

    claim_is : (k : ℕ) → k < d → get_or (claim_after S (transcript_of S (key_row S G r) M E) t) k 0 ≡ 2 * (c (key_row S (keys_after S E t G) r) 0 k + c (key_row S (keys_after S E t G) r) 2 k) % q
    claim_is k m =
        sym ((complete S pd ok.settings.modulus_odd (key_row S G r) M E ok.message.each).every_round t l k m)
        ∙ doubled-is k m
        ∙ ap (λ K. 2 * (c K 0 k + c K 2 k) % q) (sym (keys_row S E G t r h))

  module _ (claims rounds : List ℕ) (at : ClaimsAt S G M E R t claims) (rounds_is : rounds ≡ front (round_tables S E G M) R (polynomial_at S t + n)) where
    claimed : (k : ℕ) → k < n → get_or claims k 0
        ≡ 2 * (row_places d (round_item S t (keys_after S E t G) (message_after S E t M) 0) k + row_places d (round_item S t (keys_after S E t G) (message_after S E t M) 2) k) % q
    claimed k h =
        let hr : k / d < rows = (Nat.div-lt_iff_lt-mul pd).1 h in
        let hk : k % d < d = Nat.mod-lt k pd in
        ap (λ x. get_or claims x 0) (sym (Nat.div-add-mod' k d))
        ∙ at.is (k / d) (k % d) hr hk
        ∙ claim_is (k / d) hr (k % d) hk

    places : length rounds ≡ 3 * L * n
    places = ap length rounds_is ∙ front_length S ok.settings G M E R given.rounds_long (3 * t * n + n)

    pub continuing : Continuing S t (keys_after S E t G) (message_after S E t M) claims (drop (polynomial_at S t) rounds)
    continuing = record {
      passed = round_passed;
      claim_long = at.long;
      room = omega (arith, length-drop (3 * t * n) rounds, places, inside S ok.settings G M E R given.rounds_long t l);
      first = λ k h.
          get_or-drop (3 * t * n) rounds k 0
          ∙ ap (λ x. get_or x (3 * t * n + k) 0) rounds_is
          ∙ front_at S ok.settings G M E R given.rounds_long (3 * t * n + n) (3 * t * n + k) (omega arith) (omega (arith, inside S ok.settings G M E R given.rounds_long t l))
          ∙ sym (entry S ok.settings G M E R given.rounds_long t l 0 k (omega arith) h ∙ ap (λ m. get_or (round_tables S E G M) m 0) {x = 3 * t * n + 0 * n + k} (omega (arith, Nat.zero-mul n)));
      claimed = claimed;
    }

-- ---- the prover's move, from what it writes, its fold, and what it writes of the next round

module _ (S : Settings) (t e : ℕ) (claims key : List ℕ) (message : List ℤ) (rounds key' : List ℕ) (message' : List ℤ) (between rounds' : List ℕ)
    (rests : Continuing S t key message claims (drop (polynomial_at S t) rounds) → between ≡ rest_stored S t key message rounds)
    (folds : fold_refusal S t e key message ≡ 0 → Folded S t e key message 0 key' message')
    (starts : round_refusal S (t + 1) key' message' ≡ 0 → polynomial_at S (t + 1) + item_cells S ≤ length between
    → rounds' ≡ spliced (row_places S.degree (round_item S (t + 1) key' message' 0)) (polynomial_at S (t + 1)) (item_cells S) between)
    (stops : S.depth ≤ t + 1 → rounds' ≡ between) where
  open S use {degree as d, depth as L}

  module _ (G : List ℕ) (M : List ℤ) (E R : List ℕ) (passed : opening_refusal S G M E R ≡ 0) (l : t < L) (e-is : e ≡ get_or E t 0) (at : TablesAt S G M E R t key message rounds)
      (claims_are : ClaimsAt S G M E R t claims) where
    given : Lent S G M E R
    given = lent S G M E R passed

    abbrev items : ℕ
    items = item_cells S

    abbrev X : List ℕ
    X = round_tables S E G M

    abbrev good : Given S G M E
    good = given.given

    abbrev valid : Valid S
    valid = good.settings

    abbrev long : length R ≡ round_cells S
    long = given.rounds_long

    between_is : between ≡ front X R (3 * suc t * items)
    between_is =
        rests (subst (λ k. Continuing S t k message claims (drop (polynomial_at S t) rounds)) (sym at.key_is)
        (subst (λ m. Continuing S t (keys_after S E t G) m claims (drop (polynomial_at S t) rounds)) (sym at.message_is) (continuing S G M E R given t l claims rounds claims_are at.rounds_is)))
        ∙ (λ i. rest_stored S t (at.key_is i) (at.message_is i) (at.rounds_is i))
        ∙ front_rest S valid G M E R long t l

    folded : Folded S t e key message 0 key' message'
    folded = folds ((λ i. fold_refusal S t (e-is i) (at.key_is i) (at.message_is i)) ∙ fold-granted good t l)

    key_is : key' ≡ keys_after S E (suc t) G
    key_is = folded.key_exit ∙ (λ i. fold_key_exit S t (e-is i) (at.key_is i) (at.message_is i)) ∙ fold_key_holds good t l

    message_is : message' ≡ message_after S E (suc t) M
    message_is = folded.message_exit ∙ (λ i. fold_message_exit S t (e-is i) (at.key_is i) (at.message_is i)) ∙ fold-message good t l

    -- what stands there next, in a round more or at the end
    more : suc t < L → rounds' ≡ front X R (3 * suc t * items + items)
    more m =
        let one = add-one t in
        let place : polynomial_at S (t + 1) + items ≤ length between = omega (
          arith,
          ap (λ k. 3 * k * items) one,
          ap length between_is,
          front_length S valid G M E R long (3 * suc t * items),
          inside S valid G M E R long (suc t) m,
        ) in
        let refuses-none : round_refusal S (t + 1) key' message' ≡ 0 = (λ i. round_refusal S (one i) (key_is i) (message_is i)) ∙ round_passed S G M E R given (suc t) m in
        starts refuses-none place
        ∙ (λ i. spliced (row_places d (round_item S (one i) (key_is i) (message_is i) 0)) (polynomial_at S (one i)) items (between_is i))
        ∙ front_first S valid G M E R long (suc t) m

    last : L ≤ suc t → rounds' ≡ front X R (3 * suc t * items + items)
    last m =
        let end : 3 * L * items ≤ 3 * suc t * items = Nat.mul-le-mul_right {m = 3 * L} {n = 3 * suc t} items (omega arith) in
        stops (omega arith) ∙ between_is ∙ front-past S valid G M E R long (3 * suc t * items) end ∙ sym (front-past S valid G M E R long (3 * suc t * items + items) (omega (arith, end)))

    next_tables : TablesAt S G M E R (suc t) key' message' rounds'
    next_tables = record {
      done_most = omega arith;
      key_is = key_is;
      message_is = message_is;
      rounds_is = elim (dec_lt (suc t) L) [ yes m ↦ more m | no m ↦ last (omega arith) ];
    }

  pub prover_moves : ProverMove S t e claims key message rounds key' message' rounds'
  prover_moves = record { moves = next_tables }

-- ---- the turns

module _ (S : Settings) (E : List ℕ) (s : State) (claims key : List ℕ) (message : List ℤ) (rounds : List ℕ) where
  pub prover_stops : S.depth ≤ s.done → ProverTurn S E s claims key message rounds s claims key message rounds
  prover_stops l = record {
    turns = λ G M R passed at ch.
        let e : s.done ≡ S.depth = omega (arith, at.done_most) in
        record { tables = subst (λ t. TablesAt S G M E R t key message rounds) e at; checks = subst (λ t. CheckedAt S G M E R t claims s.holds) e ch };
  }

  module _ (l : s.done < S.depth) (e : ℕ) (r : State) (claims' key' : List ℕ) (message' : List ℤ) (rounds' : List ℕ) where
    pub prover_goes : (k : List ℕ) (m : List ℤ) (o : List ℕ) → e ≡ get_or E s.done 0 → ProverMove S s.done e claims key message rounds k m o
        → VerifierTurn S E s claims k m o r claims' key' message' rounds' e → ProverTurn S E s claims key message rounds r claims' key' message' rounds'
    prover_goes k m o e-is move rest = record {
      turns = λ G M R passed at ch. rest.turns G M R passed e-is (move.moves G M E R passed l e-is at ch.claims_are) ch;
    }

    pub verifier_goes : (next : State) (c : List ℕ) → VerifierMove S s e claims rounds next c → ProverTurn S E next c key message rounds r claims' key' message' rounds'
        → VerifierTurn S E s claims key message rounds r claims' key' message' rounds' e
    verifier_goes next c move rest = record {
      turns = λ G M R passed e-is at ch.
          let given = lent S G M E R passed in
          let done_is : suc s.done ≡ next.done = omega (arith, move.done_is) in
          rest.turns G M R passed
          (subst (λ t. TablesAt S G M E R t key message rounds) done_is at)
          (subst (λ t. CheckedAt S G M E R t c next.holds) done_is
          (checked_more S given.given.settings G M E R given.rounds_long given.allowed s l rounds at.rounds_is next e claims c e-is move ch));
    }
