-- The answer of the whole opening, and the tables at its exit.
use mathlib.Core.Path.{◌≡◌, refl, sym, ap, ◌∙◌, subst}
use mathlib.Core.Bool.{true, ◌&&◌}
use mathlib.Core.List.{List}
use Prim.Native.Nat.{ℕ, ◌+◌, ◌*◌, ◌<◌, ◌≤◌}
use native.Mathlib.Nat as Nat
use native.Mathlib.Decide.{dec_lt}
use native.Mathlib.Omega.{arith}
use lib.IntN.{ℤ}
use lib.ListN.{length}
use Rattle.protocol.specs.declared.Settings.{Settings}
use Rattle.std.specs.Prelude.{Err}
use Rattle.protocol.specs.declared.Refusal.{Refusal}
use Rattle.protocol.specs.Answers.{Verdict, as_opened}
use Rattle.protocol.specs.Refusal.{number}
use Rattle.prover_refusals.proofs.Given.{number_least}
use Rattle.protocol.specs.Answers.Verdict.{Silent}
use Rattle.protocol.specs.Basic.{every}
use Rattle.protocol.specs.Element.{width, zeros, signed_zeros, padded_signed, coefficients, signed_at, signed, residue}
use Rattle.protocol.specs.Settings.{settings_refusal}
use Rattle.protocol.specs.Layout.{rows_most, rows_width, key_cells, item_cells}
use Rattle.protocol.specs.Inputs.{Valid, Below}
use Rattle.protocol.specs.Opening.{commitment, message_after, final_element}
use Rattle.protocol.specs.Transcript.{Transcript, end_met}
use Rattle.protocol.specs.Rows.{key_row, at_rows, keys_after, round_tables, transcripts_of, all_accepted}
use Rattle.protocol.specs.Session.{verdict, verdict_number}
use Rattle.protocol.specs.Calls.{commit_refusal, commit_answer, opening_refusal, opening_answer, opening_key_exit, opening_message_exit, opening_rounds_exit}
use Rattle.protocol.specs.Promises.{Opening}
use Rattle.protocol.proofs.Tests.{granted-zero, granted_refused}
use Rattle.protocol.proofs.Answers.{opening-number}
use Rattle.protocol.proofs.Rows.{keys-zero, key_row-below}
use Rattle.claims.proofs.Honest.{Given, degree-positive, modulus-positive, opening-commitment, opening_last, opening-key, opening-message, opening-rounds}
use Rattle.claims.proofs.Prover.{commit-answer}
use Rattle.claims.proofs.RowLaws.{cells-positive, keys_below}
use Rattle.sizes.proofs.Limits.{degree_most}
use Rattle.residues.specs.Lists.{filled, spliced}
use Rattle.residues.proofs.Fill.{zeros-length, filled-length}
use Rattle.plain_products.specs.Rowwise.{row_places}
use Rattle.opening_rounds.specs.Rounds.{round_item, commitment_item, ItemsBegun}
use Rattle.slices.specs.Slices.{values_of}
use Rattle.prover.proofs.Values.{item_by-value}
use Rattle.opening_turns.specs.declared.State.{State}
use Rattle.opening_checks.specs.Checks.{row_claim, EndsRead}
use Rattle.opening_turns.specs.Turns.{TablesAt, Finished, ProverTurn}
use Rattle.opening_turns.proofs.Inputs.{Lent, lent}
use Rattle.opening_turns.proofs.Storing.{front, inside, round_items, front-none, front-past, front_first}
use Rattle.opening_turns.proofs.Checking.{checked-none, accepted_is}

-- a front that is written is a part from place 0 on
begun-front : (f : ℕ → ℕ) (R : List ℕ) (n : ℕ) → filled f n R ≡ spliced f (3 * 0 * n) n R
unfolding filled spliced
begun-front f R n = ap (λ m. spliced f m n R) {x = 0} (sym (Nat.zero-mul n))

module _ (S : Settings) (G : List ℕ) (M : List ℤ) (E R : List ℕ) where
  open S use {degree as d, depth as L, rows as rows}

  abbrev T : Transcript
  T = transcripts_of S G M E

  abbrev value : List ℕ
  value = at_rows S (λ r. commitment S (key_row S G r) M)

  pub opening-refused : (x : Refusal) → number x ≡ opening_refusal S G M E R → Opening S G M E R (as_opened (Err x)) G M R
  unfolding opening_answer opening_key_exit opening_message_exit opening_rounds_exit
  opening-refused x e = record {
    answer = λ i. record {
      refusal = e i;
      commitment = sym (granted_refused (opening_refusal S G M E R) value (zeros rows_width) some) i;
      last = sym (granted_refused (opening_refusal S G M E R) (padded_signed d T.last) (signed_zeros width) some) i;
      verdict = sym (granted_refused (opening_refusal S G M E R) (verdict (all_accepted S G T)) Silent some) i;
    };
    verdict_number_holds = ap verdict_number (sym (granted_refused (opening_refusal S G M E R) (verdict (all_accepted S G T)) Silent some)) ∙ opening-number S G M E R;
    key_exit = sym (granted_refused _ _ _ some);
    message_exit = sym (granted_refused _ _ _ some);
    rounds_exit = sym (granted_refused _ _ _ some);
  }
    where
      some : opening_refusal S G M E R ≡ 0 → ⊥
      some z = omega (arith, number_least x, e, z)

  module _ (passed : opening_refusal S G M E R ≡ 0) (C W : List ℕ) (f : List ℤ) (v : Verdict) (r : State) (begun-rounds claims key : List ℕ) (message : List ℤ) (rounds : List ℕ)
      (begins : commit_refusal S G M ≡ 0 → ItemsBegun S G M (zeros rows_width) R C begun-rounds)
      (values : settings_refusal S ≡ 0 → item_cells S ≤ length C → W ≡ values_of S C)
      (turn : ProverTurn S E (record { done = 0; holds = true }) C G M begun-rounds r claims key message rounds)
      (ends : d ≤ width → f ≡ padded_signed d (coefficients d (signed_at d message 0)))
      (says : EndsRead S (length claims) (length f) key → v ≡ verdict (r.holds && every rows (λ i. end_met S (row_claim S claims i) (signed f) (residue (key_row S key i)))))
      (wide : length f ≡ width) where
    given : Lent S G M E R
    given = lent S G M E R passed

    ok : Given S G M E
    ok = given.given

    abbrev valid : Valid S
    valid = ok.settings

    abbrev n : ℕ
    n = item_cells S

    pd : 0 < d
    pd = degree-positive S valid

    -- an element of each row has its places
    fits : n ≤ rows_width
    fits = Nat.mul-le-mul {n₁ = rows} {m₁ = d} {n₂ = rows_most} {m₂ = width} valid.rows_most_holds (degree_most S valid)

    room : n ≤ length (zeros rows_width)
    room = omega (arith, zeros-length rows_width, fits)

    whole-key : keys_after S E 0 G ≡ G
    whole-key = keys-zero S E G (cells-positive S pd) ok.key.long

    wrote : ItemsBegun S G M (zeros rows_width) R C begun-rounds
    unfolding commit_answer
    wrote = begins (ap (λ a. a.refusal) (commit-answer ok))

    C_is : C ≡ filled (row_places d (commitment_item S G M)) n (zeros rows_width)
    C_is = wrote.commits room

    C_long : n ≤ length C
    C_long = omega (arith, ap length C_is, filled-length (row_places d (commitment_item S G M)) n (zeros rows_width) room, room)

    W_is : W ≡ value
    W_is = values given.allowed C_long ∙ item_by-value S (commitment_item S G M) (zeros rows_width) C C_is

    -- c0 of round 1 stands in its place, where there are rounds
    rounds_are : begun-rounds ≡ front (round_tables S E G M) R (3 * 0 * n + n)
    rounds_are = elim (dec_lt 0 L) [
      | yes l ↦
          wrote.first room (omega (arith, given.rounds_long, round_items S, inside S valid G M E R given.rounds_long 0 l))
          ∙ front-begun l
      | no g ↦
          let none : 3 * L * n ≡ 0 = ap (λ m. 3 * m * n) {x = L} {y = 0} (omega arith) ∙ Nat.zero-mul n in
          wrote.none room (given.rounds_long ∙ round_items S ∙ none)
          ∙ front-none S valid G M E R given.rounds_long
          ∙ front-past S valid G M E R given.rounds_long (3 * 0 * n) (omega (arith, none))
          ∙ sym (front-past S valid G M E R given.rounds_long (3 * 0 * n + n) (omega (arith, none)))
    ]
      where
        front-begun : 0 < L → filled (row_places d (round_item S 0 G M 0)) n R ≡ front (round_tables S E G M) R (3 * 0 * n + n)
        front-begun l =
            begun-front (row_places d (round_item S 0 G M 0)) R n
            ∙ ap (spliced (row_places d (round_item S 0 G M 0)) (3 * 0 * n) n) (front-none S valid G M E R given.rounds_long)
            ∙ ap (λ K. spliced (row_places d (round_item S 0 K M 0)) (3 * 0 * n) n (front (round_tables S E G M) R (3 * 0 * n))) (sym whole-key)
            ∙ unfold message_after in front_first S valid G M E R given.rounds_long 0 l

    start : TablesAt S G M E R 0 G M begun-rounds
    unfolding message_after
    start = record { done_most = omega arith; key_is = sym whole-key; message_is = refl; rounds_is = rounds_are }

    finished : Finished S G M E R claims key message rounds r
    finished = turn.turns G M R passed start (checked-none S valid G M E R C C_long C_is)

    f_is : f ≡ padded_signed d (final_element S (message_after S E L M))
    unfolding final_element
    f_is = ends (degree_most S valid) ∙ ap (λ m. padded_signed d (coefficients d (signed_at d m 0))) finished.tables.message_is

    folded : Below S.modulus (key_cells S) key
    folded = subst (Below S.modulus (key_cells S)) (sym finished.tables.key_is) (keys_below S (modulus-positive S valid) (cells-positive S pd) E L G ok.key)

    v_is : v ≡ verdict (all_accepted S G T)
    v_is =
        says (record {
          allowed = given.allowed;
          claims-long = finished.checks.claims_are.long;
          final_long = omega (arith, wide, degree_most S valid);
          key_long = folded.long;
          rows_below_holds = λ i h. key_row-below S S.modulus key folded i h;
        })
        ∙ (λ j. verdict (finished.checks.holds_is j && every rows (λ i. end_met S (row_claim S claims i) (signed (f_is j)) (residue (key_row S (finished.tables.key_is j) i)))))
        ∙ ap verdict (sym (accepted_is S valid G M E R pd claims finished.checks.claims_are))

    number_is : 0 ≡ (opening_answer S G M E R).refusal
    unfolding opening_answer
    number_is = sym passed

    verdict_is : (opening_answer S G M E R).verdict ≡ verdict (all_accepted S G T)
    unfolding opening_answer
    verdict_is = granted-zero _ _ _ passed

    pub opening-done : Opening S G M E R (record { refusal = 0; commitment = W; last = f; verdict = v }) key message rounds
    opening-done = record {
      answer = λ i. record {
        refusal = number_is i;
        commitment = (W_is ∙ sym (opening-commitment ok R given.rounds_long)) i;
        last = (f_is ∙ sym (opening_last ok R given.rounds_long)) i;
        verdict = (v_is ∙ sym verdict_is) i;
      };
      verdict_number_holds = ap verdict_number (v_is ∙ sym verdict_is) ∙ opening-number S G M E R;
      key_exit = finished.tables.key_is ∙ sym (opening-key ok R given.rounds_long);
      message_exit = finished.tables.message_is ∙ sym (opening-message ok R given.rounds_long);
      rounds_exit = finished.tables.rounds_is ∙ front-past S valid G M E R given.rounds_long (3 * L * n + n) (omega arith) ∙ sym (opening-rounds ok R given.rounds_long);
    }
