use Rattle.std.proofs.Common.{◌≡◌, ◌∙◌, ◌*◌, ◌-◌, ◌&&◌, ℕ, refl, sym, ap, rules, arith, length, get_or, take, drop, leb}
use Rattle.std.proofs.Math.Dec.{eqb}
use borrow.Author.Tests.{eqb-true}
use Rattle.protocol.specs.declared.Settings.{Settings}
use Rattle.protocol.specs.Layout.{item_cells, polynomial_cells}
use Rattle.protocol.specs.Settings.{settings_refusal, has_length}
use Rattle.protocol.specs.Session.{round}
use Rattle.protocol.proofs.Tests.{and_split}
use Rattle.slices.specs.Slices.{lent, polynomial_of}
use Rattle.slices.proofs.Lent.{lent_same, lent_fits, lent_allowed}
use Rattle.residues.proofs.Parts.{tail-length}
use Rattle.session_records.specs.Records.{session_of, flagged}
use Rattle.verifier_refusals.specs.declared.Progress.{Progress}
use Rattle.verifier_refusals.specs.Lent.{record_of}
use Rattle.sessions.specs.Promises.{polynomial_fits, round_on}
use Rattle.sessions.proofs.Claims.{lent_long, claims_lent, answered_lent, round_kept, flat_lent, flat-polynomial}
use Rattle.sessions.proofs.Answers.{move_nowhere, move_failed, move_made}
use Rattle.sessions.proofs.round.Goals as goal

-- the polynomial's length
sized : (S : Settings) (x y n : ℕ) → (settings_refusal S ≡ 0 → n ≡ item_cells S) → lent S (eqb x (3 * n) && leb y 1) 0 ≡ lent S (eqb x (polynomial_cells S) && leb y 1) 0
sized S x y n e = lent_same S _ _ 0 (λ z. ap (λ m. eqb x (3 * m) && leb y 1) (e z))

-- a polynomial that fits is whole
whole : (S : Settings) (x y n : ℕ) → lent S (eqb x (3 * n) && leb y 1) 0 ≡ 0 → x ≡ 3 * n
whole S x y n passed = eqb-true _ _ (and_split (lent_fits S (eqb x (3 * n) && leb y 1) passed)).0

pub returns-then-session-ne-RECORD : goal.returns-then-session-ne-RECORD
returns-then-session-ne-RECORD c = move_nowhere _ _ c.args.session.now c.if-session-ne-RECORD.true

pub returns-in_err-refusal : goal.returns-in_err-refusal
unfolding polynomial_fits flagged has_length session_of
returns-in_err-refusal c =
    let a = c.args in
    let S = c.load-before.result.settings in
    let t = a.session.now in
    let n = c.item_cells-n.result in
    move_failed _ _ t c.if-session-ne-RECORD.false c.from_residual.result (lent S (eqb (length a.polynomial.now) (3 * n) && leb (get_or t 6 0) 1) 0) (search rules)
    (sized S (length a.polynomial.now) (get_or t 6 0) _ c.item_cells-n.ensures.0
    ∙ ap (λ (s : Progress). lent s.settings (eqb (length a.polynomial.now) (polynomial_cells s.settings) && leb (get_or t 6 0) 1) 0) (c.load-before.ensures c.if-session-ne-RECORD.false))

pub slice_bounds-round_on-count : goal.slice_bounds-round_on-count
slice_bounds-round_on-count c = omega (arith, whole c.load-before.result.settings (length c.args.polynomial.now) (get_or c.args.session.now 6 0) c.item_cells-n.result (sym c.in_ok-refusal.ensures))

pub slice_bounds-round_on-start : goal.slice_bounds-round_on-start
slice_bounds-round_on-start c = omega (arith, whole c.load-before.result.settings (length c.args.polynomial.now) (get_or c.args.session.now 6 0) c.item_cells-n.result (sym c.in_ok-refusal.ensures))

pub slice_bounds-round_on-count-2 : goal.slice_bounds-round_on-count-2
slice_bounds-round_on-count-2 c = omega (arith, whole c.load-before.result.settings (length c.args.polynomial.now) (get_or c.args.session.now 6 0) c.item_cells-n.result (sym c.in_ok-refusal.ensures))

pub slice_bounds-round_on-start-2 : goal.slice_bounds-round_on-start-2
slice_bounds-round_on-start-2 c = omega (arith, whole c.load-before.result.settings (length c.args.polynomial.now) (get_or c.args.session.now 6 0) c.item_cells-n.result (sym c.in_ok-refusal.ensures))

pub returns : goal.returns
unfolding polynomial_fits round_on flagged has_length session_of
returns c =
    let a = c.args in
    let t = a.session.now in
    let P = a.polynomial.now in
    let n = c.item_cells-n.result in
    let loaded = c.load-before in
    let S = loaded.result.settings in
    let long = c.if-session-ne-RECORD.false in
    let fits = eqb (length P) (3 * n) && leb (get_or t 6 0) 1 in
    let passed : lent S fits 0 ≡ 0 = sym c.in_ok-refusal.ensures in
    let full = whole S (length P) (get_or t 6 0) n passed in
    let cells : n ≡ item_cells S = c.item_cells-n.ensures.0 (lent_allowed S fits passed) in
    let lengths =
    sized S (length P) (get_or t 6 0) n c.item_cells-n.ensures.0
    ∙ ap (λ (s : Progress). lent s.settings (eqb (length P) (polynomial_cells s.settings) && leb (get_or t 6 0) 1) 0) (loaded.ensures long) in
    let is =
    c.round_on-moved.ensures (record {
      claims-long = lent_long t long;
      first = λ ok. flat_lent S ok _ (omega (arith, full, cells));
      second = λ ok. flat_lent S ok _ (omega (arith, full, cells, tail-length n P));
      third = λ ok. flat_lent S ok _ (omega (arith, full, cells, tail-length (2 * n) P));
    })
    ∙ ap (λ p. round (record_of loaded.result (take (length t - 15) (drop 15 t))) p a.e) (flat-polynomial S P n cells)
    ∙ (λ i. round (record_of (loaded.ensures long i) (claims_lent t long i)) (polynomial_of (loaded.ensures long i).settings P) a.e) in
    move_made _ _ t long 0 (sym passed ∙ lengths) refl _ _ _ _ refl
    (answered_lent t long _ (c.round_on-moved.auto.claims ∙ lent_long t long) _ _ is (round_kept (session_of t) _ a.e) _ _ _ c.answer.ensures)
