use mathlib.Core.Path.{◌≡◌, sym, ap, ◌∙◌, subst}
use Prim.Native.Nat.{ℕ, ◌+◌, ◌*◌, ◌<◌}
use native.Mathlib.Omega.{arith}
use borrow.Author.Rules.{rules}
use lib.ListN.{length, get_or}
use Rattle.protocol.specs.Element.{width}
use Rattle.protocol.specs.Layout.{rows_most, tree_challenges}
use Rattle.protocol.specs.Rows.{key_row, row_items}
use Rattle.protocol.specs.TreeCheck.{tree_accepted}
use Rattle.protocol.proofs.Inputs.{settings-valid}
use Rattle.protocol.proofs.Ranges.{below-everywhere}
use Rattle.protocol.proofs.Reading.{row_inside}
use Rattle.protocol.proofs.Rows.{key_row-length, key_row-below}
use Rattle.residues.proofs.Parts.{tail_at, tail-length}
use Rattle.sizes.proofs.Limits.{degree_least, degree_most}
use Rattle.equations.specs.Items.{row_start}
use Rattle.equations.proofs.Items.{start_most, row_table_lem}
use Rattle.equations.proofs.Polynomials.{part, part-long}
use Rattle.equations.proofs.ByValue.{value-part, KeyPart, key_part}
use Rattle.tree_check.specs.Nodes.{tree_row}
use Rattle.tree_check.proofs.key_rows.row_accepted.Statement.{statement}
use Rattle.tree_check.proofs.key_rows.row_accepted.Tie as tie

-- the row's part of the key
module _ (c : tie.After-cells-n) where
  abbrev s : tie.Start
  s = c.before.before.before.before.before

  abbrev n : ℕ
  n = c.cells-n.result

  few_rows : s.args.i < rows_most
  few_rows = omega (arith, s.requires.1, (settings-valid s.args.settings s.requires.0.allowed).rows_most_holds)

  lent : KeyPart s.args.settings s.args.key.now s.args.i n
  lent = key_part s.args.settings s.requires.0.allowed s.args.key.now s.args.i n (c.cells-n.ensures s.requires.0.allowed) s.requires.1 s.requires.0.key_long

overflow_mul-from : tie.Need-overflow_mul-from
overflow_mul-from c = record { fits = omega (arith, (lent c).inside, (lent c).few) }

overflow_add-to : tie.Need-overflow_add-to
overflow_add-to c = record { fits = omega (arith, (lent c).inside, (lent c).few) }

slice_bounds-root_accepted-count : tie.Need-slice_bounds-root_accepted-count
slice_bounds-root_accepted-count c = omega (arith, few_rows c.before, (s c.before).requires.0.commitment-long)

slice_bounds-root_accepted-start : tie.Need-slice_bounds-root_accepted-start
slice_bounds-root_accepted-start c = omega (arith, few_rows c.before, (s c.before).requires.0.commitment-long)

offset_bounds-key-from : tie.Need-offset_bounds-key-from
offset_bounds-key-from c = record { fits = omega (arith, (lent c.before.before).inside, (lent c.before.before).few) }

slice_bounds-root_accepted-end-2 : tie.Need-slice_bounds-root_accepted-end-2
slice_bounds-root_accepted-end-2 c = (lent c.before.before).inside

-- the row's parts of the tables, as they are lent
module _ (b : tie.After-row_start-start) where
  abbrev w : tie.After-cells-n
  w = b.before

  abbrev at : ℕ
  at = b.row_start-start.result

  start : at ≡ row_start (s w).args.settings (length (s w).args.rounds.now) (s w).args.i
  start = b.row_start-start.ensures.0 (s w).requires.0.allowed (s w).requires.1

  rounds : tree_row (s w).args.settings (part at (s w).args.rounds.now) ≡ row_items (s w).args.settings (tree_challenges (s w).args.settings) (s w).args.rounds.now (s w).args.i
  rounds =
      let S = (s w).args.settings in
      ap (λ x. tree_row S (part x (s w).args.rounds.now)) start
      ∙ row_table_lem S (s w).args.rounds.now (s w).args.i (tree_challenges S) (omega (arith, degree_least S (settings-valid S (s w).requires.0.allowed)))

root_accepted-requires : tie.Need-root_accepted-requires
root_accepted-requires c κs =
    let b = c.before.before.before in
    let p = (s (w b)).requires in
    let a = (s (w b)).args in
    let S = a.settings in
    let most = start_most S (length a.rounds.now) a.i in (
      record {
        allowed = p.0.allowed;
        rounds_long = omega (arith, tail-length (at b) a.rounds.now, p.0.rounds_long, start b, most.0, most.1, row_inside S.degree S.rows a.i p.1);
        finals_long = p.0.finals_long;
      },
      ap length (lent (w b)).row ∙ key_row-length S a.key.now a.i,
      part-long (a.i * width) S.degree a.commitment.now (omega (arith, few_rows (w b), p.0.commitment-long, degree_most S (settings-valid S p.0.allowed))),
    )

returns : tie.Need-returns
returns c = λ g.
    let b = c in
    let p = (s (w b.before.before.before.before)).requires in
    let a = (s (w b.before.before.before.before)).args in
    let S = a.settings in
    let q = S.modulus in
    let some : 0 < q = omega (arith, (settings-valid S g.allowed).modulus_least) in
    c.root_accepted.ensures (
      (λ j. subst (λ x. x < q) (sym (tail_at (at b.before.before.before.before) a.rounds.now j 0)) (below-everywhere q _ a.rounds.now some g.rounds_below (at b.before.before.before.before + j))),
      (λ j. subst (λ l. get_or l j 0 < q) (sym (lent (w b.before.before.before.before)).row) (below-everywhere q _ (key_row S a.key.now a.i) some (key_row-below S q a.key.now g.key_below a.i p.1) j)),
    )
    ∙ λ z. tree_accepted S (rounds b.before.before.before.before z) a.challenges.now a.leaves.now S.depth 0 0 (value-part a.commitment.now a.i z) ((lent (w b.before.before.before.before)).row z)

pub row_accepted_spec : {M : Type 1} → statement M
row_accepted_spec =
    tie.close
    (tie.spec (λ c. search rules) (λ c κs. search rules) overflow_mul-from overflow_add-to (λ c κs. search rules) (λ c. search rules) slice_bounds-root_accepted-count slice_bounds-root_accepted-start (λ c. search rules)
    offset_bounds-key-from (λ c. search rules) (λ c. search rules) slice_bounds-root_accepted-end-2 (λ c. search rules) (λ c. search rules) (λ c. search rules) (λ c. search rules)
    root_accepted-requires returns)
