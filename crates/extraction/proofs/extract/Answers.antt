-- The refusals before the verifier runs, then 13, then 14; the root's vector is written after the last test.
use Rattle.std.proofs.Common.{◌≡◌, sym}
use Rattle.std.proofs.lemmas.Result.{err_from_is_err_and}
use Rattle.protocol.specs.Calls.{every_path, tree_refusal}
use Rattle.refusals.proofs.GivenTree.{tree_given}
use Rattle.extraction.proofs.Answers.{refused_early, refused_branch, refused_growth, passed, extracted, extractable}
use Rattle.extraction.proofs.extract.Goals as goal

pub returns-in_err-extract : goal.returns-in_err-extract
returns-in_err-extract c =
    let p = err_from_is_err_and c.from_residual.result c.from_residual.ensures.1 in
    rw (p.1, p.2) (refused_early _ _ _ _ _ _ _ _ c.in_err-extract.ensures)

pub returns-in_err-require : goal.returns-in_err-require
returns-in_err-require c =
    let a = c.args in
    let z : tree_refusal a.settings a.commitment a.key.now a.rounds.now a.challenges.now a.leaves.now a.w.now ≡ 0 = sym c.in_ok-extract.ensures in
    let g = tree_given _ _ _ _ _ _ _ z in
    let e : c.every_path_accepted.result ≡ every_path a.settings a.commitment a.key.now a.rounds.now a.challenges.now a.leaves.now = c.every_path_accepted.ensures (record { allowed = g.allowed; key_below = g.key_below; rounds_below = g.rounds_below; finals_long = g.lengths.finals_long }) in
    let p = err_from_is_err_and c.from_residual-in_err-require.result c.from_residual-in_err-require.ensures.1 in
    rw (p.1, p.2) (refused_branch _ _ _ _ _ _ _ z _ e _ c.in_err-require.ensures)

pub returns-in_err-require-2 : goal.returns-in_err-require-2
returns-in_err-require-2 c =
    let a = c.args in
    let z : tree_refusal a.settings a.commitment a.key.now a.rounds.now a.challenges.now a.leaves.now a.w.now ≡ 0 = sym c.in_ok-extract.ensures in
    let g = tree_given _ _ _ _ _ _ _ z in
    let e : c.every_path_accepted.result ≡ every_path a.settings a.commitment a.key.now a.rounds.now a.challenges.now a.leaves.now = c.every_path_accepted.ensures (record { allowed = g.allowed; key_below = g.key_below; rounds_below = g.rounds_below; finals_long = g.lengths.finals_long }) in
    let p = err_from_is_err_and c.from_residual-in_err-require-2.result c.from_residual-in_err-require-2.ensures.1 in
    rw (p.1, p.2) (refused_growth _ _ _ _ _ _ _ z _ e c.in_ok-require.ensures _ (c.growth_allowed.ensures g.allowed) _ c.in_err-require-2.ensures)

pub root-requires-clause-extractable : goal.root-requires-clause-extractable
root-requires-clause-extractable c =
    let a = c.args in
    let z : tree_refusal a.settings a.commitment a.key.now a.rounds.now a.challenges.now a.leaves.now a.w.now ≡ 0 = sym c.in_ok-extract.ensures in
    let g = tree_given _ _ _ _ _ _ _ z in
    let e : c.every_path_accepted.result ≡ every_path a.settings a.commitment a.key.now a.rounds.now a.challenges.now a.leaves.now = c.every_path_accepted.ensures (record { allowed = g.allowed; key_below = g.key_below; rounds_below = g.rounds_below; finals_long = g.lengths.finals_long }) in
    extractable _ _ _ _ _ _ _ (passed _ _ _ _ _ _ _ z _ e c.in_ok-require.ensures _ (c.growth_allowed.ensures g.allowed) c.in_ok-require-2.ensures)

pub root-requires-clause-w_len : goal.root-requires-clause-w_len
root-requires-clause-w_len c = (tree_given _ _ _ _ _ _ _ (sym c.in_ok-extract.ensures)).lengths.w_long

pub returns : goal.returns
returns c =
    let a = c.args in
    let z : tree_refusal a.settings a.commitment a.key.now a.rounds.now a.challenges.now a.leaves.now a.w.now ≡ 0 = sym c.in_ok-extract.ensures in
    let g = tree_given _ _ _ _ _ _ _ z in
    let e : c.every_path_accepted.result ≡ every_path a.settings a.commitment a.key.now a.rounds.now a.challenges.now a.leaves.now = c.every_path_accepted.ensures (record { allowed = g.allowed; key_below = g.key_below; rounds_below = g.rounds_below; finals_long = g.lengths.finals_long }) in
    extracted _ _ _ _ _ _ _ (passed _ _ _ _ _ _ _ z _ e c.in_ok-require.ensures _ (c.growth_allowed.ensures g.allowed) c.in_ok-require-2.ensures) _ c.root.ensures
