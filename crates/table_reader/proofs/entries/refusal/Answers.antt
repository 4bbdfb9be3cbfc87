-- Each of the three tests in its turn.
use Rattle.std.proofs.Common.{◌≡◌, ℕ, zero, suc, List, ◌∷◌, refl, sym, ap, ◌∙◌, rules, Err}
use Rattle.protocol.specs.Basic.{first, unless}
use Rattle.protocol.specs.Refusal.{refusal_of}
use Rattle.protocol.proofs.Refusals.{first_only}
use Rattle.text_lines.proofs.Looks.{numbered}
use Rattle.table_reader.proofs.Refuses.{entries-tested}
use Rattle.table_reader.proofs.entries.refusal.Goals as goal

stops : (x a : ℕ) (rest : List ℕ) → x ≡ a → (x ≡ 0 → ⊥) → x ≡ first (a ∷ rest)
unfolding first
stops x zero rest e n = absurd (n e)
stops x (suc a) rest e n = e

goes_on : (x a : ℕ) (rest : List ℕ) → 0 ≡ a → x ≡ first rest → x ≡ first (a ∷ rest)
unfolding first
goes_on x a rest z e = e ∙ ap (λ n. first (n ∷ rest)) z

pub returns-in_err-require : goal.returns-in_err-require
returns-in_err-require c ok =
    let a = c.args in
    let r = c.in_err-require.field-0.0 in
    let same : c.from_residual.result ≡ Err r = search rules in
    ap refusal_of same
    ∙ goes_on _ _ _ refl (stops _ _ _ (c.in_err-require.ensures ∙ ap (unless 8) (c.all_pass.ensures ok)) (numbered r))
    ∙ sym (entries-tested a.settings a.lengths a.values.now)

pub returns-in_err-require-2 : goal.returns-in_err-require-2
returns-in_err-require-2 c ok =
    let a = c.args in
    let r = c.in_err-require-2.field-0.0 in
    let same : c.from_residual-in_err-require-2.result ≡ Err r = search rules in
    ap refusal_of same
    ∙ goes_on _ _ _ refl (goes_on _ _ _ (c.in_ok-require.ensures ∙ ap (unless 8) (c.all_pass.ensures ok))
    (stops _ _ _ (c.in_err-require-2.ensures ∙ ap (unless 9) (c.all_pass-2.ensures ok)) (numbered r)))
    ∙ sym (entries-tested a.settings a.lengths a.values.now)

pub returns : goal.returns
returns c ok =
    let a = c.args in
    goes_on _ _ _ refl (goes_on _ _ _ (c.in_ok-require.ensures ∙ ap (unless 8) (c.all_pass.ensures ok))
    (goes_on _ _ _ (c.in_ok-require-2.ensures ∙ ap (unless 9) (c.all_pass-2.ensures ok))
    (c.require-3.ensures ∙ ap (unless 10) (c.all_pass-3.ensures ok) ∙ sym (first_only _))))
    ∙ sym (entries-tested a.settings a.lengths a.values.now)
