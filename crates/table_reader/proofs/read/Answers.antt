-- The settings, and then the core.
use Rattle.std.proofs.Common.{◌≡◌, [], sym, ap, ◌∙◌, subst, Err}
use Rattle.std.proofs.lemmas.Result.{err_from_is_err_and}
use Rattle.protocol.specs.Answers.{as_loaded}
use Rattle.text_format.specs.Promises.{Read}
use Rattle.text_parts.specs.Parts.{lengths_of}
use Rattle.text_parts.specs.Lent.{tables_lent}
use Rattle.text_lines.proofs.Looks.{numbered}
use Rattle.text_lines.proofs.Looked.{begun}
use Rattle.text_values.proofs.Gathers.{gathered-look}
use Rattle.table_reader.proofs.Whole.{read-refused}
use Rattle.table_reader.proofs.read.Goals as goal

pub returns-in_err-begun-clause-read : goal.returns-in_err-begun-clause-read
returns-in_err-begun-clause-read c =
    let a = c.args in
    let t = tables_lent a.tables.now in
    let r = c.in_err-begun.field-0.0.refusal in
    let p = err_from_is_err_and c.from_residual.result c.from_residual.ensures.1 in
    let same : c.from_residual.result ≡ Err r = p.1 ∙ ap Err p.2 in
    let looks = (begun a.text.now (as_loaded (Err r)) c.in_err-begun.ensures.answer).refused (numbered r) in
    subst (λ x. Read a.parts a.text.now t (as_loaded x) t) (sym same)
    (read-refused a.parts a.text.now t (as_loaded (Err r)) [] (gathered-look a.parts (lengths_of t) a.text.now (as_loaded (Err r)) looks [] (numbered r)) (numbered r))
