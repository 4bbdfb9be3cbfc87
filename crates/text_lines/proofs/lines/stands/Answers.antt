-- The byte at the place, where there is one.
use Rattle.std.proofs.Common.{◌≡◌, ℕ, eqb, ltb, List, length, get_or, drop, sym, ap, ◌∙◌, rules, Option, Some, None, unwrap_or, Bor}
use Rattle.std.specs.Option.{is_some, option_map, option_eq}
use borrow.Author.Tests.{ltb-true, ltb-false}
use Rattle.text_format.specs.Text.{byte}
use Rattle.text_format.specs.Lines.{present}
use Rattle.text_format.proofs.PlaceLaws.{byte_past}
use Rattle.text_lines.proofs.Rows.{byte_inside, present-keep}
use Rattle.text_lines.proofs.lines.stands.Goals as goal

found : (text : List ℕ) (at : ℕ) (o : Option (Bor ℕ)) (s : Bor ℕ) → is_some o ≡ ltb at (length text) → ((d : ℕ) → unwrap_or (option_map (λ x. x.now) o) d ≡ get_or text at d)
    → option_eq (λ x y. eqb x.now y.now) o (Some s) ≡ present (byte s.now (drop at text))
unfolding present
found text at None s e h = sym (ap present (byte_past s.now text at (ltb-false _ _ (sym e))))
found text at (Some x) s e h = ap (λ n. eqb n s.now) (h 0) ∙ sym (ap present (byte_inside s.now text at (ltb-true _ _ (sym e))) ∙ present-keep _ _)

pub returns : goal.returns
returns c = c.eq.ensures ∙ found c.args.text.now c.args.at c.get.result _ (search rules) (search rules)
