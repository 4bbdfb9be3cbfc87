-- The byte's range, where there is one.
use Rattle.std.proofs.Common.{◌≡◌, ℕ, Bool, false, ltb, List, length, get_or, drop, sym, ap, ◌∙◌, rules, Option, Some, None, unwrap_or, Bor}
use Rattle.std.specs.Option.{is_some, option_map, MatchOption}
use borrow.Author.Tests.{ltb-true, ltb-false, tests}
use Rattle.text_format.specs.Text.{digit, digit_first}
use Rattle.text_format.proofs.PlaceLaws.{digit_first-inside, digit_first-past}
use Rattle.text_lines.proofs.numbers.digit_at.Goals as goal

found : (text : List ℕ) (at : ℕ) (o : Option (Bor ℕ)) (r : Bool) (P : Bor ℕ → Type 0) → MatchOption o (r ≡ false) P → ((x : Bor ℕ) → P x → r ≡ digit x.now)
    → is_some o ≡ ltb at (length text) → ((d : ℕ) → unwrap_or (option_map (λ x. x.now) o) d ≡ get_or text at d) → r ≡ digit_first (drop at text)
found text at None r P m p s e = m ∙ sym (digit_first-past text at (ltb-false _ _ (sym s)))
found text at (Some x) r P m p s e = p x m ∙ ap digit (e 0) ∙ sym (digit_first-inside text at (ltb-true _ _ (sym s)))

pub returns : goal.returns
unfolding digit
returns c = found c.args.text.now c.args.at c.get.result c.is_some_and.result _ c.is_some_and.ensures (λ x p. search (rules, tests)) (search rules) (search rules)
