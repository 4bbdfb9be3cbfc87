-- The tests are those of the names line's two words, and of the six bytes behind them.
use Rattle.std.proofs.Common.{◌≡◌, ℕ, ◌<◌, ◌≤◌, Bool, true, false, ◌&&◌, eqb, List, length, get_or, take, refl, sym, ◌∙◌, arith, rules}
use borrow.Author.Tests.{eq-eqb, ne_eqb}
use Rattle.text_format.specs.Text.{bytes, begins, begins_with_names}
use Rattle.text_names.specs.Words.{word}
use Rattle.text_names.proofs.Names.{one, two, six, from, names-words, names-short}
use Rattle.text_names.proofs.begins_with_names.Goals as goal

-- the text is long enough: two tests and the six bytes are left
by_tests : (text : List ℕ) → 22 ≤ length text → ((i : ℕ) → get_or text i 0 < 256) → (s t : Bool) → eqb (word (take 8 text)) (word one) ≡ s → eqb (word (take 8 (from 8 text))) (word two) ≡ t
    → (s && (t && begins six (from 16 text))) ≡ begins_with_names text
by_tests text long are s t e f = sym (names-words text are long ∙ (λ j. e j && (f j && begins six (from 16 text))))

pub returns-then-text-lt-LENGTH : goal.returns-then-text-lt-LENGTH
returns-then-text-lt-LENGTH c = sym (names-short c.args.text.now (omega arith))

pub returns-then-first_word-ne-PART_ITE : goal.returns-then-first_word-ne-PART_ITE
unfolding bytes
returns-then-first_word-ne-PART_ITE c =
    by_tests c.args.text.now (omega arith) (search rules) false _ (ne_eqb _ _ (λ w. c.if-first_word-ne-PART_ITE.true (c.first_word.ensures ∙ w))) refl

pub returns-then-first_word-ne-M_PLACE : goal.returns-then-first_word-ne-M_PLACE
unfolding bytes
returns-then-first_word-ne-M_PLACE c =
    by_tests c.args.text.now (omega arith) (search rules) true false (eq-eqb _ _ (sym c.first_word.ensures ∙ c.if-first_word-ne-PART_ITE.false))
    (ne_eqb _ _ (λ w. c.if-first_word-ne-M_PLACE.true (c.first_word-2.ensures ∙ w)))

pub returns : goal.returns
unfolding bytes
returns c =
    c.begins.ensures
    ∙ by_tests c.args.text.now (omega arith) (search rules) true true (eq-eqb _ _ (sym c.first_word.ensures ∙ c.if-first_word-ne-PART_ITE.false))
    (eq-eqb _ _ (sym c.first_word-2.ensures ∙ c.if-first_word-ne-M_PLACE.false))
