-- The names line as two words of eight bytes and six bytes.
--
--   one, two, six   the three parts of its bytes
--   names-short     a text that is shorter does not begin with it
--   names-words     any other does exactly when its first two words are those of `one` and `two`, and it goes on with `six`
use mathlib.Core.Path.{◌≡◌, sym, ap, subst, ◌∙◌}
use mathlib.Core.Bool.{false, ◌&&◌}
use mathlib.Core.List.{List}
use Prim.Native.Nat.{ℕ, ◌+◌, ◌-◌, ◌≤◌, ◌<◌}
use native.Mathlib.Omega.{arith}
use lib.Dec.{eqb}
use lib.ListN.{length, get_or, take, drop, length-drop}
use lib.Seq.{take_all, drop-drop, get_or-drop}
use Rattle.text_format.specs.Text.{bytes, names, begins, begins_with_names}
use Rattle.text_names.specs.Words.{word}
use Rattle.text_names.proofs.Words.{begins-word, begins-parts, begins-short}

abbrev pub one : List ℕ
one = bytes "part ite"

abbrev pub two : List ℕ
two = bytes "m place "

abbrev pub six : List ℕ
six = bytes "value\n"

-- a text from a place on, as it is lent
abbrev pub from : ℕ → List ℕ → List ℕ
from n text = take (length text - n) (drop n text)

from-drop : (n : ℕ) (text : List ℕ) → from n text ≡ drop n text
from-drop n text = take_all (length text - n) (drop n text) (omega (arith, length-drop n text))

pub names-short : (text : List ℕ) → length text < 22 → begins_with_names text ≡ false
unfolding begins_with_names names bytes
names-short text h = begins-short names text h

module _ (text : List ℕ) (are : (i : ℕ) → get_or text i 0 < 256) (long : 22 ≤ length text) where
  first_part : begins one text ≡ eqb (word (take 8 text)) (word one)
  unfolding bytes
  first_part = begins-word one text (omega (arith, long)) (omega arith) are

  second_part : begins two (drop 8 text) ≡ eqb (word (take 8 (from 8 text))) (word two)
  unfolding bytes
  second_part =
      begins-word two (drop 8 text) (omega (arith, long, length-drop 8 text)) (omega arith)
      (λ i. subst (λ b. b < 256) (sym (get_or-drop 8 text i 0)) (are (8 + i)))
      ∙ ap (λ t. eqb (word (take 8 t)) (word two)) (sym (from-drop 8 text))

  third-part : begins six (drop 8 (drop 8 text)) ≡ begins six (from 16 text)
  third-part = ap (begins six) (drop-drop 8 8 text ∙ sym (from-drop 16 text))

  pub names-words : begins_with_names text
      ≡ (eqb (word (take 8 text)) (word one) && (eqb (word (take 8 (from 8 text))) (word two) && begins six (from 16 text)))
  unfolding begins_with_names names bytes
  names-words =
      begins-parts one (bytes "m place value\n") text
      ∙ ap (λ t. begins one text && t) (begins-parts two six (drop 8 text))
      ∙ (λ j. first_part j && (second_part j && third-part j))
