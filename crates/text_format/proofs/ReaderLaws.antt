-- Laws about the refusals of reader and writer: texts that are too long, and a first look beside the whole reading.
use mathlib.Core.Path.{◌≡◌, sym, ◌∙◌, ap}
use mathlib.Core.Bool.{Bool}
use mathlib.Core.List.{List}
use Prim.Native.Nat.{ℕ, suc, ◌<◌}
use lib.ListN.{length}
use borrow.Author.Tests.{lt-leb}
use Rattle.protocol.specs.declared.Parts.{Parts}
use Rattle.protocol.specs.Basic.{first, unless}
use Rattle.text_format.specs.Text.{Tables, text_limit, look_refusal, loaded, look_answer, text_refusal, read_refusal, read_answer, output_refusal}
use Rattle.protocol.proofs.Tests.{first_zero}

-- whatever stands in it
pub too_long_to-read : (text : List ℕ) → text_limit < length text → look_refusal text ≡ 1
unfolding look_refusal first unless
too_long_to-read text h = rw (lt-leb (length text) text_limit h)

-- however long the output slice is
pub too_long_to-write : (text : List ℕ) (room : ℕ) → text_limit < length text → output_refusal text room ≡ 1
unfolding output_refusal first unless
too_long_to-write text room h = rw (lt-leb (length text) text_limit h)

-- what a first look refuses, the reader refuses by the same number
pub look-refuses : (P : Parts) (lent : Bool) (text : List ℕ) (n : ℕ) → look_refusal text ≡ suc n → text_refusal P lent text ≡ suc n
unfolding text_refusal first
look-refuses P lent text n h = rw h

-- what the reader takes, a first look takes with the same settings
pub look-agrees : (P : Parts) (text : List ℕ) (t : Tables) → read_refusal P text t ≡ 0 → look_answer text ≡ read_answer P text t
unfolding look_answer read_answer read_refusal text_refusal
look-agrees P text t h = ap (λ (n : ℕ). loaded n text) ((first_zero _ _ h).0 ∙ sym h)
