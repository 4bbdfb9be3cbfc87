-- What is lent for the parts of a text.
--
--   Lent P text t         the lent tables have their lengths, where the text has the lines that its settings ask for
use Rattle.std.specs.Prelude.{◌≡◌, true, List, ℕ}
use Rattle.protocol.specs.declared.Parts.{Parts}
use Rattle.text_format.specs.Text.{Tables, wanted, fits, lines_of, spots_of, same_spots, settings_in, look_refusal}

abbrev pub Lent : Parts → List ℕ → Tables → Type 0
Lent P text t =
    let S = settings_in (lines_of text) in
    look_refusal text ≡ 0 → same_spots (spots_of (lines_of text)) (wanted S P) ≡ true → fits S P t ≡ true
