-- What is known of the tables of a text that `verify` does not refuse.
--
--   Given S t   the settings are allowed, the tables have their lengths, and refusals 8 to 10 do not apply
use Rattle.std.specs.Prelude.{◌≡◌, true}
use Rattle.protocol.specs.declared.Settings.{Settings}
use Rattle.protocol.specs.Settings.{settings_refusal}
use Rattle.text_format.specs.Text.{Tables, fits, entries_refusal}
use Rattle.text_format.specs.Programs.{verify_reads}

pub record Given (S : Settings) (t : Tables) : Type 0 where
  pub settings : settings_refusal S ≡ 0
  pub fitting : fits S verify_reads t ≡ true
  pub entries : entries_refusal S true t ≡ 0
