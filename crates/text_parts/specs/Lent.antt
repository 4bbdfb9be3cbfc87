-- The seven tables behind the code's references.
--
--   tables_read t    the tables that the code reads
--   tables_lent t    the tables that are lent to it to be written, as they are now
--   Kept t t'        t' has the references of t: what is written through t' is in the tables that were lent as t
use Rattle.std.specs.Prelude.{◌≡◌}
use Rattle.text_format.specs.Text.{Tables}
use Rattle.text_parts.specs.Parts.{tables_of}
use Rattle.text_parts.specs.declared.Tables.{Tables as Shared}
use Rattle.text_parts.specs.declared.TablesMut.{TablesMut}

abbrev pub tables_read : Shared → Tables
tables_read t = tables_of t.key.now t.message.now t.commitment.now t.rounds.now t.challenges.now t.last.now t.claims.now

abbrev pub tables_lent : TablesMut → Tables
tables_lent t = tables_of t.key.now t.message.now t.commitment.now t.rounds.now t.challenges.now t.last.now t.claims.now

pub record Kept (t t' : TablesMut) : Type 0 where
  pub key : t'.key.ghost_name ≡ t.key.ghost_name
  pub message : t'.message.ghost_name ≡ t.message.ghost_name
  pub commitment : t'.commitment.ghost_name ≡ t.commitment.ghost_name
  pub rounds : t'.rounds.ghost_name ≡ t.rounds.ghost_name
  pub challenges : t'.challenges.ghost_name ≡ t.challenges.ghost_name
  pub last : t'.last.ghost_name ≡ t.last.ghost_name
  pub claims : t'.claims.ghost_name ≡ t.claims.ghost_name
