-- There is room for the tables of every text whose settings are allowed, and that has the lines that they ask for.
--
--   rooms          what goes by the settings alone
--   rounds_few     where a text has lines for a key, there is room for the round polynomials of its opening
use mathlib.Core.Path.{◌≡◌}
use Prim.Native.Nat.{◌*◌, ◌^◌, ◌≤◌}
use native.Mathlib.Nat as Nat
use native.Mathlib.Omega.{arith}
use native.Mathlib.Decide.{dec_lt}
use lib.Pow as Pow
use Rattle.protocol.specs.declared.Settings.{Settings}
use Rattle.protocol.specs.Layout.{width, rows_most, rows_width, slots, size, key_cells, item_cells, round_items, round_cells}
use Rattle.protocol.specs.Settings.{settings_refusal}
use Rattle.protocol.proofs.Inputs.{settings-valid}
use Rattle.sizes.proofs.Limits.{degree_most}
use Rattle.text_parts.specs.Parts.{cells_room}

pub record Rooms (S : Settings) : Type 0 where
  pub element : S.degree ≤ width
  pub item : item_cells S ≤ rows_width
  pub challenges : S.depth ≤ slots

module _ (S : Settings) (ok : settings_refusal S ≡ 0) where
  pub rooms : Rooms S
  rooms =
      let valid = settings-valid S ok in
      record {
        element = degree_most S valid;
        item = Nat.mul-le-mul valid.rows_most_holds (degree_most S valid);
        challenges = valid.depth_most;
      }

  -- up to depth 4 they are few, and from depth 5 on they are fewer than the numbers of the key
  pub rounds_few : key_cells S ≤ cells_room → round_cells S ≤ cells_room
  unfolding size
  rounds_few few =
      let valid = settings-valid S ok in
      elim (dec_lt S.depth 5) [
        | yes h ↦
            let items : round_items S ≤ 12 = omega arith in
            let most : round_cells S ≤ rows_most * 12 * width = Nat.mul-le-mul (Nat.mul-le-mul valid.rows_most_holds items) (degree_most S valid) in
            omega arith
        | no h ↦
            let fewer : round_items S ≤ 2 ^ S.depth = omega (arith, valid.depth_most, Pow.pow_mono {i = 5} {j = S.depth} (omega arith)) in
            omega (arith, Nat.mul-le-mul_right S.degree (Nat.mul-le-mul_left S.rows fewer))
      ]
