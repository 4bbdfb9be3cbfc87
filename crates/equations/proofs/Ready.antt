-- What refusals 3 to 6 and 16 leave of the settings, as bounds.
use mathlib.Core.Path.{◌≡◌}
use Prim.Native.Nat.{◌%◌, ◌≤◌}
use Rattle.protocol.specs.declared.Settings.{Settings}
use Rattle.protocol.specs.Layout.{width}
use Rattle.protocol.specs.Settings.{settings_refusal, modulus_most}
use Rattle.protocol.proofs.Inputs.{settings-valid}
use Rattle.sizes.proofs.Limits as Limits

pub record Ready (S : Settings) : Type 0 where
  pub degree_least : 2 ≤ S.degree
  pub degree_most : S.degree ≤ width
  pub depth_most : S.depth ≤ 8
  pub modulus_odd : S.modulus % 2 ≡ 1
  pub modulus_least : 3 ≤ S.modulus
  pub modulus_most_holds : S.modulus ≤ modulus_most
  pub bound_most : S.bound ≤ 127

pub ready : (S : Settings) → settings_refusal S ≡ 0 → Ready S
ready S e =
    let ok = settings-valid S e in
    record {
      degree_least = Limits.degree_least S ok;
      degree_most = Limits.degree_most S ok;
      depth_most = ok.depth_most;
      modulus_odd = ok.modulus_odd;
      modulus_least = ok.modulus_least;
      modulus_most_holds = ok.modulus_most_holds;
      bound_most = ok.bound_most;
    }
