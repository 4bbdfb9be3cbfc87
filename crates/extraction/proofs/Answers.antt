-- The extractor's answer: with a refusal, and without one.
use mathlib.Core.Path.{◌≡◌, sym, ap, ◌∙◌, subst}
use mathlib.Core.Bool.{Bool}
use mathlib.Core.List.{List, [], ◌∷◌}
use Prim.Native.Nat.{ℕ, ◌+◌, ◌*◌, ◌/◌, ◌%◌, ◌<◌, ◌≤◌}
use native.Mathlib.Nat as Nat
use lib.IntN.{ℤ, pos, nat_abs}
use lib.ListN.{get_or}
use native.Mathlib.Omega.{arith}
use Rattle.protocol.specs.declared.Settings.{Settings}
use Rattle.protocol.specs.declared.Refusal.{Refusal}
use Rattle.protocol.specs.Refusal.{number}
use Rattle.protocol.specs.Basic.{first, unless}
use Rattle.protocol.specs.Element.{signed_at}
use Rattle.protocol.specs.Settings.{size}
use Rattle.protocol.specs.Layout.{leaves, leaf_cells}
use Rattle.protocol.specs.Tree.{leaf, path, row_path, root_vector, growth_allowed}
use Rattle.protocol.specs.Calls.{every_path, tree_tests, tree_refusal, extract_refusal, extract_exit}
use Rattle.protocol.specs.Promises.{Extracted}
use Rattle.protocol.proofs.Tests.{granted-zero, granted_refused}
use Rattle.protocol.proofs.Refusals.{front-joined, first_stops, first_passes, first_known, first_only}
use Rattle.claims.proofs.Honest.{degree-positive}
use Rattle.claims.proofs.Weights.{signed-coefficients}
use Rattle.refusals.proofs.GivenTree.{number_least, ExtractGiven, extract_given}
use Rattle.extraction.specs.Nodes.{Extractable}

module _ (S : Settings) (C key rounds E : List ℕ) (finals w : List ℤ) where
  -- what is tested before the verifier runs stands at the head of the list; then 13, then 14
  pub tree-joined : extract_refusal S C key rounds E finals w ≡ first (tree_refusal S C key rounds E finals w ∷ unless 13 (every_path S C key rounds E finals) ∷ unless 14 (growth_allowed S) ∷ [])
  unfolding extract_refusal tree_refusal
  tree-joined = front-joined (tree_tests S C key rounds E finals w) _

  -- ---- the promise

  pub refused : (r : Refusal) → number r ≡ extract_refusal S C key rounds E finals w → Extracted S C key rounds E finals w (number r) w
  unfolding extract_exit
  refused r e = record { refusal = e; w_exit = sym (granted_refused _ (root_vector S E finals) w (λ z. omega (arith, number_least r, e, z))) }

  -- with the refusal of what is tested before the verifier runs
  pub refused_early : (r : Refusal) → number r ≡ tree_refusal S C key rounds E finals w → Extracted S C key rounds E finals w (number r) w
  refused_early r e = refused r (sym (tree-joined ∙ first_known _ _ e ∙ first_stops _ _ (λ z. omega (arith, number_least r, z))))

  -- what the verifier says of every path
  module _ (z : tree_refusal S C key rounds E finals w ≡ 0) (p : Bool) (e : p ≡ every_path S C key rounds E finals) where
    late : extract_refusal S C key rounds E finals w ≡ first (unless 13 p ∷ unless 14 (growth_allowed S) ∷ [])
    late = tree-joined ∙ first_passes _ _ z ∙ ap (λ b. first (unless 13 b ∷ unless 14 (growth_allowed S) ∷ [])) (sym e)

    pub refused_branch : (r : Refusal) → number r ≡ unless 13 p → Extracted S C key rounds E finals w (number r) w
    refused_branch r h = refused r (sym (late ∙ first_known _ _ h ∙ first_stops _ _ (λ z. omega (arith, number_least r, z))))

    module _ (h : 0 ≡ unless 13 p) (g : Bool) (f : g ≡ growth_allowed S) where
      last : extract_refusal S C key rounds E finals w ≡ unless 14 g
      last = late ∙ first_passes _ _ (sym h) ∙ first_only _ ∙ ap (unless 14) (sym f)

      pub refused_growth : (r : Refusal) → number r ≡ unless 14 g → Extracted S C key rounds E finals w (number r) w
      refused_growth r k = refused r (k ∙ sym last)

      pub passed : 0 ≡ unless 14 g → extract_refusal S C key rounds E finals w ≡ 0
      passed k = last ∙ sym k

  pub extracted : extract_refusal S C key rounds E finals w ≡ 0 → (v : List ℤ) → v ≡ root_vector S E finals → Extracted S C key rounds E finals w 0 v
  unfolding extract_exit
  extracted z v e = record { refusal = sym z; w_exit = e ∙ sym (granted-zero _ (root_vector S E finals) w z) }

  -- ---- a tree that is not refused can be worked out: every leaf is a final element that the verifier accepted

  pub extractable : extract_refusal S C key rounds E finals w ≡ 0 → Extractable S E finals
  unfolding row_path path leaf signed_at
  extractable z = record {
    valid = g.settings;
    challenges = g.tree.challenges_below;
    different = g.tree.different;
    within = record { long = g.tree.finals_long; each = small };
    limited = g.room;
  }
    where
      g : ExtractGiven S C key rounds E finals w
      g = extract_given S C key rounds E finals w z

      at : (j k : ℕ) → j < leaves S → k < S.degree → nat_abs (get_or finals (j * S.degree + k) (pos 0)) ≤ size S * S.bound
      at j k lj lk =
          subst (λ x. nat_abs x ≤ size S * S.bound) (signed-coefficients S.degree (signed_at S.degree finals j) k lk) ((g.tree.accepted 0 g.settings.rows_least j lj).in_bound k lk)

      small : (i : ℕ) → i < leaf_cells S → nat_abs (get_or finals i (pos 0)) ≤ size S * S.bound
      small i l =
          let p : 0 < S.degree = degree-positive S g.settings in
          subst (λ n. nat_abs (get_or finals n (pos 0)) ≤ size S * S.bound) (Nat.div-add-mod' i S.degree) (at (i / S.degree) (i % S.degree) ((Nat.div-lt_iff_lt-mul p).1 l) (Nat.mod-lt i p))
