-- The end by a list that begins with the first element of the folded key, as by the key.
use Rattle.std.proofs.Common.{◌≡◌, ℕ, ◌<◌, List, pos, sym, refl, ap, ◌∙◌, subst, arith}
use Rattle.protocol.specs.declared.Settings.{Settings}
use Rattle.protocol.specs.Element.{Element, residue}
use Rattle.protocol.specs.Opening.{key_after}
use Rattle.protocol.specs.Transcript.{end_met, folded_key}
use Rattle.protocol.proofs.Agreement.{Alike, end_same, first_same}
use Rattle.protocol.proofs.Ranges.{key_residues, below-everywhere}
use Rattle.equations.specs.Given.{ElementReduced}
use Rattle.equations.proofs.Ready.{ready}
use Rattle.folded_keys.specs.Given.{KeyGiven}

-- a list that begins with the first element of the folded key begins with residues
pub front-reduced : (S : Settings) (key E g : List ℕ) → KeyGiven S key E → Alike S.degree g (key_after S E S.depth key) → ElementReduced S g
front-reduced S key E g given s k l =
    let pq : 0 < S.modulus = omega (arith, (ready S given.allowed).modulus_least) in
    subst (λ x. x < S.modulus) (sym (s k l)) (below-everywhere S.modulus _ _ pq (key_residues S pq E S.depth key given.key_below) k)

-- the end by a list that begins with the first element of the folded key, as by the key
pub end_by_front : (S : Settings) (key E claim g : List ℕ) (f : Element) → Alike S.degree g (key_after S E S.depth key) →
    end_met S claim f (residue g) ≡ end_met S claim f (folded_key S key E)
unfolding residue
end_by_front S key E claim g f s = end_same S (λ _ _. refl) (λ k l. ap pos (s k l) ∙ first_same S.degree _ k l) claim claim (λ _ _. refl)
