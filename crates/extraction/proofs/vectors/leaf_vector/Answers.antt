-- The second half is filled to its end.
use Rattle.std.proofs.Common.{◌≡◌, refl, sym, ap, ◌∙◌, List, ◌++◌, ℕ, ◌+◌, ◌*◌, ◌-◌, ◌≤◌, ℤ, length, take, drop, length-drop, arith}
use mathlib.Core.List.{append-nil}
use lib.ListN.{drop_of_length-le}
use native.Mathlib.Nat as Nat
use borrow.Rule.Slice.PartMut.{put_mid}
use Rattle.protocol.specs.Basic.{tabulate}
use Rattle.protocol.specs.Element.{signed, signed_at, coefficients}
use Rattle.protocol.proofs.Reading.{tabulate_ext}
use Rattle.residues.proofs.Fill.{filled}
use Rattle.residues.proofs.Parts.{tail_all, tail-length}
use Rattle.extraction.proofs.Parts.{part-signed}
use Rattle.extraction.proofs.Splicing.{drop-put-end}
use Rattle.extraction.proofs.vectors.leaf_vector.Goals as goal

loaded : (d j : ℕ) (finals ws q : List ℤ) → j * d + d ≤ length finals → length ws ≡ 2 * d
    → q ≡ filled (signed (take (length finals - j * d) (drop (j * d) finals))) (length (take (length ws - d) (drop d ws))) (take (length ws - d) (drop d ws))
    → drop d (put_mid d (length ws - d) ws q) ≡ coefficients d (signed_at d finals j)
unfolding filled coefficients
loaded d j finals ws q inside long e =
    ap (λ x. drop x (put_mid d (length ws - d) ws q)) (sym (Nat.add-zero d))
    ∙ drop-put-end d 0 ws q (omega arith)
    ∙ e
    ∙ ap (λ n. filled (signed (take (length finals - j * d) (drop (j * d) finals))) n (take (length ws - d) (drop d ws))) (let all : length (take (length ws - d) (drop d ws)) ≡ d = tail-length d ws ∙ omega arith in all)
    ∙ (λ i. tabulate d (signed (take (length finals - j * d) (drop (j * d) finals))) ++ drop d (tail_all d ws i))
    ∙ ap (λ r. tabulate d (signed (take (length finals - j * d) (drop (j * d) finals))) ++ r) (drop_of_length-le (drop d ws) {i = d} (omega (arith, length-drop d ws)))
    ∙ append-nil _
    ∙ tabulate_ext d (part-signed (j * d) (length finals - j * d) finals d j refl (omega arith))

pub returns : goal.returns
returns c = loaded c.args.d c.args.j c.args.leaves.now c.args.ws.now _ c.requires.1 c.requires.2 c.load.ensures
