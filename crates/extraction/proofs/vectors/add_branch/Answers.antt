-- The share of the child whose challenges are read.
use Rattle.std.proofs.Common.{◌≡◌, ap, ◌∙◌, List, ℕ, ◌+◌, ◌*◌, ◌-◌, ℤ, length, take, drop, arith}
use borrow.Rule.Slice.PartMut.{put_mid}
use Rattle.protocol.specs.Tree.{challenge, mu}
use Rattle.residues.proofs.Parts.{tail_all}
use Rattle.extraction.specs.Vectors.{with_share, other, another, Branching, branch_added}
use Rattle.extraction.proofs.Splicing.{drop-put-end}
use Rattle.extraction.proofs.vectors.add_branch.Goals as goal

module _ (d n k j x y : ℕ) (E : List ℕ) (ws : List ℤ) (B : Branching d n k j x y E ws) {a b c : ℕ}
    (is-a : a ≡ challenge E k j) (is_b : b ≡ challenge E k x) (is_c : c ≡ challenge E k y) where
  added : (q : List ℤ)
      → drop (n * d) q ≡ with_share d n a (mu d a b c) (take (n * d) (take (length ws - n * d) (drop (n * d) ws))) (drop (n * d) (take (length ws - n * d) (drop (n * d) ws)))
      → drop (2 * (n * d)) (put_mid (n * d) (length ws - n * d) ws q) ≡ branch_added d n k j x y E ws
  unfolding branch_added
  added q e =
      let two : 2 * (n * d) ≡ n * d + n * d = omega arith in
      ap (λ z. drop z (put_mid (n * d) (length ws - n * d) ws q)) two
      ∙ drop-put-end (n * d) (n * d) ws q (omega (arith, B.long))
      ∙ e
      ∙ λ i. with_share d n (is-a i) (mu d (is-a i) (is_b i) (is_c i)) (take (n * d) (tail_all (n * d) ws i)) (drop (n * d) (tail_all (n * d) ws i))

pub returns : goal.returns
returns c =
    let a = c.args in
    let is_b : c.challenge_of-b.result ≡ challenge a.challenges.now a.k (other a.j) = c.challenge_of-b.ensures ∙ ap (challenge a.challenges.now a.k) c.others-x.ensures.0 in
    let is_c : c.challenge_of-c.result ≡ challenge a.challenges.now a.k (another a.j) = c.challenge_of-c.ensures ∙ ap (challenge a.challenges.now a.k) c.others-x.ensures.1 in
    added a.d a.n a.k a.j (other a.j) (another a.j) a.challenges.now a.ws.now c.requires.1
    c.challenge_of-a.ensures is_b is_c _ c.add_share.ensures
