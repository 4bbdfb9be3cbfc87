-- A read puts its bytes behind those before it, and takes them from what the reader had left.
--
--   read_on   the first a bytes of a list, and n that a read gives and that are put behind them, are taken from the reader one after the other
use Rattle.std.proofs.Common.{◌≡◌, ℕ, ◌+◌, ◌≤◌, List, ◌++◌, length, take, drop, sym, ap, ◌∙◌, subst, le_refl, drop_at, length-take-le}
use Rattle.std.proofs.lemmas.Slice.{take-put_mid_below}
use Rattle.std.specs.Io.KnownBytes.{Consumes}
use Rattle.std.proofs.KnownBytes.{Consumes-trans}
use Rattle.std.specs.Prelude.{Option}
use borrow.Rule.Slice.PartMut.{put_mid, post_of}
use lib.Seq.{take-add, take-append-le}

take_put_mid_more : (a k n : ℕ) (xs ys : List ℕ) → a ≤ length xs → n ≤ length ys → take (a + n) (put_mid a k xs ys) ≡ take a xs ++ take n ys
take_put_mid_more a k n xs ys within fits =
    let behind = post_of a k xs in
    let front = take-put_mid_below a k xs ys a (le_refl a) within in
    let rest = ap (take n) (drop_at (take a xs) (ys ++ behind) a (length-take-le a xs within)) ∙ take-append-le n ys behind fits in
    take-add a n (put_mid a k xs ys) ∙ ap (λ l. l ++ take n (drop a (put_mid a k xs ys))) front ∙ ap (λ l. take a xs ++ l) rest

module _ (before between after : Option (List ℕ)) (a k n : ℕ) (xs ys : List ℕ) (within : a ≤ length xs) (fits : n ≤ length ys) where
  pub read_on : Consumes before between (take a xs) → Consumes between after (take n ys) → Consumes before after (take (a + n) (put_mid a k xs ys))
  read_on one two = subst (Consumes before after) (sym (take_put_mid_more a k n xs ys within fits)) (Consumes-trans before between after _ _ one two)
