-- A write appends the front of what is left of the bytes.
use Rattle.std.proofs.Common.{◌++◌, rules, take, sym, ap, ◌∙◌, subst}
use Rattle.std.proofs.lemmas.List.{take_rest}
use Rattle.std.specs.Io.KnownBytes.{Appends}
use Rattle.std.proofs.KnownBytes.{Appends-trans}
use lib.Seq.{take-add}
use Rattle.streams.proofs.write.Goals as goal

pub loop-done-preserved : goal.loop-done-preserved
loop-done-preserved g c =
    let all = c.args.bytes.now in
    let done = c.loop-done.done in
    let n = c.in_ok-more.more in
    let joined = take-add done n all ∙ ap (λ l. take done all ++ take n l) (sym (take_rest all done)) in
    (search rules, subst (Appends _ _) (sym joined) (Appends-trans _ _ _ _ _ c.loop-done.invariant.1 c.in_ok-more.ensures.bytes))
