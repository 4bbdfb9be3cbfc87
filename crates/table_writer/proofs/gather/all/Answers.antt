-- Seven lists behind another, one after the other.
use mathlib.Core.List.{flat_map}
use Rattle.std.proofs.Common.{◌≡◌, List, [], ◌∷◌, ◌++◌, ℤ, pos, map, append_assoc, append-nil, map-id, ap, sym, ◌∙◌}
use Rattle.text_parts.specs.Flat.{joined}
use Rattle.table_writer.specs.Tables.{capped, gathered}
use Rattle.table_writer.proofs.gather.all.Goals as goal

one_more : (v before after x : List ℤ) (rest : List (List ℤ)) → after ≡ before ++ x → v ≡ after ++ joined rest → v ≡ before ++ joined (x ∷ rest)
unfolding flat_map
one_more v before after x rest e h = h ∙ ap (λ t. t ++ joined rest) e ∙ append_assoc before x (joined rest)

none_more : (v : List ℤ) → v ≡ v ++ joined []
unfolding flat_map
none_more v = sym (append-nil v)

pub returns : goal.returns
unfolding gathered
returns c =
    let t = c.args.tables.now in
    let v = c.put-7.new.values in
    one_more v c.args.values.now c.put.new.values (map capped t.key.now) _ c.put.ensures
    (one_more v c.put.new.values c.put-2.new.values t.message.now _ (c.put-2.ensures ∙ ap (λ l. c.put.new.values ++ l) (map-id t.message.now))
    (one_more v c.put-2.new.values c.put-3.new.values (map capped t.commitment.now) _ c.put-3.ensures
    (one_more v c.put-3.new.values c.put-4.new.values (map capped t.rounds.now) _ c.put-4.ensures
    (one_more v c.put-4.new.values c.put-5.new.values (map pos t.challenges.now) _ c.put-5.ensures
    (one_more v c.put-5.new.values c.put-6.new.values t.last.now _ (c.put-6.ensures ∙ ap (λ l. c.put-5.new.values ++ l) (map-id t.last.now))
    (one_more v c.put-6.new.values v (map capped t.claims.now) [] c.put-7.ensures (none_more v)))))))
