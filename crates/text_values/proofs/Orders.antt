-- Are the lines of a text the required ones, by what was read of them.
--
--   looked-order, looked-columns   a text whose settings are not refused: the order of its lines and its values, by the lines behind the settings
--   order-..             are these the wanted ones
use mathlib.Core.Path.{◌≡◌, refl, sym, ap, ◌∙◌}
use mathlib.Core.Bool.{Bool, true, false, ◌&&◌, false≢true}
use mathlib.Core.List.{List, [], ◌∷◌, ◌++◌, append-nil}
use mathlib.Core.Option.{Option, none, some, bind, some-injective}
use Prim.Native.Nat.{ℕ, ◌-◌, ◌<◌}
use native.Mathlib.Omega.{arith}
use borrow.Author.Tests.{eqb-true, eq-eqb}
use lib.Dec.{eqb}
use lib.ListN.{length, take, length-append, length-map}
use lib.Seq.{take_all}
use lib.IntN.{ℤ}
use Rattle.protocol.specs.declared.Settings.{Settings}
use Rattle.protocol.specs.declared.Parts.{Parts}
use Rattle.text_format.specs.Text.{Spot, Line, wanted, read_line, lines_of, same_spots, spots_of, values_of, settings_in}
use Rattle.protocol.proofs.Tests.{same_test}
use Rattle.text_format.specs.Lines.{read_values, all_lines, settings_of}
use Rattle.text_values.specs.Parts.{part_spots}
use Rattle.text_values.specs.Stored.{columns_in, in_order}
use Rattle.text_lines.proofs.Counts.{suffix-length}
use Rattle.text_lines.proofs.Rows.{all_end, all_next, all_none}
use Rattle.text_lines.proofs.Values.{same_spot_lem}
use Rattle.text_lines.proofs.Follow.{same_spots-self, spots_same, lines_before, values-lines, values-elsewhere}
use Rattle.text_lines.proofs.Looks.{settings_spots, spots-append, settled_lines, settled-settings}
use Rattle.text_lines.proofs.Looked.{Looked}
use Rattle.text_values.proofs.Wants.{wanted_is}
use Rattle.text_values.proofs.Columns.{columns-behind}

-- ---- the same spots

same_spots-behind : (a ss tt : List Spot) → same_spots (a ++ ss) (a ++ tt) ≡ same_spots ss tt
unfolding same_spots
same_spots-behind [] ss tt = refl
same_spots-behind (s ∷ a) ss tt = ap (λ b. b && same_spots (a ++ ss) (a ++ tt)) (same_spot_lem s s refl refl refl) ∙ same_spots-behind a ss tt

-- ---- a text whose settings are not refused

module _ (text : List ℕ) (P : Parts) (l : Looked text) where
  abbrev S : Settings
  S = settings_of l.values

  looked-settings : settings_in (lines_of text) ≡ S
  looked-settings = settled-settings text l.values l.rest l.begins l.more l.more_is

  looked-lines : lines_of text ≡ l.begins.front ++ l.more
  looked-lines = settled_lines text l.values l.rest l.begins l.more l.more_is

  pub looked-order : in_order P text ≡ same_spots (spots_of l.more) (part_spots S P)
  unfolding in_order
  looked-order =
      (λ j. same_spots (spots_of (looked-lines j)) (wanted (looked-settings j) P))
      ∙ (λ j. same_spots ((spots-append l.begins.front l.more ∙ ap (λ ss. ss ++ spots_of l.more) l.begins.spots_are) j) (wanted_is S P j))
      ∙ same_spots-behind settings_spots (spots_of l.more) (part_spots S P)

  pub looked-columns : spots_of l.more ≡ part_spots S P → columns_in (lines_of text) ≡ values_of l.more
  looked-columns e = ap columns_in looked-lines ∙ columns-behind l.begins.front l.more l.begins.spots_are S P e

-- ---- are the lines the wanted ones

module _ (ss : List Spot) (bs : List ℕ) (more : List Line) (f : all_lines bs ≡ some more) where
  pub order-missed : read_values ss bs ≡ none → same_spots (spots_of more) ss ≡ false
  order-missed e = by (same_spots (spots_of more) ss) refl
    where
      by : (b : Bool) → same_spots (spots_of more) ss ≡ b → same_spots (spots_of more) ss ≡ false
      by false t = t
      by true t =
          let same = spots_same (spots_of more) ss t in
          let whole : take (length ss) (spots_of more) ≡ ss = ap (take (length ss)) same ∙ take_all (length ss) ss (omega arith) in
          absurd (false≢true (sym (values-elsewhere ss bs more e f) ∙ ap (λ x. same_spots x ss) whole ∙ same_spots-self ss))

  -- behind the lines that were read
  lines_of_lem : (front : List Line) (o : Option (List Line)) → some more ≡ lines_before front o → (behind : List Line) × (o ≡ some behind) × (more ≡ front ++ behind)
  unfolding lines_before
  lines_of_lem front none e = let z : ◌≡◌ {A = ℕ} 0 1 = cc in absurd (omega arith)
  lines_of_lem front (some behind) e = (behind, refl, some-injective more (front ++ behind) e)

  some-lines : (b : ℕ) (cs : List ℕ) (ls : List Line) → all_lines (b ∷ cs) ≡ some ls → 0 < length ls
  unfolding bind
  some-lines b cs ls e = by_line (read_line (b ∷ cs)) refl
    where
      by_rest : (l : Line) (o : Option (List Line)) → bind o (λ ms. some (l ∷ ms)) ≡ some ls → 0 < length ls
      by_rest l none h = let z : ◌≡◌ {A = ℕ} 0 1 = cc in absurd (omega arith)
      by_rest l (some ms) h = omega (arith, ap length (some-injective (l ∷ ms) ls h))

      by_line : (o : Option (Line × List ℕ)) → read_line (b ∷ cs) ≡ o → 0 < length ls
      by_line none h = let z : ◌≡◌ {A = ℕ} 0 1 = cc (all_none (b ∷ cs) (omega arith) h) in absurd (omega arith)
      by_line (some (l, rest)) h = by_rest l (all_lines rest) (sym (all_next (b ∷ cs) l rest h) ∙ e)

  module _ (vs : List ℤ) (end : List ℕ) (e : read_values ss bs ≡ some (vs, end)) where
    -- nothing stands behind them
    ended : length end ≡ 0 → (spots_of more ≡ ss) × (values_of more ≡ vs)
    ended h =
        let k = values-lines ss bs vs end e in
        let (behind, p, q) = lines_of_lem k.lines (all_lines end) (sym f ∙ k.all_are) in
        let nothing : behind ≡ [] = by_end end h behind p in
        let same : more ≡ k.lines = q ∙ ap (λ ms. k.lines ++ ms) nothing ∙ append-nil k.lines in
        (ap spots_of same ∙ k.spots_are, ap values_of same ∙ k.values_are)
      where
        by_end : (end : List ℕ) → length end ≡ 0 → (behind : List Line) → all_lines end ≡ some behind → behind ≡ []
        by_end [] h behind p = some-injective behind [] (sym p ∙ all_end)
        by_end (b ∷ cs) h behind p = absurd (omega arith)

    pub order-values : length end ≡ 0 → values_of more ≡ vs
    order-values h = (ended h).1

    pub order-spots : length end ≡ 0 → spots_of more ≡ ss
    order-spots h = (ended h).0

    -- other lines do
    crowded : same_spots (spots_of more) ss ≡ true → length end ≡ 0
    unfolding spots_of
    crowded t =
        let k = values-lines ss bs vs end e in
        let (behind, p, q) = lines_of_lem k.lines (all_lines end) (sym f ∙ k.all_are) in
        by_end end behind p (omega (
          arith,
          ap length (spots_same (spots_of more) ss t),
          ap length k.spots_are,
          ap length q,
          length-append k.lines behind,
          length-map more (λ m. m.spot),
          length-map k.lines (λ m. m.spot),
        ))
      where
        by_end : (end : List ℕ) (behind : List Line) → all_lines end ≡ some behind → length behind ≡ 0 → length end ≡ 0
        by_end [] behind p h = refl
        by_end (b ∷ cs) behind p h = absurd (omega (arith, some-lines b cs behind p))

    pub order-found : (n m : ℕ) → length bs < m → n ≡ m - length end → eqb n m ≡ same_spots (spots_of more) ss
    order-found n m h g = same_test (λ t. order_same (eqb-true n m t)) (λ t. eq-eqb n m (omega (arith, crowded t)))
      where
        order_same : n ≡ m → same_spots (spots_of more) ss ≡ true
        order_same p =
            let none_left : length end ≡ 0 = omega (arith, suffix-length (values-lines ss bs vs end e).ends) in
            ap (λ x. same_spots x ss) (order-spots none_left) ∙ same_spots-self ss
