-- The claim of an item, and what is written for it.
--
--   round-inside, row_inside   an item is of a round and of a row
--   claim-read, claim_is       what the code reads of its round, and that it gives the claim
--   claims-few                 there is room for all claims
--   item-whole                 an item by its round and row
--   written-item               what is written for an item
--   all_written                every item is every round and row
--   table-begun, table_next, table_done
--                              all items one behind the other are the table of claims
use mathlib.Core.Path.{◌≡◌, sym, ap, subst, ◌∙◌}
use mathlib.Core.Bool.{Bool}
use mathlib.Core.List.{List, [], ◌++◌, append-nil}
use Prim.Native.Nat.{ℕ, suc, ◌+◌, ◌*◌, ◌/◌, ◌%◌, ◌<◌, ◌≤◌}
use native.Mathlib.Nat as Nat
use native.Mathlib.Numerals.{add-one}
use native.Mathlib.Omega.{arith}
use lib.Dec.{eqb}
use lib.ListN.{length, get_or, drop_of_length-le}
use Rattle.protocol.specs.declared.Settings.{Settings}
use Rattle.protocol.specs.Basic.{every, tabulate, flat}
use Rattle.protocol.specs.Layout.{width, item_of, round_items, claim_items, claim_cells}
use Rattle.protocol.specs.Nodes.{Alike}
use Rattle.protocol.specs.Settings.{settings_refusal}
use Rattle.protocol.specs.Transcript.{next_claim, element, claim_after}
use Rattle.protocol.specs.Rows.{row_of}
use Rattle.protocol.specs.WrittenClaims.{claim_of, claim_table, claim_written, claims_written}
use Rattle.protocol.proofs.Agreement.{every_ext}
use Rattle.protocol.proofs.Inputs.{settings-valid}
use Rattle.protocol.proofs.Reading.{cell-element, cell-place}
use Rattle.protocol.proofs.Rows.{item-inside, item_row, item-index}
use Rattle.protocol.proofs.Tests.{same_test, every_at, every-intro}
use Rattle.residues.specs.Lists.{filled, spliced}
use Rattle.residues.proofs.Fill.{filled_none}
use Rattle.residues.proofs.Splice.{spliced-twice}
use Rattle.sizes.proofs.Limits.{degree_least, degree_most}
use Rattle.equations.specs.Given.{ClaimRead}
use Rattle.equations.specs.Items.{row_start, row_element, row_table}
use Rattle.equations.proofs.Items.{row_table_lem}
use Rattle.equations.proofs.Polynomials.{part}
use Rattle.transcripts.specs.Given.{whole, RoundsGiven}
use Rattle.transcripts.proofs.Replaying as replayed
use Rattle.transcripts.proofs.RowParts.{row_long, row_below}
use Rattle.claim_tables.specs.Claims.{claimed, item_claim, claims_room, Given}

module _ (S : Settings) (allowed : settings_refusal S ≡ 0) where
  open S use {degree as d, depth as L, rows as rows}

  some_rows : 0 < rows
  some_rows = omega (arith, (settings-valid S allowed).rows_least)

  pub some-places : 0 < d
  some-places = omega (arith, degree_least S (settings-valid S allowed))

  -- there is room for all
  pub claims-few : claim_cells S ≤ claims_room
  claims-few = let v = settings-valid S allowed in Nat.mul-le-mul (Nat.mul-le-mul v.rows_most_holds v.depth_most) (degree_most S v)

  module _ (i : ℕ) (h : i < claim_items S) where
    pub round-inside : i / rows < L
    round-inside = (Nat.div-lt_iff_lt-mul some_rows).1 (omega (arith, Nat.mul_comm rows L))

    pub row_inside : i % rows < rows
    row_inside = Nat.mod-lt i some_rows

  -- an item by its round and row
  pub item-whole : (i : ℕ) → rows * (i / rows) + i % rows ≡ i
  item-whole i = omega (arith, Nat.mul_comm rows (i / rows), Nat.div-add-mod' i rows)

  -- every item is every round and row
  pub all_items : (f : ℕ → ℕ → Bool) → every (claim_items S) (λ i. f (i / rows) (i % rows)) ≡ every L (λ t. every rows (f t))
  all_items f = same_test
      (λ e. every-intro λ t ht. every-intro λ r hr.
      (λ z. f (sym (item-index rows t r hr) z) (sym (item_row rows t r hr) z)) ∙ every_at (claim_items S) (λ i. f (i / rows) (i % rows)) e (rows * t + r) (item-inside rows L t r ht hr))
      (λ e. every-intro λ i hi. every_at rows (f (i / rows)) (every_at L (λ t. every rows (f t)) e (i / rows) (round-inside i hi)) (i % rows) (row_inside i hi))

-- ---- the claim of an item

module _ (S : Settings) (rounds E : List ℕ) (g : Given S rounds) (i : ℕ) (h : i < claim_items S) where
  open S use {degree as d, depth as L, rows as rows}

  abbrev t : ℕ
  t = i / rows

  -- what the code reads begins where the row does
  module _ (at : ℕ) (begins : at ≡ row_start S (length rounds) (i % rows)) where
    pub claim-read : (x : ℕ) → width ≤ x → ClaimRead S t x (part at rounds)
    claim-read x room = subst (λ p. ClaimRead S t x (part p rounds)) (sym begins) (replayed.claim-read S _ x x given (λ _. x) t (round-inside S g.allowed i h))
      where
        given : RoundsGiven S (part (row_start S (length rounds) (i % rows)) rounds) x
        given = record {
          allowed = g.allowed;
          rounds_long = row_long S rounds E [] (i % rows) (row_inside S g.allowed i h) g.rounds_below.long;
          rounds_below = row_below S rounds E [] (i % rows) (row_inside S g.allowed i h) g.allowed g.rounds_below;
          claim_long = omega (arith, degree_most S (settings-valid S g.allowed));
        }

    pub claim_is : {e : ℕ} → e ≡ get_or E t 0 → (claim : List ℕ)
        → Alike d claim (next_claim S e (row_element S (part at rounds) (item_of t 0)) (row_element S (part at rounds) (item_of t 1)) (row_element S (part at rounds) (item_of t 2)))
        → Alike d claim (item_claim S rounds E i)
    unfolding item_claim claim_of claim_after element row_of
    claim_is is claim s k m =
        replayed.claim-goes-on S [] (part at rounds) E t (round-inside S g.allowed i h) is claim s k m
        ∙ ap (λ n. get_or (claim_after S (whole [] (row_table S (round_items S) (part at rounds)) E) n) k 0) (add-one t)
        ∙ ap (λ R. get_or (claim_after S (whole [] R E) (suc t)) k 0)
        (ap (λ p. row_table S (round_items S) (part p rounds)) begins ∙ row_table_lem S rounds (i % rows) (round_items S) (some-places S g.allowed))

  -- what is written for it
  pub written-item : (claims claim : List ℕ) → Alike d claim (item_claim S rounds E i)
      → every d (λ k. eqb (get_or claims (i * d + k) 0) (get_or claim k 0)) ≡ claim_written S (claimed rounds E) claims t (i % rows)
  unfolding claim_written item_claim
  written-item claims claim s = every_ext d λ k m. λ z. eqb (get_or claims (sym (item-whole S g.allowed i) z * d + k) 0) (s k m z)

-- ---- all of them

module _ (S : Settings) (rounds E : List ℕ) (g : Given S rounds) where
  open S use {degree as d, rows as rows}

  pub all_written : (claims : List ℕ) → every (claim_items S) (λ i. claim_written S (claimed rounds E) claims (i / rows) (i % rows)) ≡ claims_written S (claimed rounds E) claims
  unfolding claims_written
  all_written claims = all_items S g.allowed (claim_written S (claimed rounds E) claims)

-- ---- the table: the items before item i stand in it, and the next one is written behind them

module _ (S : Settings) (rounds E : List ℕ) where
  open S use {degree as d}

  unfoldable pub places : ℕ → ℕ
  places p = get_or (item_claim S rounds E (p / d)) (p % d) 0

  pub table_next : (i : ℕ) (l s claim : List ℕ) → i * d + d ≤ length l → s ≡ filled places (i * d) l → Alike d claim (item_claim S rounds E i)
      → spliced (λ k. get_or claim k 0) (i * d) d s ≡ filled places ((i + 1) * d) l
  unfolding filled spliced places
  table_next i l s claim room is same =
      (λ z. spliced (λ k. get_or claim k 0) (sym (Nat.zero-add (i * d)) z) d (is z))
      ∙ spliced-twice places (λ k. get_or claim k 0) 0 (i * d) d l (omega arith) (λ k h. same k h ∙ λ z. get_or (item_claim S rounds E (sym (cell-element d i k h) z)) (sym (cell-place d i k h) z) 0)
      ∙ ap (λ n. filled places n l) {x = i * d + d} {y = (i + 1) * d} (omega (arith, Nat.add-mul i 1 d))

  pub table-begun : (l : List ℕ) → l ≡ filled places (0 * d) l
  table-begun l = filled_none places l ∙ ap (λ n. filled places n l) (sym (Nat.zero-mul d))

  pub table_done : (l s : List ℕ) → length l ≡ claim_cells S → s ≡ filled places (claim_items S * d) l → s ≡ claim_table S (claimed rounds E)
  unfolding filled places claim_table flat item_claim
  table_done l s e is = is ∙ ap (λ x. tabulate (claim_items S * d) (λ p. places p) ++ x) (drop_of_length-le l {i = claim_items S * d} (omega (arith, e))) ∙ append-nil _
