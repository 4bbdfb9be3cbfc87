-- Laws about lines as text: lines that are written are read back, and what is read is the text of the lines it gives.
-- So a text of the stated shape and its list of lines determine each other.
use mathlib.Core.Path.{◌≡◌, refl, sym, ◌∙◌, ap, subst}
use mathlib.Core.Bool.{Bool, true, false, and-eq-true_iff, true≢false}
use mathlib.Core.List.{List, [], ◌∷◌, ◌++◌, append_assoc, flat_map}
use mathlib.Core.Option.{Option, none, some, bind, bind-eq-some_iff, none-ne-some}
use Prim.Native.Nat.{ℕ, zero, suc, ◌<◌, ◌≤◌}
use native.Mathlib.Omega.{arith}
use lib.Dec.{eqb}
use lib.ListN.{length, drop, length-append}
use lib.Seq.{drop-append_seam}
use lib.IntN.{nat_abs}
use borrow.Author.Tests.{eqb-true, eq-eqb}
use Rattle.protocol.specs.Basic.{among, choose}
use Rattle.text_format.specs.Text.{Line, value_limit, narrow_limit, limit_of, bytes, names, decimal, numeral, line_text, lines_text, keep, digit, digit_first, proper_digits}
use Rattle.text_format.specs.Text.{read_count, read_number, byte, read_index, read_line, read_lines, begins, begins_with_names, parsed, lines_of}
use Rattle.text_format.proofs.NumeralLaws.{keep_some, read_count-decimal, read_number-numeral, read_count_text, read_number_text}

-- ---- Limits

pub narrow-few : narrow_limit ≤ value_limit
unfolding narrow_limit value_limit
narrow-few = omega arith

-- between the two limits, whatever the part
either-limit : (t : Bool) → (narrow_limit ≤ choose t narrow_limit value_limit) × (choose t narrow_limit value_limit ≤ value_limit)
unfolding choose
either-limit true = (omega arith, narrow-few)
either-limit false = (narrow-few, omega arith)

pub limit-wide : (part : ℕ) → narrow_limit ≤ limit_of part
unfolding limit_of
limit-wide part = (either-limit (among part _)).0

pub limit-few : (part : ℕ) → limit_of part ≤ value_limit
unfolding limit_of
limit-few part = (either-limit (among part _)).1

-- every number of a line is within its limit of magnitude
pub record Limited (l : Line) : Type 0 where
  pub part : l.spot.part ≤ narrow_limit
  pub item : l.spot.item ≤ narrow_limit
  pub place : l.spot.place ≤ narrow_limit
  pub value : nat_abs l.value ≤ limit_of l.spot.part

abbrev pub AllLimited : List Line → Type 0
AllLimited [] = Unit {0}
AllLimited (l ∷ ls) = Limited l × AllLimited ls

-- ---- Written, then read

-- the text of a line with what stands behind it, number by number
line_text-append : (l : Line) (rest : List ℕ)
    → line_text l ++ rest
    ≡ decimal l.spot.part ++ (32 ∷ (decimal l.spot.item ++ (32 ∷ (decimal l.spot.place ++ (32 ∷ (numeral l.value ++ (10 ∷ rest)))))))
unfolding line_text
line_text-append l rest = simp append_assoc

no_digit : (rest : List ℕ) → digit_first (32 ∷ rest) ≡ false
unfolding digit_first digit
no_digit rest = refl

no_digit_feed : (rest : List ℕ) → digit_first (10 ∷ rest) ≡ false
unfolding digit_first digit
no_digit_feed rest = refl

pub read_line-written : (l : Line) (rest : List ℕ) → Limited l → read_line (line_text l ++ rest) ≡ some (l, rest)
unfolding read_line read_index bind byte keep
read_line-written l rest h =
    let t₃ = numeral l.value ++ (10 ∷ rest) in
    let t₂ = decimal l.spot.place ++ (32 ∷ t₃) in
    let t₁ = decimal l.spot.item ++ (32 ∷ t₂) in
    rw (
      line_text-append l rest,
      read_count-decimal narrow_limit l.spot.part (32 ∷ t₁) narrow-few h.part (no_digit t₁),
      read_count-decimal narrow_limit l.spot.item (32 ∷ t₂) narrow-few h.item (no_digit t₂),
      read_count-decimal narrow_limit l.spot.place (32 ∷ t₃) narrow-few h.place (no_digit t₃),
      read_number-numeral (limit_of l.spot.part) l.value (10 ∷ rest) (limit-few l.spot.part) h.value (no_digit_feed rest),
    )

-- a line that is read does not begin at the end of a text
read_line-end : (l : Line) (rest : List ℕ) → read_line [] ≡ some (l, rest) → ⊥
unfolding read_line read_index read_count proper_digits keep bind
read_line-end l rest e = none-ne-some (l, rest) e

read_lines-step : (turns : ℕ) (bs : List ℕ) (l : Line) (rest : List ℕ)
    → read_line bs ≡ some (l, rest) → read_lines (suc turns) bs ≡ bind (read_lines turns rest) (λ ls. some (l ∷ ls))
unfolding read_lines bind
read_lines-step turns [] l rest e = absurd (read_line-end l rest e)
read_lines-step turns (b ∷ bs) l rest e = rw (e, read_lines)

pub line_text-length : (l : Line) → 0 < length (line_text l)
unfolding line_text
line_text-length l = rw length-append (omega arith)

pub read_lines-written : (turns : ℕ) (ls : List Line) → AllLimited ls → length (lines_text ls) < turns → read_lines turns (lines_text ls) ≡ some ls
unfolding lines_text flat_map read_lines bind
read_lines-written zero ls h t = absurd (omega arith)
read_lines-written (suc turns) [] h t = refl
read_lines-written (suc turns) (l ∷ ls) h t =
    let shorter : length (lines_text ls) < turns = omega (arith, length-append (line_text l) (lines_text ls), line_text-length l) in
    read_lines-step turns (line_text l ++ lines_text ls) l (lines_text ls) (read_line-written l (lines_text ls) h.0)
    ∙ rw (read_lines-written turns ls h.1 shorter)

pub lines-append : (ks ls : List Line) → lines_text (ks ++ ls) ≡ lines_text ks ++ lines_text ls
unfolding lines_text flat_map
lines-append [] ls = refl
lines-append (k ∷ ks) ls = ap (λ t. line_text k ++ t) (lines-append ks ls) ∙ sym (append_assoc (line_text k) (lines_text ks) (lines_text ls))

pub begins-append : (cs bs : List ℕ) → begins cs (cs ++ bs) ≡ true
unfolding begins
begins-append [] bs = refl
begins-append (c ∷ cs) bs = rw (eq-eqb c c refl, begins-append cs bs)

pub begins-split : (cs bs : List ℕ) → begins cs bs ≡ true → bs ≡ cs ++ drop (length cs) bs
unfolding begins
begins-split [] bs h = refl
begins-split (c ∷ cs) [] h = absurd (true≢false (sym h))
begins-split (c ∷ cs) (b ∷ bs) h =
    let (same, more) = (and-eq-true_iff (eqb b c) (begins cs bs)).0 h in
    ap (λ (x : ℕ). x ∷ bs) (eqb-true b c same) ∙ ap (λ (l : List ℕ). c ∷ l) (begins-split cs bs more)

-- a text that begins with the names line is parsed line by line
parsed-names : (text : List ℕ) → begins_with_names text ≡ true → parsed text ≡ read_lines (length text) (drop (length names) text)
unfolding parsed
parsed-names text h = rw (h, parsed)

parsed_other : (text : List ℕ) → begins_with_names text ≡ false → parsed text ≡ none
unfolding parsed
parsed_other text h = rw (h, parsed)

names-length : 0 < length names
unfolding names bytes
names-length = omega arith

pub parsed-written : (ls : List Line) → AllLimited ls → parsed (names ++ lines_text ls) ≡ some ls
unfolding begins_with_names
parsed-written ls h =
    let text = names ++ lines_text ls in
    parsed-names text (begins-append names (lines_text ls))
    ∙ ap (read_lines (length text)) (drop-append_seam names (lines_text ls))
    ∙ read_lines-written (length text) ls h (omega (arith, length-append names (lines_text ls), names-length))

pub lines_of-written : (ls : List Line) → AllLimited ls → lines_of (names ++ lines_text ls) ≡ ls
unfolding lines_of
lines_of-written ls h = rw (parsed-written ls h)

-- ---- Read, then written

byte-text : (c : ℕ) (bs rest : List ℕ) → byte c bs ≡ some rest → bs ≡ c ∷ rest
unfolding byte
byte-text c [] rest e = absurd (none-ne-some rest e)
byte-text c (b ∷ bs) rest e =
    let (same, more) = keep_some (eqb b c) bs rest e in
    ap (λ (x : ℕ). x ∷ bs) (eqb-true b c same) ∙ ap (λ (l : List ℕ). c ∷ l) more

-- what was read first, and what followed
bind-some {ℓ₁ ℓ₂ ℓ₃} : {A : Type ℓ₁} {B : Type ℓ₂} {C : Type ℓ₃} (o : Option A) (f : A → Option B) {x : B}
    → bind o f ≡ some x → ((a : A) → o ≡ some a → f a ≡ some x → C) → C
bind-some o f e k = let (a, p, q) = (bind-eq-some_iff o f).0 e in k a p q

pub record Indexed (bs : List ℕ) (n : ℕ) (rest : List ℕ) : Type 0 where
  pub limit : n ≤ narrow_limit
  pub split : bs ≡ decimal n ++ (32 ∷ rest)

pub read_index-text : (bs : List ℕ) (n : ℕ) (rest : List ℕ) → read_index bs ≡ some (n, rest) → Indexed bs n rest
unfolding read_index
read_index-text bs n rest e =
    bind-some (read_count narrow_limit bs) _ e λ r p q.
    bind-some (byte 32 r.1) _ q λ behind u v.
    let c = read_count_text narrow_limit narrow-few bs r.0 r.1 p in
    let same : ◌≡◌ {A = ℕ × List ℕ} (r.0, behind) (n, rest) = cc in
    subst
    (λ (x : ℕ × List ℕ). Indexed bs x.0 x.1)
    same
    (record { limit = c.limit; split = c.split ∙ ap (λ (l : List ℕ). decimal r.0 ++ l) (byte-text 32 r.1 behind u) })

pub record Lined (bs : List ℕ) (l : Line) (rest : List ℕ) : Type 0 where
  pub limited : Limited l
  pub split : bs ≡ line_text l ++ rest

pub read_line-text : (bs : List ℕ) (l : Line) (rest : List ℕ) → read_line bs ≡ some (l, rest) → Lined bs l rest
unfolding read_line
read_line-text bs l rest e =
    bind-some (read_index bs) _ e λ i p₁ q₁.
    bind-some (read_index i.1) _ q₁ λ j p₂ q₂.
    bind-some (read_index j.1) _ q₂ λ k p₃ q₃.
    bind-some (read_number (limit_of i.0) k.1) _ q₃ λ v p₄ q₄.
    bind-some (byte 10 v.1) _ q₄ λ behind p₅ q₅.
    let m : Line = record { spot = record { part = i.0; item = j.0; place = k.0 }; value = v.0 } in
    let part = read_index-text bs i.0 i.1 p₁ in
    let item = read_index-text i.1 j.0 j.1 p₂ in
    let place = read_index-text j.1 k.0 k.1 p₃ in
    let value = read_number_text (limit_of i.0) (limit-few i.0) k.1 v.0 v.1 p₄ in
    let t₃ : k.1 ≡ numeral v.0 ++ (10 ∷ behind) = value.split ∙ ap (λ (t : List ℕ). numeral v.0 ++ t) (byte-text 10 v.1 behind p₅) in
    let t₂ = place.split ∙ ap (λ (t : List ℕ). decimal k.0 ++ (32 ∷ t)) t₃ in
    let t₁ = item.split ∙ ap (λ (t : List ℕ). decimal j.0 ++ (32 ∷ t)) t₂ in
    let t₀ = part.split ∙ ap (λ (t : List ℕ). decimal i.0 ++ (32 ∷ t)) t₁ in
    let same : ◌≡◌ {A = Line × List ℕ} (m, behind) (l, rest) = cc in
    subst
    (λ (x : Line × List ℕ). Lined bs x.0 x.1)
    same
    (record {
      limited = record { part = part.limit; item = item.limit; place = place.limit; value = value.limit };
      split = t₀ ∙ sym (line_text-append m behind);
    })

pub read_lines-text : (turns : ℕ) (bs : List ℕ) (ls : List Line) → read_lines turns bs ≡ some ls → AllLimited ls × (bs ≡ lines_text ls)
unfolding read_lines lines_text flat_map
read_lines-text zero bs ls e = absurd (none-ne-some ls e)
read_lines-text (suc turns) [] [] e = (tt, refl)
read_lines-text (suc turns) [] (l ∷ ls) e = absurd (let x : ◌≡◌ {A = Bool} true false = cc in true≢false x)
read_lines-text (suc turns) (b ∷ bs) ls e =
    bind-some (read_line (b ∷ bs)) _ e λ r p q.
    bind-some (read_lines turns r.1) _ q λ more u v.
    let here = read_line-text (b ∷ bs) r.0 r.1 p in
    let (limited, rest) = read_lines-text turns r.1 more u in
    let same : ◌≡◌ {A = List Line} (r.0 ∷ more) ls = cc in
    subst
    (λ (x : List Line). AllLimited x × (b ∷ bs ≡ lines_text x))
    same
    ((here.limited, limited), here.split ∙ ap (λ (t : List ℕ). line_text r.0 ++ t) rest)

pub parsed-text : (text : List ℕ) (ls : List Line) → parsed text ≡ some ls → AllLimited ls × (text ≡ names ++ lines_text ls)
parsed-text text ls e = go (begins_with_names text) refl
  where
    go : (t : Bool) → begins_with_names text ≡ t → AllLimited ls × (text ≡ names ++ lines_text ls)
    go true h =
        let (limited, rest) = read_lines-text (length text) (drop (length names) text) ls (sym (parsed-names text h) ∙ e) in
        (limited, begins-split names text (unfold begins_with_names in h) ∙ ap (λ (t : List ℕ). names ++ t) rest)
    go false h = absurd (none-ne-some ls (sym (parsed_other text h) ∙ e))
