-- What the exported calls leave in the slices that they are lent, and what they answer: where a slice beside is refused, where the call is, and where
-- nothing is.
use mathlib.Core.Path.{◌≡◌, refl, sym, ap, ◌∙◌}
use mathlib.Core.Logic.{◌≢◌}
use mathlib.Core.Bool.{Bool, false, ◌&&◌}
use mathlib.Core.List.{List}
use Prim.Native.Nat.{ℕ, zero, suc}
use lib.IntN.{ℤ}
use lib.Dec.{eqb}
use lib.ListN.{length, take}
use Rattle.protocol.specs.declared.Settings.{Settings}
use Rattle.protocol.specs.Answers.{Verdict}
use Rattle.protocol.specs.Answers.Verdict.{Silent}
use Rattle.protocol.specs.Answers.{Opened}
use Rattle.protocol.specs.Basic.{choose, granted}
use Rattle.protocol.specs.Layout.{item_cells}
use Rattle.protocol.specs.Settings.{settings_refusal, has_length}
use Rattle.protocol.specs.Rows.{together}
use Rattle.protocol.specs.Calls as Calls
use Rattle.protocol.specs.Promises.{Opening}
use Rattle.slices.specs.Slices.{lent}
use Rattle.protocol.specs.Session.{verdict_number}
use Rattle.slices.proofs.Lent.{lent_stops, lent_passes, lent_same, kept, kept_by, done}
use Rattle.exports.specs.Border as Border
use Rattle.exports.specs.Promises.{OpeningStored}

-- slices are held against lengths that are worked out, and are right where the settings are allowed
module _ (S : Settings) {n x m : ℕ} (is : settings_refusal S ≡ 0 → x ≡ m) where
  pub counted : (t : List ℕ) → n ≡ lent S (eqb (length t) x) 0 → n ≡ lent S (has_length m t) 0
  unfolding has_length
  counted t e = e ∙ lent_same S _ _ 0 (λ z. ap (eqb (length t)) (is z))

  pub both_counted : (C : List ℕ) (d : ℕ) (f : List ℤ) {fits : Bool} → fits ≡ (eqb (length C) x && eqb (length f) d) → n ≡ lent S fits 0
      → n ≡ lent S (has_length m C && has_length d f) 0
  unfolding has_length
  both_counted C d f b e = e ∙ lent_same S _ _ 0 (λ z. b ∙ ap (λ y. eqb (length C) y && eqb (length f) d) (is z))

-- a refused call leaves y, one that is not leaves x
module _ {ℓ} {A : Type ℓ} (S : Settings) (fits : Bool) (N : ℕ) (x y : A) (n : ℕ) (e : n ≡ lent S fits 0) where
  pub unfit : n ≢ 0 → (n ≡ lent S fits N) × (y ≡ granted (lent S fits N) x y)
  unfit h = (e ∙ lent_stops S fits N (λ z. h (e ∙ z)), kept S fits N x y (λ z. h (e ∙ z)))

  pub refused : n ≡ 0 → (m : ℕ) → m ≡ N → m ≢ 0 → (m ≡ lent S fits N) × (y ≡ granted (lent S fits N) x y)
  refused h m p r = (p ∙ lent_passes S fits N (sym e ∙ h), kept_by S fits N x y (sym e ∙ h) (λ z. r (p ∙ z)))

  pub made : n ≡ 0 → (m : ℕ) → m ≡ N → m ≡ 0 → (y' : A) → y' ≡ x → (0 ≡ lent S fits N) × (y' ≡ granted (lent S fits N) x y)
  made h m p r y' q = (sym r ∙ p ∙ lent_passes S fits N (sym e ∙ h), q ∙ done S fits N x y (sym e ∙ h) (sym p ∙ r))

-- an answer that is granted already
twice {ℓ} : {A : Type ℓ} (N : ℕ) (x y : A) → granted N x y ≡ granted N (granted N x y) y
unfolding granted
twice zero x y = refl
twice (suc N) x y = refl

pub through {ℓ} : {A : Type ℓ} (S : Settings) (fits : Bool) (N : ℕ) (x y : A) (n : ℕ) → n ≡ lent S fits 0 → n ≡ 0
    → granted N x y ≡ granted (lent S fits N) (granted N x y) y
through S fits N x y n e h = twice N x y ∙ ap (λ k. granted k (granted N x y) y) (lent_passes S fits N (sym e ∙ h))

pub says : (S : Settings) (fits : Bool) (N : ℕ) (v : Verdict) (n : ℕ) → n ≡ lent S fits 0 → n ≡ 0
    → verdict_number (granted N v Silent) ≡ granted (lent S fits N) (verdict_number (granted N v Silent)) 0
says S fits N v n e h = silent N ∙ ap (λ k. granted k (verdict_number (granted N v Silent)) 0) (lent_passes S fits N (sym e ∙ h))
  where
    silent : (N : ℕ) → verdict_number (granted N v Silent) ≡ granted N (verdict_number (granted N v Silent)) 0
    silent zero = unfold granted in refl
    silent (suc N) = unfold granted in unfold verdict_number in refl

abbrev bit : Bool → ℕ
bit b = choose b 1 0

pub agrees : (S : Settings) (fits : Bool) (N : ℕ) (b : Bool) (n : ℕ) → n ≡ lent S fits 0 → n ≡ 0 → bit (granted N b false) ≡ granted (lent S fits N) (bit (granted N b false)) 0
agrees S fits N b n e h = no N ∙ ap (λ k. granted k (bit (granted N b false)) 0) (lent_passes S fits N (sym e ∙ h))
  where
    no : (N : ℕ) → bit (granted N b false) ≡ granted N (bit (granted N b false)) 0
    no zero = unfold granted in refl
    no (suc N) = unfold granted in unfold choose in refl

-- ---- the whole opening

module _ (S : Settings) (key : List ℕ) (message : List ℤ) (E rounds C : List ℕ) (f : List ℤ) (n : ℕ) (e : n ≡ lent S (has_length (item_cells S) C && has_length S.degree f) 0) where
  abbrev fits : Bool
  fits = has_length (item_cells S) C && has_length S.degree f

  abbrev N : ℕ
  N = Calls.opening_refusal S key message E rounds

  pub open_unfit : n ≢ 0 → OpeningStored S key message E rounds C f n key message rounds C f 0
  unfolding Border.open_number Border.open_key_exit Border.open_message_exit Border.open_rounds_exit Border.open_commitment_exit Border.open_last_exit Border.open_verdict Calls.opening_answer
  open_unfit h = record {
    refusal = (unfit S fits N key key n e h).0;
    key_exit = (unfit S fits N _ key n e h).1;
    message_exit = (unfit S fits N _ message n e h).1;
    rounds_exit = (unfit S fits N _ rounds n e h).1;
    commitment_exit = (unfit S fits N _ C n e h).1;
    last_exit = (unfit S fits N _ f n e h).1;
    verdict_exit = (unfit {A = ℕ} S fits N _ 0 n e h).1;
  }

  module _ (h : n ≡ 0) (r : Opened) (key' : List ℕ) (message' : List ℤ) (rounds' : List ℕ) (o : Opening S key message E rounds r key' message' rounds') where
    number_is : r.refusal ≡ N
    unfolding Calls.opening_answer
    number_is = ap (λ (x : Opened). x.refusal) o.answer

    pub open-refused : r.refusal ≢ 0 → OpeningStored S key message E rounds C f r.refusal key' message' rounds' C f 0
    unfolding Border.open_number Border.open_key_exit Border.open_message_exit Border.open_rounds_exit Border.open_commitment_exit Border.open_last_exit Border.open_verdict
        Calls.opening_answer Calls.opening_key_exit Calls.opening_message_exit Calls.opening_rounds_exit
    open-refused q = record {
      refusal = (refused S fits N key key n e h r.refusal number_is q).0;
      key_exit = o.key_exit ∙ through S fits N _ key n e h;
      message_exit = o.message_exit ∙ through S fits N _ message n e h;
      rounds_exit = o.rounds_exit ∙ through S fits N _ rounds n e h;
      commitment_exit = (refused S fits N _ C n e h r.refusal number_is q).1;
      last_exit = (refused S fits N _ f n e h r.refusal number_is q).1;
      verdict_exit = (refused {A = ℕ} S fits N _ 0 n e h r.refusal number_is q).1;
    }

    pub open_made : r.refusal ≡ 0 → (C' : List ℕ) (f' : List ℤ) (v : ℕ) → C' ≡ together S r.commitment → f' ≡ take S.degree r.last
        → v ≡ verdict_number r.verdict → OpeningStored S key message E rounds C f 0 key' message' rounds' C' f' v
    unfolding Border.open_number Border.open_key_exit Border.open_message_exit Border.open_rounds_exit Border.open_commitment_exit Border.open_last_exit Border.open_verdict
        Calls.opening_answer Calls.opening_key_exit Calls.opening_message_exit Calls.opening_rounds_exit
    open_made q C' f' v c l s = record {
      refusal = (made S fits N key key n e h r.refusal number_is q key refl).0;
      key_exit = o.key_exit ∙ through S fits N _ key n e h;
      message_exit = o.message_exit ∙ through S fits N _ message n e h;
      rounds_exit = o.rounds_exit ∙ through S fits N _ rounds n e h;
      commitment_exit = (made S fits N _ C n e h r.refusal number_is q C' (c ∙ ap (λ (x : Opened). together S x.commitment) o.answer)).1;
      last_exit = (made S fits N _ f n e h r.refusal number_is q f' (l ∙ ap (λ (x : Opened). take S.degree x.last) o.answer)).1;
      verdict_exit = (made {A = ℕ} S fits N _ 0 n e h r.refusal number_is q v (s ∙ ap (λ (x : Opened). verdict_number x.verdict) o.answer)).1;
    }
