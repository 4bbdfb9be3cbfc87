-- The recursion falls with the level. A level brings the halves of the block up and joins them.
use Rattle.std.proofs.Common.{◌≡◌, ℕ, suc, ◌+◌, ◌-◌, ◌/◌, ◌<◌, length, sym, ◌∙◌, subst, arith, length-drop, length-take-le, rules}
use borrow.Fn.Kinds.{In}
use borrow.Fn.PlainCycle.{Measures, is, falls, and}
use Rattle.powers.proofs.Roots.{power_below}
use Rattle.levels.specs.Levels.{Up}
use Rattle.levels.specs.Halves.{Joined}
use Rattle.levels.proofs.Parts.{second_part, second_back, second_long}
use Rattle.levels.proofs.Ascent.{up_none, up_turn}
use Rattle.levels.proofs.up.Reads as up
use Rattle.levels.proofs.up.Kinds as up-kinds
use Rattle.levels.proofs.+up.Lts-up as up-lts
use Rattle.levels.proofs.power.Reads as power-reads
use Rattle.levels.proofs.join.Reads as join-reads
use Rattle.levels.proofs.+up.{statement}
use Rattle.levels.proofs.+up.Tie.{close}

abbrev μ-up : Measures 2 up-kinds.ps ℕ
μ-up κs a = a.0

abbrev up_at : ℕ → In 2 up-kinds.ps
up_at t = and 2 up-kinds.ps (is 2 up-kinds.ps μ-up t) up.Pre

abbrev up-below : ℕ → In 2 up-kinds.ps
up-below t = and 2 up-kinds.ps (falls 2 up-kinds.ps ◌<◌ μ-up t) up.Pre

-- what is known of the functions that are called
abbrev calls : ℕ → up-lts.Claims
calls t = (up-below t, up.Post, power-reads.Asked, power-reads.Learnt, join-reads.Asked, join-reads.Learnt)

module _ (t : ℕ) where
  at_none : up-lts.Need-returns-then-level-eq0 (calls t) (up_at t) up.Post
  at_none c =
      let a = c.args in
      let none : a.level ≡ 0 = omega arith in
      subst (λ n. Up n a.e a.s.now a.s.now) (sym none) (up_none a.e a.s.now)

  lent : up-lts.Need-slice_bounds-up-end-2 (calls t) (up_at t) up.Post
  lent c = let l = c.args.s.now in sym (length-take-le (length l / 2) l (omega arith))

  join-requires : up-lts.Need-join-requires (calls t) (up_at t) up.Post
  join-requires c κs =
      let l = c.args.s.now in
      let h = length l / 2 in
      let first = c.up in
      let second = c.up-2 in
      let long : length first.new.s ≡ h = first.ensures.same ∙ length-take-le h l (omega arith) in (
        omega (arith, c.power.ensures, power_below (128 - c.args.e / 2) (omega arith)),
        omega (arith, second_long h l first.new.s long second.new.s second.ensures.same, length-drop h l),
      )

  returns : up-lts.Need-returns (calls t) (up_at t) up.Post
  returns c =
      let a = c.args in
      let l = a.s.now in
      let h = length l / 2 in
      let first = c.up in
      let p = first.new.s in
      let second = c.up-2 in
      let q = second.new.s in
      let power = c.power in
      let join = c.join in
      let m = join.new.s in
      let above : a.level ≡ suc (a.level - 1) = omega arith in
      let long : length p ≡ h = first.ensures.same ∙ length-take-le h l (omega arith) in
      up_turn a.level (a.level - 1) a.e power.result above l m p q power.ensures first.ensures
      (subst (λ n. Up (a.level - 1) (a.e / 2 + 128) n q) (second_part h l p long) second.ensures)
      (subst (λ n. Joined power.result h n m) (second_back h l p long q) join.ensures)

pub +up_spec : {M : Type 1} → statement M
+up_spec = close μ-up λ t. up-lts.spec (calls t) (up_at t) up.Post (at_none t) (λ c. search rules) (λ c. search rules) (lent t) (λ c κs. search rules) (λ c. search rules)
    (λ c. search rules) (λ c. search rules) (λ c. search rules) (λ c. search rules) (λ c. search rules) (λ c κs. search rules) (λ c. search rules) (λ c κs. search rules)
    (join-requires t) (λ c. search rules) (returns t)
