-- The recursion falls with the level. A level splits the block and sends its halves down.
use Rattle.std.proofs.Common.{◌≡◌, ℕ, suc, ◌+◌, ◌-◌, ◌/◌, ◌<◌, length, sym, ◌∙◌, subst, arith, length-take-le, rules}
use borrow.Fn.Kinds.{In}
use borrow.Fn.PlainCycle.{Measures, is, falls, and}
use Rattle.powers.proofs.Roots.{power_below}
use Rattle.levels.specs.Levels.{Down}
use Rattle.levels.proofs.Parts.{second_part, second_back}
use Rattle.levels.proofs.Descent.{down-none, down_turn}
use Rattle.levels.proofs.down.Reads as down
use Rattle.levels.proofs.down.Kinds as down-kinds
use Rattle.levels.proofs.+down.Lts-down as down-lts
use Rattle.levels.proofs.power.Reads as power-reads
use Rattle.levels.proofs.split.Reads as split-reads
use Rattle.levels.proofs.+down.{statement}
use Rattle.levels.proofs.+down.Tie.{close}

abbrev μ-down : Measures 2 down-kinds.ps ℕ
μ-down κs a = a.0

abbrev down-at : ℕ → In 2 down-kinds.ps
down-at t = and 2 down-kinds.ps (is 2 down-kinds.ps μ-down t) down.Pre

abbrev down-below : ℕ → In 2 down-kinds.ps
down-below t = and 2 down-kinds.ps (falls 2 down-kinds.ps ◌<◌ μ-down t) down.Pre

-- what is known of the functions that are called
abbrev calls : ℕ → down-lts.Claims
calls t = (power-reads.Asked, power-reads.Learnt, split-reads.Asked, split-reads.Learnt, down-below t, down.Post)

module _ (t : ℕ) where
  at_none : down-lts.Need-returns-then-level-eq0 (calls t) (down-at t) down.Post
  at_none c =
      let a = c.args in
      let none : a.level ≡ 0 = omega arith in
      subst (λ n. Down n a.e a.s.now a.s.now) (sym none) (down-none a.e a.s.now)

  split-requires : down-lts.Need-split-requires (calls t) (down-at t) down.Post
  split-requires c κs = (omega (arith, c.power.ensures, power_below (c.args.e / 2) (omega arith)), omega arith)

  lent : down-lts.Need-slice_bounds-down-end-2 (calls t) (down-at t) down.Post
  lent c =
      let l = c.args.s.now in
      let split = c.split in
      sym (length-take-le (length l / 2) split.new.s (omega (arith, split.ensures.same)))

  returns : down-lts.Need-returns (calls t) (down-at t) down.Post
  returns c =
      let a = c.args in
      let l = a.s.now in
      let h = length l / 2 in
      let power = c.power in
      let split = c.split in
      let m = split.new.s in
      let first = c.down in
      let p = first.new.s in
      let second = c.down-2 in
      let q = second.new.s in
      let up : a.level ≡ suc (a.level - 1) = omega arith in
      let long : length p ≡ h = first.ensures.same ∙ length-take-le h m (omega (arith, split.ensures.same)) in
      subst (λ r. Down a.level a.e l r) (sym (second_back h m p long q))
      (down_turn a.level (a.level - 1) a.e power.result up l m p q power.ensures split.ensures first.ensures
      (subst (λ n. Down (a.level - 1) (a.e / 2 + 128) n q) (second_part h m p long) second.ensures))

  second-requires : down-lts.Need-down-requires-2 (calls t) (down-at t) down.Post
  second-requires c κs = (omega arith, (omega arith, c.requires.1.1))

pub +down_spec : {M : Type 1} → statement M
+down_spec = close μ-down λ t. down-lts.spec (calls t) (down-at t) down.Post (at_none t) (λ c κs. search rules) (split-requires t) (λ c. search rules) (λ c. search rules) (lent t)
    (λ c κs. search rules) (λ c. search rules) (λ c. search rules) (λ c. search rules) (λ c. search rules) (λ c. search rules) (λ c. search rules) (second-requires t)
    (λ c. search rules) (returns t)
