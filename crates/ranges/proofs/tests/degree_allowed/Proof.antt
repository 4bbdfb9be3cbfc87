use Rattle.std.proofs.Common.{inl, inr, ⊎_elim, ne_eqb}
use Rattle.protocol.specs.Basic.{among}
use Rattle.protocol.specs.Settings.{degree_allowed}
use Rattle.ranges.proofs.tests.degree_allowed.Statement.{statement}
use Rattle.ranges.proofs.tests.degree_allowed.Tie as tie

returns-in-2 : tie.Need-returns-in-2
unfolding degree_allowed among
returns-in-2 c =
    ⊎_elim (λ e. rw e) (⊎_elim (λ e. rw e) (⊎_elim (λ e. rw e) (⊎_elim (λ e. rw e) (⊎_elim (λ e. rw e) (λ e. rw e))))) c.in-2.is

returns-in_default : tie.Need-returns-in_default
unfolding degree_allowed among
returns-in_default c =
    let no = c.in_default.in_default-own.rest.1 in
    simp (
      ne_eqb _ 2 (λ e. no (inl e)),
      ne_eqb _ 4 (λ e. no (inr (inl e))),
      ne_eqb _ 8 (λ e. no (inr (inr (inl e)))),
      ne_eqb _ 16 (λ e. no (inr (inr (inr (inl e))))),
      ne_eqb _ 32 (λ e. no (inr (inr (inr (inr (inl e)))))),
      ne_eqb _ 64 (λ e. no (inr (inr (inr (inr (inr e)))))),
    )

pub degree_allowed_spec : {M : Type 1} → statement M
degree_allowed_spec = tie.close (tie.spec returns-in-2 returns-in_default)
