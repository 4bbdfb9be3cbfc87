-- The loop keeps: y·P is digits·q and the rest, P being the power of 2 after i octal digits.
use Rattle.modular.proofs.Shares.{Digits, power}
use Rattle.modular.proofs.factors.share.Given as goal

abbrev pub invariant-loop-i : goal.invariant-loop-i
invariant-loop-i l = Digits l.q l.y (power l.i) l.digits l.rest
