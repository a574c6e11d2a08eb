-- What the loop of `pn_limits::put_where` keeps: the first `i` places hold their limits. Assumes nothing.
use Rattle.timers.specs.Timers.{limit_at}
use Rattle.bits.proofs.Lists.{Upto}
use Rattle.pn_limits.proofs.put_where.Given as goal

abbrev pub invariant-loop-i : goal.invariant-loop-i
invariant-loop-i l = Upto (λ k t. limit_at l.mask l.reset k) l.initial.limits l.limits l.i
