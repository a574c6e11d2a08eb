-- `print::fill_digits` meets its contract. Assumes nothing.
use mathlib.Core.Path.{refl, ◌∙◌}
use Prim.Native.Nat.{◌-◌}
use native.Mathlib.Omega.{arith}
use lib.ListN.{length-set}
use Rattle.print.proofs.Numbers.{digits_start, digits_more}
use Rattle.print.proofs.fill_digits.Goals as goal

pub loop-i-init : goal.loop-i-init
loop-i-init c = (digits_start c.args.n c.args.digits.now c.requires, refl)

pub loop-i-preserved : goal.loop-i-preserved
loop-i-preserved c =
    let l = c.loop-i in (
      l.invariant.0 ∙ digits_more (l.i - 1) l.i l.m l.digits (omega arith) (omega arith) c.digit.ensures,
      simp length-set l.invariant.1,
    )
