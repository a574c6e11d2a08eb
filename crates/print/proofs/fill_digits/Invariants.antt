-- What the loop of `print::fill_digits` keeps. Assumes nothing.
use mathlib.Core.Path.{◌≡◌}
use mathlib.Core.List.{◌++◌}
use lib.ListN.{length, drop}
use Rattle.print.specs.Print.{number_text}
use Rattle.print.proofs.Numbers.{last_digits}
use Rattle.print.proofs.fill_digits.Given as goal

abbrev pub invariant-loop-i : goal.invariant-loop-i
invariant-loop-i l = (number_text l.n ≡ last_digits l.i l.m ++ drop l.i l.digits) × (length l.digits ≡ length l.initial.digits)
