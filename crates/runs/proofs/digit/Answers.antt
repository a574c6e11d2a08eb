-- `runs::digit` meets its contract. Assumes nothing.
use native.Mathlib.Omega.{arith}
use Rattle.runs.proofs.Laws.{number_le}
use Rattle.runs.proofs.digit.Goals as goal

pub overflow_add-result : goal.overflow_add-result
overflow_add-result c = omega (arith, number_le c.args.a, c.number.ensures)

pub returns : goal.returns
returns c = rw c.number.ensures
