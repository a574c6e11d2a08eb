-- `trace_cases::put_path` meets its contract. Assumes nothing.
use native.Mathlib.Omega.{arith}
use Rattle.print.proofs.Wrote.{puts_room, puts_then}
use Rattle.trace_cases.proofs.put_path.Goals as goal

pub put_all-requires-2 : goal.put_all-requires-2
put_all-requires-2 c = puts_room c.put_all.ensures _ (omega arith)

pub returns : goal.returns
returns c = puts_then c.put_all.ensures c.put_all-2.ensures
