-- `slices::put_part` meets its contract. Assumes nothing.
use mathlib.Core.Path.{sym}
use native.Mathlib.Omega.{arith}
use Rattle.slices.proofs.Bytes.{sets_back, sets_out}
use Rattle.slices.proofs.put_part.Goals as goal

pub returns-then-at-items : goal.returns-then-at-items
returns-then-at-items g c =
    let a = c.args in
    rw c.copy.ensures (sets_back a.at a.items.now a.src.now)

pub returns-else-at-items : goal.returns-else-at-items
returns-else-at-items g c =
    let a = c.args in sym (sets_out a.items.now a.at a.src.now (omega arith))
