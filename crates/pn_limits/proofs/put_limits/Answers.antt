-- `pn_limits::put_limits` meets its contract. Assumes nothing.
use native.Mathlib.Omega.{arith}
use Rattle.pn_limits.proofs.Mask.{limits_filled}
use Rattle.pn_limits.proofs.put_limits.Goals as goal

pub returns : goal.returns
returns c =
    let a = c.args in
    rw (c.put_where.ensures, c.filled_mask-filled.ensures)
    (limits_filled a.c.pn.length a.t.reset a.c.pn.mask a.limits.now (omega arith))
