-- `pn_limits::filled_mask` meets its contract. Assumes nothing.
use native.Mathlib.Omega.{arith}
use Rattle.pn_limits.proofs.Mask.{filled_is}
use Rattle.pn_limits.proofs.filled_mask.Goals as goal

pub returns : goal.returns
returns c =
    let a = c.args in
    rw (c.copy.ensures, c.part.ensures) (filled_is a.n a.mask.now (omega arith))
