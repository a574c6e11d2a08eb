-- `print::Writer::put_all` meets its contract. Assumes nothing.
use mathlib.Core.Path.{refl}
use native.Mathlib.Omega.{arith}
use Rattle.print.proofs.Wrote.{wrote_part}
use Rattle.print.proofs.Writer.put_all.Goals as goal

pub returns : goal.returns
returns c = record {
  text = rw c.copy_from_slice.ensures.after (wrote_part _ _ _ refl (omega arith));
  buffer = refl;
}
