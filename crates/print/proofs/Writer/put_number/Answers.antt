-- `print::Writer::put_number` meets its contract. Assumes nothing.
use mathlib.Core.Path.{refl}
use native.Mathlib.Omega.{arith}
use Rattle.print.proofs.Numbers.{length_number}
use Rattle.print.proofs.Wrote.{wrote_part}
use Rattle.print.proofs.Writer.put_number.Goals as goal

pub overflow_add-end : goal.overflow_add-end
overflow_add-end c = omega (arith, length_number c.args.n)

pub slice_bounds-fill_digits-end : goal.slice_bounds-fill_digits-end
slice_bounds-fill_digits-end c = omega (arith, length_number c.args.n)

pub returns : goal.returns
returns c = record {
  text = rw c.fill_digits.ensures (wrote_part _ _ _ (omega arith) (omega (arith, length_number c.args.n)));
  buffer = refl;
}
