-- `bits::lowest_one` meets its contract. Assumes nothing.
use mathlib.Core.Path.{sym}
use native.Mathlib.Omega.{arith}
use Rattle.bits.proofs.Bits.{lowest_found, lowest_none}
use Rattle.bits.proofs.lowest_one.Goals as goal

pub returns-then-b-ne0 : goal.returns-then-b-ne0
returns-then-b-ne0 c =
    rw c.trailing_zeros.ensures (sym (lowest_found c.args.bytes.now c.loop-i.i (omega arith) c.loop-i.invariant c.if-b-ne0.true))

pub returns : goal.returns
returns c = let l = c.loop-i in sym (lowest_none _ (λ k h. l.invariant k (omega arith)))
