-- `ticks::rounded_up` meets its contract. Assumes nothing.
use mathlib.Core.Path.{◌≡◌, sym}
use Prim.Native.Nat.{◌*◌, ◌%◌, ◌<◌}
use native.Mathlib.Omega.{arith}
use Rattle.ticks.specs.Ticks.{ticks_of}
use Rattle.ticks.proofs.LongDivision.{all_done, begun, bit_done, room}
use Rattle.ticks.proofs.rounded_up.Goals as goal

pub loop-shifted-init : goal.loop-shifted-init
loop-shifted-init c =
    let e : c.args.period * 65536 % 4294967296 ≡ c.args.period * 65536 = omega arith in
    begun _ _ 16 (omega arith) (omega (arith, e)) (omega arith)

pub overflow_add-quotient : goal.overflow_add-quotient
overflow_add-quotient c =
    let r = room _ _ _ _ _ c.loop-shifted.invariant (omega (arith, c.loop-shifted-test.true)) 65536 (omega arith) in
    record { fits = rw c.next_bit-next.ensures (omega (arith, r)) }

pub loop-shifted-preserved : goal.loop-shifted-preserved
loop-shifted-preserved c =
    let l = c.loop-shifted in
    let h : c.args.period < l.shifted = omega (arith, c.loop-shifted-test.true) in
    let r = room _ _ _ _ _ l.invariant h 65536 (omega arith) in
    let e : l.quotient * 2 % 65536 ≡ l.quotient * 2 = omega (arith, r) in
    rw (c.next_bit-next.ensures, e) (bit_done _ _ _ _ _ l.invariant h)

pub returns : goal.returns
unfolding ticks_of
returns c = sym (all_done _ _ _ _ _ c.loop-shifted.invariant (omega (arith, c.loop-shifted-test.false)))
