-- `vectors::vector_byte` meets its contract. Assumes nothing.
use mathlib.Core.Path.{ap, ◌∙◌}
use Prim.Native.Nat.{◌*◌, ◌^◌, ◌<◌}
use native.Mathlib.Omega.{arith}
use lib.ListN.{length, get_or, take, drop, length-take}
use Rattle.vectors.specs.Vectors.{running_bit}
use Rattle.vectors.proofs.Vectors.{bit_more, byte_of_part}
use Rattle.vectors.proofs.vector_byte.Goals as goal

pub loop-i-preserved : goal.loop-i-preserved
loop-i-preserved c =
    let l = c.loop-i in
    let part = take 8 (drop c.args.at c.args.timers.now) in
    let h : l.i < 8 = omega (arith, c.loop-i-test.true, ap length c.part-t-items.ensures, length-take 8 (drop c.args.at c.args.timers.now)) in
    bit_more (λ k. 2 ^ k * running_bit (get_or part k 0)) l.byte l.i c.digit.result h c.digit.ensures.1 l.invariant
    (rw (c.digit.ensures.0, c.part-t-items.ensures))

pub returns : goal.returns
returns c =
    let l = c.loop-i in
    l.invariant.1
    ∙ byte_of_part c.args.timers.now c.args.at l.i (omega (arith, c.loop-i-test.false, l.auto.i-end, ap length c.part-t-items.ensures))
