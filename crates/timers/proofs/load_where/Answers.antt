-- `timers::load_where` meets its contract. Assumes nothing.
use mathlib.Core.Path.{◌≡◌, ◌∙◌}
use mathlib.Core.Bool.{Bool, cond, ◌&&◌, xor}
use Prim.Native.Nat.{ℕ, ◌*◌, min}
use native.Mathlib.Omega.{arith}
use lib.Dec.{eqb}
use lib.ListN.{length, get_or, length-take}
use lib.Seq.{get_or-take}
use Rattle.choice.proofs.Tests.{xor_is}
use Rattle.timers.specs.Timers.{loaded_where}
use Rattle.bits.specs.Bits.{bit_at}
use Rattle.bits.proofs.Bits.{both_past}
use Rattle.bits.proofs.Lists.{upto_here, upto_more, upto_all, front_all, any_more, any_ext}
use Rattle.timers.proofs.Timers.{loaded_where_differs}
use Rattle.timers.proofs.load_where.Goals as goal

pub loop-i-preserved : goal.loop-i-preserved
loop-i-preserved c =
    let l = c.loop-i in (
      upto_more _ _ l.t-items l.i (omega arith) l.invariant.0
          (rw (c.bit_of-in-loop-i.ensures, c.bit_of.ensures) at c.pick-u.ensures),
      any_more _ l.i l.invariant.1
          (rw (
            c.pick-u.ensures,
            c.bit_of-in-loop-i.ensures,
            c.bit_of.ensures,
            upto_here _ _ l.t-items l.i l.invariant.0,
            xor_is _ _,
          )),
    )

pub returns : goal.returns
unfolding loaded_where
returns c =
    let l = c.loop-i in
    let s = c.args in
    let ts = s.timers.now in
    let n = c.timers_of-end.result in
    let is : n ≡ min (8 * min (length s.bytes.now) (length s.mask.now)) (length ts) = rw (c.timers_of-end.ensures, c.min.ensures) in
    let end : l.i ≡ n = omega (arith, is, c.loop-i-test.false, l.auto.i-end, length-take n ts) in
    let q : ℕ → Bool =
    λ k. xor (eqb (get_or ts k 0) 0) (eqb (cond (bit_at s.bytes.now k && bit_at s.mask.now k) s.reset (get_or ts k 0)) 0) in (
      rw (upto_all _ _ l.t-items l.i (omega (arith, c.loop-i-test.false, l.auto.t-items)) l.invariant.0)
          (front_all _ n ts (λ k x h m. rw (both_past s.bytes.now s.mask.now k (omega (arith, is))))),
      l.invariant.1
          ∙ any_ext _ q l.i (λ k b. rw (get_or-take n ts k 0 (omega (arith, end))))
          ∙ loaded_where_differs s.bytes.now s.mask.now s.reset ts l.i (omega (arith, is, end))
          (λ k h m. both_past s.bytes.now s.mask.now k (omega (arith, is, end))),
    )
