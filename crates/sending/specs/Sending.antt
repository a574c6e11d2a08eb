-- Step f of a tick: when a frame is due, and the message timer and the fast count after it. Assumes nothing.
use Rattle.std.specs.Prelude.{◌-◌, Bool, cond, not, ◌&&◌, leb, ltb}
use Rattle.states.specs.declared.Mode.{Mode}
use Rattle.states.specs.declared.Traffic.{Traffic}
use Rattle.states.specs.State.{transmits}
use Rattle.traffic.specs.declared.Setup.{Setup}
use Rattle.traffic.specs.Traffic.{traffic, with_message}

-- in Repeat or Normal of an active channel with sending enabled the message timer counts; at 0 a
-- frame is due
unfoldable pub counts : Setup → Mode → Bool
counts s after = transmits after.state && not s.passive && after.sending

unfoldable pub is_due : Setup → Mode → Traffic → Bool
is_due s after x = counts s after && leb x.message 1

-- taken: a fast count above 0 falls, the fast cycle follows while it is still above 0, else the cycle
abbrev pub after_sent : Setup → Traffic → Traffic
after_sent s x =
    traffic (cond (ltb 1 x.fast) s.ticks.fast s.ticks.cycle) (x.fast - 1) x.remote x.indicated x.repeating
    x.waking

-- not taken: tried again in the next tick of fast frames, else after the cycle
abbrev pub after_missed : Setup → Traffic → Traffic
after_missed s x = with_message (cond (ltb 0 x.fast) 1 s.ticks.cycle) x

unfoldable pub framing : Setup → Mode → Bool → Traffic → Traffic
framing s after taken x =
    cond (counts s after)
    (cond (leb x.message 1) (cond taken (after_sent s x) (after_missed s x)) (with_message (x.message - 1) x))
    x
