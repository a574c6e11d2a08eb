-- What each transition rule of a call does to message and remote timers, fast count, indication and bits. It sees the
-- mode before and after, and never changes it. Assumes nothing.
use Rattle.std.specs.Prelude.{ℕ, Bool, true, false, cond, not, ◌&&◌, ltb}
use Rattle.config.specs.declared.Config.{Config}
use Rattle.config.specs.Times.{Ticks}
use Rattle.states.specs.declared.Mode.{Mode}
use Rattle.states.specs.declared.Traffic.{Traffic}
use Rattle.traffic.specs.declared.Setup.{Setup}
use Rattle.states.specs.State.{transmits}

abbrev pub traffic : ℕ → ℕ → ℕ → Bool → Bool → Bool → Traffic
traffic m f r i b w = record { message = m; fast = f; remote = r; indicated = i; repeating = b; waking = w }

abbrev pub with_message : ℕ → Traffic → Traffic
with_message m x = traffic m x.fast x.remote x.indicated x.repeating x.waking

abbrev pub with_fast_count : ℕ → Traffic → Traffic
with_fast_count f x = traffic x.message f x.remote x.indicated x.repeating x.waking

abbrev pub with_remote : ℕ → Bool → Traffic → Traffic
with_remote r i x = traffic x.message x.fast r i x.repeating x.waking

abbrev pub with_bits : Bool → Bool → Traffic → Traffic
with_bits b w x = traffic x.message x.fast x.remote x.indicated b w

-- what the rules here need of the configuration
unfoldable pub setup_of : Config → Ticks → Setup
setup_of c t = record { ticks = t; immediate = cond (ltb c.immediate 65536) c.immediate 0; passive = c.passive }

-- the first frame in Repeat: after the offset, at least one tick; a passive channel sends none
abbrev pub first_message : Setup → ℕ
first_message s = cond s.passive 0 (cond (ltb s.ticks.offset 1) 1 s.ticks.offset)

-- Repeat: the message timer starts, fast count and remote timer are 0, an indication is cleared. A passive start-up and a PDU
-- with the repeat bit do no more: they start no fast frames
unfoldable pub to_repeat : Setup → Traffic → Traffic
to_repeat s x = traffic (first_message s) 0 0 false x.repeating x.waking

-- fast frames, AUTOSAR's immediate transmissions, where IN is above 0: the fast count is IN, and the first goes out in the next
-- tick
abbrev pub has_fast : Setup → Bool
has_fast s = ltb 0 s.immediate

abbrev pub with_fast : Setup → Traffic → Traffic
with_fast s x = with_message (cond (has_fast s) 1 x.message) (with_fast_count (cond (has_fast s) s.immediate x.fast) x)

-- by a request: with fast frames, and the active wakeup bit is set
unfoldable pub to_repeat_active : Setup → Traffic → Traffic
to_repeat_active s x = with_fast s (to_repeat s (with_bits x.repeating true x))

-- by a repeat request: with fast frames, and the repeat bit is set
unfoldable pub to_repeat_asked : Setup → Traffic → Traffic
to_repeat_asked s x = with_fast s (to_repeat s (with_bits true x.waking x))

-- Normal: the remote timer starts unless remote sleep is indicated
abbrev pub watching : Setup → Traffic → ℕ
watching s x = cond x.indicated 0 s.ticks.remote

unfoldable pub to_normal : Setup → Traffic → Traffic
to_normal s x = traffic 1 x.fast (watching s x) x.indicated x.repeating x.waking

-- Ready holds message and remote timer 0
unfoldable pub to_ready : Traffic → Traffic
to_ready x = traffic 0 x.fast 0 x.indicated x.repeating x.waking

-- enabled after a disable: a frame in the next tick of Repeat or Normal
unfoldable pub resumed : Mode → Traffic → Traffic
resumed m x = with_message (cond (not m.sending && transmits m.state) 1 x.message) x

-- a PDU heard in Normal: the indication is cancelled and the remote timer starts again; in Ready: it is cancelled
unfoldable pub heard_in_normal : Bool → Setup → Traffic → Traffic
heard_in_normal again s x = cond again (to_repeat s x) (with_remote s.ticks.remote false x)

unfoldable pub heard_in_ready : Bool → Setup → Traffic → Traffic
heard_in_ready again s x = cond again (to_repeat s x) (with_remote x.remote false x)
