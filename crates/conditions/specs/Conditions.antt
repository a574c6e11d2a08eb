-- The conditions of a sound state on its timers, flags and bits, but those of the PN timers. Assumes nothing.
use Rattle.std.specs.Prelude.{ℕ, Bool, cond, not, ◌&&◌, ◌||◌, leb, ltb, eqb}
use Rattle.config.specs.Times.{Ticks}
use Rattle.states.specs.declared.State.{State}
use Rattle.states.specs.declared.Mode.{Mode}
use Rattle.states.specs.declared.Traffic.{Traffic}
use Rattle.traffic.specs.declared.Setup.{Setup}
use Rattle.states.specs.State.{in_network, is_prepare, is_repeat, is_normal, settled, transmits}

-- a timer runs, from 1 to its limit, exactly where it should, and is 0 elsewhere
abbrev pub runs : Bool → ℕ → ℕ → Bool
runs running limit n = cond running (leb 1 n && leb n limit) (eqb n 0)

-- a flag that is set only where a test holds
abbrev pub only : Bool → Bool → Bool
only flag test = not flag || test

-- requested in Normal, and not in Ready, Prepare and Bus-Sleep
abbrev pub request_fits : Bool → State → Bool
request_fits requested s = cond requested (is_repeat s || is_normal s) (not (is_normal s))

-- NM, wait and repeat timer; the request; disabled only in Network Mode
unfoldable pub mode_sound : Ticks → Mode → Bool
mode_sound t m =
    runs (in_network m.state) t.timeout m.nm
    && runs (is_prepare m.state) t.wait m.wait
    && runs (is_repeat m.state) t.repeat m.repeat
    && request_fits m.requested m.state
    && (m.sending || in_network m.state)

abbrev pub larger : ℕ → ℕ → ℕ
larger a b = cond (ltb a b) b a

-- message timer, fast count, remote timer; repeat bit, active wakeup bit, indication
unfoldable pub traffic_sound : Setup → State → Traffic → Bool
traffic_sound s m x =
    runs (transmits m && not s.passive) (larger s.ticks.cycle s.ticks.fast) x.message
    && leb x.fast (cond (is_repeat m) s.immediate 0)
    && runs (is_normal m && ltb 0 s.ticks.remote && not x.indicated) s.ticks.remote x.remote
    && only x.repeating (is_repeat m)
    && only x.waking (in_network m)
    && only x.indicated (settled m && ltb 0 s.ticks.remote)

-- a passive channel is never requested, disabled, indicated or in Normal, and holds neither bit
unfoldable pub passive_sound : Bool → Mode → Traffic → Bool
passive_sound passive m x =
    only passive
    (not m.requested && m.sending && not x.indicated && not (is_normal m.state) && not x.repeating && not x.waking)
