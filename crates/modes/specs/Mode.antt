-- What each transition rule of a call does to the mode: the state with its flags, and the NM, wait and repeat timers.
-- Assumes nothing.
use Rattle.std.specs.Prelude.{ℕ, Bool, true, cond}
use Rattle.config.specs.Times.{Ticks}
use Rattle.states.specs.declared.State.{State}
use Rattle.states.specs.declared.State.TheVariants.{RepeatMessage}
use Rattle.states.specs.declared.Mode.{Mode}

abbrev pub mode : State → Bool → Bool → Bool → ℕ → ℕ → ℕ → Mode
mode s r e f n w q = record { state = s; requested = r; sending = e; filter = f; nm = n; wait = w; repeat = q }

abbrev pub with_state : State → Mode → Mode
with_state s m = mode s m.requested m.sending m.filter m.nm m.wait m.repeat

abbrev pub with_requested : Bool → Mode → Mode
with_requested r m = mode m.state r m.sending m.filter m.nm m.wait m.repeat

abbrev pub with_sending : Bool → Mode → Mode
with_sending e m = mode m.state m.requested e m.filter m.nm m.wait m.repeat

abbrev pub with_filter : Bool → Mode → Mode
with_filter f m = mode m.state m.requested m.sending f m.nm m.wait m.repeat

abbrev pub with_nm : ℕ → Mode → Mode
with_nm n m = mode m.state m.requested m.sending m.filter n m.wait m.repeat

-- the state in which entering Repeat leaves the channel
abbrev pub landing : State
landing = RepeatMessage

-- Repeat: the repeat timer starts
unfoldable pub enter_repeat : Ticks → Mode → Mode
enter_repeat t m = mode landing m.requested m.sending m.filter m.nm m.wait t.repeat

-- Network Mode: the NM timer starts, Prepare's wait timer ends, then Repeat
unfoldable pub enter_network : Ticks → Mode → Mode
enter_network t m =
    enter_repeat t (mode m.state m.requested m.sending m.filter t.timeout 0 m.repeat)

-- the NM timer restarts if sending is enabled
unfoldable pub restart : Ticks → Mode → Mode
restart t m = with_nm (cond m.sending t.timeout m.nm) m

-- a PDU heard in Normal or Ready: with a repeat request it enters Repeat
unfoldable pub heard : Bool → Ticks → Mode → Mode
heard again t m = cond again (enter_repeat t (restart t m)) (restart t m)

-- sending enabled: after a disable the NM timer restarts
unfoldable pub enabled : Ticks → Mode → Mode
enabled t m = with_sending true (with_nm (cond m.sending m.nm t.timeout) m)
