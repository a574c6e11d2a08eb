-- What steps a, c and d of a tick do to message and remote timers, fast count, indication and bits. Assumes nothing.
use Rattle.std.specs.Prelude.{◌-◌, false, cond, ◌&&◌, leb, ltb}
use Rattle.states.specs.declared.State.{State}
use Rattle.states.specs.declared.Mode.{Mode}
use Rattle.states.specs.declared.Traffic.{Traffic}
use Rattle.traffic.specs.declared.Setup.{Setup}
use Rattle.states.specs.State.{is_repeat, is_normal, is_prepare}
use Rattle.traffic.specs.Traffic.{traffic, with_remote, watching}

-- a, in Ready: with Prepare indication and active wakeup bit are cleared
unfoldable pub in_ready : State → Traffic → Traffic
in_ready after x =
    cond (is_prepare after) (traffic x.message x.fast x.remote false x.repeating false) x

-- c: Repeat left: repeat bit and fast count are cleared; Normal starts the remote timer, Ready stops the message timer
unfoldable pub in_repeat : Setup → State → Traffic → Traffic
in_repeat s after x =
    cond (is_repeat after) x
    (cond (is_normal after) (traffic x.message 0 (watching s x) x.indicated false x.waking)
    (traffic 0 0 0 x.indicated false x.waking))

-- d: sending enabled, a running remote timer down; at 0 remote sleep is indicated
unfoldable pub in_normal : Mode → Traffic → Traffic
in_normal m x =
    cond (m.sending && ltb 0 x.remote) (with_remote (x.remote - 1) (leb x.remote 1) x) x
