-- What steps a to c of a tick do to the mode. Assumes nothing.
use Rattle.std.specs.Prelude.{◌-◌, cond, leb, eqb}
use Rattle.config.specs.Times.{Ticks}
use Rattle.states.specs.declared.State.TheVariants.{BusSleep, PrepareBusSleep, NormalOperation, ReadySleep}
use Rattle.states.specs.declared.Mode.{Mode}
use Rattle.modes.specs.Mode.{mode, with_nm}

-- a, in Repeat and Normal: sending enabled, the NM timer down; at 0 it starts again
unfoldable pub nm_in_repeat_or_normal : Ticks → Mode → Mode
nm_in_repeat_or_normal t m = cond m.sending (with_nm (cond (leb m.nm 1) t.timeout (m.nm - 1)) m) m

-- a, in Ready: at 0 Prepare, and the wait timer starts
unfoldable pub prepared : Ticks → Mode → Mode
prepared t m = mode PrepareBusSleep m.requested m.sending m.filter 0 t.wait m.repeat

unfoldable pub nm_in_ready : Ticks → Mode → Mode
nm_in_ready t m = cond m.sending (cond (leb m.nm 1) (prepared t m) (with_nm (m.nm - 1) m)) m

-- b: the wait timer down; at 0 Bus-Sleep
unfoldable pub wait_in_prepare : Mode → Mode
wait_in_prepare m =
    mode (cond (eqb m.wait 1) BusSleep m.state) m.requested m.sending m.filter m.nm (m.wait - 1) m.repeat

-- c: the repeat timer down; at 0 Normal if requested, else Ready
unfoldable pub repeat_in_repeat : Mode → Mode
repeat_in_repeat m =
    mode (cond (leb m.repeat 1) (cond m.requested NormalOperation ReadySleep) m.state) m.requested m.sending
    m.filter
    m.nm
    m.wait
    (m.repeat - 1)
