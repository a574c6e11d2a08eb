-- What each transition rule does to the mode and to the traffic. Assumes nothing.
use Rattle.std.specs.Prelude.{Bool, true, false}
use Rattle.config.specs.Times.{Ticks}
use Rattle.states.specs.declared.State.TheVariants.{NormalOperation, ReadySleep}
use Rattle.states.specs.declared.Mode.{Mode}
use Rattle.decision.specs.declared.Rule.{Rule}
use Rattle.decision.specs.declared.Rule.TheVariants.{Keep, NotHere, WakeUp, ActiveWakeUp, Request, ToNormal, Release, ToReady, Repeat, Disable, Enable, Confirm, Start, HeardInRepeat, HeardInNormal, HeardInReady, FilterOn, TickInPrepare, TickInRepeat, TickInNormal, TickInReady}
use Rattle.modes.specs.Mode.{enabled, enter_network, enter_repeat, heard, restart, with_filter, with_requested, with_sending, with_state}
use Rattle.mode_steps.specs.ModeSteps.{nm_in_ready, nm_in_repeat_or_normal, repeat_in_repeat, wait_in_prepare}

-- the mode after a rule; `again` says that a PDU asks for Repeat
unfoldable pub mode_by : Rule → Bool → Ticks → Mode → Mode
mode_by Keep again t m = m
mode_by NotHere again t m = m
mode_by WakeUp again t m = enter_network t m
mode_by ActiveWakeUp again t m = enter_network t (with_requested true m)
mode_by Request again t m = with_requested true m
mode_by ToNormal again t m = with_state NormalOperation (with_requested true m)
mode_by Release again t m = with_requested false m
mode_by ToReady again t m = with_state ReadySleep (with_requested false m)
mode_by Repeat again t m = enter_repeat t m
mode_by Disable again t m = with_sending false m
mode_by Enable again t m = enabled t m
mode_by Confirm again t m = restart t m
mode_by Start again t m = m
mode_by HeardInRepeat again t m = restart t m
mode_by HeardInNormal again t m = heard again t m
mode_by HeardInReady again t m = heard again t m
mode_by FilterOn again t m = with_filter true m
mode_by TickInPrepare again t m = wait_in_prepare m
mode_by TickInRepeat again t m = repeat_in_repeat (nm_in_repeat_or_normal t m)
mode_by TickInNormal again t m = nm_in_repeat_or_normal t m
mode_by TickInReady again t m = nm_in_ready t m
