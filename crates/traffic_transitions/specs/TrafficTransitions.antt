-- What each transition rule does to the traffic. Assumes nothing.
use Rattle.std.specs.Prelude.{Bool}
use Rattle.states.specs.declared.Mode.{Mode}
use Rattle.states.specs.declared.Traffic.{Traffic}
use Rattle.traffic.specs.declared.Setup.{Setup}
use Rattle.decision.specs.declared.Rule.{Rule}
use Rattle.decision.specs.declared.Rule.TheVariants.{Keep, NotHere, WakeUp, ActiveWakeUp, Request, ToNormal, Release, ToReady, Repeat, Disable, Enable, Confirm, Start, HeardInRepeat, HeardInNormal, HeardInReady, FilterOn, TickInPrepare, TickInRepeat, TickInNormal, TickInReady}
use Rattle.traffic.specs.Traffic.{heard_in_normal, heard_in_ready, resumed, to_normal, to_ready, to_repeat, to_repeat_active, to_repeat_asked}
use Rattle.traffic_steps.specs.TrafficSteps.{in_normal, in_ready, in_repeat}

-- the traffic after a rule, with the mode before and after it
unfoldable pub traffic_by : Rule → Bool → Setup → Mode → Mode → Traffic → Traffic
traffic_by Keep again s before after x = x
traffic_by NotHere again s before after x = x
traffic_by WakeUp again s before after x = to_repeat s x
traffic_by ActiveWakeUp again s before after x = to_repeat_active s x
traffic_by Request again s before after x = x
traffic_by ToNormal again s before after x = to_normal s x
traffic_by Release again s before after x = x
traffic_by ToReady again s before after x = to_ready x
traffic_by Repeat again s before after x = to_repeat_asked s x
traffic_by Disable again s before after x = x
traffic_by Enable again s before after x = resumed before x
traffic_by Confirm again s before after x = x
traffic_by Start again s before after x = x
traffic_by HeardInRepeat again s before after x = x
traffic_by HeardInNormal again s before after x = heard_in_normal again s x
traffic_by HeardInReady again s before after x = heard_in_ready again s x
traffic_by FilterOn again s before after x = x
traffic_by TickInPrepare again s before after x = x
traffic_by TickInRepeat again s before after x = in_repeat s after.state x
traffic_by TickInNormal again s before after x = in_normal before x
traffic_by TickInReady again s before after x = in_ready after.state x
