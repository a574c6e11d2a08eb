-- The notes that each transition rule raises, and their order. Assumes nothing.
use Rattle.std.specs.Prelude.{Bool, cond, ◌&&◌, leb, ltb, Option, Some, None}
use Rattle.states.specs.declared.Mode.{Mode}
use Rattle.states.specs.declared.Traffic.{Traffic}
use Rattle.states.specs.declared.Note.{Note}
use Rattle.states.specs.declared.Note.TheVariants.{
  NetworkMode,
  NetworkStart,
  PrepareBusSleep,
  BusSleep,
  Timeout,
  RemoteSleepCancelled,
  RemoteSleepIndication,
}
use Rattle.decision.specs.declared.Rule.{Rule}
use Rattle.decision.specs.declared.Rule.TheVariants.{
  Keep,
  NotHere,
  WakeUp,
  ActiveWakeUp,
  Request,
  ToNormal,
  Release,
  ToReady,
  Repeat,
  Disable,
  Enable,
  Confirm,
  Start,
  HeardInRepeat,
  HeardInNormal,
  HeardInReady,
  FilterOn,
  TickInPrepare,
  TickInRepeat,
  TickInNormal,
  TickInReady,
}
use Rattle.states.specs.State.{is_bus_sleep, is_prepare}

abbrev pub noted : Bool → Note → Option Note
noted t n = cond t (Some n) None

-- an indication that is cancelled
abbrev pub cancelled : Traffic → Option Note
cancelled x = noted x.indicated RemoteSleepCancelled

-- a, in Repeat and Normal: the NM timer ran out
abbrev pub timed_out : Mode → Option Note
timed_out m = noted (m.sending && leb m.nm 1) Timeout

-- d: the remote timer ran out
abbrev pub remote_sleeps : Mode → Traffic → Option Note
remote_sleeps m x = noted (m.sending && ltb 0 x.remote && leb x.remote 1) RemoteSleepIndication

-- the first note of a rule, and the second
unfoldable pub first_by : Rule → Mode → Mode → Option Note
first_by Keep before after = None
first_by NotHere before after = None
first_by WakeUp before after = Some NetworkMode
first_by ActiveWakeUp before after = Some NetworkMode
first_by Request before after = None
first_by ToNormal before after = None
first_by Release before after = None
first_by ToReady before after = None
first_by Repeat before after = None
first_by Disable before after = None
first_by Enable before after = None
first_by Confirm before after = None
first_by Start before after = Some NetworkStart
first_by HeardInRepeat before after = None
first_by HeardInNormal before after = None
first_by HeardInReady before after = None
first_by FilterOn before after = None
first_by TickInPrepare before after = noted (is_bus_sleep after.state) BusSleep
first_by TickInRepeat before after = timed_out before
first_by TickInNormal before after = timed_out before
first_by TickInReady before after = noted (is_prepare after.state) PrepareBusSleep

unfoldable pub second_by : Rule → Mode → Traffic → Option Note
second_by Keep before x = None
second_by NotHere before x = None
second_by WakeUp before x = cancelled x
second_by ActiveWakeUp before x = cancelled x
second_by Request before x = None
second_by ToNormal before x = None
second_by Release before x = None
second_by ToReady before x = None
second_by Repeat before x = cancelled x
second_by Disable before x = None
second_by Enable before x = None
second_by Confirm before x = None
second_by Start before x = None
second_by HeardInRepeat before x = None
second_by HeardInNormal before x = cancelled x
second_by HeardInReady before x = cancelled x
second_by FilterOn before x = None
second_by TickInPrepare before x = None
second_by TickInRepeat before x = None
second_by TickInNormal before x = remote_sleeps before x
second_by TickInReady before x = None
