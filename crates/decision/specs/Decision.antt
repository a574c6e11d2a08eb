-- Which transition rule a call brings in a state. Assumes nothing.
use Rattle.std.specs.Prelude.{ℕ, ◌+◌, ◌*◌, Bool, true, false, List, [], ◌∷◌, get_or}
use Rattle.states.specs.declared.State.{State}
use Rattle.decision.specs.declared.Rule.{Rule}
use Rattle.decision.specs.declared.Rule.TheVariants.{
  Keep,
  NotHere,
  WakeUp,
  ActiveWakeUp,
  Request,
  ToNormal,
  Release,
  ToReady,
  Repeat,
  Disable,
  Enable,
  Confirm,
  Start,
  HeardInRepeat,
  HeardInNormal,
  HeardInReady,
  FilterOn,
  TickInPrepare,
  TickInRepeat,
  TickInNormal,
  TickInReady,
}
use Rattle.states.specs.State.{state_number}

-- The calls with their arguments. The main function, the tick, has the driver's word that it takes a frame and the length of
-- the lent frame.
pub data Call : Type 0 where
  network_request network_release passive_start_up repeat_message_request disable_communication enable_communication : Call
  tx_confirmation : Bool → Call
  rx_indication : List ℕ → Call
  confirm_pn_availability : Call
  set_user_data set_pn_requests : List ℕ → Call
  status : Call
  main_function : Bool → ℕ → Call

abbrev pub call_number : Call → ℕ
call_number network_request = 0
call_number network_release = 1
call_number passive_start_up = 2
call_number repeat_message_request = 3
call_number disable_communication = 4
call_number enable_communication = 5
call_number (tx_confirmation good) = 6
call_number (rx_indication pdu) = 7
call_number confirm_pn_availability = 8
call_number (set_user_data bytes) = 9
call_number (set_pn_requests bytes) = 10
call_number status = 11
call_number (main_function taken room) = 12

-- A row for each call, a column for each state: Bus-Sleep, Prepare Bus-Sleep, Repeat Message, Normal Operation, Ready Sleep.
unfoldable pub table : List Rule
table =
    ActiveWakeUp ∷ ActiveWakeUp ∷ Request ∷ Request ∷ ToNormal
    ∷ Release ∷ Release ∷ Release ∷ ToReady ∷ Release
    ∷ WakeUp ∷ WakeUp ∷ NotHere ∷ NotHere ∷ NotHere
    ∷ NotHere ∷ NotHere ∷ NotHere ∷ Repeat ∷ Repeat
    ∷ NotHere ∷ NotHere ∷ Disable ∷ Disable ∷ Disable
    ∷ NotHere ∷ NotHere ∷ Enable ∷ Enable ∷ Enable
    ∷ Keep ∷ Keep ∷ Confirm ∷ Confirm ∷ Confirm
    ∷ Start ∷ WakeUp ∷ HeardInRepeat ∷ HeardInNormal ∷ HeardInReady
    ∷ FilterOn ∷ FilterOn ∷ FilterOn ∷ FilterOn ∷ FilterOn
    ∷ Keep ∷ Keep ∷ Keep ∷ Keep ∷ Keep
    ∷ Keep ∷ Keep ∷ Keep ∷ Keep ∷ Keep
    ∷ Keep ∷ Keep ∷ Keep ∷ Keep ∷ Keep
    ∷ Keep ∷ TickInPrepare ∷ TickInRepeat ∷ TickInNormal ∷ TickInReady
    ∷ []

unfoldable pub rule_at : ℕ → Rule
rule_at key = get_or table key Keep

-- the rule of a state and a call
abbrev pub rule_of : State → ℕ → Rule
rule_of state call = rule_at (5 * call + state_number state)

-- the call is not for the state
abbrev pub is_not_here : Rule → Bool
is_not_here Keep = false
is_not_here NotHere = true
is_not_here WakeUp = false
is_not_here ActiveWakeUp = false
is_not_here Request = false
is_not_here ToNormal = false
is_not_here Release = false
is_not_here ToReady = false
is_not_here Repeat = false
is_not_here Disable = false
is_not_here Enable = false
is_not_here Confirm = false
is_not_here Start = false
is_not_here HeardInRepeat = false
is_not_here HeardInNormal = false
is_not_here HeardInReady = false
is_not_here FilterOn = false
is_not_here TickInPrepare = false
is_not_here TickInRepeat = false
is_not_here TickInNormal = false
is_not_here TickInReady = false
