-- What a call is refused with, a row of the table each, and their order. Assumes nothing.
use Rattle.std.specs.Prelude.{Bool, false, cond, not, eqb, leb, length, Err, is_ok}
use Rattle.answers.specs.Answers.{Answer, Done}
use Rattle.answers.specs.declared.Refusal.TheVariants.{Unsound, State, Passive, Length, PnOff}
use Rattle.config.specs.declared.Config.{Config}
use Rattle.config.specs.Ranges.{user_length_of}
use Rattle.states.specs.declared.State
use Rattle.decision.specs.Decision.{
  Call,
  network_request,
  network_release,
  passive_start_up,
  repeat_message_request,
  disable_communication,
  enable_communication,
  tx_confirmation,
  rx_indication,
  confirm_pn_availability,
  set_user_data,
  set_pn_requests,
  status,
  main_function,
  call_number,
  is_not_here,
  rule_of,
}

-- 4: not for a passive channel
abbrev pub refused_passive : Config → Call → Bool
refused_passive c network_request = c.passive
refused_passive c network_release = c.passive
refused_passive c passive_start_up = false
refused_passive c repeat_message_request = c.passive
refused_passive c disable_communication = c.passive
refused_passive c enable_communication = c.passive
refused_passive c (tx_confirmation good) = c.passive
refused_passive c (rx_indication pdu) = false
refused_passive c confirm_pn_availability = false
refused_passive c (set_user_data bytes) = c.passive
refused_passive c (set_pn_requests bytes) = c.passive
refused_passive c status = false
refused_passive c (main_function taken room) = false

-- 6: for a channel with PN on
abbrev pub refused_pn_off : Config → Call → Bool
refused_pn_off c network_request = false
refused_pn_off c network_release = false
refused_pn_off c passive_start_up = false
refused_pn_off c repeat_message_request = false
refused_pn_off c disable_communication = false
refused_pn_off c enable_communication = false
refused_pn_off c (tx_confirmation good) = false
refused_pn_off c (rx_indication pdu) = false
refused_pn_off c confirm_pn_availability = not c.pn.on
refused_pn_off c (set_user_data bytes) = false
refused_pn_off c (set_pn_requests bytes) = not c.pn.on
refused_pn_off c status = false
refused_pn_off c (main_function taken room) = false

-- 3: not for the state
abbrev pub refused_state : State.State → Call → Bool
refused_state s x = is_not_here (rule_of s (call_number x))

-- 5: a PDU, user data or PN bytes not of the configured length; a frame that is too short
abbrev pub refused_length : Config → Call → Bool
refused_length c network_request = false
refused_length c network_release = false
refused_length c passive_start_up = false
refused_length c repeat_message_request = false
refused_length c disable_communication = false
refused_length c enable_communication = false
refused_length c (tx_confirmation good) = false
refused_length c (rx_indication pdu) = not (eqb (length pdu) c.layout.length)
refused_length c confirm_pn_availability = false
refused_length c (set_user_data bytes) = not (eqb (length bytes) (user_length_of c))
refused_length c (set_pn_requests bytes) = not (eqb (length bytes) c.pn.length)
refused_length c status = false
refused_length c (main_function taken room) = not (leb c.layout.length room)

-- the order: 4, 6, 3, 5
abbrev pub first_of : Bool → Bool → Bool → Bool → Answer
first_of passive off here size =
    cond passive (Err Passive) (cond off (Err PnOff) (cond here (Err State) (cond size (Err Length) Done)))

-- the one refusal function, for the channel in its state and for the state that the calls alone show
unfoldable pub refusal : Config → State.State → Call → Answer
refusal c s x = first_of (refused_passive c x) (refused_pn_off c x) (refused_state s x) (refused_length c x)

abbrev pub is_done : Answer → Bool
is_done a = is_ok a

-- 1 comes first
abbrev pub judged : Bool → Answer → Answer
judged sound a = cond sound a (Err Unsound)
