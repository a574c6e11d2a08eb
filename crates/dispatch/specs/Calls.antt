-- The calls that the lines of a trace ask for. Assumes nothing.
use Rattle.std.specs.Prelude.{ℕ, List, take, drop}
use Rattle.decision.specs.Decision as calls
use Rattle.command_names.specs.declared.Command.{Command}
use Rattle.command_names.specs.declared.Command.TheVariants.{NetworkRequest, NetworkRelease, PassiveStartUp, RepeatMessageRequest, DisableCommunication, EnableCommunication, TxConfirmation, RxIndication, ConfirmPnAvailability, SetUserData, SetPnRequests, MainFunction}
use Rattle.channel.specs.declared.state.Channel.{Channel}
use Rattle.channel.specs.Channel.{Ticked, frame_after, replied, ticked}

-- the call of a command; its bytes stand in front of a buffer, and the frame that is lent has so much room
abbrev pub call_for : Command → List ℕ → ℕ → calls.Call
call_for NetworkRequest bytes room = calls.network_request
call_for NetworkRelease bytes room = calls.network_release
call_for PassiveStartUp bytes room = calls.passive_start_up
call_for RepeatMessageRequest bytes room = calls.repeat_message_request
call_for DisableCommunication bytes room = calls.disable_communication
call_for EnableCommunication bytes room = calls.enable_communication
call_for (TxConfirmation good) bytes room = calls.tx_confirmation good
call_for (RxIndication n) bytes room = calls.rx_indication (take n (drop 0 bytes))
call_for ConfirmPnAvailability bytes room = calls.confirm_pn_availability
call_for (SetUserData n) bytes room = calls.set_user_data (take n (drop 0 bytes))
call_for (SetPnRequests n) bytes room = calls.set_pn_requests (take n (drop 0 bytes))
call_for (MainFunction taken) bytes room = calls.main_function taken room

-- what a call gives, and the lent frame after it
unfoldable pub carried_out_by : Channel → calls.Call → List ℕ → Ticked
carried_out_by ch x frame = ticked (replied ch x) (frame_after ch x frame)
