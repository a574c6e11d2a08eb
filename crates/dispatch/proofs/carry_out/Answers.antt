-- `dispatch::carry_out` meets its contract. Assumes nothing.
use mathlib.Core.Path.{refl}
use Rattle.channel.specs.Channel.{ticked_by}
use Rattle.dispatch.specs.Calls.{carried_out_by}
use Rattle.dispatch.proofs.Unframed.{unframed}
use Rattle.dispatch.proofs.carry_out.Goals as goal

pub returns-in-NetworkRequest : goal.returns-in-NetworkRequest
returns-in-NetworkRequest c = rw c.in-NetworkRequest.is (unframed _ _ _ refl c.network_request.ensures)

pub returns-in-NetworkRelease : goal.returns-in-NetworkRelease
returns-in-NetworkRelease c = rw c.in-NetworkRelease.is (unframed _ _ _ refl c.network_release.ensures)

pub returns-in-PassiveStartUp : goal.returns-in-PassiveStartUp
returns-in-PassiveStartUp c = rw c.in-PassiveStartUp.is (unframed _ _ _ refl c.passive_start_up.ensures)

pub returns-in-RepeatMessageRequest : goal.returns-in-RepeatMessageRequest
returns-in-RepeatMessageRequest c = rw c.in-RepeatMessageRequest.is (unframed _ _ _ refl c.repeat_message_request.ensures)

pub returns-in-DisableCommunication : goal.returns-in-DisableCommunication
returns-in-DisableCommunication c = rw c.in-DisableCommunication.is (unframed _ _ _ refl c.disable_communication.ensures)

pub returns-in-EnableCommunication : goal.returns-in-EnableCommunication
returns-in-EnableCommunication c = rw c.in-EnableCommunication.is (unframed _ _ _ refl c.enable_communication.ensures)

pub returns-in-TxConfirmation : goal.returns-in-TxConfirmation
returns-in-TxConfirmation c = rw c.in-TxConfirmation.is (unframed _ _ _ refl c.tx_confirmation.ensures)

pub returns-in-RxIndication : goal.returns-in-RxIndication
returns-in-RxIndication c = rw c.in-RxIndication.is (unframed _ _ _ refl (rw c.part.ensures at c.rx_indication.ensures))

pub returns-in-ConfirmPnAvailability : goal.returns-in-ConfirmPnAvailability
returns-in-ConfirmPnAvailability c = rw c.in-ConfirmPnAvailability.is (unframed _ _ _ refl c.confirm_pn_availability.ensures)

pub returns-in-SetUserData : goal.returns-in-SetUserData
returns-in-SetUserData c = rw c.in-SetUserData.is (unframed _ _ _ refl (rw c.part-in-SetUserData.ensures at c.set_user_data.ensures))

pub returns-in-SetPnRequests : goal.returns-in-SetPnRequests
returns-in-SetPnRequests c = rw c.in-SetPnRequests.is (unframed _ _ _ refl (rw c.part-in-SetPnRequests.ensures at c.set_pn_requests.ensures))

pub returns-in-MainFunction : goal.returns-in-MainFunction
unfolding carried_out_by ticked_by
returns-in-MainFunction c = rw c.in-MainFunction.is c.main_function.ensures
