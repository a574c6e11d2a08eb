-- `dispatch_in_place::carry_out_in_place` meets its contract. Assumes nothing.
use mathlib.Core.Path.{refl}
use Rattle.channel.specs.Channel.{ticked_by}
use Rattle.dispatch.specs.Calls.{carried_out_by}
use Rattle.dispatch.proofs.Unframed.{unframed}
use Rattle.dispatch_in_place.proofs.carry_out_in_place.Goals as goal

pub returns-in-MainFunction : goal.returns-in-MainFunction
unfolding carried_out_by ticked_by
returns-in-MainFunction c = rw c.in-MainFunction.is c.main_function_in_place.ensures

pub returns-in-RxIndication : goal.returns-in-RxIndication
returns-in-RxIndication c =
    rw c.in-RxIndication.is (unframed _ _ _ refl (rw c.part.ensures at c.rx_indication_in_place.ensures))
