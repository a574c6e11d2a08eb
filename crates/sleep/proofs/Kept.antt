-- Every call that is answered 0 keeps the traffic sound. Assumes nothing.
use Prim.Native.Nat.{ℕ, zero, suc}
use mathlib.Core.Path.{◌≡◌, refl}
use mathlib.Core.Bool.{Bool, true, false}
use mathlib.Core.List.{List}
use native.Mathlib.Omega.{arith}
use borrow.Author.Tests.{lt-leb, ne_eqb}
use Rattle.config.specs.declared.Config.{Config}
use Rattle.config.specs.Times.{Ticks}
use Rattle.states.specs.declared.State.TheVariants.{BusSleep, PrepareBusSleep, NormalOperation, ReadySleep}
use Rattle.states.specs.declared.Mode.{Mode}
use Rattle.states.specs.declared.Traffic.{Traffic}
use Rattle.traffic.specs.declared.Setup.{Setup}
use Rattle.decision.specs.Decision.{Call, network_request, network_release, passive_start_up, repeat_message_request, disable_communication, enable_communication, tx_confirmation, rx_indication, confirm_pn_availability, set_user_data, set_pn_requests, status, main_function, rule_at, table}
use Rattle.modes.specs.Mode.{enter_network, enter_repeat, restart, heard, enabled}
use Rattle.mode_steps.specs.ModeSteps.{nm_in_repeat_or_normal, prepared, nm_in_ready, wait_in_prepare, repeat_in_repeat}
use Rattle.mode_transitions.specs.ModeTransitions.{mode_by}
use Rattle.traffic_transitions.specs.TrafficTransitions.{traffic_by}
use Rattle.traffic_steps.specs.TrafficSteps.{in_ready, in_repeat}
use Rattle.traffic.specs.Traffic.{setup_of}
use Rattle.heard.specs.Heard.{accepted, asks_repeat}
use Rattle.refusals.specs.Refusals.{refused_passive, refused_state}
use Rattle.channel.specs.Channel.{again_for, mode_after, rule_for}
use Rattle.sleep.specs.Summary.{Summary}
use Rattle.sleep.proofs.Simulation.{Together, asleep, waiting, live, held, clash}
use Rattle.sleep.proofs.Passing.{Tuned}
use Rattle.sleep.proofs.Traffic.{
  TrafficOk,
  to_repeat_law,
  to_repeat_asked_law,
  to_repeat_active_law,
  to_normal_law,
  to_ready_law,
  resumed_ok,
  heard_normal,
  heard_ready,
  ready_to_prepare,
  repeat_to_normal,
  repeat_to_ready,
  in_normal_law,
}

-- a passive channel is neither requested nor disabled
pub record Meek (p requested sending : Bool) : Type 0 where
  pub unasked : p ≡ true → requested ≡ false
  pub sends : p ≡ true → sending ≡ true

active : (p : Bool) → (p ≡ true → ◌≡◌ {A = Bool} true false) → p ≡ false
active true h = h refl
active false h = refl

-- the traffic by the rule of a call
abbrev pub moved_part : Config → Ticks → Mode → Call → Traffic → Traffic
moved_part c t m x tr = traffic_by (rule_for c m x) (again_for c x) (setup_of c t) m (mode_after c t m x) tr

module _ (c : Config) (t : Ticks) (g : Tuned t (setup_of c t).immediate) where
  abbrev S : Setup
  S = setup_of c t

  good : Tuned S.ticks S.immediate
  unfolding setup_of
  good = g

  free : c.passive ≡ false → S.passive ≡ false
  unfolding setup_of
  free e = e

  pdu_kept : (pdu : List ℕ) (a r : Bool) {m : Mode} {b : Summary} (tr : Traffic) → Together t m b → accepted c m.filter pdu ≡ a
      → asks_repeat c pdu ≡ r → TrafficOk S m.state tr
      → TrafficOk S (mode_after c t m (rx_indication pdu)).state (moved_part c t m (rx_indication pdu) tr)
  unfolding mode_after rule_for again_for rule_at table mode_by enter_network enter_repeat restart heard traffic_by
  pdu_kept pdu false s tr (asleep l) ea es o = rw ea o
  pdu_kept pdu false s tr (waiting p w e) ea es o = rw ea o
  pdu_kept pdu false s tr (live p e l) ea es o = rw ea o
  pdu_kept pdu false s tr (held p e l) ea es o = rw ea o
  pdu_kept pdu true s tr (asleep l) ea es o = rw ea o
  pdu_kept pdu true s tr (waiting p w e) ea es o = rw ea (to_repeat_law S good PrepareBusSleep tr o)
  pdu_kept pdu true true tr (live {r = true} {q = zero} p e l) ea es o = rw (ea, es) (heard_normal S good true tr o)
  pdu_kept pdu true true tr (live {r = false} {q = zero} p e l) ea es o = rw (ea, es) (heard_ready S good true tr o)
  pdu_kept pdu true false tr (live {r = true} {q = zero} p e l) ea es o = rw (ea, es) (heard_normal S good false tr o)
  pdu_kept pdu true false tr (live {r = false} {q = zero} p e l) ea es o = rw (ea, es) (heard_ready S good false tr o)
  pdu_kept pdu true s tr (live {q = suc q} p e l) ea es o = rw ea o
  pdu_kept pdu true true tr (held {r = true} {q = zero} p e l) ea es o = rw (ea, es) (heard_normal S good true tr o)
  pdu_kept pdu true true tr (held {r = false} {q = zero} p e l) ea es o = rw (ea, es) (heard_ready S good true tr o)
  pdu_kept pdu true false tr (held {r = true} {q = zero} p e l) ea es o = rw (ea, es) (heard_normal S good false tr o)
  pdu_kept pdu true false tr (held {r = false} {q = zero} p e l) ea es o = rw (ea, es) (heard_ready S good false tr o)
  pdu_kept pdu true s tr (held {q = suc q} p e l) ea es o = rw ea o

  tick_kept : (taken : Bool) (room : ℕ) {m : Mode} {b : Summary} (tr : Traffic) → Together t m b → Meek c.passive b.requested b.sending
      → TrafficOk S m.state tr
      → TrafficOk S (mode_after c t m (main_function taken room)).state (moved_part c t m (main_function taken room) tr)
  unfolding mode_after rule_for again_for rule_at table mode_by nm_in_repeat_or_normal prepared nm_in_ready wait_in_prepare repeat_in_repeat traffic_by in_ready in_repeat
  tick_kept taken room tr (asleep l) k o = o
  tick_kept taken room tr (waiting {w = zero} p w e) k o = absurd (omega arith)
  tick_kept taken room tr (waiting {w = suc zero} p w e) k o = o
  tick_kept taken room tr (waiting {w = suc (suc w)} p w1 e) k o = rw (ne_eqb (suc (suc w)) 1 (λ z. omega arith)) o
  tick_kept taken room {m} tr (live {r = true} {q = zero} p e l) k o = in_normal_law S good m tr (free (active c.passive k.unasked)) o
  tick_kept taken room tr (live {r = false} {n = zero} {q = zero} p e l) k o = absurd (omega arith)
  tick_kept taken room tr (live {r = false} {n = suc zero} {q = zero} p e l) k o = ready_to_prepare S good tr o
  tick_kept taken room tr (live {r = false} {n = suc (suc n)} {q = zero} p e l) k o = rw (lt-leb (suc (suc n)) 1 (omega arith)) o
  tick_kept taken room tr (live {r = true} {q = suc zero} p e l) k o = repeat_to_normal S good tr o
  tick_kept taken room tr (live {r = false} {q = suc zero} p e l) k o = repeat_to_ready S good tr o
  tick_kept taken room tr (live {q = suc (suc q)} p e l) k o = rw (lt-leb (suc (suc q)) 1 (omega arith)) o
  tick_kept taken room {m} tr (held {r = true} {q = zero} p e l) k o = in_normal_law S good m tr (free (active c.passive k.unasked)) o
  tick_kept taken room tr (held {r = false} {q = zero} p e l) k o = o
  tick_kept taken room tr (held {r = true} {q = suc zero} p e l) k o = repeat_to_normal S good tr o
  tick_kept taken room tr (held {r = false} {q = suc zero} p e l) k o = repeat_to_ready S good tr o
  tick_kept taken room tr (held {q = suc (suc q)} p e l) k o = rw (lt-leb (suc (suc q)) 1 (omega arith)) o

  pub traffic_kept : (x : Call) {m : Mode} {b : Summary} (tr : Traffic) → Together t m b → Meek c.passive b.requested b.sending
      → refused_passive c x ≡ false → refused_state m.state x ≡ false → TrafficOk S m.state tr
      → TrafficOk S (mode_after c t m x).state (moved_part c t m x tr)
  unfolding mode_after rule_for again_for rule_at table mode_by enter_network enter_repeat restart enabled traffic_by
  traffic_kept network_request tr (asleep l) k z4 z3 o = to_repeat_active_law S good BusSleep tr (free z4) o
  traffic_kept network_request tr (waiting p w e) k z4 z3 o = to_repeat_active_law S good PrepareBusSleep tr (free z4) o
  traffic_kept network_request tr (live {r = true} {q = zero} p e l) k z4 z3 o = o
  traffic_kept network_request tr (live {r = false} {q = zero} p e l) k z4 z3 o = to_normal_law S good tr (free z4) o
  traffic_kept network_request tr (live {q = suc q} p e l) k z4 z3 o = o
  traffic_kept network_request tr (held {r = true} {q = zero} p e l) k z4 z3 o = o
  traffic_kept network_request tr (held {r = false} {q = zero} p e l) k z4 z3 o = to_normal_law S good tr (free z4) o
  traffic_kept network_request tr (held {q = suc q} p e l) k z4 z3 o = o
  traffic_kept network_release tr (asleep l) k z4 z3 o = o
  traffic_kept network_release tr (waiting p w e) k z4 z3 o = o
  traffic_kept network_release tr (live {r = true} {q = zero} p e l) k z4 z3 o = to_ready_law S good tr o
  traffic_kept network_release tr (live {r = false} {q = zero} p e l) k z4 z3 o = o
  traffic_kept network_release tr (live {q = suc q} p e l) k z4 z3 o = o
  traffic_kept network_release tr (held {r = true} {q = zero} p e l) k z4 z3 o = to_ready_law S good tr o
  traffic_kept network_release tr (held {r = false} {q = zero} p e l) k z4 z3 o = o
  traffic_kept network_release tr (held {q = suc q} p e l) k z4 z3 o = o
  traffic_kept passive_start_up tr (asleep l) k z4 z3 o = to_repeat_law S good BusSleep tr o
  traffic_kept passive_start_up tr (waiting p w e) k z4 z3 o = to_repeat_law S good PrepareBusSleep tr o
  traffic_kept passive_start_up tr (live {r = true} {q = zero} p e l) k z4 z3 o = clash z3
  traffic_kept passive_start_up tr (live {r = false} {q = zero} p e l) k z4 z3 o = clash z3
  traffic_kept passive_start_up tr (live {q = suc q} p e l) k z4 z3 o = clash z3
  traffic_kept passive_start_up tr (held {r = true} {q = zero} p e l) k z4 z3 o = clash z3
  traffic_kept passive_start_up tr (held {r = false} {q = zero} p e l) k z4 z3 o = clash z3
  traffic_kept passive_start_up tr (held {q = suc q} p e l) k z4 z3 o = clash z3
  traffic_kept repeat_message_request tr (asleep l) k z4 z3 o = clash z3
  traffic_kept repeat_message_request tr (waiting p w e) k z4 z3 o = clash z3
  traffic_kept repeat_message_request tr (live {r = true} {q = zero} p e l) k z4 z3 o = to_repeat_asked_law S good NormalOperation tr (free z4) o
  traffic_kept repeat_message_request tr (live {r = false} {q = zero} p e l) k z4 z3 o = to_repeat_asked_law S good ReadySleep tr (free z4) o
  traffic_kept repeat_message_request tr (live {q = suc q} p e l) k z4 z3 o = clash z3
  traffic_kept repeat_message_request tr (held {r = true} {q = zero} p e l) k z4 z3 o = to_repeat_asked_law S good NormalOperation tr (free z4) o
  traffic_kept repeat_message_request tr (held {r = false} {q = zero} p e l) k z4 z3 o = to_repeat_asked_law S good ReadySleep tr (free z4) o
  traffic_kept repeat_message_request tr (held {q = suc q} p e l) k z4 z3 o = clash z3
  traffic_kept disable_communication tr (asleep l) k z4 z3 o = clash z3
  traffic_kept disable_communication tr (waiting p w e) k z4 z3 o = clash z3
  traffic_kept disable_communication tr (live {r = true} {q = zero} p e l) k z4 z3 o = o
  traffic_kept disable_communication tr (live {r = false} {q = zero} p e l) k z4 z3 o = o
  traffic_kept disable_communication tr (live {q = suc q} p e l) k z4 z3 o = o
  traffic_kept disable_communication tr (held {r = true} {q = zero} p e l) k z4 z3 o = o
  traffic_kept disable_communication tr (held {r = false} {q = zero} p e l) k z4 z3 o = o
  traffic_kept disable_communication tr (held {q = suc q} p e l) k z4 z3 o = o
  traffic_kept enable_communication tr (asleep l) k z4 z3 o = clash z3
  traffic_kept enable_communication tr (waiting p w e) k z4 z3 o = clash z3
  traffic_kept enable_communication {m} tr (live {r = true} {q = zero} p e l) k z4 z3 o = resumed_ok S good m tr (free z4) o
  traffic_kept enable_communication {m} tr (live {r = false} {q = zero} p e l) k z4 z3 o = resumed_ok S good m tr (free z4) o
  traffic_kept enable_communication {m} tr (live {q = suc q} p e l) k z4 z3 o = resumed_ok S good m tr (free z4) o
  traffic_kept enable_communication {m} tr (held {r = true} {q = zero} p e l) k z4 z3 o = resumed_ok S good m tr (free z4) o
  traffic_kept enable_communication {m} tr (held {r = false} {q = zero} p e l) k z4 z3 o = resumed_ok S good m tr (free z4) o
  traffic_kept enable_communication {m} tr (held {q = suc q} p e l) k z4 z3 o = resumed_ok S good m tr (free z4) o
  traffic_kept (tx_confirmation true) tr (asleep l) k z4 z3 o = o
  traffic_kept (tx_confirmation true) tr (waiting p w e) k z4 z3 o = o
  traffic_kept (tx_confirmation true) tr (live {r = true} {q = zero} p e l) k z4 z3 o = o
  traffic_kept (tx_confirmation true) tr (live {r = false} {q = zero} p e l) k z4 z3 o = o
  traffic_kept (tx_confirmation true) tr (live {q = suc q} p e l) k z4 z3 o = o
  traffic_kept (tx_confirmation true) tr (held {r = true} {q = zero} p e l) k z4 z3 o = o
  traffic_kept (tx_confirmation true) tr (held {r = false} {q = zero} p e l) k z4 z3 o = o
  traffic_kept (tx_confirmation true) tr (held {q = suc q} p e l) k z4 z3 o = o
  traffic_kept (tx_confirmation false) tr y k z4 z3 o = o
  traffic_kept (rx_indication pdu) {m} tr y k z4 z3 o = pdu_kept pdu (accepted c m.filter pdu) (asks_repeat c pdu) tr y refl refl o
  traffic_kept confirm_pn_availability tr (asleep l) k z4 z3 o = o
  traffic_kept confirm_pn_availability tr (waiting p w e) k z4 z3 o = o
  traffic_kept confirm_pn_availability tr (live {r = true} {q = zero} p e l) k z4 z3 o = o
  traffic_kept confirm_pn_availability tr (live {r = false} {q = zero} p e l) k z4 z3 o = o
  traffic_kept confirm_pn_availability tr (live {q = suc q} p e l) k z4 z3 o = o
  traffic_kept confirm_pn_availability tr (held {r = true} {q = zero} p e l) k z4 z3 o = o
  traffic_kept confirm_pn_availability tr (held {r = false} {q = zero} p e l) k z4 z3 o = o
  traffic_kept confirm_pn_availability tr (held {q = suc q} p e l) k z4 z3 o = o
  traffic_kept (set_user_data bytes) tr (asleep l) k z4 z3 o = o
  traffic_kept (set_user_data bytes) tr (waiting p w e) k z4 z3 o = o
  traffic_kept (set_user_data bytes) tr (live {r = true} {q = zero} p e l) k z4 z3 o = o
  traffic_kept (set_user_data bytes) tr (live {r = false} {q = zero} p e l) k z4 z3 o = o
  traffic_kept (set_user_data bytes) tr (live {q = suc q} p e l) k z4 z3 o = o
  traffic_kept (set_user_data bytes) tr (held {r = true} {q = zero} p e l) k z4 z3 o = o
  traffic_kept (set_user_data bytes) tr (held {r = false} {q = zero} p e l) k z4 z3 o = o
  traffic_kept (set_user_data bytes) tr (held {q = suc q} p e l) k z4 z3 o = o
  traffic_kept (set_pn_requests bytes) tr (asleep l) k z4 z3 o = o
  traffic_kept (set_pn_requests bytes) tr (waiting p w e) k z4 z3 o = o
  traffic_kept (set_pn_requests bytes) tr (live {r = true} {q = zero} p e l) k z4 z3 o = o
  traffic_kept (set_pn_requests bytes) tr (live {r = false} {q = zero} p e l) k z4 z3 o = o
  traffic_kept (set_pn_requests bytes) tr (live {q = suc q} p e l) k z4 z3 o = o
  traffic_kept (set_pn_requests bytes) tr (held {r = true} {q = zero} p e l) k z4 z3 o = o
  traffic_kept (set_pn_requests bytes) tr (held {r = false} {q = zero} p e l) k z4 z3 o = o
  traffic_kept (set_pn_requests bytes) tr (held {q = suc q} p e l) k z4 z3 o = o
  traffic_kept status tr (asleep l) k z4 z3 o = o
  traffic_kept status tr (waiting p w e) k z4 z3 o = o
  traffic_kept status tr (live {r = true} {q = zero} p e l) k z4 z3 o = o
  traffic_kept status tr (live {r = false} {q = zero} p e l) k z4 z3 o = o
  traffic_kept status tr (live {q = suc q} p e l) k z4 z3 o = o
  traffic_kept status tr (held {r = true} {q = zero} p e l) k z4 z3 o = o
  traffic_kept status tr (held {r = false} {q = zero} p e l) k z4 z3 o = o
  traffic_kept status tr (held {q = suc q} p e l) k z4 z3 o = o
  traffic_kept (main_function taken room) tr y k z4 z3 o = tick_kept taken room tr y k o
