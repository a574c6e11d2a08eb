-- The calls that change no vector and no byte go by their number. Assumes nothing.
use mathlib.Core.Path.{◌≡◌}
use mathlib.Core.Bool.{Bool, true}
use Rattle.vectors.proofs.Vectors.{differs_not}
use Rattle.channel.specs.declared.state.Channel.{Channel}
use Rattle.decision.specs.Decision.{
  Call,
  network_request,
  network_release,
  passive_start_up,
  repeat_message_request,
  disable_communication,
  enable_communication,
  tx_confirmation,
  rx_indication,
  confirm_pn_availability,
  set_user_data,
  set_pn_requests,
  status,
  main_function,
  call_number,
}
use Rattle.refusals.specs.Refusals.{refusal, refused_passive, refused_pn_off}
use Rattle.channel.specs.Channel.{again_for, answer_of, carried_out, eira_after, era_after, heard_by, mode_after, notes_after, own_after, replied, requests_after, rule_for, sends, traffic_after, traffic_moved, user_after}
use Rattle.channel.specs.Moved.{finished, moved_by, plainly}

-- the calls that change no vector and no byte; a bad confirmation is not heeded
abbrev pub Plain : Call → Type 0
Plain network_request = Unit {0}
Plain network_release = Unit {0}
Plain passive_start_up = Unit {0}
Plain repeat_message_request = Unit {0}
Plain disable_communication = Unit {0}
Plain enable_communication = Unit {0}
Plain (tx_confirmation good) = Unit {0}
Plain (rx_indication pdu) = ⊥
Plain confirm_pn_availability = Unit {0}
Plain (set_user_data bytes) = ⊥
Plain (set_pn_requests bytes) = ⊥
Plain status = ⊥
Plain (main_function taken room) = ⊥

abbrev pub heeded : Call → Bool
heeded network_request = true
heeded network_release = true
heeded passive_start_up = true
heeded repeat_message_request = true
heeded disable_communication = true
heeded enable_communication = true
heeded (tx_confirmation good) = good
heeded (rx_indication pdu) = true
heeded confirm_pn_availability = true
heeded (set_user_data bytes) = true
heeded (set_pn_requests bytes) = true
heeded status = true
heeded (main_function taken room) = true

pub by_number : (ch : Channel) (x : Call) → Plain x
    → replied ch x ≡ plainly ch (call_number x) (refused_passive ch.own.config x) (refused_pn_off ch.own.config x) (heeded x)
unfolding replied answer_of refusal carried_out own_after notes_after mode_after traffic_after traffic_moved user_after requests_after era_after eira_after heard_by sends rule_for again_for plainly finished moved_by
by_number ch network_request p = rw (differs_not ch.eira, differs_not ch.own.era)
by_number ch network_release p = rw (differs_not ch.eira, differs_not ch.own.era)
by_number ch passive_start_up p = rw (differs_not ch.eira, differs_not ch.own.era)
by_number ch repeat_message_request p = rw (differs_not ch.eira, differs_not ch.own.era)
by_number ch disable_communication p = rw (differs_not ch.eira, differs_not ch.own.era)
by_number ch enable_communication p = rw (differs_not ch.eira, differs_not ch.own.era)
by_number ch (tx_confirmation good) p = rw (differs_not ch.eira, differs_not ch.own.era)
by_number ch (rx_indication pdu) p = absurd p
by_number ch confirm_pn_availability p = rw (differs_not ch.eira, differs_not ch.own.era)
by_number ch (set_user_data bytes) p = absurd p
by_number ch (set_pn_requests bytes) p = absurd p
by_number ch status p = absurd p
by_number ch (main_function taken room) p = absurd p
