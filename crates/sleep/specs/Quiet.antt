-- Quiet lists, ticks that count, and what k counts. Assumes nothing.
use Rattle.std.specs.Prelude.{ℕ, ◌+◌, ◌≡◌, Bool, true, false, cond, ◌&&◌, List, [], ◌∷◌}
use Rattle.config.specs.declared.Config.{Config}
use Rattle.config.specs.Times.{Ticks}
use Rattle.decision.specs.Decision.{
  Call,
  network_request,
  network_release,
  passive_start_up,
  repeat_message_request,
  disable_communication,
  enable_communication,
  tx_confirmation,
  rx_indication,
  confirm_pn_availability,
  set_user_data,
  set_pn_requests,
  status,
  main_function,
}
use Rattle.heard.specs.Heard.{accepted}
use Rattle.refusals.specs.Refusals.{refusal, is_done}
use Rattle.channel.specs.Channel.{is_tick}
use Rattle.sleep.specs.Summary.{Summary, keeps_awake, shown, summarised}

-- a call that requests, starts up, asks for Repeat, confirms, disables or delivers an accepted PDU
abbrev pub loud : Config → Summary → Call → Bool
loud c b network_request = true
loud c b network_release = false
loud c b passive_start_up = true
loud c b repeat_message_request = true
loud c b disable_communication = true
loud c b enable_communication = false
loud c b (tx_confirmation good) = good
loud c b (rx_indication pdu) = accepted c b.filter pdu
loud c b confirm_pn_availability = false
loud c b (set_user_data bytes) = false
loud c b (set_pn_requests bytes) = false
loud c b status = false
loud c b (main_function taken room) = false

-- a call is answered 0
abbrev pub answered : Config → Ticks → Summary → Call → Bool
answered c t b x = is_done (refusal c (shown t b) x)

-- no call of the list that is answered 0 is loud
abbrev pub Quiet : Config → Ticks → Summary → List Call → Type 0
Quiet c t b [] = Unit {0}
Quiet c t b (x ∷ xs) = (answered c t b x ≡ true → loud c b x ≡ false) × Quiet c t (summarised c t b x) xs

-- the ticks of the list that are answered 0
abbrev pub counts_one : Config → Ticks → Summary → Call → ℕ
counts_one c t b x = cond (answered c t b x && is_tick x) 1 0

abbrev pub ticks_in : Config → Ticks → Summary → List Call → ℕ
ticks_in c t b [] = 0
ticks_in c t b (x ∷ xs) = counts_one c t b x + ticks_in c t (summarised c t b x) xs

-- the call is answered 0 and is a keep-awake; no call of a list is
abbrev pub kept : Config → Ticks → Summary → Call → Bool
kept c t b x = answered c t b x && keeps_awake c t (shown t b) b x

abbrev pub Unkept : Config → Ticks → Summary → List Call → Type 0
Unkept c t b [] = Unit {0}
Unkept c t b (x ∷ xs) = (kept c t b x ≡ false) × Unkept c t (summarised c t b x) xs
