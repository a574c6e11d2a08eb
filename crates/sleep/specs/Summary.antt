-- What the calls alone say of a channel, document 01's book: it sees the configuration and the calls with their arguments,
-- and nothing of the channel. Assumes nothing.
use Rattle.std.specs.Prelude.{ℕ, zero, suc, ◌+◌, ◌-◌, Bool, true, false, cond, not, ◌&&◌, ◌||◌, List, [], ◌∷◌, ltb, eqb}
use Rattle.config.specs.declared.Config.{Config}
use Rattle.config.specs.Times.{Ticks}
use Rattle.states.specs.declared.State.{State}
use Rattle.states.specs.declared.State.TheVariants.{
  BusSleep,
  PrepareBusSleep,
  RepeatMessage,
  NormalOperation,
  ReadySleep,
}
use Rattle.states.specs.State.{in_network, is_prepare, settled, transmits}
use Rattle.decision.specs.Decision.{
  Call,
  network_request,
  network_release,
  passive_start_up,
  repeat_message_request,
  disable_communication,
  enable_communication,
  tx_confirmation,
  rx_indication,
  confirm_pn_availability,
  set_user_data,
  set_pn_requests,
  status,
  main_function,
}
use Rattle.heard.specs.Heard.{accepted, asks_repeat}
use Rattle.refusals.specs.Refusals.{refusal, is_done}
use Rattle.channel.specs.Channel.{is_tick}

-- k: ticks since the last keep-awake, none before the first
pub data Since : Type 0 where
  none : Since
  ago : ℕ → Since

pub record Summary : Type 0 where
  pub requested : Bool
  pub sending : Bool
  pub filter : Bool
  pub since : Since
  -- q: repeat ticks left
  pub left : ℕ

abbrev pub summary : Bool → Bool → Bool → Since → ℕ → Summary
summary r e f k q = record { requested = r; sending = e; filter = f; since = k; left = q }

-- before the first call
abbrev pub blank : Summary
blank = summary false true false none 0

-- ---- the state that it shows

abbrev pub below : Since → ℕ → Bool
below none n = false
below (ago k) n = ltb k n

-- in Network Mode: Repeat while repeat ticks are left, else Normal if requested, else Ready
abbrev pub network_state : ℕ → Bool → State
network_state zero true = NormalOperation
network_state zero false = ReadySleep
network_state (suc q) requested = RepeatMessage

unfoldable pub shown : Ticks → Summary → State
shown t b =
    cond (below b.since t.timeout || not b.sending) (network_state b.left b.requested)
    (cond (below b.since (t.timeout + t.wait)) PrepareBusSleep BusSleep)

-- ---- a call that is answered 0 while it shows s

abbrev pub raised : Since → Since
raised none = none
raised (ago k) = ago (suc k)

abbrev pub hits : Since → ℕ → Bool
hits none n = false
hits (ago k) n = eqb k n

-- is it a keep-awake?
abbrev pub keeps_awake : Config → Ticks → State → Summary → Call → Bool
keeps_awake c t s b network_request = not (in_network s)
keeps_awake c t s b network_release = false
keeps_awake c t s b passive_start_up = not (in_network s)
keeps_awake c t s b repeat_message_request = false
keeps_awake c t s b disable_communication = false
keeps_awake c t s b enable_communication = not b.sending
keeps_awake c t s b (tx_confirmation good) = good && (in_network s && b.sending)
keeps_awake c t s b (rx_indication pdu) = accepted c b.filter pdu && (is_prepare s || (in_network s && b.sending))
keeps_awake c t s b confirm_pn_availability = false
keeps_awake c t s b (set_user_data bytes) = false
keeps_awake c t s b (set_pn_requests bytes) = false
keeps_awake c t s b status = false
keeps_awake c t s b (main_function taken room) = transmits s && (b.sending && hits (raised b.since) t.timeout)

-- k: 0 at a keep-awake, else one more in a tick
abbrev pub since_after : Config → Ticks → State → Summary → Call → Since
since_after c t s b x = cond (keeps_awake c t s b x) (ago 0) (cond (is_tick x) (raised b.since) b.since)

-- does a PDU in Network Mode enter Repeat?
abbrev pub reenters : Config → State → List ℕ → Bool
reenters c s pdu = settled s && asks_repeat c pdu

-- does the call start Repeat?
abbrev pub repeats : Config → State → Summary → Call → Bool
repeats c s b network_request = not (in_network s)
repeats c s b network_release = false
repeats c s b passive_start_up = not (in_network s)
repeats c s b repeat_message_request = true
repeats c s b disable_communication = false
repeats c s b enable_communication = false
repeats c s b (tx_confirmation good) = false
repeats c s b (rx_indication pdu) = accepted c b.filter pdu && (is_prepare s || (in_network s && reenters c s pdu))
repeats c s b confirm_pn_availability = false
repeats c s b (set_user_data bytes) = false
repeats c s b (set_pn_requests bytes) = false
repeats c s b status = false
repeats c s b (main_function taken room) = false

-- q: R where it does, else one less in a tick
abbrev pub left_after : Config → Ticks → State → Summary → Call → ℕ
left_after c t s b x = cond (repeats c s b x) t.repeat (cond (is_tick x) (b.left - 1) b.left)

-- the flags, set by their calls
abbrev pub requested_after : Bool → Call → Bool
requested_after r network_request = true
requested_after r network_release = false
requested_after r passive_start_up = r
requested_after r repeat_message_request = r
requested_after r disable_communication = r
requested_after r enable_communication = r
requested_after r (tx_confirmation good) = r
requested_after r (rx_indication pdu) = r
requested_after r confirm_pn_availability = r
requested_after r (set_user_data bytes) = r
requested_after r (set_pn_requests bytes) = r
requested_after r status = r
requested_after r (main_function taken room) = r

abbrev pub sending_after : Bool → Call → Bool
sending_after e network_request = e
sending_after e network_release = e
sending_after e passive_start_up = e
sending_after e repeat_message_request = e
sending_after e disable_communication = false
sending_after e enable_communication = true
sending_after e (tx_confirmation good) = e
sending_after e (rx_indication pdu) = e
sending_after e confirm_pn_availability = e
sending_after e (set_user_data bytes) = e
sending_after e (set_pn_requests bytes) = e
sending_after e status = e
sending_after e (main_function taken room) = e

abbrev pub filter_after : Bool → Call → Bool
filter_after f network_request = f
filter_after f network_release = f
filter_after f passive_start_up = f
filter_after f repeat_message_request = f
filter_after f disable_communication = f
filter_after f enable_communication = f
filter_after f (tx_confirmation good) = f
filter_after f (rx_indication pdu) = f
filter_after f confirm_pn_availability = true
filter_after f (set_user_data bytes) = f
filter_after f (set_pn_requests bytes) = f
filter_after f status = f
filter_after f (main_function taken room) = f

unfoldable pub turned : Config → Ticks → State → Summary → Call → Summary
turned c t s b x =
    summary (requested_after b.requested x) (sending_after b.sending x) (filter_after b.filter x) (since_after c t s b x)
    (left_after c t s b x)

-- a call: which ones are answered 0 it finds by the table, in the state that it shows
unfoldable pub summarised : Config → Ticks → Summary → Call → Summary
summarised c t b x = cond (is_done (refusal c (shown t b) x)) (turned c t (shown t b) b x) b

-- a list of calls
abbrev pub history : Config → Ticks → Summary → List Call → Summary
history c t b [] = b
history c t b (x ∷ xs) = history c t (summarised c t b x) xs
