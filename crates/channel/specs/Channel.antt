-- The channel: the fresh one, what is sound, and what every call gives. Assumes nothing.
use Rattle.std.specs.Prelude.{ℕ, Bool, true, false, cond, ◌&&◌, List, [], ◌∷◌, Option, None, Some, length, replicate, is_ok}
use Rattle.std.proofs.lemmas.List.Edits.{sets}
use Rattle.answers.specs.Answers.{Answer, Done, ruled}
use Rattle.bits.specs.Bits.{count_ones, lowest_in}
use Rattle.timers.specs.Timers.{counted_down}
use Rattle.vectors.specs.Vectors.{vector_byte, vectors_differ}
use Rattle.pnc.specs.Pnc.{number_in, number_or_zero, range_of}
use Rattle.config.specs.declared.Config.{Config}
use Rattle.config.specs.Times.{Ticks}
use Rattle.config.specs.Ranges.{pdu_most, pnc_most, pn_most}
use Rattle.rules.specs.Rules.{first_broken}
use Rattle.time_rules.specs.TimeRules.{ticks_for}
use Rattle.states.specs.declared.State.TheVariants.{BusSleep}
use Rattle.states.specs.declared.Mode.{Mode}
use Rattle.states.specs.declared.Traffic.{Traffic}
use Rattle.channel.specs.declared.state.Own.{Own}
use Rattle.channel.specs.declared.state.Channel.{Channel}
use Rattle.channel.specs.declared.state.Notes.{Notes}
use Rattle.states.specs.declared.Note.{Note}
use Rattle.channel.specs.declared.state.Reply.{Reply}
use Rattle.channel.specs.declared.state.Started.{Started}
use Rattle.channel.specs.declared.state.Status.{Status}
use Rattle.states.specs.State.{state_number}
use Rattle.decision.specs.declared.Rule
use Rattle.decision.specs.declared.Rule.TheVariants.{Keep}
use Rattle.decision.specs.Decision.{Call, network_request, network_release, passive_start_up, repeat_message_request, disable_communication, enable_communication, tx_confirmation, rx_indication, confirm_pn_availability, set_user_data, set_pn_requests, status, main_function, call_number, rule_of}
use Rattle.modes.specs.Mode.{mode}
use Rattle.mode_transitions.specs.ModeTransitions.{mode_by}
use Rattle.traffic_transitions.specs.TrafficTransitions.{traffic_by}
use Rattle.traffic.specs.Traffic.{traffic, setup_of}
use Rattle.sending.specs.Sending.{framing, is_due}
use Rattle.notes.specs.Notes.{first_by, second_by}
use Rattle.soundness.specs.Sound.{sound_of}
use Rattle.heard.specs.Heard.{accepted, asks_repeat, loaded_by}
use Rattle.frames.specs.Frames.{framed, sent_loaded}
use Rattle.refusals.specs.Refusals.{refusal, is_done, judged}

abbrev pub notes : Option Note → Option Note → Bool → Bool → Notes
notes first second ei er = record { first = first; second = second; eira = ei; era = er }

-- ---- sound

unfoldable pub sound : Channel → Bool
sound ch = sound_of ch.own.config ch.own.ticks ch.own.mode ch.own.traffic ch.own.era ch.eira

-- ---- the freshly initialised channel

abbrev pub fresh_mode : Mode
fresh_mode = mode BusSleep false true false 0 0 0

abbrev pub fresh_traffic : Traffic
fresh_traffic = traffic 0 0 0 false false false

unfoldable pub fresh : Config → Ticks → Channel
fresh c t =
    record {
      own =
          record {
            config = c;
            ticks = t;
            mode = fresh_mode;
            traffic = fresh_traffic;
            user = replicate pdu_most 255;
            requests = replicate pdu_most 0;
            era = replicate pnc_most 0;
          };
      eira = replicate pnc_most 0;
    }

-- initialising: 0, or 2 with the rule and a channel that is all zeros
abbrev pub zero_config : Config
zero_config =
    record {
      period = 0;
      times = record { timeout = 0; wait = 0; repeat = 0; cycle = 0; offset = 0; fast = 0; remote = 0; reset = 0 };
      immediate = 0;
      node = 0;
      passive = false;
      layout = record { length = 0; sni = 0; cbv = 0 };
      pn = record { on = false; start = 0; length = 0; awake = false; masked = 0; mask = replicate pdu_most 0 };
    }

abbrev pub zero_ticks : Ticks
zero_ticks = record { timeout = 0; wait = 0; repeat = 0; cycle = 0; offset = 0; fast = 0; remote = 0; reset = 0 }

unfoldable pub zero : Channel
zero =
    record {
      own =
          record {
            config = zero_config;
            ticks = zero_ticks;
            mode = mode BusSleep false false false 0 0 0;
            traffic = fresh_traffic;
            user = replicate pdu_most 0;
            requests = replicate pdu_most 0;
            era = replicate pnc_most 0;
          };
      eira = replicate pnc_most 0;
    }

abbrev pub started : Channel → Answer → Started
started ch a = record { channel = ch; answer = a }

unfoldable pub initialised : Config → Started
initialised c =
    cond (is_ok (first_broken c)) (started (fresh c (ticks_for c)) Done) (started zero (ruled (first_broken c)))

-- ---- a call that is carried out

-- a call that takes effect: a bad confirmation and a dropped PDU change nothing
abbrev pub is_heeded : Config → Mode → Call → Bool
is_heeded c m network_request = true
is_heeded c m network_release = true
is_heeded c m passive_start_up = true
is_heeded c m repeat_message_request = true
is_heeded c m disable_communication = true
is_heeded c m enable_communication = true
is_heeded c m (tx_confirmation good) = good
is_heeded c m (rx_indication pdu) = accepted c m.filter pdu
is_heeded c m confirm_pn_availability = true
is_heeded c m (set_user_data bytes) = true
is_heeded c m (set_pn_requests bytes) = true
is_heeded c m status = true
is_heeded c m (main_function taken room) = true

-- the transition rule
unfoldable pub rule_for : Config → Mode → Call → Rule.Rule
rule_for c m x = cond (is_heeded c m x) (rule_of m.state (call_number x)) Keep

-- a PDU that asks for Repeat
unfoldable pub again_for : Config → Call → Bool
again_for c network_request = false
again_for c network_release = false
again_for c passive_start_up = false
again_for c repeat_message_request = false
again_for c disable_communication = false
again_for c enable_communication = false
again_for c (tx_confirmation good) = false
again_for c (rx_indication pdu) = asks_repeat c pdu
again_for c confirm_pn_availability = false
again_for c (set_user_data bytes) = false
again_for c (set_pn_requests bytes) = false
again_for c status = false
again_for c (main_function taken room) = false

abbrev pub is_tick : Call → Bool
is_tick network_request = false
is_tick network_release = false
is_tick passive_start_up = false
is_tick repeat_message_request = false
is_tick disable_communication = false
is_tick enable_communication = false
is_tick (tx_confirmation good) = false
is_tick (rx_indication pdu) = false
is_tick confirm_pn_availability = false
is_tick (set_user_data bytes) = false
is_tick (set_pn_requests bytes) = false
is_tick status = false
is_tick (main_function taken room) = true

-- the driver takes a frame
abbrev pub is_taken : Call → Bool
is_taken network_request = false
is_taken network_release = false
is_taken passive_start_up = false
is_taken repeat_message_request = false
is_taken disable_communication = false
is_taken enable_communication = false
is_taken (tx_confirmation good) = false
is_taken (rx_indication pdu) = false
is_taken confirm_pn_availability = false
is_taken (set_user_data bytes) = false
is_taken (set_pn_requests bytes) = false
is_taken status = false
is_taken (main_function taken room) = taken

-- the mode: of the configuration, its ticks and the mode before, it sees nothing else of the channel
unfoldable pub mode_after : Config → Ticks → Mode → Call → Mode
mode_after c t m x = mode_by (rule_for c m x) (again_for c x) t m

-- the traffic: by the rule, and in a tick then step f
unfoldable pub traffic_moved : Own → Call → Traffic
traffic_moved o x =
    traffic_by (rule_for o.config o.mode x) (again_for o.config x) (setup_of o.config o.ticks) o.mode
    (mode_after o.config o.ticks o.mode x)
    o.traffic

unfoldable pub traffic_after : Own → Call → Traffic
traffic_after o x =
    cond (is_tick x)
    (framing (setup_of o.config o.ticks) (mode_after o.config o.ticks o.mode x) (is_taken x) (traffic_moved o x))
    (traffic_moved o x)

-- a frame is sent
unfoldable pub sends : Own → Call → Bool
sends o x =
    is_taken x && is_due (setup_of o.config o.ticks) (mode_after o.config o.ticks o.mode x) (traffic_moved o x)

-- the bytes that a call sets
unfoldable pub user_after : List ℕ → Call → List ℕ
user_after user network_request = user
user_after user network_release = user
user_after user passive_start_up = user
user_after user repeat_message_request = user
user_after user disable_communication = user
user_after user enable_communication = user
user_after user (tx_confirmation good) = user
user_after user (rx_indication pdu) = user
user_after user confirm_pn_availability = user
user_after user (set_user_data bytes) = sets user 0 bytes
user_after user (set_pn_requests bytes) = user
user_after user status = user
user_after user (main_function taken room) = user

unfoldable pub requests_after : List ℕ → Call → List ℕ
requests_after requests network_request = requests
requests_after requests network_release = requests
requests_after requests passive_start_up = requests
requests_after requests repeat_message_request = requests
requests_after requests disable_communication = requests
requests_after requests enable_communication = requests
requests_after requests (tx_confirmation good) = requests
requests_after requests (rx_indication pdu) = requests
requests_after requests confirm_pn_availability = requests
requests_after requests (set_user_data bytes) = requests
requests_after requests (set_pn_requests bytes) = sets requests 0 bytes
requests_after requests status = requests
requests_after requests (main_function taken room) = requests

-- what an accepted PDU loads, in every state
unfoldable pub heard_by : Own → List ℕ → Call → List ℕ
heard_by o timers network_request = timers
heard_by o timers network_release = timers
heard_by o timers passive_start_up = timers
heard_by o timers repeat_message_request = timers
heard_by o timers disable_communication = timers
heard_by o timers enable_communication = timers
heard_by o timers (tx_confirmation good) = timers
heard_by o timers (rx_indication pdu) =
    cond (accepted o.config o.mode.filter pdu) (loaded_by o.config o.ticks.reset pdu timers) timers
heard_by o timers confirm_pn_availability = timers
heard_by o timers (set_user_data bytes) = timers
heard_by o timers (set_pn_requests bytes) = timers
heard_by o timers status = timers
heard_by o timers (main_function taken room) = timers

-- e: in a tick every running timer counts down
unfoldable pub era_after : Own → Call → List ℕ
era_after o x = cond (is_tick x) (counted_down o.era) (heard_by o o.era x)

-- e and f: EIRA counts down too, and a sent frame loads it
unfoldable pub eira_after : Own → List ℕ → Call → List ℕ
eira_after o timers x =
    cond (is_tick x)
    (cond (sends o x) (sent_loaded o.config o.ticks.reset o.requests timers) (counted_down timers))
    (heard_by o timers x)

unfoldable pub own_after : Own → Call → Own
own_after o x =
    record {
      config = o.config;
      ticks = o.ticks;
      mode = mode_after o.config o.ticks o.mode x;
      traffic = traffic_after o x;
      user = user_after o.user x;
      requests = requests_after o.requests x;
      era = era_after o x;
    }

-- EI and ER close a call after which EIRA or ERA differs
unfoldable pub notes_after : Channel → Call → Notes
notes_after ch x =
    notes
    (first_by (rule_for ch.own.config ch.own.mode x) ch.own.mode
    (mode_after ch.own.config ch.own.ticks ch.own.mode x))
    (second_by (rule_for ch.own.config ch.own.mode x) ch.own.mode ch.own.traffic)
    (vectors_differ ch.eira (eira_after ch.own ch.eira x))
    (vectors_differ ch.own.era (era_after ch.own x))

unfoldable pub carried_out : Channel → Call → Reply
carried_out ch x =
    record {
      channel = record { own = own_after ch.own x; eira = eira_after ch.own ch.eira x };
      answer = Done;
      notes = notes_after ch x;
      sent = sends ch.own x;
    }

-- ---- a call

-- refused: the same channel, no note, no frame
unfoldable pub refused : Channel → Answer → Reply
refused ch a = record { channel = ch; answer = a; notes = notes None None false false; sent = false }

unfoldable pub answer_of : Channel → Call → Answer
answer_of ch x = judged (sound ch) (refusal ch.own.config ch.own.mode.state x)

unfoldable pub replied : Channel → Call → Reply
replied ch x = cond (is_done (answer_of ch x)) (carried_out ch x) (refused ch (answer_of ch x))

-- ---- the tick with its frame

-- a frame that is sent fills the first bytes of the lent one; otherwise every byte stays
unfoldable pub frame_after : Channel → Call → List ℕ → List ℕ
frame_after ch x frame =
    cond (replied ch x).sent (framed ch.own.config (traffic_moved ch.own x) ch.own.requests ch.own.user frame) frame

pub record Ticked : Type 0 where
  pub reply : Reply
  pub frame : List ℕ

abbrev pub ticked : Reply → List ℕ → Ticked
ticked r frame = record { reply = r; frame = frame }

unfoldable pub ticked_by : Channel → Bool → List ℕ → Ticked
ticked_by ch taken frame =
    ticked (replied ch (main_function taken (length frame))) (frame_after ch (main_function taken (length frame)) frame)

-- ---- status

-- the vector of a table: a bit is 1 while its timer is not 0
unfoldable pub vector_of : List ℕ → List ℕ
vector_of ts =
    vector_byte ts 0 ∷ vector_byte ts 8 ∷ vector_byte ts 16 ∷ vector_byte ts 24 ∷ vector_byte ts 32 ∷ vector_byte ts 40 ∷ vector_byte ts 48 ∷ []

-- the PNC of the lowest one, 0 for none
abbrev pub lowest_pnc : Config → Option ℕ → ℕ
lowest_pnc c (Some k) = number_or_zero (number_in (range_of c) (record { 0 = k }))
lowest_pnc c None = 0

-- the number of requested PNCs is the number of ones in EIRA's vector
unfoldable pub shown : Channel → Status
shown ch =
    record {
      answer = Done;
      state = state_number ch.own.mode.state;
      era = vector_of ch.own.era;
      eira = vector_of ch.eira;
      count = count_ones (vector_of ch.eira);
      lowest = lowest_pnc ch.own.config (lowest_in (vector_of ch.eira));
    }

unfoldable pub unshown : Answer → Status
unshown a = record { answer = a; state = 0; era = replicate pn_most 0; eira = replicate pn_most 0; count = 0; lowest = 0 }

unfoldable pub status_of : Channel → Status
status_of ch = cond (is_done (answer_of ch status)) (shown ch) (unshown (answer_of ch status))
