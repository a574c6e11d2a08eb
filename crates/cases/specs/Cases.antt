-- The cases to be proved, in one table: numbers that the definitions give, and those that they should give. Assumes nothing.
use Rattle.std.specs.Prelude.{ℕ, zero, suc, Bool, true, false, cond, List, [], ◌∷◌, Option, Some, None, Result}
use Rattle.std.specs.Result.{result_unwrap_or}
use Rattle.answers.specs.declared.BrokenRule.{BrokenRule}
use Rattle.answers.specs.declared.Refusal.{Refusal}
use Rattle.ticks.specs.Ticks.{conversion_of}
use Rattle.config.specs.declared.Config.{Config}
use Rattle.config.specs.declared.Partial.{Partial}
use Rattle.rules.specs.Rules.{first_broken}
use Rattle.answers.specs.Answers.{number_of, rule_of, ruled}
use Rattle.filter.specs.Filter.{verdict_of, verdict_answer, verdict_value}
use Rattle.states.specs.declared.Note.{Note}
use Rattle.states.specs.declared.Note.TheVariants.{
  NetworkMode,
  NetworkStart,
  PrepareBusSleep,
  BusSleep,
  Timeout,
  RemoteSleepCancelled,
  RemoteSleepIndication,
}
use Rattle.states.specs.State.{state_number}
use Rattle.decision.specs.Decision.{Call, confirm_pn_availability, disable_communication, main_function, passive_start_up, rx_indication}
use Rattle.channel.specs.declared.state.Reply.{Reply}
use Rattle.channel.specs.Channel.{initialised, replied}
use Rattle.sleep.specs.Sleep.{after}

pub record Case : Type 0 where
  pub got : List ℕ
  pub wanted : List ℕ

-- ---- kinds of case

-- a time at a period is so many ticks
abbrev given : Result ℕ BrokenRule → List ℕ
given t = rule_of (ruled t) ∷ result_unwrap_or t 0 ∷ []

abbrev pub converts : ℕ → ℕ → ℕ → Case
converts period ms ticks = record { got = given (conversion_of period ms); wanted = 0 ∷ ticks ∷ [] }

-- a configuration breaks this rule first, 0 for none
abbrev pub breaks : Config → ℕ → Case
breaks c rule = record { got = rule_of (ruled (first_broken c)) ∷ []; wanted = rule ∷ [] }

-- the filter keeps (1) or drops (0) a PDU with these PN bytes
abbrev decided : Result Bool Refusal → List ℕ
decided v = number_of (verdict_answer v) ∷ verdict_value v ∷ []

abbrev pub judges : List ℕ → List ℕ → ℕ → Case
judges mask pn keep = record { got = decided (verdict_of false 64 pn mask); wanted = 0 ∷ keep ∷ [] }

-- after some calls on a freshly initialised channel, one more call gives this answer, state and notes, EI and ER last
abbrev pub note_number : Option Note → ℕ
note_number None = 0
note_number (Some NetworkMode) = 1
note_number (Some NetworkStart) = 2
note_number (Some PrepareBusSleep) = 3
note_number (Some BusSleep) = 4
note_number (Some Timeout) = 5
note_number (Some RemoteSleepCancelled) = 6
note_number (Some RemoteSleepIndication) = 7

abbrev flag : Bool → ℕ
flag b = cond b 1 0

abbrev numbers : Reply → List ℕ
numbers r =
    number_of r.answer
    ∷ state_number r.channel.own.mode.state
    ∷ note_number r.notes.first
    ∷ note_number r.notes.second
    ∷ flag r.notes.eira
    ∷ flag r.notes.era
    ∷ []

abbrev pub gives : Config → List Call → Call → List ℕ → Case
gives c before x wanted = record { got = numbers (replied (after (initialised c).channel before) x); wanted = wanted }

-- n ticks in which the driver takes a frame of eight bytes
abbrev pub ticks : ℕ → List Call
ticks zero = []
ticks (suc n) = main_function true 8 ∷ ticks n

-- a PDU of eight bytes without a bit
abbrev pub silent : Call
silent = rx_indication (0 ∷ 0 ∷ 0 ∷ 0 ∷ 0 ∷ 0 ∷ 0 ∷ 0 ∷ [])

-- ---- configurations

-- node 33 with its id in byte 0 and the control bit vector in byte 1 of a PDU; no immediate frames
abbrev pub node33 : Bool → ℕ → ℕ → ℕ → ℕ → ℕ → ℕ → ℕ → ℕ → Partial → Config
node33 passive period timeout wait repeat cycle offset reset length pn =
    record {
      period = period;
      times =
          record {
            timeout = timeout;
            wait = wait;
            repeat = repeat;
            cycle = cycle;
            offset = offset;
            fast = 0;
            remote = 0;
            reset = reset;
          };
      immediate = 0;
      node = 33;
      passive = passive;
      layout = record { length = length; sni = 0; cbv = 1 };
      pn = pn;
    }

-- eight bytes, no PN
abbrev pub plain : Bool → ℕ → ℕ → ℕ → ℕ → ℕ → ℕ → Config
plain passive period timeout wait repeat cycle offset =
    node33 passive period timeout wait repeat cycle offset 0 8
    (record { on = false; start = 0; length = 0; awake = false; masked = 0; mask = 0 ∷ 0 ∷ 0 ∷ 0 ∷ 0 ∷ 0 ∷ 0 ∷ 0 ∷ [] })

-- ---- the table

-- T = 4, W = 3 and R = 4 ticks
abbrev pub four : Bool → Config
four passive = plain passive 10 40 30 40 20 0

-- the same with P = 3 ticks: six bytes, the last two of them PN bytes with the mask 01 97
abbrev pub masked : Config
masked =
    node33 false 10 40 30 40 20 0 30 6
    (record { on = true; start = 4; length = 2; awake = false; masked = 2; mask = 1 ∷ 151 ∷ 0 ∷ 0 ∷ 0 ∷ 0 ∷ 0 ∷ 0 ∷ [] })

-- a PDU of six bytes with PN information in these two
abbrev pub informing : ℕ → ℕ → Call
informing a b = rx_indication (0 ∷ 64 ∷ 0 ∷ 0 ∷ a ∷ b ∷ [])

abbrev pub table : List Case
table =
    converts 20 1010 51
    ∷ converts 20 1000 50
    ∷ converts 20 1 1
    ∷ converts 20 0 0
    ∷ breaks (plain false 20 100 60 80 20 15) 3
    ∷ judges (1 ∷ 151 ∷ []) (0 ∷ 104 ∷ []) 0
    ∷ judges (1 ∷ 151 ∷ []) (254 ∷ 104 ∷ []) 0
    ∷ judges (1 ∷ 151 ∷ []) (0 ∷ 128 ∷ []) 1
    ∷ judges (1 ∷ 151 ∷ []) (1 ∷ 0 ∷ []) 1
    ∷ gives masked (confirm_pn_availability ∷ []) (informing 0 104) (0 ∷ 0 ∷ 0 ∷ 0 ∷ 0 ∷ 0 ∷ [])
    ∷ gives masked (confirm_pn_availability ∷ []) (informing 254 104) (0 ∷ 0 ∷ 0 ∷ 0 ∷ 0 ∷ 0 ∷ [])
    ∷ gives masked (confirm_pn_availability ∷ []) (informing 0 128) (0 ∷ 0 ∷ 2 ∷ 0 ∷ 1 ∷ 1 ∷ [])
    ∷ gives masked (confirm_pn_availability ∷ []) (informing 1 0) (0 ∷ 0 ∷ 2 ∷ 0 ∷ 1 ∷ 1 ∷ [])
    ∷ gives (four false) (passive_start_up ∷ ticks 3) (main_function true 8) (0 ∷ 4 ∷ 5 ∷ 0 ∷ 0 ∷ 0 ∷ [])
    ∷ gives (four false) (passive_start_up ∷ ticks 7) (main_function true 8) (0 ∷ 1 ∷ 3 ∷ 0 ∷ 0 ∷ 0 ∷ [])
    ∷ gives (four false) (passive_start_up ∷ ticks 10) (main_function true 8) (0 ∷ 0 ∷ 4 ∷ 0 ∷ 0 ∷ 0 ∷ [])
    ∷ gives (four false) [] silent (0 ∷ 0 ∷ 2 ∷ 0 ∷ 0 ∷ 0 ∷ [])
    ∷ gives (four false) (passive_start_up ∷ ticks 8) silent (0 ∷ 2 ∷ 1 ∷ 0 ∷ 0 ∷ 0 ∷ [])
    ∷ gives (four false) (passive_start_up ∷ []) passive_start_up (3 ∷ 2 ∷ 0 ∷ 0 ∷ 0 ∷ 0 ∷ [])
    ∷ gives (four true) [] disable_communication (4 ∷ 0 ∷ 0 ∷ 0 ∷ 0 ∷ 0 ∷ [])
    ∷ []
