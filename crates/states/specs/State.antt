-- The five states, and what is asked of one. Assumes nothing.
use Rattle.std.specs.Prelude.{ℕ, Bool, true, false}
use Rattle.states.specs.declared.State.{State}
use Rattle.states.specs.declared.State.TheVariants.{
  BusSleep,
  PrepareBusSleep,
  RepeatMessage,
  NormalOperation,
  ReadySleep,
}

abbrev pub state_number : State → ℕ
state_number BusSleep = 0
state_number PrepareBusSleep = 1
state_number RepeatMessage = 2
state_number NormalOperation = 3
state_number ReadySleep = 4

-- Network Mode: Repeat Message, Normal Operation and Ready Sleep
abbrev pub in_network : State → Bool
in_network BusSleep = false
in_network PrepareBusSleep = false
in_network RepeatMessage = true
in_network NormalOperation = true
in_network ReadySleep = true

-- the states in which an active channel sends
abbrev pub transmits : State → Bool
transmits BusSleep = false
transmits PrepareBusSleep = false
transmits RepeatMessage = true
transmits NormalOperation = true
transmits ReadySleep = false

-- Normal Operation and Ready Sleep
abbrev pub settled : State → Bool
settled BusSleep = false
settled PrepareBusSleep = false
settled RepeatMessage = false
settled NormalOperation = true
settled ReadySleep = true

abbrev pub is_bus_sleep : State → Bool
is_bus_sleep BusSleep = true
is_bus_sleep PrepareBusSleep = false
is_bus_sleep RepeatMessage = false
is_bus_sleep NormalOperation = false
is_bus_sleep ReadySleep = false

abbrev pub is_prepare : State → Bool
is_prepare BusSleep = false
is_prepare PrepareBusSleep = true
is_prepare RepeatMessage = false
is_prepare NormalOperation = false
is_prepare ReadySleep = false

abbrev pub is_repeat : State → Bool
is_repeat BusSleep = false
is_repeat PrepareBusSleep = false
is_repeat RepeatMessage = true
is_repeat NormalOperation = false
is_repeat ReadySleep = false

abbrev pub is_normal : State → Bool
is_normal BusSleep = false
is_normal PrepareBusSleep = false
is_normal RepeatMessage = false
is_normal NormalOperation = true
is_normal ReadySleep = false
