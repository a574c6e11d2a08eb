-- The answers by their number, and the value beside each. Assumes nothing.
use Rattle.std.specs.Prelude.{ℕ, Result, Ok, Err, ⊤}
use Rattle.answers.specs.declared.BrokenRule.{BrokenRule}
use Rattle.answers.specs.declared.BrokenRule.TheVariants.{Period, Bounds, Offset, FastCycle, Timeout, PduLength, Header, PartialNetwork}
use Rattle.answers.specs.declared.Refusal.{Refusal}
use Rattle.answers.specs.declared.Refusal.TheVariants.{Unsound, Rule, State, Passive, Length, PnOff}

-- an answer: done, or a refusal
abbrev pub Answer : Type 0
Answer = Result ⊤ Refusal

abbrev pub Done : Answer
Done = Ok tt

-- the answer to what gives a value, or is refused
abbrev pub answer_to : {A : Type 0} → Result A Refusal → Answer
answer_to (Ok x) = Done
answer_to (Err refusal) = Err refusal

-- the answer to what gives a value, or breaks a rule
abbrev pub ruled : {A : Type 0} → Result A BrokenRule → Answer
ruled (Ok x) = Done
ruled (Err rule) = Err (Rule rule)

abbrev pub number_of : Answer → ℕ
number_of (Ok done) = 0
number_of (Err Unsound) = 1
number_of (Err (Rule rule)) = 2
number_of (Err State) = 3
number_of (Err Passive) = 4
number_of (Err Length) = 5
number_of (Err PnOff) = 6

-- the configuration rules in the order in which they are judged
abbrev pub number_of_rule : BrokenRule → ℕ
number_of_rule Period = 1
number_of_rule Bounds = 2
number_of_rule Offset = 3
number_of_rule FastCycle = 4
number_of_rule Timeout = 5
number_of_rule PduLength = 6
number_of_rule Header = 7
number_of_rule PartialNetwork = 8

abbrev pub rule_of : Answer → ℕ
rule_of (Ok done) = 0
rule_of (Err Unsound) = 0
rule_of (Err (Rule rule)) = number_of_rule rule
rule_of (Err State) = 0
rule_of (Err Passive) = 0
rule_of (Err Length) = 0
rule_of (Err PnOff) = 0
