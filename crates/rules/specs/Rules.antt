-- The eight configuration rules, in the order in which they are judged. Assumes nothing.
use Rattle.std.specs.Prelude.{Bool, Result, Ok, ⊤}
use Rattle.answers.specs.declared.BrokenRule.{BrokenRule}
use Rattle.answers.specs.declared.BrokenRule.TheVariants.{Period, Bounds, Offset, FastCycle, Timeout, PduLength, Header, PartialNetwork}
use Rattle.config.specs.declared.Config.{Config}
use Rattle.config.specs.Times.{Ticks}
use Rattle.time_rules.specs.TimeRules.{ticks_for, rule1, rule2, rule3, rule4, rule5}
use Rattle.header_rules.specs.HeaderRules.{rule6, rule7, unless}
use Rattle.pn_rules.specs.PnRules.{rule8}

-- the rule of the first test that fails, if one does
abbrev pub first_failed : Bool → Bool → Bool → Bool → Bool → Bool → Bool → Bool → Result ⊤ BrokenRule
first_failed r1 r2 r3 r4 r5 r6 r7 r8 =
    unless r1 Period
    (unless r2 Bounds
    (unless r3 Offset
    (unless r4 FastCycle
    (unless r5 Timeout (unless r6 PduLength (unless r7 Header (unless r8 PartialNetwork (Ok tt))))))))

-- the first broken rule, if one is, where the times come to these ticks
unfoldable pub first_broken_by : Config → Ticks → Result ⊤ BrokenRule
first_broken_by c t =
    first_failed (rule1 c) (rule2 c) (rule3 t) (rule4 c t) (rule5 t) (rule6 c.layout) (rule7 c.layout) (rule8 c t)

unfoldable pub first_broken : Config → Result ⊤ BrokenRule
first_broken c = first_broken_by c (ticks_for c)
