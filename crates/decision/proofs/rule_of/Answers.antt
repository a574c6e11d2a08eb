-- `decision::rule_of` meets its contract. Assumes nothing.
use mathlib.Core.Path.{sym}
use Prim.Native.Nat.{◌+◌, ◌*◌}
use native.Mathlib.Omega.{arith}
use lib.ListN.{get_or-eq_default}
use Rattle.decision.specs.declared.Rule.TheVariants.{Keep}
use Rattle.states.specs.State.{state_number}
use Rattle.decision.specs.Decision.{rule_at, table}
use Rattle.decision.proofs.rule_of.Goals as goal

pub returns-else-call-le-MAIN_FUNCTION : goal.returns-else-call-le-MAIN_FUNCTION
unfolding rule_at table
returns-else-call-le-MAIN_FUNCTION c =
    let a = c.args in
    sym (get_or-eq_default table Keep {n = 5 * a.call + state_number a.s} (omega arith))
