-- `time_rules::times_within` meets its contract. Assumes nothing.
use mathlib.Core.Path.{◌≡◌, ◌∙◌}
use mathlib.Core.Bool.{Bool}
use Prim.Native.Nat.{ℕ, ◌+◌}
use Rattle.std.proofs.Common.{rules}
use Rattle.std.specs.List.{enumerate_from, list_all}
use Rattle.std.proofs.lemmas.Iterator.{YieldsList-from_slice}
use Rattle.std.proofs.lemmas.Iterator.Consumers.{YieldsList-from_enumerate}
use Rattle.std.proofs.lemmas.Iterator.Search.{all_from_yields_List}
use Rattle.config.specs.Bounds.{timeout_row, within}
use Rattle.config.specs.Times.{each}
use Rattle.config.proofs.Lists.{all_counted}
use Rattle.time_rules.specs.TimeRules.{times_within}
use Rattle.time_rules.proofs.times_within.Goals as goal

-- the bounds of the row that stands k behind the first one
abbrev kept_by : ℕ × ℕ → Bool
kept_by p = within (timeout_row + p.0) p.1

pub returns : goal.returns
unfolding times_within
returns c =
    let e : c.all.result ≡ list_all kept_by (enumerate_from 0 (each c.args.t)) =
    all_from_yields_List kept_by c.all.new.self _ c.all.result c.all.ensures.ran
    (YieldsList-from_enumerate (YieldsList-from_slice (each c.args.t) cc) cc)
    (λ x b q k. search rules) in
    e ∙ all_counted kept_by c.args.t
