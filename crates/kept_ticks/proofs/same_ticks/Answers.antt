-- `kept_ticks::same_ticks` meets its contract. Assumes nothing.
use mathlib.Core.Path.{◌≡◌, ◌∙◌}
use mathlib.Core.Bool.{Bool}
use Prim.Native.Nat.{ℕ}
use lib.Dec.{eqb}
use Rattle.std.proofs.Common.{rules}
use Rattle.std.specs.List.{list_all, zip}
use Rattle.std.proofs.lemmas.Iterator.{YieldsList-from_slice, YieldsList-from_zip}
use Rattle.std.proofs.lemmas.Iterator.Search.{all_from_yields_List}
use Rattle.config.specs.declared.Config.{Config}
use Rattle.config.specs.Times.{each}
use Rattle.config.proofs.Lists.{all_paired}
use Rattle.time_rules.specs.TimeRules.{in_ticks, ticks_for}
use Rattle.kept_ticks.proofs.same_ticks.Goals as goal

-- a kept number of ticks is what its time comes to
abbrev kept_as : Config → ℕ × ℕ → Bool
kept_as c p = eqb p.1 (in_ticks c p.0)

pub returns : goal.returns
unfolding ticks_for
returns c =
    let a = c.args in
    let e : c.all.result ≡ list_all (kept_as a.c) (zip (each a.c.times) (each a.t)) =
    all_from_yields_List (kept_as a.c) c.all.new.self _ c.all.result c.all.ensures.ran
    (YieldsList-from_zip (YieldsList-from_slice (each a.c.times) cc) (YieldsList-from_slice (each a.t) cc))
    (λ x b q k. search rules) in
    e ∙ all_paired (kept_as a.c) a.c.times a.t
