-- Soundness by what the configuration comes to, which does not change from call to call: whether it passes, the setup, and
-- the most that each PN timer may hold. Assumes nothing.
use Rattle.std.specs.Prelude.{ℕ, Bool, ◌&&◌, List, replicate, take}
use Rattle.config.specs.declared.Config.{Config}
use Rattle.config.specs.Times.{Ticks}
use Rattle.config.specs.Ranges.{pnc_most}
use Rattle.pn_limits.specs.Limits.{all_under, limits_of}
use Rattle.kept_ticks.specs.KeptTicks.{configured}
use Rattle.states.specs.declared.Mode.{Mode}
use Rattle.states.specs.declared.Traffic.{Traffic}
use Rattle.traffic.specs.Traffic.{setup_of}
use Rattle.conditions.specs.Conditions.{mode_sound, passive_sound, traffic_sound}
use Rattle.soundness.specs.declared.Prepared.{Prepared}

-- what a configuration with its ticks comes to
unfoldable pub prepared_of : Config → Ticks → Prepared
prepared_of c t =
    record {
      passes = configured c t;
      setup = setup_of c t;
      limits = limits_of (take c.pn.length c.pn.mask) t.reset (replicate pnc_most 0);
    }

-- all conditions
unfoldable pub sound_by : Prepared → Mode → Traffic → List ℕ → List ℕ → Bool
sound_by p m x era eira =
    (p.passes && mode_sound p.setup.ticks m && traffic_sound p.setup m.state x && passive_sound p.setup.passive m x)
    && (all_under p.limits era && all_under p.limits eira)
