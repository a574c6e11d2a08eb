-- Sound states, condition by condition. Assumes nothing.
use Rattle.std.specs.Prelude.{ℕ, Bool, ◌&&◌, List, take}
use Rattle.timers.specs.Timers.{all_within}
use Rattle.config.specs.declared.Config.{Config}
use Rattle.config.specs.Times.{Ticks}
use Rattle.states.specs.declared.Mode.{Mode}
use Rattle.states.specs.declared.Traffic.{Traffic}
use Rattle.traffic.specs.Traffic.{setup_of}
use Rattle.kept_ticks.specs.KeptTicks.{configured}
use Rattle.conditions.specs.Conditions.{mode_sound, traffic_sound, passive_sound}

-- all conditions but those of the PN timers
unfoldable pub scalars_sound : Config → Ticks → Mode → Traffic → Bool
scalars_sound c t m x =
    configured c t && mode_sound t m && traffic_sound (setup_of c t) m.state x && passive_sound c.passive m x

-- the PN timers: within the reset time, and 0 for bits outside the mask
abbrev pub timers_sound : Config → Ticks → List ℕ → Bool
timers_sound c t timers = all_within (take c.pn.length c.pn.mask) t.reset timers

-- all conditions
abbrev pub sound_of : Config → Ticks → Mode → Traffic → List ℕ → List ℕ → Bool
sound_of c t m x era eira = scalars_sound c t m x && (timers_sound c t era && timers_sound c t eira)
