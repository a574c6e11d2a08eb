-- The condition of a sound state on its configuration and the ticks kept beside it. Assumes nothing.
use Rattle.std.specs.Prelude.{Bool, ◌&&◌, eqb, is_ok}
use Rattle.config.specs.declared.Config.{Config}
use Rattle.config.specs.Times.{Ticks}
use Rattle.rules.specs.Rules.{first_broken}
use Rattle.time_rules.specs.TimeRules.{ticks_for}

-- ticks kept beside the configuration are what its times come to
abbrev pub same_ticks : Ticks → Ticks → Bool
same_ticks t u =
    eqb t.timeout u.timeout
    && eqb t.wait u.wait
    && eqb t.repeat u.repeat
    && eqb t.cycle u.cycle
    && eqb t.offset u.offset
    && eqb t.fast u.fast
    && eqb t.remote u.remote
    && eqb t.reset u.reset

-- the configuration passes
unfoldable pub configured : Config → Ticks → Bool
configured c t = is_ok (first_broken c) && same_ticks t (ticks_for c)
