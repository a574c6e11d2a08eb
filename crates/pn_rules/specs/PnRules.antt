-- Rule 8 of a configuration: the PN range, the mask and the reset time. Assumes nothing.
use Rattle.std.specs.Prelude.{◌+◌, Bool, cond, not, ◌&&◌, ◌||◌, leb, ltb, eqb}
use Rattle.config.specs.declared.Config.{Config}
use Rattle.config.specs.Times.{Ticks}
use Rattle.config.specs.Ranges.{off, header_length}

-- 8: the PN range, the mask and the reset time with PN on; none of them with PN off
unfoldable pub pn_range : Config → Bool
pn_range c =
    leb 1 c.pn.length
    && leb (header_length c.layout) c.pn.start
    && leb (c.pn.start + c.pn.length) c.layout.length
    && (eqb c.pn.start (header_length c.layout) || eqb (c.pn.start + c.pn.length) c.layout.length)

unfoldable pub pn_time : Ticks → Bool
pn_time t = ltb t.cycle t.reset && ltb t.reset t.timeout

unfoldable pub pn_absent : Config → Bool
pn_absent c = eqb c.pn.start 0 && eqb c.pn.length 0 && eqb c.times.reset 0

unfoldable pub rule8 : Config → Ticks → Bool
rule8 c t =
    cond c.pn.on
    (not (eqb c.layout.cbv off) && pn_range c && eqb c.pn.masked c.pn.length && pn_time t)
    (pn_absent c)
