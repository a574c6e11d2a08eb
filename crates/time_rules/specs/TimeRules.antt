-- Rules 1 to 5 of a configuration: its times, in milliseconds and in ticks. Assumes nothing.
use Rattle.std.specs.Prelude.{ℕ, Bool, ◌&&◌, ◌||◌, leb, ltb, eqb}
use Rattle.std.specs.Result.{result_unwrap_or}
use Rattle.ticks.specs.Ticks.{conversion_of}
use Rattle.config.specs.declared.Config.{Config}
use Rattle.config.specs.Times.{Milliseconds, Ticks}
use Rattle.config.specs.Bounds.{cycle_row, fast_row, immediate_row, node_row, offset_row, period_row, remote_row, repeat_row, reset_row, timeout_row, wait_row, within}

-- the times of a configuration in ticks of its main function: rules 3 to 5 and 8 compare these
abbrev pub in_ticks : Config → ℕ → ℕ
in_ticks c ms = result_unwrap_or (conversion_of c.period ms) 0

unfoldable pub ticks_for : Config → Ticks
ticks_for c =
    record {
      timeout = in_ticks c c.times.timeout;
      wait = in_ticks c c.times.wait;
      repeat = in_ticks c c.times.repeat;
      cycle = in_ticks c c.times.cycle;
      offset = in_ticks c c.times.offset;
      fast = in_ticks c c.times.fast;
      remote = in_ticks c c.times.remote;
      reset = in_ticks c c.times.reset;
    }

-- 1: the period of the main function
unfoldable pub rule1 : Config → Bool
rule1 c = within period_row c.period

-- 2: every time in milliseconds, the number of fast frames and the node id
unfoldable pub times_within : Milliseconds → Bool
times_within t =
    within timeout_row t.timeout
    && within wait_row t.wait
    && within repeat_row t.repeat
    && within cycle_row t.cycle
    && within offset_row t.offset
    && within fast_row t.fast
    && within remote_row t.remote
    && within reset_row t.reset

unfoldable pub rule2 : Config → Bool
rule2 c = times_within c.times && within immediate_row c.immediate && within node_row c.node

-- 3: the offset is below the cycle, in ticks
unfoldable pub rule3 : Ticks → Bool
rule3 t = ltb t.offset t.cycle

-- 4: fast frames have a cycle of at least one tick
unfoldable pub rule4 : Config → Ticks → Bool
rule4 c t = eqb c.immediate 0 || leb 1 t.fast

-- 5: the timeout is above the cycle, in ticks
unfoldable pub rule5 : Ticks → Bool
rule5 t = ltb t.cycle t.timeout
