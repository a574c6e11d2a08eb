-- Time: milliseconds to ticks of the main function. Assumes nothing.
use Rattle.std.specs.Prelude.{cond, ◌&&◌, ℕ, ◌+◌, ◌-◌, ◌/◌, leb, Result, Ok, Err}
use Rattle.answers.specs.declared.BrokenRule.{BrokenRule}
use Rattle.answers.specs.declared.BrokenRule.TheVariants.{Period, Bounds}

-- the number of ticks that last at least ms milliseconds: rounded up, so that no timeout ends early
unfoldable pub ticks_of : ℕ → ℕ → ℕ
ticks_of period ms = (ms + (period - 1)) / period

-- the bounds of the period and of a time, in milliseconds
abbrev pub period_least : ℕ
period_least = 1

abbrev pub period_most : ℕ
period_most = 100

abbrev pub time_most : ℕ
time_most = 65535

-- the ticks, or the configuration rule that is broken: by the period or by the time
unfoldable pub conversion_of : ℕ → ℕ → Result ℕ BrokenRule
conversion_of period ms =
    cond (leb period_least period && leb period period_most)
    (cond (leb ms time_most) (Ok (ticks_of period ms)) (Err Bounds))
    (Err Period)
