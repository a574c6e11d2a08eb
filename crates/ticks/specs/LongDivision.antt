-- Long division in binary: one bit of the quotient. Assumes nothing.
use Rattle.std.specs.Prelude.{cond, ℕ, ◌-◌, ltb}
use Rattle.ticks.specs.declared.QuotientBit.{QuotientBit}

-- the bit at the place to which the divisor is shifted, and the remainder after it: 1 if the shifted divisor goes into the
-- remainder, and then it is taken away
unfoldable pub next_bit : ℕ → ℕ → QuotientBit
next_bit remainder shifted =
    cond (ltb remainder shifted)
    (record { bit = 0; remainder = remainder })
    (record { bit = 1; remainder = remainder - shifted })
