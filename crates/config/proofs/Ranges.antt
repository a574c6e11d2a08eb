-- Laws of the PDU's byte ranges, over any l, h, f and n. Assumes nothing.
use mathlib.Core.Bool.{Bool, true, false}
use Prim.Native.Nat.{ℕ, ◌≤◌}
use native.Mathlib.Omega.{arith}
use lib.Dec.{eqb}
use Rattle.config.specs.Ranges.{off, bytes_of}

-- a header field takes at most one byte
pub bytes_small : (position : ℕ) → bytes_of position ≤ 1
bytes_small position = go (eqb position off)
  where
    go : (t : Bool) → mathlib.Core.Bool.cond {A = ℕ} t 0 1 ≤ 1
    go true = omega arith
    go false = omega arith
