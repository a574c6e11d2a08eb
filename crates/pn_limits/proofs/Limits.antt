-- Laws of the most that each timer may hold. Assumes nothing.
use mathlib.Core.Path.{◌≡◌}
use mathlib.Core.List.{List}
use Prim.Native.Nat.{ℕ, ◌≤◌}
use native.Mathlib.Omega.{arith}
use lib.ListN.{length}
use Rattle.bits.proofs.Lists.{at_map, all_ext}
use Rattle.timers.specs.Timers.{limit_at, all_within}
use Rattle.pn_limits.specs.Limits.{limits_of, all_under}

-- a table is within its mask exactly if each timer is at most its limit
pub under_limits : (mask : List ℕ) (p : ℕ) (xs ts : List ℕ) → length ts ≤ length xs → all_under (limits_of mask p xs) ts ≡ all_within mask p ts
unfolding all_under limits_of all_within
under_limits mask p xs ts h = all_ext _ _ (length ts) (λ k l. rw (at_map (λ j t. limit_at mask p j) xs k (omega arith)))
