-- The most that each timer of a table may hold, and a table under these: `all_within` in two steps, of which the first is
-- the same for every state of a channel. Assumes nothing.
use Rattle.std.specs.Prelude.{ℕ, Bool, List, leb, get_or, length}
use Rattle.bits.specs.Lists.{all_below, map_from}
use Rattle.timers.specs.Timers.{limit_at}

-- the limits of a table
unfoldable pub limits_of : List ℕ → ℕ → List ℕ → List ℕ
limits_of mask p ts = map_from (λ k t. limit_at mask p k) 0 ts

-- each timer is at most its limit
unfoldable pub all_under : List ℕ → List ℕ → Bool
all_under limits ts = all_below (λ k. leb (get_or ts k 0) (get_or limits k 0)) (length ts)
