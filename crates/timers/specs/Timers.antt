-- Reset timers, one for each bit of a vector, for any number of them. A bit is 1 while its timer is not 0. Assumes nothing.
use Rattle.std.specs.Prelude.{ℕ, ◌-◌, Bool, cond, ◌&&◌, List, leb, get_or, length}
use Rattle.bits.specs.Lists.{all_below, map_from}
use Rattle.bits.specs.Bits.{bit_at}

-- every running timer one down; a stopped one stays 0
unfoldable pub counted_down : List ℕ → List ℕ
counted_down ts = map_from (λ k t. t - 1) 0 ts

-- each timer whose bit stands in the bytes and in the mask is loaded with p
unfoldable pub loaded_where : List ℕ → List ℕ → ℕ → List ℕ → List ℕ
loaded_where bytes mask p ts = map_from (λ k t. cond (bit_at bytes k && bit_at mask k) p t) 0 ts

-- the most that a timer may hold: p where its bit is in the mask, else 0
abbrev pub limit_at : List ℕ → ℕ → ℕ → ℕ
limit_at mask p k = cond (bit_at mask k) p 0

-- each timer is at most p, and 0 where its bit is not in the mask
unfoldable pub all_within : List ℕ → ℕ → List ℕ → Bool
all_within mask p ts = all_below (λ k. leb (get_or ts k 0) (limit_at mask p k)) (length ts)
