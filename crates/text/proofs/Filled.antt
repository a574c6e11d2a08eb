-- Laws of a lent buffer that was filled from its front. Assumes nothing.
use mathlib.Core.Path.{◌≡◌, ap}
use mathlib.Core.List.{List, ◌++◌}
use Prim.Native.Nat.{ℕ, ◌+◌, ◌≤◌, ◌<◌}
use native.Mathlib.Omega.{arith}
use lib.ListN.{length, take, drop, get_or, get_or-append}
use lib.Seq.{sets, sets-eq, take-append_seam}
use Rattle.text.specs.Filled.{Filled, filled, fill}

-- the number and the buffer apart
module _ {n : ℕ} {m : List ℕ} (l vs : List ℕ) (e : filled n m ≡ fill l vs) where
  pub filled_count : n ≡ length vs
  filled_count = ap (λ (f : Filled). f.count) e

  pub filled_list : m ≡ sets l 0 vs
  filled_list = ap (λ (f : Filled). f.list) e

-- a buffer with room for all the values has them in front
module _ (l vs : List ℕ) (room : length vs ≤ length l) where
  split : sets l 0 vs ≡ vs ++ drop (0 + length vs) l
  split = sets-eq vs l 0 (omega arith)

  pub filled_front : take (length vs) (sets l 0 vs) ≡ vs
  filled_front = rw split (take-append_seam vs _)

  pub filled_at : (k : ℕ) → k < length vs → get_or (sets l 0 vs) k 0 ≡ get_or vs k 0
  filled_at k h = rw split (get_or-append vs _ 0 k h)
