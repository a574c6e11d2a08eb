-- Lists changed place by place, and tests and sums over the places of a range, for any length. Assumes nothing.
use Rattle.std.specs.Prelude.{ℕ, zero, suc, ◌+◌, Bool, true, false, ◌&&◌, ◌||◌, List, [], ◌∷◌}

-- each element x at place k, counted from b, becomes f k x
abbrev pub map_from : (ℕ → ℕ → ℕ) → ℕ → List ℕ → List ℕ
map_from f b [] = []
map_from f b (x ∷ xs) = f b x ∷ map_from f (suc b) xs

-- the test p holds at each k below n
abbrev pub all_below : (ℕ → Bool) → ℕ → Bool
all_below p zero = true
all_below p (suc n) = all_below p n && p n

-- the test p holds at some k below n
abbrev pub any_below : (ℕ → Bool) → ℕ → Bool
any_below p zero = false
any_below p (suc n) = any_below p n || p n

-- the sum of f k over each k below n
abbrev pub sum_below : (ℕ → ℕ) → ℕ → ℕ
sum_below f zero = 0
sum_below f (suc n) = sum_below f n + f n
