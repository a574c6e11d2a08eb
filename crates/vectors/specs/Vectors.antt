-- The vector of bits behind a table of timers: a bit is 1 while its timer is not 0. Assumes nothing.
use Rattle.std.specs.Prelude.{ℕ, ◌+◌, ◌*◌, ◌^◌, ◌≡◌, Bool, cond, List, eqb, get_or, length}
use Rattle.std.specs.Bool.{xor}
use Rattle.bits.specs.Lists.{any_below, sum_below}

-- the vectors of two tables differ in some bit
unfoldable pub vectors_differ : List ℕ → List ℕ → Bool
vectors_differ a b = any_below (λ k. xor (eqb (get_or a k 0) 0) (eqb (get_or b k 0) 0)) (length a)

-- a table that was `old` holds what it should, and it is told whether its vector changed by that
abbrev pub Changes : List ℕ → List ℕ → List ℕ → Bool → Type 0
Changes old should new told = (new ≡ should) × (told ≡ vectors_differ old should)

-- a timer's bit, and the byte of the vector whose first bit is timer `at`
abbrev pub running_bit : ℕ → ℕ
running_bit t = cond (eqb t 0) 0 1

unfoldable pub vector_byte : List ℕ → ℕ → ℕ
vector_byte ts at = sum_below (λ i. 2 ^ i * running_bit (get_or ts (at + i) 0)) 8
