-- Bits of bytes and of byte strings, counted from bit 0 of byte 0, for any length. Assumes nothing.
use Rattle.std.specs.Prelude.{ℕ, ◌+◌, ◌/◌, ◌%◌, ◌^◌, Bool, cond, not, List, [], ◌∷◌, Option, None, Some, eqb, get_or, length}
use Rattle.std.specs.Int.Bits.{bit_and}
use Rattle.std.specs.Int.Count.{ones, count_trailing_zeros}
use Rattle.bits.specs.Lists.{any_below, sum_below}

-- bit k of a byte
abbrev pub bit_of : ℕ → ℕ → Bool
bit_of b k = eqb (b / 2 ^ k % 2) 1

-- bit k of a byte string; past its end every bit is 0
abbrev pub bit_at : List ℕ → ℕ → Bool
bit_at bytes k = bit_of (get_or bytes (k / 8) 0) (k % 8)

-- some byte AND the mask's byte at its place is not 0
unfoldable pub some_masked : List ℕ → List ℕ → Bool
some_masked bytes mask = any_below (λ k. not (eqb (bit_and (get_or bytes k 0) (get_or mask k 0)) 0)) (length bytes)

-- the number of ones, summed over the bytes
unfoldable pub count_ones : List ℕ → ℕ
count_ones bytes = sum_below (λ k. ones (get_or bytes k 0)) (length bytes)

-- the place of the lowest one: in the first byte that is not 0, as many bits up as the byte has trailing zeros
abbrev pub later : Option ℕ → Option ℕ
later (Some k) = Some (8 + k)
later None = None

unfoldable pub lowest_in : List ℕ → Option ℕ
lowest_in [] = None
lowest_in (b ∷ bs) = cond (eqb b 0) (later (lowest_in bs)) (Some (count_trailing_zeros 8 b))
