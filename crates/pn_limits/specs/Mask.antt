-- The bytes of a mask that count, and zeros behind them. Assumes nothing.
use Rattle.std.specs.Prelude.{ℕ, cond, List, [], ◌∷◌, ltb, get_or}

-- byte k of the first n bytes, 0 behind them
abbrev pub byte_within : ℕ → List ℕ → ℕ → ℕ
byte_within n bytes k = cond (ltb k n) (get_or bytes k 0) 0

-- the first n bytes of a mask, and zeros up to eight bytes
unfoldable pub filled_mask : ℕ → List ℕ → List ℕ
filled_mask n mask =
    byte_within n mask 0
    ∷ byte_within n mask 1
    ∷ byte_within n mask 2
    ∷ byte_within n mask 3
    ∷ byte_within n mask 4
    ∷ byte_within n mask 5
    ∷ byte_within n mask 6
    ∷ byte_within n mask 7
    ∷ []
