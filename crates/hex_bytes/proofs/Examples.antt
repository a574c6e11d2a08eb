-- An example of the definition. Assumes nothing.
use Rattle.std.proofs.Common.{◌≡◌, [], ◌∷◌, refl}
use Rattle.hex_bytes.specs.Hex.{hex_pairs}

-- "2AF00": two pairs, and a digit alone
two_pairs : hex_pairs (50 ∷ 65 ∷ 70 ∷ 48 ∷ 48 ∷ []) ≡ 42 ∷ 240 ∷ []
unfolding hex_pairs
two_pairs = refl
