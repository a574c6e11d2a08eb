-- Bytes by their text in hex, upper case. Assumes nothing.
use Rattle.std.specs.Prelude.{ℕ, ◌+◌, ◌-◌, ◌*◌, cond, ◌&&◌, List, [], ◌∷◌, nat_le, nat_lt}

-- the value of a hex digit, 16 for any other byte
abbrev pub hex_value : ℕ → ℕ
hex_value d = cond (nat_le 48 d && nat_le d 57) (d - 48) (cond (nat_le 65 d && nat_le d 70) (d - 65 + 10) 16)

-- the bytes of a text's leading pairs of hex digits, up to the first that is none
unfoldable pub hex_pairs : List ℕ → List ℕ
hex_pairs [] = []
hex_pairs (h ∷ []) = []
hex_pairs (h ∷ l ∷ s) = cond (nat_lt 15 (hex_value h)) [] (cond (nat_lt 15 (hex_value l)) [] ((hex_value h * 16 + hex_value l) ∷ hex_pairs s))
