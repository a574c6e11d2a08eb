-- Laws of bytes in hex, for every place. Assumes nothing.
use mathlib.Core.Path.{◌≡◌, refl, ap}
use mathlib.Core.List.{List, [], ◌∷◌, ◌++◌}
use Prim.Native.Nat.{ℕ, ◌+◌, ◌-◌, ◌*◌, ◌/◌, ◌%◌, ◌≤◌, ◌<◌}
use native.Mathlib.Numerals.{add-one}
use native.Mathlib.Omega.{arith}
use lib.ListN.{length, take, get_or}
use lib.Seq.{take-suc}
use borrow.Author.Tests.{lt-ltb, le-ltb}
use Rattle.print.specs.Print.{hex_digit, hex_text}

-- a digit, by its value
pub digit_decimal : (d : ℕ) → d < 10 → 48 + d ≡ hex_digit d
digit_decimal d h = rw (lt-ltb d 10 h)

pub digit_letter : (d : ℕ) → 10 ≤ d → 65 + (d - 10) ≡ hex_digit d
digit_letter d h = rw (le-ltb d 10 h)

pub length_hex : (bytes : List ℕ) → length (hex_text bytes) ≡ 2 * length bytes
unfolding hex_text
length_hex [] = refl
length_hex (b ∷ bs) = let e : length (hex_text bs) ≡ 2 * length bs = length_hex bs in omega arith

hex_append : (bytes more : List ℕ) → hex_text (bytes ++ more) ≡ hex_text bytes ++ hex_text more
unfolding hex_text
hex_append [] more = refl
hex_append (b ∷ bs) more = ap (λ l. hex_digit (b / 16) ∷ hex_digit (b % 16) ∷ l) (hex_append bs more)

-- one byte more
pub hex_more : (bytes : List ℕ) (i : ℕ) → i < length bytes
    → hex_text (take (i + 1) bytes) ≡ hex_text (take i bytes) ++ hex_text (get_or bytes i 0 ∷ [])
hex_more bytes i h = rw (add-one i, take-suc bytes i 0 h) (hex_append (take i bytes) (get_or bytes i 0 ∷ []))
