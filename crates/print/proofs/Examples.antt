-- Examples of the definitions. Assumes nothing.
use mathlib.Core.Path.{◌≡◌, refl}
use mathlib.Core.List.{[], ◌∷◌}
use Rattle.print.specs.Print.{decimal, hex_text, number_text}

-- "0", "10" and the largest number of 64 bits
zero_text : number_text 0 ≡ (48 ∷ [])
unfolding decimal
zero_text = refl

ten_text : number_text 10 ≡ (49 ∷ 48 ∷ [])
unfolding decimal
ten_text = refl

largest_text : number_text 18446744073709551615 ≡ (49 ∷ 56 ∷ 52 ∷ 52 ∷ 54 ∷ 55 ∷ 52 ∷ 52 ∷ 48 ∷ 55 ∷ 51 ∷ 55 ∷ 48 ∷ 57 ∷ 53 ∷ 53 ∷ 49 ∷ 54 ∷ 49 ∷ 53 ∷ [])
unfolding decimal
largest_text = refl

-- "2AF0"
hex_text_law : hex_text (42 ∷ 240 ∷ []) ≡ (50 ∷ 65 ∷ 70 ∷ 48 ∷ [])
unfolding hex_text
hex_text_law = refl
