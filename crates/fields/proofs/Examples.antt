-- Examples of the definitions. Assumes nothing.
use mathlib.Core.Path.{◌≡◌, refl}
use mathlib.Core.List.{[], ◌∷◌}
use Rattle.std.specs.Prelude.{Some, None}
use Rattle.fields.specs.Fields.{fields_of}
use Rattle.fields.specs.Numbers.{dash_number, decimal_of, number_from, tokens_of, unreadable}

-- "10", "-", "07", "0", no byte
five_fields : tokens_of (49 ∷ 48 ∷ 9 ∷ 45 ∷ 9 ∷ 48 ∷ 55 ∷ 9 ∷ 48 ∷ 9 ∷ []) ≡ 10 ∷ dash_number ∷ unreadable ∷ 0 ∷ unreadable ∷ []
unfolding tokens_of fields_of number_from
five_fields = refl

ten_digits : decimal_of (57 ∷ 57 ∷ 57 ∷ 57 ∷ 57 ∷ 57 ∷ 57 ∷ 57 ∷ 57 ∷ 57 ∷ []) ≡ Some 9999999999
unfolding number_from
ten_digits = refl

eleven_digits : decimal_of (49 ∷ 48 ∷ 48 ∷ 48 ∷ 48 ∷ 48 ∷ 48 ∷ 48 ∷ 48 ∷ 48 ∷ 48 ∷ []) ≡ None
unfolding number_from
eleven_digits = refl
