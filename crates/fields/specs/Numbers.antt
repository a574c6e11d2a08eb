-- What a field reads as: a number in decimal, or a dash. Assumes nothing.
use Rattle.std.specs.Prelude.{ℕ, ◌+◌, ◌-◌, ◌*◌, ◌^◌, cond, ◌&&◌, List, [], ◌∷◌, map, eqb, ltb, length, get_or, Option, Some, None, unwrap_or}
use Rattle.fields.specs.Fields.{fields_of}

-- the most digits that a number may have
abbrev pub field_digits_most : ℕ
field_digits_most = 10

-- a single '-', and a field that is neither that nor a number: above all numbers of so many digits
abbrev pub dash_number : ℕ
dash_number = 10 ^ field_digits_most

abbrev pub unreadable : ℕ
unreadable = 10 ^ field_digits_most + 1

-- the number that digits give behind the number n, none where a byte is no digit
unfoldable pub number_from : ℕ → List ℕ → Option ℕ
number_from n [] = Some n
number_from n (d ∷ ds) = cond (ltb d 48) None (cond (ltb 57 d) None (number_from (n * 10 + (d - 48)) ds))

-- a number of one or more digits, not too many, and without leading zeros
abbrev pub decimal_of : List ℕ → Option ℕ
decimal_of s =
    cond (eqb (length s) 0) None
    (cond (ltb field_digits_most (length s)) None
    (cond (ltb 1 (length s) && eqb (get_or s 0 0) 48) None (number_from 0 s)))

-- what a field reads as
abbrev pub token_of : List ℕ → ℕ
token_of f = cond (eqb (length f) 1 && eqb (get_or f 0 0) 45) dash_number (unwrap_or (decimal_of f) unreadable)

-- what the fields of a line read as
unfoldable pub tokens_of : List ℕ → List ℕ
tokens_of s = map token_of (fields_of s)
