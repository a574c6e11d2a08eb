-- The fields of a line, parted by tabs. Assumes nothing.
use Rattle.std.specs.Prelude.{ℕ, cond, List, [], ◌∷◌, eqb}
use Rattle.text.specs.Lines.{before}

-- the byte between two fields
abbrev pub tab : ℕ
tab = 9

-- the fields of a line: what stands between its tabs, so that a line without one is one field
unfoldable pub fields_of : List ℕ → List (List ℕ)
fields_of [] = [] ∷ []
fields_of (x ∷ xs) = cond (eqb x tab) ([] ∷ fields_of xs) (before x (fields_of xs))
