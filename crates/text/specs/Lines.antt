-- The lines of a text. Assumes nothing.
use Rattle.std.specs.Prelude.{ℕ, zero, suc, ◌+◌, cond, List, [], ◌∷◌, eqb, ltb, length, drop, Option, Some, None}
use Rattle.std.specs.Borrow.{Bor}
use Rattle.text.specs.declared.Reader.{Reader}

-- the byte that ends a line
abbrev pub line_feed : ℕ
line_feed = 10

-- x put before the first of some parts; where there is none, a part of x alone
abbrev pub before : ℕ → List (List ℕ) → List (List ℕ)
before x [] = (x ∷ []) ∷ []
before x (l ∷ ls) = (x ∷ l) ∷ ls

-- the lines of a text, without their line feeds; a last line without one counts if it has a byte
unfoldable pub lines_of : List ℕ → List (List ℕ)
lines_of [] = []
lines_of (x ∷ xs) = cond (eqb x line_feed) ([] ∷ lines_of xs) (before x (lines_of xs))

-- how many bytes stand before the first b, or before the end
unfoldable pub until : ℕ → List ℕ → ℕ
until b [] = zero
until b (x ∷ xs) = cond (eqb x b) zero (suc (until b xs))

-- the line that begins at a place of a text, by the place of its first byte and the place past its last
unfoldable pub span_at : List ℕ → ℕ → Option (ℕ × ℕ)
span_at s at = cond (ltb at (length s)) (Some (at, at + until line_feed (drop at s))) None

-- a reader of a lent text, at a place
abbrev pub reader_at : Bor (List ℕ) → ℕ → Reader
reader_at text at = record { text = text; at = at }
