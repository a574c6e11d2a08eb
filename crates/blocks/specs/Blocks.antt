-- A text that is read in blocks: the lines that are finished, and what is kept of the unfinished one. Assumes nothing.
use Rattle.std.specs.Prelude.{ℕ, zero, suc, ◌+◌, ◌≤◌, ◌<◌, ◌≢◌, slice_index, Bool, cond, List, [], ◌∷◌, eqb, leb, length, take, drop}
use Rattle.text.specs.Lines.{line_feed, lines_of}

-- the most bytes that a line may have
abbrev pub line_most : ℕ
line_most = 80

-- what is kept of a line: with one byte more than it may have it is known to be too long
abbrev pub cut : List ℕ → List ℕ
cut l = take (line_most + 1) l

-- n bytes of finished lines behind the byte x, and x, if there are any or x ends a line
abbrev pub finished_with : ℕ → ℕ → ℕ
finished_with x zero = cond (eqb x line_feed) 1 0
finished_with x (suc n) = suc (suc n)

-- how many bytes the finished lines of a text have, with their line feeds
unfoldable pub finished_len : List ℕ → ℕ
finished_len [] = zero
finished_len (x ∷ xs) = finished_with x (finished_len xs)

-- no line ends from place n on
abbrev pub NoneFrom : ℕ → List ℕ → Type 0
NoneFrom n s = (k : ℕ) → n ≤ k → k < length s → slice_index s k ≢ line_feed

-- the finished lines of a text
abbrev pub finished_lines : List ℕ → List (List ℕ)
finished_lines s = lines_of (take (finished_len s) s)

-- its unfinished line, of no byte where the last is finished
abbrev pub unfinished : List ℕ → List ℕ
unfinished s = drop (finished_len s) s

-- what is kept of that
abbrev pub kept_of : List ℕ → List ℕ
kept_of s = cut (unfinished s)

-- the most lines that are counted: the largest number of 64 bits
abbrev pub lines_most : ℕ
lines_most = 18446744073709551615

-- the lines of a text can be counted behind n lines, an unfinished one with them
abbrev pub lines_fit : ℕ → List ℕ → Bool
lines_fit n s = leb (n + length (lines_of s)) lines_most
