-- Examples of the definitions. Assumes nothing.
use mathlib.Core.Path.{◌≡◌, refl}
use mathlib.Core.List.{[], ◌∷◌}
use Rattle.text.specs.Lines.{lines_of}
use Rattle.blocks.specs.Blocks.{finished_len, finished_lines, kept_of}

-- "A", a line without a byte, and "BC" without a line feed
three_lines : lines_of (65 ∷ 10 ∷ 10 ∷ 66 ∷ 67 ∷ []) ≡ (65 ∷ []) ∷ [] ∷ (66 ∷ 67 ∷ []) ∷ []
unfolding lines_of
three_lines = refl

-- no line behind the last line feed
no_line_more : lines_of (65 ∷ 10 ∷ []) ≡ (65 ∷ []) ∷ []
unfolding lines_of
no_line_more = refl

-- of "A", a line feed and "BC" one line is finished, and "BC" is kept
one_finished : finished_lines (65 ∷ 10 ∷ 66 ∷ 67 ∷ []) ≡ (65 ∷ []) ∷ []
unfolding finished_len lines_of
one_finished = refl

two_kept : kept_of (65 ∷ 10 ∷ 66 ∷ 67 ∷ []) ≡ 66 ∷ 67 ∷ []
unfolding finished_len
two_kept = refl
