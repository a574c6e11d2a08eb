-- The text of a printed line. Assumes nothing.
use Rattle.std.specs.Prelude.{ℕ, ◌+◌, cond, List, [], ◌∷◌, ◌++◌, eqb, length}
use Rattle.fields.specs.Fields.{tab}
use Rattle.print.specs.Print.{dash, digits_most, hex_text, number_text}
use Rattle.text.specs.Lines.{line_feed}
use Rattle.states.specs.declared.State.{State}
use Rattle.states.specs.declared.State.TheVariants as states
use Rattle.channel.specs.declared.state.Notes.{Notes}
use Rattle.report.specs.declared.Line.{Line}
use Rattle.notes_text.specs.NotesText.{notes_most, notes_text}

-- the letter of a state: B P R N S
unfoldable pub letter_of : State → ℕ
letter_of states.BusSleep = 66
letter_of states.PrepareBusSleep = 80
letter_of states.RepeatMessage = 82
letter_of states.NormalOperation = 78
letter_of states.ReadySleep = 83

-- ---- the frame: in hex, none being a dash

unfoldable pub frame_text : List ℕ → List ℕ
frame_text frame = cond (eqb (length frame) 0) (dash ∷ []) (hex_text frame)

-- ---- the line: number, answer, state, notes, frame, parted by tabs

-- what stands before the notes
unfoldable pub head_text : ℕ → ℕ → ℕ → List ℕ
head_text n answer state = ((number_text n ++ (tab ∷ answer ∷ [])) ++ (tab ∷ state ∷ [])) ++ (tab ∷ [])

-- the whole line, with the line feed that ends it
unfoldable pub line_text : ℕ → ℕ → ℕ → Notes → List ℕ → List ℕ
line_text n answer state notes frame =
    (((head_text n answer state ++ notes_text notes) ++ (tab ∷ [])) ++ frame_text frame) ++ (line_feed ∷ [])

abbrev pub head_of : Line → List ℕ
head_of l = head_text l.number l.answer l.state

abbrev pub text_of_line : Line → List ℕ
text_of_line l = line_text l.number l.answer l.state l.notes l.frame.now

-- the most bytes that stand before the notes, and that a line takes besides its frame
abbrev pub head_most : ℕ
head_most = digits_most + 5

abbrev pub report_most : ℕ
report_most = head_most + notes_most + 3
