-- `notes_text::put_notes` meets its contract. Assumes nothing.
use Rattle.notes_text.specs.NotesText.{notes_text}
use Rattle.notes_text.proofs.Notes.{no_dash, then_dash}
use Rattle.notes_text.proofs.put_notes.Goals as goal

pub returns-then-w-start : goal.returns-then-w-start
unfolding notes_text
returns-then-w-start c = then_dash c.put_words.ensures c.if-w-start.true c.put.ensures

pub returns-else-w-start : goal.returns-else-w-start
unfolding notes_text
returns-else-w-start c = no_dash c.put_words.ensures c.if-w-start.false
