pub mod NotesText
