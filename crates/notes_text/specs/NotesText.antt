-- The text of the notes that a line prints. Assumes nothing.
use Rattle.std.specs.Prelude.{ℕ, Bool, cond, List, [], ◌∷◌, ◌++◌, eqb, length, Option, Some, None}
use Rattle.print.specs.Print.{dash}
use Rattle.states.specs.declared.Note.{Note}
use Rattle.states.specs.declared.Note.TheVariants as notes
use Rattle.channel.specs.declared.state.Notes.{Notes}

-- the byte between two notes
abbrev pub comma : ℕ
comma = 44

-- the word of a note: NM ST PB BS TO RC RI
unfoldable pub word_of : Option Note → List ℕ
word_of None = []
word_of (Some notes.NetworkMode) = 78 ∷ 77 ∷ []
word_of (Some notes.NetworkStart) = 83 ∷ 84 ∷ []
word_of (Some notes.PrepareBusSleep) = 80 ∷ 66 ∷ []
word_of (Some notes.BusSleep) = 66 ∷ 83 ∷ []
word_of (Some notes.Timeout) = 84 ∷ 79 ∷ []
word_of (Some notes.RemoteSleepCancelled) = 82 ∷ 67 ∷ []
word_of (Some notes.RemoteSleepIndication) = 82 ∷ 73 ∷ []

-- the second letters of EI and ER
abbrev pub letter_ei : ℕ
letter_ei = 73

abbrev pub letter_er : ℕ
letter_er = 82

-- EI or ER, by its second letter, where a vector changed
unfoldable pub change_word : Bool → ℕ → List ℕ
change_word changed b = cond changed (69 ∷ b ∷ []) []

-- a word, behind a comma unless it is the first; no word is nothing
unfoldable pub piece : Bool → List ℕ → List ℕ
piece first [] = []
piece first (a ∷ w) = cond first (a ∷ w) (comma ∷ a ∷ w)

-- a word behind the words of a text
abbrev pub add_word : List ℕ → List ℕ → List ℕ
add_word t w = t ++ piece (eqb (length t) 0) w

-- a dash where there is nothing
unfoldable pub dashed : Bool → List ℕ
dashed none = cond none (dash ∷ []) []

-- the words of the notes in their order
abbrev pub words : Notes → List ℕ
words n =
    add_word (add_word (add_word (add_word [] (word_of n.first)) (word_of n.second)) (change_word n.eira letter_ei)) (change_word n.era letter_er)

-- the notes, none being a dash
unfoldable pub notes_text : Notes → List ℕ
notes_text n = words n ++ dashed (eqb (length (words n)) 0)

-- the most bytes that the notes take: four words and three commas
abbrev pub notes_most : ℕ
notes_most = 11
