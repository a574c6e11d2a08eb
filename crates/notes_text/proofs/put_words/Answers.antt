-- `notes_text::put_words` meets its contract. Assumes nothing.
use native.Mathlib.Omega.{arith}
use Rattle.print.proofs.Wrote.{puts_none}
use Rattle.notes_text.specs.NotesText.{change_word}
use Rattle.notes_text.proofs.Notes.{change_most, first_room, then_word, word_most, word_room}
use Rattle.notes_text.proofs.put_words.Goals as goal

pub put_word-requires : goal.put_word-requires
put_word-requires c = rw c.word_of.ensures (omega (arith, word_most c.args.n.first))

pub put_word-requires-2 : goal.put_word-requires-2
put_word-requires-2 c =
    first_room _ (rw c.word_of.ensures (word_most c.args.n.first)) _ c.put_word.ensures (rw c.word_of-2.ensures (omega (arith, word_most c.args.n.second)))

pub put_word-requires-3 : goal.put_word-requires-3
unfolding change_word
put_word-requires-3 c =
    let n = c.args.n in
    let room = first_room _ (rw c.word_of.ensures (word_most n.first)) 9 c.put_word.ensures (omega arith) in
    word_room _ (rw c.word_of-2.ensures (word_most n.second)) _ _ c.put_word-2.ensures (rw c.change_word.ensures (omega (arith, room, change_most n.eira 73)))

pub put_word-requires-4 : goal.put_word-requires-4
unfolding change_word
put_word-requires-4 c =
    let n = c.args.n in
    let room = first_room _ (rw c.word_of.ensures (word_most n.first)) 9 c.put_word.ensures (omega arith) in
    let more = word_room _ (rw c.word_of-2.ensures (word_most n.second)) 6 _ c.put_word-2.ensures room in
    word_room _ (rw c.change_word.ensures (change_most n.eira 73)) _ _ c.put_word-3.ensures (rw c.change_word-2.ensures (omega (arith, more, change_most n.era 82)))

pub returns : goal.returns
unfolding change_word
returns c =
    then_word (then_word (then_word (then_word (puts_none _) _ (rw c.word_of.ensures at c.put_word.ensures)) _ (rw c.word_of-2.ensures at c.put_word-2.ensures)) _ (rw c.change_word.ensures at c.put_word-3.ensures)) _ (rw c.change_word-2.ensures at c.put_word-4.ensures)
