-- Laws of notes, one behind the other. Assumes nothing.
use mathlib.Core.Path.{◌≡◌, refl, sym, ◌∙◌}
use mathlib.Core.Bool.{Bool, true, false}
use mathlib.Core.List.{List, [], ◌∷◌, ◌++◌, append-nil}
use Prim.Native.Nat.{ℕ, ◌+◌, ◌≤◌}
use native.Mathlib.Omega.{arith}
use borrow.Author.Tests.{eq-eqb, ne_eqb}
use lib.Dec.{eqb}
use lib.ListN.{length, length-append}
use Rattle.std.specs.Prelude.{Option, Some, None}
use Rattle.print.specs.Print.{HasRoom, Puts, dash}
use Rattle.print.specs.declared.Writer.{Writer}
use Rattle.print.proofs.Wrote.{puts_room, puts_then}
use Rattle.states.specs.declared.Note.{Note}
use Rattle.states.specs.declared.Note.TheVariants as notes
use Rattle.channel.specs.declared.state.Notes.{Notes}
use Rattle.notes_text.specs.NotesText.{add_word, change_word, dashed, letter_ei, letter_er, notes_most, notes_text, piece, word_of, words}

-- a place behind a text is where the text begins exactly if the text is empty
at_start : (i : ℕ) {p : ℕ} (t : List ℕ) → p ≡ i + length t → eqb p i ≡ eqb (length t) 0
at_start i {p} [] e = eq-eqb p i (omega arith)
at_start i {p} (x ∷ t) e = ne_eqb p i (λ q. omega arith) ∙ sym (ne_eqb (length (x ∷ t)) 0 (λ q. omega arith))

module _ {u v : Writer} {t : List ℕ} (stands : Puts u t v) where
  -- a word behind the words that stand there
  pub then_word : (word : List ℕ) {w : Writer} → Puts v (piece (eqb v.at u.at) word) w → Puts u (add_word t word) w
  then_word word p = puts_then stands (rw (at_start u.at t stands.text.next) at p)

  -- the dash behind no word
  pub then_dash : {w : Writer} → v.at ≡ u.at → Puts v (dash ∷ []) w → Puts u (t ++ dashed (eqb (length t) 0)) w
  unfolding dashed
  then_dash e p = rw (← at_start u.at t stands.text.next, eq-eqb v.at u.at e) (puts_then stands p)

  -- none behind a word
  pub no_dash : ((v.at ≡ u.at) → ⊥) → Puts u (t ++ dashed (eqb (length t) 0)) v
  unfolding dashed
  no_dash n = rw (← at_start u.at t stands.text.next, ne_eqb v.at u.at n, append-nil t) stands

-- ---- how long they are

pub word_most : (n : Option Note) → length (word_of n) ≤ 2
unfolding word_of
word_most None = omega arith
word_most (Some notes.NetworkMode) = omega arith
word_most (Some notes.NetworkStart) = omega arith
word_most (Some notes.PrepareBusSleep) = omega arith
word_most (Some notes.BusSleep) = omega arith
word_most (Some notes.Timeout) = omega arith
word_most (Some notes.RemoteSleepCancelled) = omega arith
word_most (Some notes.RemoteSleepIndication) = omega arith

pub change_most : (b : Bool) (x : ℕ) → length (change_word b x) ≤ 2
unfolding change_word
change_most true x = omega arith
change_most false x = omega arith

-- the first has no comma
first_piece : (w : List ℕ) → length (piece true w) ≤ length w
unfolding piece
first_piece [] = omega arith
first_piece (x ∷ w) = omega arith

piece_most : (b : Bool) (w : List ℕ) → length (piece b w) ≤ 1 + length w
unfolding piece
piece_most b [] = omega arith
piece_most true (x ∷ w) = omega arith
piece_most false (x ∷ w) = omega arith

-- what room they leave
module _ {u v : Writer} (word : List ℕ) (short : length word ≤ 2) (n : ℕ) where
  pub first_room : Puts u (piece (eqb u.at u.at) word) v → HasRoom u (2 + n) → HasRoom v n
  first_room p h =
      let q : Puts u (piece true word) v = rw (eq-eqb u.at u.at refl) at p in
      puts_room q n (omega (arith, first_piece word))

  pub word_room : (b : Bool) → Puts u (piece b word) v → HasRoom u (3 + n) → HasRoom v n
  word_room b p h = puts_room p n (omega (arith, piece_most b word))

-- a word and its comma are three bytes
word_adds : (t w : List ℕ) → length w ≤ 2 → length (add_word t w) ≤ length t + 3
word_adds t w h = omega (arith, length-append t (piece (eqb (length t) 0) w), piece_most (eqb (length t) 0) w)

words_most : (n : Notes) → length (words n) ≤ notes_most
words_most n =
    let a = add_word [] (word_of n.first) in
    let b = add_word a (word_of n.second) in
    let c = add_word b (change_word n.eira letter_ei) in
    omega (
      arith,
      first_piece (word_of n.first),
      word_most n.first,
      word_adds a (word_of n.second) (word_most n.second),
      word_adds b (change_word n.eira letter_ei) (change_most n.eira letter_ei),
      word_adds c (change_word n.era letter_er) (change_most n.era letter_er),
    )

-- a dash takes the place of no word
dash_adds : (t : List ℕ) (k : ℕ) → 1 ≤ k → length t ≤ k → length (t ++ dashed (eqb (length t) 0)) ≤ k
unfolding dashed
dash_adds [] k e h = omega arith
dash_adds (x ∷ t) k e h = rw (ne_eqb (length (x ∷ t)) 0 (λ q. omega arith)) (omega (arith, length-append t []))

pub length_notes : (n : Notes) → length (notes_text n) ≤ notes_most
unfolding notes_text
length_notes n = dash_adds (words n) notes_most (omega arith) (words_most n)
