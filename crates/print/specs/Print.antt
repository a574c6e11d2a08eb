-- What is printed, as lists of bytes, and what a writer does with it. Assumes nothing.
use Rattle.std.specs.Prelude.{◌≡◌, cond, List, [], ◌∷◌, ◌++◌, ℕ, zero, suc, ◌+◌, ◌-◌, ◌/◌, ◌%◌, ◌≤◌, ltb, length}
use Rattle.std.proofs.lemmas.List.Edits.{sets}
use Rattle.print.specs.declared.Writer.{Writer}

-- the text a stands in the list l from place i on, which makes the list m, and r is the place behind it
pub record Wrote (l : List ℕ) (i : ℕ) (a : List ℕ) (m : List ℕ) (r : ℕ) : Type 0 where
  pub next : r ≡ i + length a
  pub list : m ≡ sets l i a

-- the writer v is w with the text a written, on the same buffer
pub record Puts (w : Writer) (a : List ℕ) (v : Writer) : Type 0 where
  pub text : Wrote w.out.now w.at a v.out.now v.at
  pub buffer : v.out.ghost_name ≡ w.out.ghost_name

-- a writer has room for n bytes more
abbrev pub HasRoom : Writer → ℕ → Type 0
HasRoom w n = w.at + n ≤ length w.out.now

-- the last k digits of a number in decimal, without leading zeros
unfoldable pub decimal : ℕ → ℕ → List ℕ
decimal zero n = []
decimal (suc k) n = cond (ltb n 10) ((48 + n) ∷ []) (decimal k (n / 10) ++ ((48 + n % 10) ∷ []))

-- the most digits that a number of 64 bits has
abbrev pub digits_most : ℕ
digits_most = 20

-- a number in decimal
abbrev pub number_text : ℕ → List ℕ
number_text n = decimal digits_most n

-- a hex digit in upper case
abbrev pub hex_digit : ℕ → ℕ
hex_digit d = cond (ltb d 10) (48 + d) (65 + (d - 10))

-- bytes in hex, the upper half of each first
unfoldable pub hex_text : List ℕ → List ℕ
hex_text [] = []
hex_text (b ∷ bs) = hex_digit (b / 16) ∷ hex_digit (b % 16) ∷ hex_text bs

-- the byte for a field without content
abbrev pub dash : ℕ
dash = 45
