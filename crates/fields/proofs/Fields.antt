-- Laws of the fields of a line. Assumes nothing.
use mathlib.Core.Path.{◌≡◌, refl}
use mathlib.Core.Bool.{Bool, true, false, cond}
use mathlib.Core.List.{List, [], ◌∷◌}
use Prim.Native.Nat.{ℕ, suc, ◌+◌, ◌≤◌, ◌<◌}
use native.Mathlib.Omega.{arith}
use native.Mathlib.Numerals.{add-one}
use lib.Dec.{eqb}
use lib.ListN.{length, drop, get_or, drop_of_length-le}
use lib.Seq.{drop-cons}
use Rattle.std.specs.List.{slice_split, onto_first}
use Rattle.text.specs.Lines.{before}
use Rattle.fields.specs.Fields.{fields_of, tab}

before_length : (x : ℕ) (ls : List (List ℕ)) → length (before x ls) ≤ 1 + length ls
before_length x [] = omega arith
before_length x (l ∷ ls) = omega arith

-- a line has at most one field more than bytes
pub fields_short : (s : List ℕ) → length (fields_of s) ≤ 1 + length s
unfolding fields_of
fields_short [] = omega arith
fields_short (x ∷ xs) = by_byte (eqb x tab) (fields_short xs)
  where
    by_byte : (t : Bool) → length (fields_of xs) ≤ 1 + length xs → length (cond t ([] ∷ fields_of xs) (before x (fields_of xs))) ≤ 1 + suc (length xs)
    by_byte true h = omega arith
    by_byte false h = omega (arith, before_length x (fields_of xs))

-- the fields of a line are the parts that `split` gives
fields_split : (s : List ℕ) → slice_split (λ b. eqb b tab) s ≡ fields_of s
unfolding fields_of
fields_split [] = refl
fields_split (x ∷ xs) = rw (fields_split xs, onto x (fields_of xs)) refl
  where
    onto : (x : ℕ) (ls : List (List ℕ)) → onto_first x ls ≡ before x ls
    onto x [] = refl
    onto x (l ∷ ls) = refl

module _ (s : List ℕ) (n : ℕ) where
  -- the field that comes next, and what is left behind it
  pub field_next : {f : List ℕ} → (n < length (slice_split (λ b. eqb b tab) s)) × (f ≡ get_or (slice_split (λ b. eqb b tab) s) n f)
      → drop n (fields_of s) ≡ f ∷ drop (n + 1) (fields_of s)
  field_next {f} h =
      let e : n < length (fields_of s) = rw (fields_split s) at h.0 in
      let g : f ≡ get_or (fields_of s) n f = rw (fields_split s) at h.1 in
      rw (add-one, drop-cons (fields_of s) n f, ← g) refl

  -- behind the last none is left
  pub field_last : n ≡ length (slice_split (λ b. eqb b tab) s) → drop n (fields_of s) ≡ []
  field_last h = let e : n ≡ length (fields_of s) = rw (fields_split s) at h in drop_of_length-le (fields_of s) (omega arith)

  pub field_count : n < length (slice_split (λ b. eqb b tab) s) → n ≤ length s
  field_count h = let e : n < length (fields_of s) = rw (fields_split s) at h in omega (arith, fields_short s)
