-- Laws of the finished lines of a text. Assumes nothing.
use mathlib.Core.Path.{◌≡◌, refl, sym, ◌∙◌}
use mathlib.Core.Bool.{Bool, true, false, cond}
use mathlib.Core.List.{List, [], ◌∷◌, ◌++◌}
use Prim.Native.Nat.{ℕ, zero, suc, ◌+◌, ◌-◌, ◌≤◌, ◌<◌}
use native.Mathlib.Numerals.{add-one}
use native.Mathlib.Omega.{arith}
use lib.Dec.{eqb}
use lib.ListN.{length, take, get_or, length-take}
use lib.Seq.{take-suc, take_all, length-take-le}
use borrow.Author.Tests.{eq-eqb, ne_eqb}
use Rattle.text.specs.Lines.{line_feed}
use Rattle.blocks.specs.Blocks.{NoneFrom, finished_len, finished_with, kept_of, line_most}

-- ---- looking for the last line feed from the end

-- one byte more at the end
finished_snoc : (p : List ℕ) (x : ℕ) → finished_len (p ++ (x ∷ [])) ≡ cond (eqb x line_feed) (suc (length p)) (finished_len p)
unfolding finished_len
finished_snoc [] x = refl
finished_snoc (y ∷ p) x = rw (finished_snoc p x) (by_byte (eqb x line_feed))
  where
    by_byte : (t : Bool) → finished_with y (cond t (suc (length p)) (finished_len p)) ≡ cond t (suc (suc (length p))) (finished_with y (finished_len p))
    by_byte true = refl
    by_byte false = refl

-- the first n bytes and the next
one_more : (s : List ℕ) (n : ℕ) → n < length s → finished_len (take (suc n) s) ≡ cond (eqb (get_or s n 0) line_feed) (suc n) (finished_len (take n s))
one_more s n h = rw (take-suc s n 0, finished_snoc, length-take-le n s (omega arith))

-- where no line ends from place n on, the finished lines are those of the first n bytes
finished_front : (s : List ℕ) (n m : ℕ) → n + m ≡ length s → NoneFrom n s → finished_len s ≡ finished_len (take n s)
finished_front s n zero e none = rw (take_all n s (omega arith))
finished_front s n (suc m) e none =
    finished_front s (suc n) m (omega arith) (λ k h. none k (omega arith))
    ∙ one_more s n (omega arith) ∙ rw (ne_eqb _ _ (none n (omega arith) (omega arith)))

module _ (s : List ℕ) where
  -- a line ends at place i and none behind it
  pub finished_some : (i : ℕ) → i < length s → get_or s i 0 ≡ line_feed → NoneFrom (i + 1) s → i + 1 ≡ finished_len s
  finished_some i h e none =
      let n : i + 1 ≡ suc i = add-one i in
      rw n (sym (finished_front s (suc i) (length s - suc i) (omega arith) (λ k l. none k (omega arith)) ∙ one_more s i h ∙ rw (eq-eqb _ _ e)))

  pub finished_none : NoneFrom 0 s → 0 ≡ finished_len s
  unfolding finished_len
  finished_none none = sym (finished_front s 0 (length s) (omega arith) none)

with_le : (x n m : ℕ) → n ≤ m → finished_with x n ≤ suc m
with_le x zero m h = by_byte (eqb x line_feed)
  where
    by_byte : (t : Bool) → cond t 1 0 ≤ suc m
    by_byte true = omega arith
    by_byte false = omega arith
with_le x (suc n) m h = omega arith

pub finished_le : (s : List ℕ) → finished_len s ≤ length s
unfolding finished_len
finished_le [] = omega arith
finished_le (x ∷ xs) = with_le x (finished_len xs) (length xs) (finished_le xs)

-- no more is kept than tells that a line is too long
pub kept_short : (s : List ℕ) → length (kept_of s) ≤ line_most + 1
kept_short s = rw length-take (omega arith)
