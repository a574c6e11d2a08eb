-- A text that grows by blocks: its finished lines grow by those of its unfinished line and the block, and of the unfinished line the
-- start is enough. So a run over blocks, which keeps only that, gives what the run over the lines of the whole text gives: for
-- every block, and for every state that the run carries along. Assumes nothing.
use mathlib.Core.Path.{◌≡◌, refl, sym, ap, ◌∙◌}
use mathlib.Core.Bool.{Bool, true, false, cond}
use mathlib.Core.List.{List, [], ◌∷◌, ◌++◌, append_assoc, append-nil, map}
use Prim.Native.Nat.{ℕ, zero, suc, ◌+◌, ◌≤◌}
use native.Mathlib.Omega.{arith}
use lib.Dec.{eqb}
use lib.ListN.{length, take, drop, length-append, take-append-drop}
use lib.Seq.{take-append-add, drop-append-add, take-take, take-length, drop-length, length-take-le}
use Rattle.text.specs.Lines.{before, line_feed, lines_of}
use Rattle.blocks.specs.Blocks.{cut, finished_len, finished_lines, finished_with, kept_of, line_most, unfinished}
use Rattle.blocks.proofs.Finished.{finished_le}
use Rattle.blocks.specs.Runs.{after}

-- ---- finished lines and the unfinished line

-- a text that has a byte has a line
some_line : (x : ℕ) (xs : List ℕ) → (l : List ℕ) × (ls : List (List ℕ)) × (lines_of (x ∷ xs) ≡ l ∷ ls)
unfolding lines_of
some_line x xs = by_byte (eqb x line_feed) (lines_of xs)
  where
    by_byte : (t : Bool) (ls : List (List ℕ)) → (l : List ℕ) × (r : List (List ℕ)) × (cond t ([] ∷ ls) (before x ls) ≡ l ∷ r)
    by_byte true ls = ([], ls, refl)
    by_byte false [] = (x ∷ [], [], refl)
    by_byte false (l ∷ ls) = (x ∷ l, ls, refl)

-- the lines of a text and more: its finished lines, then those of its unfinished line and more
lines_split : (s t : List ℕ) → lines_of (s ++ t) ≡ finished_lines s ++ lines_of (unfinished s ++ t)
unfolding lines_of finished_len
lines_split [] t = refl
lines_split (x ∷ xs) t = by_length (finished_len xs) xs (finished_le xs) (lines_split xs t)
  where
    by_first : (b : Bool) → eqb x line_feed ≡ b → (xs : List ℕ) → lines_of (x ∷ xs ++ t) ≡ lines_of (take (finished_with x 0) (x ∷ xs)) ++ lines_of (drop (finished_with x 0) (x ∷ xs) ++ t)
    by_first true e xs = rw (e, e)
    by_first false e xs = rw (e, e)

    by_line : (b : Bool) (ls ms ns : List (List ℕ)) → (a : List ℕ) × (r : List (List ℕ)) × (ms ≡ a ∷ r) → ls ≡ ms ++ ns
        → cond b ([] ∷ ls) (before x ls) ≡ cond b ([] ∷ ms) (before x ms) ++ ns
    by_line true ls ms ns a e = rw e
    by_line false ls ms ns a e = rw (e, a.2)

    by_length : (n : ℕ) (xs : List ℕ) → n ≤ length xs → lines_of (xs ++ t) ≡ lines_of (take n xs) ++ lines_of (drop n xs ++ t)
        → lines_of (x ∷ xs ++ t) ≡ lines_of (take (finished_with x n) (x ∷ xs)) ++ lines_of (drop (finished_with x n) (x ∷ xs) ++ t)
    by_length zero xs h e = by_first (eqb x line_feed) refl xs
    by_length (suc n) [] h e = absurd (omega arith)
    by_length (suc n) (y ∷ ys) h e = by_line (eqb x line_feed) _ _ _ (some_line y (take n ys)) e

-- the same with nothing more
lines_last : (s : List ℕ) → finished_lines s ++ lines_of (unfinished s) ≡ lines_of s
lines_last s = sym (ap lines_of (sym (append-nil s)) ∙ lines_split s [] ∙ rw append-nil)

-- the finished lines of a text are finished
finished_again : (s : List ℕ) → finished_len (take (finished_len s) s) ≡ finished_len s
unfolding finished_len
finished_again [] = refl
finished_again (x ∷ xs) = by_length (finished_len xs) (finished_again xs)
  where
    by_byte : (t : Bool) → eqb x line_feed ≡ t → finished_len (take (cond t 1 0) (x ∷ xs)) ≡ cond t 1 0
    by_byte true e = rw e
    by_byte false e = refl

    by_length : (n : ℕ) → finished_len (take n xs) ≡ n → finished_len (take (finished_with x n) (x ∷ xs)) ≡ finished_with x n
    by_length zero e = by_byte (eqb x line_feed) refl
    by_length (suc n) e = rw e

-- one more byte of finished lines
with_more : (x n : ℕ) → eqb x line_feed ≡ true → finished_with x n ≡ suc n
with_more x zero e = rw e
with_more x (suc n) e = refl

-- the finished lines of a text and more end where those of its unfinished line and more end
finished_split : (s t : List ℕ) → finished_len (s ++ t) ≡ finished_len s + finished_len (unfinished s ++ t)
unfolding finished_len
finished_split [] t = omega arith
finished_split (x ∷ xs) t = by_length (finished_len xs) (finished_split xs t)
  where
    by_byte : (b : Bool) → eqb x line_feed ≡ b → finished_with x (finished_len (xs ++ t)) ≡ cond b 1 0 + finished_len (drop (cond b 1 0) (x ∷ xs) ++ t)
    by_byte true e = with_more x (finished_len (xs ++ t)) e ∙ omega arith
    by_byte false e = omega arith

    with_some : (n m : ℕ) → finished_with x (suc n + m) ≡ suc (suc n) + m
    with_some n m = let e : suc n + m ≡ suc (n + m) = omega arith in rw e (omega arith)

    by_length : (n : ℕ) → finished_len (xs ++ t) ≡ n + finished_len (drop n xs ++ t) → finished_with x (finished_len (xs ++ t)) ≡ finished_with x n + finished_len (drop (finished_with x n) (x ∷ xs) ++ t)
    by_length zero e = by_byte (eqb x line_feed) refl
    by_length (suc n) e = rw e (with_some n (finished_len (drop (suc n) xs ++ t)))

module _ (s t : List ℕ) where
  -- a text as its finished lines and its unfinished line
  parts : take (finished_len s) s ++ (unfinished s ++ t) ≡ s ++ t
  parts = sym (append_assoc (take (finished_len s) s) (unfinished s) t) ∙ ap (λ (l : List ℕ). l ++ t) (take-append-drop (finished_len s) s)

  -- cut behind those of the finished lines
  at_finished : (n : ℕ) → length (take (finished_len s) s) + n ≡ finished_len s + n
  at_finished n = ap (λ (k : ℕ). k + n) (length-take-le (finished_len s) s (finished_le s))

  -- the finished lines grow by those of the unfinished line and more
  finished_lines_more : finished_lines (s ++ t) ≡ finished_lines s ++ finished_lines (unfinished s ++ t)
  finished_lines_more =
      let w = take (finished_len s) s in
      let u = unfinished s ++ t in
      let n = finished_len u in
      let e : finished_len w ≡ length w = finished_again s ∙ sym (length-take-le (finished_len s) s (finished_le s)) in
      ap (λ (k : ℕ). lines_of (take k (s ++ t))) (finished_split s t ∙ sym (at_finished n))
      ∙ ap (λ (l : List ℕ). lines_of (take (length w + n) l)) (sym parts)
      ∙ ap lines_of (take-append-add w u n)
      ∙ lines_split w (take n u)
      ∙ rw (e, take-length, drop-length)

  -- and the unfinished line is that of the unfinished line and more
  unfinished_more : unfinished (s ++ t) ≡ unfinished (unfinished s ++ t)
  unfinished_more =
      let w = take (finished_len s) s in
      let u = unfinished s ++ t in
      let n = finished_len u in
      ap (λ (k : ℕ). drop k (s ++ t)) (finished_split s t ∙ sym (at_finished n))
      ∙ ap (drop (length w + n)) (sym parts)
      ∙ drop-append-add w u n

-- ---- the unfinished line has no line feed

abbrev Open : List ℕ → Type 0
Open p = finished_len p ≡ 0

-- a byte that ends no line, before bytes that end none
open_head : (x n : ℕ) → finished_with x n ≡ 0 → (eqb x line_feed ≡ false) × (n ≡ 0)
open_head x zero h = (by_byte (eqb x line_feed) h, refl)
  where
    by_byte : (b : Bool) → ◌≡◌ {A = ℕ} (cond b 1 0) 0 → b ≡ false
    by_byte true e = absurd (omega arith)
    by_byte false e = refl
open_head x (suc n) h = absurd (omega arith)

open_rest : (s : List ℕ) → Open (unfinished s)
unfolding finished_len
open_rest [] = refl
open_rest (x ∷ xs) = by_length (finished_len xs) refl (open_rest xs)
  where
    by_byte : (b : Bool) → eqb x line_feed ≡ b → finished_len xs ≡ 0 → Open (drop (cond b 1 0) (x ∷ xs))
    by_byte true e h = h
    by_byte false e h = rw (h, e)

    by_length : (n : ℕ) → finished_len xs ≡ n → Open (drop n xs) → Open (drop (finished_with x n) (x ∷ xs))
    by_length zero e h = by_byte (eqb x line_feed) refl e
    by_length (suc n) e h = h

open_take : (k : ℕ) (p : List ℕ) → Open p → Open (take k p)
unfolding finished_len
open_take zero p h = refl
open_take (suc k) [] h = refl
open_take (suc k) (x ∷ p) h = let o = open_head x (finished_len p) h in rw (open_take k p o.1, o.0)

-- an unfinished line goes on with the first line behind it
lines_onto : (p t : List ℕ) {l : List ℕ} {ls : List (List ℕ)} → Open p → lines_of t ≡ l ∷ ls → lines_of (p ++ t) ≡ (p ++ l) ∷ ls
unfolding lines_of finished_len
lines_onto [] t h e = e
lines_onto (x ∷ p) t h e = let o = open_head x (finished_len p) h in rw (o.0, lines_onto p t o.1 e)

-- it is a line, if it has a byte
lines_open : (x : ℕ) (p : List ℕ) → Open (x ∷ p) → lines_of (x ∷ p) ≡ (x ∷ p) ∷ []
unfolding lines_of finished_len
lines_open x [] h = rw (open_head x 0 h).0
lines_open x (y ∷ p) h = let o = open_head x (finished_len (y ∷ p)) h in rw (o.0, lines_open y p o.1)

open_append : (p t : List ℕ) → Open p → Open t → Open (p ++ t)
unfolding finished_len
open_append [] t h e = e
open_append (x ∷ p) t h e = let o = open_head x (finished_len p) h in rw (open_append p t o.1 e, o.0)

finished_append : (p t : List ℕ) {m : ℕ} → Open p → finished_len t ≡ suc m → finished_len (p ++ t) ≡ length p + suc m
unfolding finished_len
finished_append [] t h e = e ∙ omega arith
finished_append (x ∷ p) t {m} h e =
    let o = open_head x (finished_len p) h in
    let i : finished_len (p ++ t) ≡ suc (length p + m) = finished_append p t o.1 e ∙ omega arith in
    rw i (omega arith)

-- ---- what a cut leaves of an unfinished line is enough

-- what is cut off is cut off for good
take_again : (k : ℕ) (p t : List ℕ) → take k (take k p ++ t) ≡ take k (p ++ t)
take_again zero p t = refl
take_again (suc k) [] t = refl
take_again (suc k) (x ∷ p) t = ap (λ (l : List ℕ). x ∷ l) (take_again k p t)

module _ (p t : List ℕ) (o : Open p) where
  -- the finished lines of an unfinished line and a block, each cut
  finished_cut : map cut (finished_lines (cut p ++ t)) ≡ map cut (finished_lines (p ++ t))
  unfolding lines_of finished_len
  finished_cut = by_length (finished_len t) refl
    where
      by_lines : {m : ℕ} (s : List ℕ) → finished_len s ≡ suc m → map cut (finished_lines (cut p ++ s)) ≡ map cut (finished_lines (p ++ s))
      by_lines [] e = absurd (omega arith)
      by_lines {m} (y ∷ s) e =
          let f = some_line y (take m s) in
          rw (finished_append p (y ∷ s) o e, finished_append (cut p) (y ∷ s) (open_take (line_most + 1) p o) e, take-append-add, take-append-add)
          (rw (lines_onto p (y ∷ take m s) o f.2, lines_onto (cut p) (y ∷ take m s) (open_take (line_most + 1) p o) f.2) (ap (λ (l : List ℕ). l ∷ map cut f.1) (take_again (line_most + 1) p f.0)))

      by_length : (n : ℕ) → finished_len t ≡ n → map cut (finished_lines (cut p ++ t)) ≡ map cut (finished_lines (p ++ t))
      by_length zero e = rw (open_append p t o e, open_append (cut p) t (open_take (line_most + 1) p o) e)
      by_length (suc m) e = by_lines t e

  kept_cut : kept_of (cut p ++ t) ≡ kept_of (p ++ t)
  kept_cut = by_length (finished_len t) refl
    where
      by_length : (n : ℕ) → finished_len t ≡ n → kept_of (cut p ++ t) ≡ kept_of (p ++ t)
      by_length zero e = rw (open_append p t o e, open_append (cut p) t (open_take (line_most + 1) p o) e) (take_again (line_most + 1) p t)
      by_length (suc m) e = rw (finished_append p t o e, finished_append (cut p) t (open_take (line_most + 1) p o) e, drop-append-add, drop-append-add)

last_cut : (p : List ℕ) → Open p → map cut (lines_of (cut p)) ≡ map cut (lines_of p)
last_cut [] o = refl
last_cut (x ∷ p) o = rw (lines_open x p o, lines_open x (take line_most p) (open_take (line_most + 1) (x ∷ p) o), take-take line_most line_most p (omega arith))

-- a cut line counts like the whole
count_cut : (p t : List ℕ) → Open p → length (lines_of (cut p ++ t)) ≡ length (lines_of (p ++ t))
count_cut [] t o = refl
count_cut (x ∷ p) [] o = rw (append-nil, append-nil, lines_open x p o, lines_open x (take line_most p) (open_take (line_most + 1) (x ∷ p) o))
count_cut (x ∷ p) (y ∷ t) o =
    let f = some_line y t in
    rw (lines_onto (x ∷ p) (y ∷ t) o f.2, lines_onto (cut (x ∷ p)) (y ∷ t) (open_take (line_most + 1) (x ∷ p) o) f.2)

-- ---- a text and a block

module _ (s b : List ℕ) where
  -- what is kept of a text and a block is what is kept of that which was kept and the block
  pub kept_more : kept_of (kept_of s ++ b) ≡ kept_of (s ++ b)
  kept_more = kept_cut (unfinished s) b (open_rest s) ∙ ap cut (sym (unfinished_more s b))

  -- so many lines they have
  pub count_more : length (finished_lines s) + length (lines_of (kept_of s ++ b)) ≡ length (lines_of (s ++ b))
  count_more =
      let e = count_cut (unfinished s) b (open_rest s) in
      rw (lines_split s b, length-append, e)

-- ---- runs

module _ {ℓ} {S : Type ℓ} (step : S → List ℕ → S) where
  -- lines one behind the other
  after_append : (s : S) (a b : List (List ℕ)) → after step s (a ++ b) ≡ after step (after step s a) b
  unfolding after
  after_append s [] b = refl
  after_append s (l ∷ a) b = after_append (step s l) a b

  module _ (enough : (s : S) (l : List ℕ) → step s (cut l) ≡ step s l) where
    -- a run looks at no more than the start of a line
    after_map : (s : S) (ls : List (List ℕ)) → after step s (map cut ls) ≡ after step s ls
    unfolding after
    after_map s [] = refl
    after_map s (l ∷ ls) = ap (λ (t : S). after step t (map cut ls)) (enough s l) ∙ after_map (step s l) ls

    after_like : (s : S) (a b : List (List ℕ)) → map cut a ≡ map cut b → after step s a ≡ after step s b
    after_like s a b e = sym (after_map s a) ∙ ap (after step s) e ∙ after_map s b

    module _ (o : S) (s : List ℕ) where
      -- the state after the finished lines of a text, then after a block, is that after both
      pub after_more : (b : List ℕ) → after step (after step o (finished_lines s)) (finished_lines (kept_of s ++ b)) ≡ after step o (finished_lines (s ++ b))
      after_more b =
          after_like (after step o (finished_lines s)) (finished_lines (kept_of s ++ b)) (finished_lines (unfinished s ++ b)) (finished_cut (unfinished s) b (open_rest s))
          ∙ sym (after_append o (finished_lines s) (finished_lines (unfinished s ++ b)))
          ∙ ap (after step o) (sym (finished_lines_more s b))

      -- at the end what was kept is the last line
      pub after_end : after step (after step o (finished_lines s)) (lines_of (kept_of s)) ≡ after step o (lines_of s)
      after_end =
          after_like (after step o (finished_lines s)) (lines_of (kept_of s)) (lines_of (unfinished s)) (last_cut (unfinished s) (open_rest s))
          ∙ sym (after_append o (finished_lines s) (lines_of (unfinished s)))
          ∙ ap (after step o) (lines_last s)
