-- Laws of the lines of a text, for every place in it. Assumes nothing.
use mathlib.Core.Path.{◌≡◌, refl, sym, ap, ◌∙◌}
use mathlib.Core.Bool.{Bool, true, false, cond}
use mathlib.Core.List.{List, [], ◌∷◌, ◌++◌}
use Prim.Native.Nat.{ℕ, zero, suc, ◌+◌, ◌-◌, ◌≤◌, ◌<◌}
use native.Mathlib.Omega.{arith}
use lib.Dec.{eqb, ltb}
use lib.ListN.{length, take, drop, drop_of_length-le, length-drop}
use lib.Seq.{drop-drop}
use Rattle.std.proofs.lemmas.List.{take_all}
use borrow.Author.Tests.{ltb-true, ltb-false}
use Rattle.text.specs.Lines.{before, lines_of, line_feed, span_at, until}
use Rattle.std.specs.Prelude.{Option, Some, None, nat_lt, unwrap_or}
use Rattle.std.specs.List.{position, position_or_len}
use Rattle.std.proofs.lemmas.List.Sums.{prefix_len-le-length}
use Rattle.std.proofs.lemmas.Option.{cond_some, none-some}
use Rattle.std.proofs.lemmas.List.Recursion.{is_position_or_len}

-- ---- the first b from a place on

-- the first b stands where `position` finds it, and at the end where that finds none
until_is : (b : ℕ) (xs : List ℕ) → until b xs ≡ position_or_len (λ x. eqb x b) xs
unfolding until
until_is b xs = is_position_or_len (until b) (λ x. eqb x b) refl (λ x r. search arith) xs

pub until_position : (b : ℕ) (xs : List ℕ) → unwrap_or (position (λ x. eqb x b) xs) (length xs) ≡ until b xs
until_position b xs = rw until_is (by_end (position_or_len (λ x. eqb x b) xs) (length xs) (prefix_len-le-length _ xs) (nat_lt (position_or_len (λ x. eqb x b) xs) (length xs)) refl)
  where
    by_end : (n len : ℕ) → n ≤ len → (t : Bool) → nat_lt n len ≡ t → unwrap_or (cond t (Some n) None) len ≡ n
    by_end n len h true e = refl
    by_end n len h false e = let l = ltb-false n len e in omega arith

-- the first b in the rest of a text, by the place that was found there or the rest's length
pub until_rest : (b : ℕ) (s : List ℕ) (at : ℕ) {o : Option ℕ} {n : ℕ} → let rest = take (length s - at) (drop at s) in
    o ≡ position (λ x. eqb x b) rest → n ≡ unwrap_or o (length rest) → at + n ≡ at + until b (drop at s)
until_rest b s at found here =
    let all : take (length s - at) (drop at s) ≡ drop at s = take_all _ (drop at s) (rw length-drop (omega arith)) in
    ap (λ k. at + k) (rw found at here ∙ until_position b _ ∙ ap (until b) all)

-- past the end there is none
pub until_past : (b : ℕ) (s : List ℕ) (at : ℕ) → length s ≤ at → at ≡ at + until b (drop at s)
unfolding until
until_past b s at h = rw (drop_of_length-le s h) (omega arith)

pub until_le : (b : ℕ) (s : List ℕ) → until b s ≤ length s
unfolding until
until_le b [] = omega arith
until_le b (x ∷ xs) = by_byte (eqb x b) (until_le b xs)
  where
    by_byte : (t : Bool) → until b xs ≤ length xs → cond t zero (suc (until b xs)) ≤ suc (length xs)
    by_byte true h = omega arith
    by_byte false h = omega arith

-- the place that is found, by one that stands in the text, stands in it or at its end
pub found_le : (b : ℕ) (s : List ℕ) (at : ℕ) {e : ℕ} → at ≤ length s → e ≡ at + until b (drop at s) → (at ≤ e) × (e ≤ length s)
found_le b s at h i = (omega arith, omega (arith, until_le b (drop at s), length-drop at s))

-- ---- the lines from a place on

lines_by : (x : ℕ) (xs : List ℕ) (t : Bool) → (0 < length xs → lines_of xs ≡ take (until line_feed xs) xs ∷ lines_of (drop (suc (until line_feed xs)) xs))
    → cond t ([] ∷ lines_of xs) (before x (lines_of xs))
    ≡ take (cond t zero (suc (until line_feed xs))) (x ∷ xs) ∷ lines_of (drop (suc (cond t zero (suc (until line_feed xs)))) (x ∷ xs))
unfolding lines_of until
lines_by x xs true ih = refl
lines_by x [] false ih = refl
lines_by x (y ∷ ys) false ih = ap (before x) (ih (omega arith))

-- the lines of a text that has a byte: the first, and those of what stands behind its line feed
pub lines_step : (s : List ℕ) → 0 < length s → lines_of s ≡ take (until line_feed s) s ∷ lines_of (drop (suc (until line_feed s)) s)
unfolding lines_of until
lines_step [] h = absurd (omega arith)
lines_step (x ∷ xs) h = lines_by x xs (eqb x line_feed) (lines_step xs)

-- past the end there is no line
pub lines_none : (s : List ℕ) (at : ℕ) → length s ≤ at → lines_of (drop at s) ≡ []
unfolding lines_of
lines_none s at h = rw (drop_of_length-le s h)

-- the line at a place, and those behind it
pub lines_at : (s : List ℕ) (at e : ℕ) → at < length s → e ≡ at + until line_feed (drop at s) → lines_of (drop at s) ≡ take (e - at) (drop at s) ∷ lines_of (drop (e + 1) s)
lines_at s at e h i =
    let n = until line_feed (drop at s) in
    let a : e - at ≡ n = omega arith in
    let b : e + 1 ≡ at + suc n = omega arith in
    let d : 0 < length (drop at s) = rw length-drop (omega arith) in
    rw (lines_step (drop at s) d, a, b, drop-drop (suc n) at s)

-- a text has at most as many lines as bytes
pub count_le : (s : List ℕ) → length (lines_of s) ≤ length s
unfolding lines_of
count_le [] = omega arith
count_le (x ∷ xs) = by_byte (eqb x line_feed) (lines_of xs) (count_le xs)
  where
    by_byte : (t : Bool) (ls : List (List ℕ)) → length ls ≤ length xs → length (cond t ([] ∷ ls) (before x ls)) ≤ suc (length xs)
    by_byte true ls h = omega arith
    by_byte false [] h = omega arith
    by_byte false (l ∷ ls) h = omega arith

-- a longer text has no fewer lines
pub lines_grow : (s t : List ℕ) → length (lines_of s) ≤ length (lines_of (s ++ t))
unfolding lines_of
lines_grow [] t = omega arith
lines_grow (x ∷ xs) t = by_byte (eqb x line_feed) (lines_of xs) (lines_of (xs ++ t)) (lines_grow xs t)
  where
    by_byte : (b : Bool) (ls ms : List (List ℕ)) → length ls ≤ length ms → length (cond b ([] ∷ ls) (before x ls)) ≤ length (cond b ([] ∷ ms) (before x ms))
    by_byte true ls ms h = omega arith
    by_byte false [] [] h = omega arith
    by_byte false [] (m ∷ ms) h = omega arith
    by_byte false (l ∷ ls) [] h = absurd (omega arith)
    by_byte false (l ∷ ls) (m ∷ ms) h = omega arith

-- ---- what a span says

pub span_line : (s : List ℕ) (at : ℕ) {a e : ℕ} → span_at s at ≡ Some (a, e) → (at < length s) × (a ≡ at) × (e ≡ at + until line_feed (drop at s)) × (e ≤ length s)
unfolding span_at
span_line s at {a} {e} h =
    let f = cond_some (ltb at (length s)) (at, at + until line_feed (drop at s)) (a, e) h in
    let l = ltb-true at (length s) f.0 in
    let p : e ≡ at + until line_feed (drop at s) = sym (ap (λ (x : ℕ × ℕ). x.1) f.1) in
    (l, sym (ap (λ (x : ℕ × ℕ). x.0) f.1), p, (found_le line_feed s at (omega arith) p).1)

end_by : (s : List ℕ) (at : ℕ) (t : Bool) → ltb at (length s) ≡ t → cond {A = Option (ℕ × ℕ)} t (Some (at, at + until line_feed (drop at s))) None ≡ None → length s ≤ at
end_by s at true h i = absurd (none-some _ (sym i))
end_by s at false h i = ltb-false at (length s) h

pub span_end : (s : List ℕ) (at : ℕ) → span_at s at ≡ None → length s ≤ at
unfolding span_at
span_end s at h = end_by s at (ltb at (length s)) refl h
