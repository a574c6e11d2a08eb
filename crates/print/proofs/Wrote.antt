-- Laws of writers: texts one behind the other, and a text that a loop writes piece by piece. Assumes nothing.
use mathlib.Core.Path.{◌≡◌, refl, sym, ◌∙◌}
use mathlib.Core.List.{List, [], ◌∷◌, ◌++◌, append_assoc}
use Prim.Native.Nat.{ℕ, suc, ◌+◌, ◌-◌, ◌≤◌}
use native.Mathlib.Nat.{add-zero, add-suc, suc-add}
use native.Mathlib.Omega.{arith}
use lib.ListN.{length, set, take, drop, length-append}
use lib.Seq.{sets, length-sets}
use borrow.Rule.Slice.PartMut.{put_mid}
use Rattle.std.proofs.lemmas.List.{drop-drop}
use Rattle.std.proofs.lemmas.List.Edits.{sets-eq}
use Rattle.print.specs.Print.{HasRoom, Puts, Wrote}
use Rattle.print.specs.declared.Writer.{Writer}

-- ---- one text behind the other

sets_sets : (l : List ℕ) (i : ℕ) (a b : List ℕ) → sets (sets l i a) (i + length a) b ≡ sets l i (a ++ b)
sets_sets l i [] b = rw add-zero
sets_sets l i (x ∷ a) b = rw (add-suc, ← suc-add) (sets_sets (set l i x) (suc i) a b)

-- no byte
pub wrote_none : (l : List ℕ) (i : ℕ) → Wrote l i [] l i
wrote_none l i = record { next = omega arith; list = refl }

-- a text behind a text
pub then : {l : List ℕ} {i : ℕ} {a m b n : List ℕ} {p r : ℕ} → Wrote l i a m p → Wrote m p b n r → Wrote l i (a ++ b) n r
then {l} {i} {a} {m} {b} {n} {p} {r} v w = record {
  next = let e : p ≡ i + length a = v.next in let f : r ≡ p + length b = w.next in rw length-append (omega arith);
  list = w.list ∙ rw (v.list, v.next) (sets_sets l i a b);
}

-- a text that takes the place of a part
pub wrote_part : (l : List ℕ) (i e : ℕ) {a : List ℕ} → e ≡ i + length a → e ≤ length l → Wrote l i a (put_mid i (e - i) l a) e
wrote_part l i e {a} h k = record {
  next = h;
  list =
      let d : e - i ≡ length a = omega arith in
      rw (d, sets-eq a l i (omega arith), drop-drop) (sym (append_assoc (take i l) a (drop (i + length a) l)));
}

-- a text keeps the length of its list
pub wrote_length : {l : List ℕ} {i : ℕ} {a m : List ℕ} {r : ℕ} → Wrote l i a m r → length m ≡ length l
wrote_length {l} {i} {a} w = rw w.list (length-sets l i a)

-- ---- what a writer puts

-- no byte
pub puts_none : (w : Writer) → Puts w [] w
puts_none w = record { text = wrote_none w.out.now w.at; buffer = refl }

-- a text behind a text
pub puts_then : {u v w : Writer} {a b : List ℕ} → Puts u a v → Puts v b w → Puts u (a ++ b) w
puts_then p q = record { text = then p.text q.text; buffer = q.buffer ∙ p.buffer }

-- what room is left
pub puts_room : {w v : Writer} {a : List ℕ} → Puts w a v → (n : ℕ) → HasRoom w (length a + n) → HasRoom v n
puts_room p n h = omega (arith, p.text.next, wrote_length p.text)
