-- Laws of a block's text, and of what is kept. Assumes nothing.
use mathlib.Core.Path.{◌≡◌, sym, ◌∙◌}
use mathlib.Core.List.{List, ◌++◌, map}
use Prim.Native.Nat.{ℕ, ◌+◌, ◌≤◌}
use native.Mathlib.Omega.{arith}
use lib.ListN.{length, take, length-map}
use lib.Seq.{sets}
use Rattle.text.specs.Filled.{fill, filled}
use Rattle.text.proofs.Filled.{filled_count, filled_list, filled_front}
use Rattle.print.specs.Print.{Wrote}
use Rattle.print.proofs.Wrote.{then}

-- some bytes in front of a buffer, and others behind them
pub put_behind : (l a b : List ℕ) {m n : List ℕ} {r : ℕ} → m ≡ sets l 0 a → n ≡ sets m (length a) b → r ≡ length a + length b → filled r n ≡ fill l (a ++ b)
put_behind l a b {m} {n} {r} e f g =
    let v : Wrote l 0 a m (length a) = record { next = omega arith; list = e } in
    let w : Wrote m (length a) b n r = record { next = g; list = f } in
    let u = then v w in
    let i : r ≡ length (a ++ b) = omega (arith, u.next) in
    rw (i, u.list)

-- so many bytes of a buffer that was filled, where there was room for them
pub filled_text : {n : ℕ} {m : List ℕ} (l vs : List ℕ) → filled n m ≡ fill l vs → length vs ≤ length l → take n m ≡ vs
filled_text l vs e h = rw (filled_count l vs e, filled_list l vs e) (filled_front l vs h)

-- the length of an array, by what the language knows of it
pub array_length : (l : List ℕ) {n : ℕ} → length (map (λ (v : ℕ). v) l) ≡ n → length l ≡ n
array_length l e = sym (length-map l (λ (v : ℕ). v)) ∙ e
