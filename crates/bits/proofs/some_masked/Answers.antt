-- `bits::some_masked` meets its contract. Assumes nothing.
use mathlib.Core.Path.{◌≡◌, ◌∙◌}
use mathlib.Core.Bool.{not}
use Prim.Native.Nat.{ℕ}
use borrow.Author.Rules.{rules}
use borrow.Author.Tests.{tests}
use lib.Bits.{bit_and}
use lib.Dec.{eqb}
use Rattle.std.specs.List.{list_any, zip}
use Rattle.std.proofs.lemmas.Iterator.{YieldsList-from_slice, YieldsList-from_zip}
use Rattle.std.proofs.lemmas.Iterator.Search.{any_from_yields_List}
use Rattle.bits.proofs.Bits.{masked_pairs}
use Rattle.bits.proofs.some_masked.Goals as goal

pub returns : goal.returns
returns c =
    let a = c.args in
    let e : c.any.result ≡ list_any (λ (p : ℕ × ℕ). not (eqb (bit_and p.0 p.1) 0)) (zip a.bytes.now a.mask.now) =
    any_from_yields_List (λ (p : ℕ × ℕ). not (eqb (bit_and p.0 p.1) 0)) c.any.new.self _ c.any.result c.any.ensures.ran
    (YieldsList-from_zip (YieldsList-from_slice a.bytes.now cc) (YieldsList-from_slice a.mask.now cc))
    (λ x b q k. search (rules, tests)) in
    e ∙ masked_pairs a.bytes.now a.mask.now
