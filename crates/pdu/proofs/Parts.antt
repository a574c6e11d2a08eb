-- The PN bytes and user bytes that reading lays into lent bytes of the configured lengths. Assumes nothing.
use mathlib.Core.Path.{◌≡◌}
use mathlib.Core.Bool.{true, ◌&&◌}
use mathlib.Core.List.{List}
use Prim.Native.Nat.{ℕ, ◌+◌, ◌≤◌}
use native.Mathlib.Omega.{arith}
use lib.Dec.{eqb}
use Rattle.std.specs.Prelude.{Ok}
use lib.ListN.{length, take, drop, length-drop}
use lib.Seq.{sets}
use borrow.Author.Tests.{eqb-true}
use Rattle.slices.proofs.Bytes.{sets_over}
use Rattle.choice.proofs.Tests.{and_left, and_right}
use Rattle.config.specs.declared.Config.{Config}
use Rattle.config.specs.Ranges.{user_start_of, user_length_of}
use Rattle.rules.specs.Rules.{first_broken}
use Rattle.rules.proofs.Passes.{passes}
use Rattle.rules.proofs.Layouts.{filled_by}
use Rattle.layout.specs.Fields.{fields}
use Rattle.layout.specs.Layout.{byte_at, fields_of, of_lengths}

-- lent bytes of length n that take what stands from place i on
pub laid : (lent : List ℕ) (i n : ℕ) (pdu : List ℕ) → length lent ≡ n → i + n ≤ length pdu
    → sets lent 0 (drop i pdu) ≡ take n (drop i pdu)
laid lent i n pdu e h = rw (sets_over lent (drop i pdu) (omega (arith, length-drop i pdu)), e)

pub fields_laid : (c : Config) (pdu pn user : List ℕ) → first_broken c ≡ Ok tt
    → (of_lengths c (length pn) (length user) && eqb (length pdu) c.layout.length) ≡ true
    → fields (byte_at c.layout.sni pdu) (byte_at c.layout.cbv pdu) (sets pn 0 (drop c.pn.start pdu))
    (sets user 0 (drop (user_start_of c) pdu))
    ≡ fields_of c pdu
unfolding fields_of of_lengths
fields_laid c pdu pn user e t =
    let w = filled_by c (passes c e) in
    let k = and_left (of_lengths c (length pn) (length user)) (eqb (length pdu) c.layout.length) t in
    let n = eqb-true (length pn) c.pn.length (and_left (eqb (length pn) c.pn.length) (eqb (length user) (user_length_of c)) k) in
    let u = eqb-true (length user) (user_length_of c) (and_right (eqb (length pn) c.pn.length) (eqb (length user) (user_length_of c)) k) in
    let l =
    eqb-true (length pdu) c.layout.length
    (and_right (of_lengths c (length pn) (length user)) (eqb (length pdu) c.layout.length) t) in
    rw (
      laid pn c.pn.start c.pn.length pdu n (omega (arith, w.pn_ends, l)),
      laid user (user_start_of c) (user_length_of c) pdu u (omega (arith, w.user_ends, l)),
    )
