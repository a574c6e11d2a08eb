-- `names::call` meets its contract: the table of names at the number that each packs to, by computation. Assumes nothing.
use mathlib.Core.Path.{◌≡◌, sym, ◌∙◌}
use mathlib.Core.Bool.{false}
use Prim.Native.Nat.{ℕ}
use native.Mathlib.Omega.{arith}
use lib.Dec.{eqb}
use borrow.Author.Tests.{ne_eqb}
use Rattle.names.specs.Names.{call_of, name_at, names, packed, place}
use Rattle.names.proofs.call.Goals as goal

-- REQ
pub returns-in-22168913 : goal.returns-in-22168913
unfolding call_of name_at names packed place
returns-in-22168913 c = rw (sym c.pack.ensures ∙ c.in-22168913.is)

-- REL
pub returns-in-22168908 : goal.returns-in-22168908
unfolding call_of name_at names packed place
returns-in-22168908 c = rw (sym c.pack.ensures ∙ c.in-22168908.is)

-- PAS
pub returns-in-22036819 : goal.returns-in-22036819
unfolding call_of name_at names packed place
returns-in-22036819 c = rw (sym c.pack.ensures ∙ c.in-22036819.is)

-- RMR
pub returns-in-22170962 : goal.returns-in-22170962
unfolding call_of name_at names packed place
returns-in-22170962 c = rw (sym c.pack.ensures ∙ c.in-22170962.is)

-- DIS
pub returns-in-21252435 : goal.returns-in-21252435
unfolding call_of name_at names packed place
returns-in-21252435 c = rw (sym c.pack.ensures ∙ c.in-21252435.is)

-- ENA
pub returns-in-21319233 : goal.returns-in-21319233
unfolding call_of name_at names packed place
returns-in-21319233 c = rw (sym c.pack.ensures ∙ c.in-21319233.is)

-- OK
pub returns-in-85835 : goal.returns-in-85835
unfolding call_of name_at names packed place
returns-in-85835 c = rw (sym c.pack.ensures ∙ c.in-85835.is)

-- BAD
pub returns-in-21119300 : goal.returns-in-21119300
unfolding call_of name_at names packed place
returns-in-21119300 c = rw (sym c.pack.ensures ∙ c.in-21119300.is)

-- PNA
pub returns-in-22040129 : goal.returns-in-22040129
unfolding call_of name_at names packed place
returns-in-22040129 c = rw (sym c.pack.ensures ∙ c.in-22040129.is)

-- RX
pub returns-in-86616 : goal.returns-in-86616
unfolding call_of name_at names packed place
returns-in-86616 c = rw (sym c.pack.ensures ∙ c.in-86616.is)

-- UD
pub returns-in-87364 : goal.returns-in-87364
unfolding call_of name_at names packed place
returns-in-87364 c = rw (sym c.pack.ensures ∙ c.in-87364.is)

-- PNR
pub returns-in-22040146 : goal.returns-in-22040146
unfolding call_of name_at names packed place
returns-in-22040146 c = rw (sym c.pack.ensures ∙ c.in-22040146.is)

-- T
pub returns-in-340 : goal.returns-in-340
unfolding call_of name_at names packed place
returns-in-340 c = rw (sym c.pack.ensures ∙ c.in-340.is)

-- CFG
pub returns-in-21186119 : goal.returns-in-21186119
unfolding call_of name_at names packed place
returns-in-21186119 c = rw (sym c.pack.ensures ∙ c.in-21186119.is)

-- PN
pub returns-in-86094 : goal.returns-in-86094
unfolding call_of name_at names packed place
returns-in-86094 c = rw (sym c.pack.ensures ∙ c.in-86094.is)

-- none of them
pub returns-in_default : goal.returns-in_default
unfolding call_of name_at names packed place
returns-in_default c =
    let no : (n : ℕ) → (c.pack.result ≡ n → ⊥) → eqb n (packed c.args.f.now) ≡ false = λ n h. ne_eqb n (packed c.args.f.now) (λ e. h (c.pack.ensures ∙ sym e)) in
    rw (
      no 22168913 (λ e. omega arith),
      no 22168908 (λ e. omega arith),
      no 22036819 (λ e. omega arith),
      no 22170962 (λ e. omega arith),
      no 21252435 (λ e. omega arith),
      no 21319233 (λ e. omega arith),
      no 85835 (λ e. omega arith),
      no 21119300 (λ e. omega arith),
      no 22040129 (λ e. omega arith),
      no 86616 (λ e. omega arith),
      no 87364 (λ e. omega arith),
      no 22040146 (λ e. omega arith),
      no 340 (λ e. omega arith),
      no 21186119 (λ e. omega arith),
      no 86094 (λ e. omega arith),
    )
