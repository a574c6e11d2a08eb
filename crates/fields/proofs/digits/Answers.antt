-- `fields::digits` meets its contract. The loop's invariant: the number of all digits is that of the digits from a place on
-- behind `n`, and `n` has at most as many digits as stand before that place. Assumes nothing.
use mathlib.Core.Path.{sym, ◌∙◌}
use native.Mathlib.Omega.{arith}
use Rattle.std.proofs.lemmas.Bool.{MatchBool-at_true, MatchBool-at_false}
use Rattle.fields.proofs.Numbers.{number_end, number_no_digit, number_more, grows}
use Rattle.fields.proofs.digits.Goals as goal

pub returns-then-not-is_ascii_digit : goal.returns-then-not-is_ascii_digit
returns-then-not-is_ascii_digit c =
    sym (c.loop-d.invariant.0 ∙ number_no_digit _ _ _ c.loop-d-test.true (MatchBool-at_false _ _ c.if-not-is_ascii_digit.true c.is_ascii_digit.ensures.cases))

pub loop-d-preserved : goal.loop-d-preserved
loop-d-preserved c =
    let b = c.loop-d in
    let d = MatchBool-at_true _ _ c.if-not-is_ascii_digit.false c.is_ascii_digit.ensures.cases in (
      b.invariant.0 ∙ number_more _ _ _ c.loop-d-test.true d.0 d.1 ∙ rw c.from.ensures,
      grows _ _ _ b.invariant.1 (omega (arith, d.0, d.1)),
    )

pub returns : goal.returns
returns c = sym (c.loop-d.invariant.0 ∙ number_end _ _ _ c.loop-d-test.false)
