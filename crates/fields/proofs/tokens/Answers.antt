-- `fields::tokens` meets its contract. The loop's invariant: what is to be stored from the start on is what is left to be
-- stored from `k` on, of the fields from the one at `k` on. Assumes nothing.
use Rattle.std.proofs.Common.{rules, tests, refl, ap, ◌∙◌, map, arith, eqb, length-set}
use Rattle.std.proofs.lemmas.List.{length_push}
use Rattle.std.proofs.lemmas.Iterator.Splits.{YieldsList-from_slice_split}
use Rattle.std.proofs.lemmas.Iterator.Consumers.{YieldsList-at, YieldsList-turn, YieldsList-end}
use Rattle.fields.specs.Fields.{tab}
use Rattle.fields.specs.Numbers.{token_of, tokens_of}
use Rattle.fields.proofs.Fields.{field_next, field_last, field_count}
use Rattle.text.proofs.Filling.{filling_start, filling_one, filling_end}
use Rattle.fields.proofs.tokens.Goals as goal

pub loop-field-init : goal.loop-field-init
unfolding tokens_of
loop-field-init c = (filling_start _ _, refl, refl)

pub overflow_add-k : goal.overflow_add-k
overflow_add-k c =
    let t = YieldsList-turn (YieldsList-at c.into_iter-field-iterator.ensures.into_iter_gives (YieldsList-from_slice_split _ (λ b. eqb b tab) c.args.line.now c.split-field-items.ensures.rest c.split-field-items.ensures.done c.split-field-items.ensures.closure (λ x r q k. search (rules, tests)))) c.loop-field.yielded _ c.loop-field.yielded_by _ _ c.in-Some.field c.in-Some.is c.next.ensures.steps in
    omega (arith, field_count c.args.line.now c.loop-field.k (rw (← c.loop-field.invariant.1) at t.0))

pub loop-field-preserved : goal.loop-field-preserved
loop-field-preserved c =
    let l = c.loop-field in
    let t = YieldsList-turn (YieldsList-at c.into_iter-field-iterator.ensures.into_iter_gives (YieldsList-from_slice_split _ (λ b. eqb b tab) c.args.line.now c.split-field-items.ensures.rest c.split-field-items.ensures.done c.split-field-items.ensures.closure (λ x r q k. search (rules, tests)))) c.loop-field.yielded _ c.loop-field.yielded_by _ _ c.in-Some.field c.in-Some.is c.next.ensures.steps in
    let m = field_next c.args.line.now l.k (rw (← l.invariant.1) at t) in (
      filling_one (rw m at l.invariant.0) (c.put.ensures ∙ rw c.token.ensures),
      omega (arith, l.invariant.1, length_push l.yielded c.in-Some.field),
      rw c.put.ensures (simp length-set (omega arith)),
    )

pub returns : goal.returns
returns c =
    let l = c.loop-field in
    let t = YieldsList-end (YieldsList-at c.into_iter-field-iterator.ensures.into_iter_gives (YieldsList-from_slice_split _ (λ b. eqb b tab) c.args.line.now c.split-field-items.ensures.rest c.split-field-items.ensures.done c.split-field-items.ensures.closure (λ x r q k. search (rules, tests)))) c.loop-field.yielded _ c.loop-field.yielded_by _ _ c.in-None.is c.next.ensures.steps in
    filling_end l.invariant.0 (ap (map token_of) (field_last c.args.line.now l.k (l.invariant.1 ∙ t.1)))
