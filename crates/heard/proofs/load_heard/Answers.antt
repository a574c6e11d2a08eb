-- `heard::load_heard` meets its contract. Assumes nothing.
use mathlib.Core.Path.{refl, sym, ◌∙◌}
use Rattle.heard.specs.Heard.{loaded_by}
use Rattle.vectors.proofs.Vectors.{differs_not}
use Rattle.heard.proofs.load_heard.Goals as goal

pub returns-then-informs : goal.returns-then-informs
unfolding loaded_by
returns-then-informs c =
    let e = sym (rw c.byte_at.ensures at c.informs.ensures) ∙ c.if-informs.true in
    rw (c.load_where.ensures.0, c.load_where.ensures.1, c.part-pn.ensures, e)
    (refl, refl)

pub returns : goal.returns
unfolding loaded_by
returns c =
    let e = sym (rw c.byte_at.ensures at c.informs.ensures) ∙ c.if-informs.false in
    rw e (refl, sym (differs_not _))
