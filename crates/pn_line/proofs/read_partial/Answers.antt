-- `pn_line::read_partial` meets its contract. Assumes nothing.
use mathlib.Core.Path.{ap}
use Rattle.text.specs.Filled.{Filled}
use Rattle.settings.proofs.Given.{given_some, given_none}
use Rattle.pn_line.specs.PnLine.{read_partial}
use Rattle.pn_line.proofs.read_partial.Goals as goal

pub returns-then-is_line-partial_reads : goal.returns-then-is_line-partial_reads
unfolding read_partial
returns-then-is_line-partial_reads c =
    let s = c.tokens-n.ensures in
    let h = c.hex_pairs-pairs.ensures in
    given_some (read_partial c.args.c c.args.l.now)
    (rw (c.is_mask.ensures, c.partial_reads.ensures, c.is_line.ensures, ap (λ (f : Filled). f.count) h, ap (λ (f : Filled). f.list) s, ap (λ (f : Filled). f.count) s, c.mask_text-hex.ensures) at c.if-is_line-partial_reads.true)
    (rw (c.with_partial.ensures, ap (λ (f : Filled). f.list) h, ap (λ (f : Filled). f.count) h, ap (λ (f : Filled). f.list) s, c.mask_text-hex.ensures))

pub returns-else-is_line-partial_reads : goal.returns-else-is_line-partial_reads
unfolding read_partial
returns-else-is_line-partial_reads c =
    let s = c.tokens-n.ensures in
    let h = c.hex_pairs-pairs.ensures in
    given_none (read_partial c.args.c c.args.l.now)
    (rw (c.is_mask.ensures, c.partial_reads.ensures, c.is_line.ensures, ap (λ (f : Filled). f.count) h, ap (λ (f : Filled). f.list) s, ap (λ (f : Filled). f.count) s, c.mask_text-hex.ensures) at c.if-is_line-partial_reads.false)
