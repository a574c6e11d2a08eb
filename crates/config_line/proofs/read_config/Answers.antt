-- `config_line::read_config` meets its contract. Assumes nothing.
use Rattle.std.proofs.Common.{ap}
use Rattle.text.specs.Filled.{Filled}
use Rattle.settings.proofs.Given.{given_some, given_none}
use Rattle.config_line.specs.ConfigLine.{read_config}
use Rattle.config_line.proofs.read_config.Goals as goal

pub returns-then-is_line-config_reads : goal.returns-then-is_line-config_reads
unfolding read_config
returns-then-is_line-config_reads c =
    let s = c.tokens-n.ensures in
    given_some (read_config c.args.l.now)
    (rw (c.config_reads.ensures, c.is_line.ensures, ap (λ (f : Filled). f.list) s, ap (λ (f : Filled). f.count) s) at c.if-is_line-config_reads.true)
    (rw (c.config_of.ensures, ap (λ (f : Filled). f.list) s))

pub returns-else-is_line-config_reads : goal.returns-else-is_line-config_reads
unfolding read_config
returns-else-is_line-config_reads c =
    let s = c.tokens-n.ensures in
    given_none (read_config c.args.l.now)
    (rw (c.config_reads.ensures, c.is_line.ensures, ap (λ (f : Filled). f.list) s, ap (λ (f : Filled). f.count) s) at c.if-is_line-config_reads.false)
