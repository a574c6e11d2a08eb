-- `config_lines::partial_line` meets its contract. Assumes nothing.
use Rattle.pn_line.specs.PnLine.{read_partial}
use Rattle.settings.proofs.Given.{some_given, none_given}
use Rattle.config_lines.specs.ConfigLines.{partial_line}
use Rattle.config_lines.proofs.partial_line.Goals as goal

pub returns-in-Some : goal.returns-in-Some
unfolding partial_line
returns-in-Some c =
    let g = some_given (read_partial c.args.run.channel.own.config c.args.l.now) c.in-Some.ensures in
    rw (g.0, ← g.1) (rw c.counted.ensures at c.begin.ensures)

pub returns-in-None : goal.returns-in-None
unfolding partial_line
returns-in-None c = rw (none_given (read_partial c.args.run.channel.own.config c.args.l.now) c.in-None.ensures) c.broken.ensures
