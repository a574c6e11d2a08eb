-- `config_lines::first_line` meets its contract. Assumes nothing.
use Rattle.print.proofs.Wrote.{puts_none}
use Rattle.config_line.specs.ConfigLine.{read_config}
use Rattle.settings.proofs.Given.{some_given, none_given}
use Rattle.config_lines.specs.ConfigLines.{first_line}
use Rattle.config_lines.proofs.first_line.Goals as goal

pub returns-in-Some : goal.returns-in-Some
unfolding first_line
returns-in-Some c =
    let g = some_given (read_config c.args.l.now) c.in-Some.ensures in
    rw (g.0, ← g.1) (record { run = rw (c.holding.ensures, c.counted.ensures); text = puts_none _ })

pub returns-in-None : goal.returns-in-None
unfolding first_line
returns-in-None c = rw (none_given (read_config c.args.l.now) c.in-None.ensures) c.broken.ensures
