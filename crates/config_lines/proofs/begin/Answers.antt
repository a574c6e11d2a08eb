-- `config_lines::begin` meets its contract. Assumes nothing.
use Rattle.config_lines.specs.ConfigLines.{begun}
use Rattle.config_lines.proofs.begin.Goals as goal

pub returns : goal.returns
unfolding begun
returns c =
    let i = c.initialise-s.ensures in
    record {
      run = rw (c.judged_phase.ensures, c.is_ok-done.ensures.value, i);
      text = rw (c.digit.ensures, c.pick-letter.ensures, c.letter.ensures, c.is_ok-done.ensures.value, i) at c.put_bare.ensures;
    }
