-- `trace::put_text` meets its contract. Assumes nothing.
use mathlib.Core.Path.{refl}
use Rattle.trace.proofs.Text.{put_behind}
use Rattle.trace.proofs.put_text.Goals as goal

pub returns : goal.returns
returns c =
    let s = c.args in
    put_behind s.text.now s.before.now s.block.now c.copy.ensures c.put_part.ensures refl
