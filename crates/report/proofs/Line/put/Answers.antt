-- `report::Line::put` meets its contract. Assumes nothing.
use native.Mathlib.Omega.{arith}
use Rattle.print.proofs.Wrote.{puts_room, puts_then}
use Rattle.report.specs.Report.{line_text}
use Rattle.notes_text.proofs.Notes.{length_notes}
use Rattle.report.proofs.Lengths.{length_head, length_frame}
use Rattle.report.proofs.Line.put.Goals as goal

pub put_notes-requires : goal.put_notes-requires
put_notes-requires c = let l = c.args.self.now in puts_room c.put_head.ensures _ (omega (arith, length_head l.number l.answer l.state))

pub put-requires : goal.put-requires
put-requires c =
    let l = c.args.self.now in
    puts_room c.put_notes.ensures _ (puts_room c.put_head.ensures _ (omega (arith, length_head l.number l.answer l.state, length_notes l.notes)))

pub put_frame-requires : goal.put_frame-requires
put_frame-requires c =
    let l = c.args.self.now in
    puts_room c.put.ensures _ (puts_room c.put_notes.ensures _ (puts_room c.put_head.ensures _ (
    omega (arith, length_head l.number l.answer l.state, length_notes l.notes)
    )))

pub put-requires-2 : goal.put-requires-2
put-requires-2 c =
    let l = c.args.self.now in
    puts_room c.put_frame.ensures _ (puts_room c.put.ensures _ (puts_room c.put_notes.ensures _ (puts_room c.put_head.ensures _ (
    omega (arith, length_head l.number l.answer l.state, length_notes l.notes, length_frame l.frame.now)
    ))))

pub returns : goal.returns
unfolding line_text
returns c =
    puts_then (puts_then (puts_then (puts_then c.put_head.ensures c.put_notes.ensures) c.put.ensures) c.put_frame.ensures) c.put-2.ensures
