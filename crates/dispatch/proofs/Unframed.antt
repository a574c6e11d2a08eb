-- A call that takes no frame leaves the lent one. Assumes nothing.
use mathlib.Core.Path.{◌≡◌}
use mathlib.Core.Bool.{false}
use mathlib.Core.List.{List}
use Prim.Native.Nat.{ℕ}
use Rattle.decision.specs.Decision.{Call}
use Rattle.channel.specs.declared.state.Channel.{Channel}
use Rattle.channel.specs.declared.state.Reply.{Reply}
use Rattle.channel.specs.Channel.{is_taken, replied, ticked}
use Rattle.channel.proofs.Carried.{frame_kept}
use Rattle.dispatch.specs.Calls.{carried_out_by}

pub unframed : (ch : Channel) (x : Call) (frame : List ℕ) {r : Reply} → is_taken x ≡ false → r ≡ replied ch x
    → ticked r frame ≡ carried_out_by ch x frame
unfolding carried_out_by
unframed ch x frame e w = rw (w, frame_kept ch x frame e)
