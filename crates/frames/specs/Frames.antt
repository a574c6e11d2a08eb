-- What a channel puts into a frame, and the timers that a sent frame loads. Assumes nothing.
use Rattle.std.specs.Prelude.{ℕ, ◌+◌, ◌%◌, Bool, cond, List, take}
use Rattle.timers.specs.Timers.{counted_down, loaded_where}
use Rattle.config.specs.declared.Config.{Config}
use Rattle.config.specs.Ranges.{user_length_of}
use Rattle.layout.specs.Fields.{fields}
use Rattle.layout.specs.Layout.{frame_of}
use Rattle.states.specs.declared.Traffic.{Traffic}

-- bit 0 the repeat request, bit 4 the active wakeup, bit 6 PN on
unfoldable pub cbv_sent : Bool → Traffic → ℕ
cbv_sent on x = cond x.repeating 1 0 + cond x.waking 16 0 + cond on 64 0

-- the node id, the control bit vector, the PN requests and the user data, in the first bytes of the lent frame
unfoldable pub framed : Config → Traffic → List ℕ → List ℕ → List ℕ → List ℕ
framed c x requests user frame =
    frame_of c (fields (c.node % 256) (cbv_sent c.pn.on x) (take c.pn.length requests) (take (user_length_of c) user)) frame

-- in the tick that sends, EIRA counts down and then takes the sent PN bits in the mask
unfoldable pub sent_loaded : Config → ℕ → List ℕ → List ℕ → List ℕ
sent_loaded c reset requests timers = loaded_where (take c.pn.length requests) c.pn.mask reset (counted_down timers)
