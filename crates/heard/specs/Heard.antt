-- What a channel takes from a PDU that it received. Assumes nothing.
use Rattle.std.specs.Prelude.{ℕ, Bool, cond, not, ◌||◌, List, take, drop}
use Rattle.bits.specs.Bits.{bit_of}
use Rattle.timers.specs.Timers.{loaded_where}
use Rattle.config.specs.declared.Config.{Config}
use Rattle.layout.specs.Layout.{byte_at}
use Rattle.filter.specs.Filter.{informs, keeps}

-- the control bit vector; with none all its bits read 0
abbrev pub cbv_of : Config → List ℕ → ℕ
cbv_of c pdu = byte_at c.layout.cbv pdu

-- the PN bytes
abbrev pub pn_of : Config → List ℕ → List ℕ
pn_of c pdu = take c.pn.length (drop c.pn.start pdu)

-- with the filter on a PDU is dropped unless the filter keeps it
unfoldable pub accepted : Config → Bool → List ℕ → Bool
accepted c filter pdu = not filter || keeps c.pn.awake (cbv_of c pdu) (pn_of c pdu) c.pn.mask

-- bit 0 of the control bit vector: a repeat message request
unfoldable pub asks_repeat : Config → List ℕ → Bool
asks_repeat c pdu = bit_of (cbv_of c pdu) 0

-- with PN information each PN bit in the mask loads its reset timer
unfoldable pub loaded_by : Config → ℕ → List ℕ → List ℕ → List ℕ
loaded_by c reset pdu timers = cond (informs (cbv_of c pdu)) (loaded_where (pn_of c pdu) c.pn.mask reset timers) timers
