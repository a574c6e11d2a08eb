-- The byte ranges of a PDU of l bytes: a header of h bytes, the PN range of n bytes from f on, and the user data.
-- Assumes nothing.
use Rattle.std.specs.Prelude.{ℕ, ◌+◌, ◌-◌, ◌*◌, cond, eqb}
use Rattle.config.specs.declared.Layout.{Layout}
use Rattle.config.specs.declared.Config.{Config}

-- the most bytes of a PDU, and of a PN range, since the control bit vector takes one; the most PNCs, one for each bit
abbrev pub pdu_most : ℕ
pdu_most = 8

abbrev pub pn_most : ℕ
pn_most = 7

abbrev pub pnc_most : ℕ
pnc_most = 8 * pn_most

-- the position of a header field that is off: it takes no byte
abbrev pub off : ℕ
off = 255

abbrev pub bytes_of : ℕ → ℕ
bytes_of position = cond (eqb position off) 0 1

-- H: the bytes that the source node id and the control bit vector take
unfoldable pub header_length : Layout → ℕ
header_length l = bytes_of l.sni + bytes_of l.cbv

-- U: what header and PN range leave of the PDU
unfoldable pub user_length : ℕ → ℕ → ℕ → ℕ
user_length l h n = l - h - n

-- the user data is one run: it ends the PDU where the PN range follows the header, else it follows the header itself
unfoldable pub user_start : ℕ → ℕ → ℕ → ℕ → ℕ
user_start l h f n = cond (eqb f h) (l - user_length l h n) h

-- the same of a configuration
unfoldable pub user_length_of : Config → ℕ
user_length_of c = user_length c.layout.length (header_length c.layout) c.pn.length

unfoldable pub user_start_of : Config → ℕ
user_start_of c = user_start c.layout.length (header_length c.layout) c.pn.start c.pn.length
