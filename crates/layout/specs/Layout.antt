-- The fields of a PDU in their bytes. Assumes nothing.
use Rattle.std.specs.Prelude.{ℕ, Bool, cond, ◌&&◌, List, eqb, get_or, take, drop, set}
use Rattle.std.proofs.lemmas.List.Edits.{sets}
use Rattle.config.specs.declared.Config.{Config}
use Rattle.config.specs.Ranges.{off, user_start_of, user_length_of}
use Rattle.layout.specs.Fields.{Fields, fields}

-- a header field in its byte; one that is off takes no byte and reads 0
abbrev pub put_byte : ℕ → ℕ → List ℕ → List ℕ
put_byte position value frame = cond (eqb position off) frame (set frame position value)

abbrev pub byte_at : ℕ → List ℕ → ℕ
byte_at position pdu = cond (eqb position off) 0 (get_or pdu position 0)

-- the frame: each header field in its byte, the PN bytes and the user data in their ranges, no other byte changed
unfoldable pub frame_of : Config → Fields → List ℕ → List ℕ
frame_of c f frame =
    sets (sets (put_byte c.layout.cbv f.cbv (put_byte c.layout.sni f.sni frame)) c.pn.start f.pn)
    (user_start_of c)
    f.user

-- the fields of a PDU
unfoldable pub fields_of : Config → List ℕ → Fields
fields_of c pdu =
    fields (byte_at c.layout.sni pdu) (byte_at c.layout.cbv pdu) (take c.pn.length (drop c.pn.start pdu))
    (take (user_length_of c) (drop (user_start_of c) pdu))

-- PN bytes and user data are of the configured lengths
unfoldable pub of_lengths : Config → ℕ → ℕ → Bool
of_lengths c pn user = eqb pn c.pn.length && eqb user (user_length_of c)
