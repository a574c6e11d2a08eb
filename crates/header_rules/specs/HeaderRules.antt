-- Rules 6 and 7 of a configuration: the length of its PDU, and the positions of the header. Assumes nothing.
use Rattle.std.specs.Prelude.{ℕ, Bool, cond, not, ◌&&◌, ◌||◌, leb, eqb, Result, Ok, Err, ⊤}
use Rattle.answers.specs.declared.BrokenRule.{BrokenRule}
use Rattle.answers.specs.declared.BrokenRule.TheVariants.{PduLength, Header}
use Rattle.config.specs.declared.Layout.{Layout}
use Rattle.config.specs.Bounds.{length_row, within}
use Rattle.config.specs.Ranges.{off, header_length}

-- 6: the length of the PDU
unfoldable pub rule6 : Layout → Bool
rule6 l = within length_row l.length

-- 7: each header field is off, in byte 0 or in byte 1; not both in one byte; byte 1 only behind the other in byte 0;
-- and the header is no longer than the PDU
abbrev pub placed : ℕ → Bool
placed position = eqb position off || eqb position 0 || eqb position 1

abbrev pub behind : ℕ → ℕ → Bool
behind position other = not (eqb position 1) || eqb other 0

unfoldable pub rule7 : Layout → Bool
rule7 l =
    placed l.sni
    && placed l.cbv
    && (eqb l.sni off || not (eqb l.sni l.cbv))
    && behind l.sni l.cbv
    && behind l.cbv l.sni
    && leb (header_length l) l.length

-- the rule n where it is broken, else what the later rules say
abbrev pub unless : Bool → BrokenRule → Result ⊤ BrokenRule → Result ⊤ BrokenRule
unless kept rule later = cond kept later (Err rule)

-- the first broken rule of the header alone: its length and positions
unfoldable pub first_broken_of_header : Layout → Result ⊤ BrokenRule
first_broken_of_header l = unless (rule6 l) PduLength (unless (rule7 l) Header (Ok tt))
