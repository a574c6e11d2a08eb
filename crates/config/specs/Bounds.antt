-- The smallest and largest value of each field, in one table. Assumes nothing.
use Rattle.std.specs.Prelude.{ℕ, Bool, ◌&&◌, List, [], ◌∷◌, leb, ltb, get_or, length}
use Rattle.ticks.specs.Ticks.{period_least, period_most, time_most}
use Rattle.config.specs.declared.Bounds.{Bounds}
use Rattle.config.specs.Ranges.{pdu_most}

abbrev pub row : ℕ → ℕ → Bounds
row least most = record { 0 = least; 1 = most }

-- period M; timeout T, wait W, repeat R, cycle C; offset O, fast cycle IC, remote time RS, PN reset time P; fast frames IN
-- and node id; PDU length L
abbrev pub table : List Bounds
table =
    row period_least period_most
    ∷ row 1 time_most
    ∷ row 1 time_most
    ∷ row 1 time_most
    ∷ row 1 time_most
    ∷ row 0 time_most
    ∷ row 0 time_most
    ∷ row 0 time_most
    ∷ row 0 time_most
    ∷ row 0 255
    ∷ row 0 255
    ∷ row 1 pdu_most
    ∷ []

-- the row of each field
abbrev pub period_row : ℕ
period_row = 0

abbrev pub timeout_row : ℕ
timeout_row = 1

abbrev pub wait_row : ℕ
wait_row = 2

abbrev pub repeat_row : ℕ
repeat_row = 3

abbrev pub cycle_row : ℕ
cycle_row = 4

abbrev pub offset_row : ℕ
offset_row = 5

abbrev pub fast_row : ℕ
fast_row = 6

abbrev pub remote_row : ℕ
remote_row = 7

abbrev pub reset_row : ℕ
reset_row = 8

abbrev pub immediate_row : ℕ
immediate_row = 9

abbrev pub node_row : ℕ
node_row = 10

abbrev pub length_row : ℕ
length_row = 11

-- a value stands within the row of its field; a field that has no row admits none
unfoldable pub within : ℕ → ℕ → Bool
within field value =
    ltb field (length table)
    && (leb (get_or table field (row 0 0)).0 value && leb value (get_or table field (row 0 0)).1)
