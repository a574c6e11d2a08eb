-- The names of a trace's lines. Assumes nothing.
use Rattle.std.specs.Prelude.{ℕ, zero, suc, ◌+◌, ◌*◌, cond, Bool, false, List, [], ◌∷◌, map, eqb, get_or, Option, Some, None}
use Rattle.std.specs.Option.{is_none}
use Rattle.names.specs.declared.Name.{Name}
use Rattle.names.specs.declared.Name.TheVariants.{Req, Rel, Pas, Rmr, Dis, Ena, Ok, Bad, Pna, Rx, Ud, Pnr, T, Cfg, Pn}

-- a name as one number: a 1 and its bytes; 0 where it has none or more than three
unfoldable pub packed : List ℕ → ℕ
packed [] = 0
packed (a ∷ []) = 256 + a
packed (a ∷ b ∷ []) = (256 + a) * 256 + b
packed (a ∷ b ∷ c ∷ []) = ((256 + a) * 256 + b) * 256 + c
packed (a ∷ b ∷ c ∷ d ∷ r) = 0

-- REQ REL PAS RMR DIS ENA OK BAD PNA RX UD PNR T CFG PN
unfoldable pub names : List (List ℕ)
names =
    (82 ∷ 69 ∷ 81 ∷ []) ∷ (82 ∷ 69 ∷ 76 ∷ []) ∷ (80 ∷ 65 ∷ 83 ∷ []) ∷ (82 ∷ 77 ∷ 82 ∷ [])
    ∷ (68 ∷ 73 ∷ 83 ∷ []) ∷ (69 ∷ 78 ∷ 65 ∷ []) ∷ (79 ∷ 75 ∷ []) ∷ (66 ∷ 65 ∷ 68 ∷ [])
    ∷ (80 ∷ 78 ∷ 65 ∷ []) ∷ (82 ∷ 88 ∷ []) ∷ (85 ∷ 68 ∷ []) ∷ (80 ∷ 78 ∷ 82 ∷ [])
    ∷ (84 ∷ []) ∷ (67 ∷ 70 ∷ 71 ∷ []) ∷ (80 ∷ 78 ∷ [])
    ∷ []

-- the place of a number in a list, the list's length where it is not there
unfoldable pub place : ℕ → List ℕ → ℕ
place x [] = zero
place x (y ∷ ys) = cond (eqb y x) zero (suc (place x ys))

-- the number of a name: its place among the names
unfoldable pub call_of : List ℕ → ℕ
call_of f = place (packed f) (map packed names)

-- the name of each number, none past the last
abbrev pub name_table : List (Option Name)
name_table =
    Some Req ∷ Some Rel ∷ Some Pas ∷ Some Rmr ∷ Some Dis ∷ Some Ena ∷ Some Ok ∷ Some Bad
    ∷ Some Pna ∷ Some Rx ∷ Some Ud ∷ Some Pnr ∷ Some T ∷ Some Cfg ∷ Some Pn
    ∷ []

unfoldable pub name_at : ℕ → Option Name
name_at n = get_or name_table n None

-- the number of a name
abbrev pub number_of : Name → ℕ
number_of Req = 0
number_of Rel = 1
number_of Pas = 2
number_of Rmr = 3
number_of Dis = 4
number_of Ena = 5
number_of Ok = 6
number_of Bad = 7
number_of Pna = 8
number_of Rx = 9
number_of Ud = 10
number_of Pnr = 11
number_of T = 12
number_of Cfg = 13
number_of Pn = 14

-- is it that name?
abbrev pub is_name : Option Name → Name → Bool
is_name (Some n) m = eqb (number_of n) (number_of m)
is_name None m = false

-- are both that name, or both none?
abbrev pub is_same : Option Name → Option Name → Bool
is_same o None = is_none o
is_same o (Some m) = is_name o m
