-- The calls that a line of a trace can ask for, by the name in front. Assumes nothing.
use Rattle.std.specs.Prelude.{ℕ, true, false, cond, List, eqb, get_or, length, Option, Some, None}
use Rattle.names.specs.declared.Name.{Name}
use Rattle.names.specs.declared.Name.TheVariants.{Req, Rel, Pas, Rmr, Dis, Ena, Ok, Bad, Pna, Rx, Ud, Pnr, T, Cfg, Pn}
use Rattle.names.specs.Names.{is_name}
use Rattle.command_names.specs.declared.Command.TheVariants.{NetworkRequest, NetworkRelease, PassiveStartUp, RepeatMessageRequest, DisableCommunication, EnableCommunication, TxConfirmation, RxIndication, ConfirmPnAvailability, SetUserData, SetPnRequests, MainFunction}
use Rattle.command_names.specs.declared.Command.{Command}

-- a name that stands alone: REQ REL PAS RMR DIS ENA OK BAD PNA
abbrev pub alone : Option Name → Option Command
alone (Some Req) = Some NetworkRequest
alone (Some Rel) = Some NetworkRelease
alone (Some Pas) = Some PassiveStartUp
alone (Some Rmr) = Some RepeatMessageRequest
alone (Some Dis) = Some DisableCommunication
alone (Some Ena) = Some EnableCommunication
alone (Some Ok) = Some (TxConfirmation true)
alone (Some Bad) = Some (TxConfirmation false)
alone (Some Pna) = Some ConfirmPnAvailability
alone (Some Rx) = None
alone (Some Ud) = None
alone (Some Pnr) = None
alone (Some T) = None
alone (Some Cfg) = None
alone (Some Pn) = None
alone None = None

-- T 0 and T 1
abbrev pub tick_of : List ℕ → Option Command
tick_of a =
    cond (eqb (length a) 1)
    (cond (eqb (get_or a 0 0) 48) (Some (MainFunction false)) (cond (eqb (get_or a 0 0) 49) (Some (MainFunction true)) None))
    None

-- RX, UD and PNR with so many bytes
abbrev pub with_bytes : Option Name → ℕ → Option Command
with_bytes name n =
    cond (eqb n 0) None
    (cond (is_name name Rx) (Some (RxIndication n))
    (cond (is_name name Ud) (Some (SetUserData n)) (cond (is_name name Pnr) (Some (SetPnRequests n)) None)))
