-- Composing a PDU from its fields, and reading one. Assumes nothing.
use Rattle.std.specs.Prelude.{ℕ, cond, ◌&&◌, List, [], eqb, leb, length, Result, Ok, Err, is_ok}
use Rattle.answers.specs.declared.Refusal.{Refusal}
use Rattle.answers.specs.declared.Refusal.TheVariants.{Length}
use Rattle.answers.specs.Answers.{Answer, Done, ruled}
use Rattle.config.specs.declared.Config.{Config}
use Rattle.config.specs.declared.Layout.{Layout}
use Rattle.pdu.specs.declared.Header.{Header}
use Rattle.rules.specs.Rules.{first_broken}
use Rattle.header_rules.specs.HeaderRules.{first_broken_of_header}
use Rattle.layout.specs.Fields.{Fields, fields}
use Rattle.layout.specs.Layout.{byte_at, fields_of, frame_of, of_lengths}

-- Composing: the answer and the lent frame. A refusal leaves the frame.
pub record Composed : Type 0 where
  pub answer : Answer
  pub frame : List ℕ

abbrev pub composed : Answer → List ℕ → Composed
composed a frame = record { answer = a; frame = frame }

unfoldable pub composing : Config → Fields → List ℕ → Composed
composing c f frame =
    cond (is_ok (first_broken c))
    (cond (of_lengths c (length f.pn) (length f.user) && leb c.layout.length (length frame))
    (composed Done (frame_of c f frame))
    (composed (Err Length) frame))
    (composed (ruled (first_broken c)) frame)

-- the header fields of a PDU
abbrev pub header_of : Layout → List ℕ → Header
header_of l pdu = record { sni = byte_at l.sni pdu; cbv = byte_at l.cbv pdu }

-- Reading: the answer, the fields, and the lent PN and user bytes in them. A refusal reads 0 and leaves the bytes.
pub record Taken : Type 0 where
  pub answer : Answer
  pub fields : Fields

abbrev pub taken : Answer → Fields → Taken
taken a f = record { answer = a; fields = f }

-- what a reading gives, with the lent bytes after it
abbrev pub taken_by : Result Header Refusal → List ℕ → List ℕ → Taken
taken_by (Ok h) pn user = taken Done (fields h.sni h.cbv pn user)
taken_by (Err refusal) pn user = taken (Err refusal) (fields 0 0 pn user)

unfoldable pub reading : Config → List ℕ → List ℕ → List ℕ → Taken
reading c pdu pn user =
    cond (is_ok (first_broken c))
    (cond (of_lengths c (length pn) (length user) && eqb (length pdu) c.layout.length)
    (taken Done (fields_of c pdu))
    (taken (Err Length) (fields 0 0 pn user)))
    (taken (ruled (first_broken c)) (fields 0 0 pn user))

-- Reading the header alone, of a PDU whose length and positions are given.
unfoldable pub header_reading : Layout → List ℕ → Taken
header_reading l pdu =
    cond (is_ok (first_broken_of_header l))
    (cond (eqb (length pdu) l.length)
    (taken Done (fields (byte_at l.sni pdu) (byte_at l.cbv pdu) [] []))
    (taken (Err Length) (fields 0 0 [] [])))
    (taken (ruled (first_broken_of_header l)) (fields 0 0 [] []))
