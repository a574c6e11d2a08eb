-- The claim that composing a PDU and reading it undo each other. Assumes nothing.
use Rattle.std.specs.Prelude.{ℕ, ◌≤◌, ◌≡◌, cond, List, ◌++◌, eqb, length, take, drop}
use Rattle.answers.specs.Answers.{Done}
use Rattle.config.specs.declared.Config.{Config}
use Rattle.config.specs.Ranges.{off, user_length_of}
use Rattle.layout.specs.Fields.{Fields, fields}
use Rattle.pdu.specs.Pdu.{composed, composing, reading, taken}

-- fields as they are compared: a header field that is off is 0
unfoldable pub compared : Config → Fields → Fields
compared c f =
    fields (cond (eqb c.layout.sni off) 0 f.sni) (cond (eqb c.layout.cbv off) 0 f.cbv) f.pn f.user

-- For a configuration c, whatever was lent:
pub record RoundTrip (c : Config) : Type 0 where
  -- what was composed reads as the fields, a header field that is off being 0;
  pub reads_back : (f : Fields) (frame pn user : List ℕ) → (composing c f frame).answer ≡ Done → length pn ≡ c.pn.length
      → length user ≡ user_length_of c
      → reading c (take c.layout.length (composing c f frame).frame) pn user ≡ taken Done (compared c f)
  -- what was read composes to the PDU;
  pub composes_back : (pdu pn user frame : List ℕ) → (reading c pdu pn user).answer ≡ Done → c.layout.length ≤ length frame
      → composing c (reading c pdu pn user).fields frame ≡ composed Done (pdu ++ drop c.layout.length frame)
  -- and a frame keeps its length and every byte behind the PDU.
  pub keeps_length : (f : Fields) (frame : List ℕ) → length (composing c f frame).frame ≡ length frame
  pub keeps_later : (f : Fields) (frame : List ℕ)
      → drop c.layout.length (composing c f frame).frame ≡ drop c.layout.length frame
