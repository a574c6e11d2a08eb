-- What a line of a trace asks. Assumes nothing.
use Rattle.std.specs.Prelude.{ℕ, ◌+◌, ◌*◌, cond, List, eqb, ltb, length, take, drop, Option, Some, None, unwrap_or}
use Rattle.std.proofs.lemmas.List.Edits.{sets}
use Rattle.text.specs.Lines.{until}
use Rattle.blocks.specs.Blocks.{line_most}
use Rattle.fields.specs.Fields.{tab}
use Rattle.hex_bytes.specs.Hex.{hex_pairs}
use Rattle.names.specs.declared.Name.{Name}
use Rattle.names.specs.declared.Name.TheVariants.{T}
use Rattle.names.specs.Names.{call_of, is_name, name_at}
use Rattle.command_names.specs.declared.Command.{Command}
use Rattle.command_names.specs.CommandNames.{alone, tick_of, with_bytes}

-- how many bytes a text in hex has, if it is hex throughout
abbrev pub hex_count : List ℕ → Option ℕ
hex_count a = cond (eqb (2 * length (hex_pairs a)) (length a)) (Some (length (hex_pairs a))) None

-- what is asked, and the buffer after reading it
pub record Reading : Type 0 where
  pub asked : Option Command
  pub bytes : List ℕ

abbrev pub read_as : Option Command → List ℕ → Reading
read_as a bytes = record { asked = a; bytes = bytes }

-- a name with its argument; what is not hex throughout counts as no byte, and its leading pairs stand in the buffer too
abbrev pub argued : Option Name → List ℕ → List ℕ → Reading
argued name a bytes =
    cond (is_name name T) (read_as (tick_of a) bytes)
    (read_as (with_bytes name (unwrap_or (hex_count a) 0)) (sets bytes 0 (hex_pairs a)))

-- a line: too long, or a name with what stands behind its tab, or a name alone
unfoldable pub reading : List ℕ → List ℕ → Reading
reading l bytes =
    cond (ltb line_most (length l)) (read_as None bytes)
    (cond (ltb (until tab l) (length l)) (argued (name_at (call_of (take (until tab l) l))) (drop (until tab l + 1) l) bytes)
    (read_as (alone (name_at (call_of l))) bytes))
