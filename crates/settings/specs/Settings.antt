-- What both lines of a trace's configuration share. Assumes nothing.
use Rattle.std.specs.Prelude.{ℕ, Bool, cond, ◌&&◌, Option, Some, None, List, eqb, leb, ltb, length, take, replicate}
use Rattle.std.proofs.lemmas.List.Edits.{sets}
use Rattle.std.specs.List.{list_all}
use Rattle.config.specs.declared.Config.{Config}
use Rattle.text.specs.Lines.{until}
use Rattle.blocks.specs.Blocks.{line_most}
use Rattle.fields.specs.Fields.{tab}
use Rattle.fields.specs.Numbers.{dash_number, tokens_of}
use Rattle.names.specs.declared.Name.{Name}
use Rattle.names.specs.Names.{call_of, is_same, name_at}

-- ---- what a field may read as

abbrev pub is_number : ℕ → Bool
is_number x = ltb x dash_number

abbrev pub is_flag : ℕ → Bool
is_flag x = ltb x 2

abbrev pub all_numbers : List ℕ → Bool
all_numbers s = list_all is_number s

-- ---- what a line says

-- the configuration is made from what the fields read as also where the line can't be read
pub record Setting : Type 0 where
  pub readable : Bool
  pub config : Config

-- of a line that can't be read nothing is given
abbrev pub given : Setting → Option Config
given s = cond s.readable (Some s.config) None

-- ---- lines

-- the name of a line: its first field
unfoldable pub name_of : List ℕ → Option Name
name_of l = name_at (call_of (take (until tab l) l))

-- a line of a name, or of none, with as many fields as it must have, and not too long
unfoldable pub is_line : List ℕ → Option Name → ℕ → ℕ → Bool
is_line l name must count = leb (length l) line_most && is_same (name_of l) name && eqb count must

-- how many fields line 1 has
abbrev pub cfg_fields : ℕ
cfg_fields = 15

-- what the fields of a line read as, as many as a line of a configuration may have, and 0 where it has fewer
abbrev pub table_of : List ℕ → List ℕ
table_of l = sets (replicate cfg_fields 0) 0 (tokens_of l)
