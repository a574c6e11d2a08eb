-- What the PN line of a trace says: PN, F, N, P, keep-awake, mask. Assumes nothing.
use Rattle.std.specs.Prelude.{ℕ, ◌+◌, ◌*◌, Bool, true, ◌&&◌, List, eqb, ltb, get_or, length, take, drop, replicate, Option, Some}
use Rattle.std.proofs.lemmas.List.Edits.{sets}
use Rattle.text.specs.Lines.{until}
use Rattle.config.specs.declared.Config.{Config}
use Rattle.fields.specs.Fields.{tab}
use Rattle.fields.specs.Numbers.{tokens_of}
use Rattle.hex_bytes.specs.Hex.{hex_pairs}
use Rattle.names.specs.declared.Name.{Name}
use Rattle.names.specs.declared.Name.TheVariants.{Pn}
use Rattle.names.specs.Names.{is_same}
use Rattle.settings.specs.Settings.{Setting, all_numbers, is_flag, is_line, name_of, table_of}

-- PN among the names, and how many fields the line has
abbrev pub pn_name : Option Name
pn_name = Some Pn

abbrev pub pn_fields : ℕ
pn_fields = 6

unfoldable pub is_partial : List ℕ → Bool
is_partial l = is_same (name_of l) pn_name

-- what stands behind the first tab; nothing where there is none
unfoldable pub behind_tab : List ℕ → List ℕ
behind_tab l = drop (until tab l + 1) l

-- the text of the mask: what stands behind the fifth tab
unfoldable pub mask_text : List ℕ → List ℕ
mask_text l = behind_tab (behind_tab (behind_tab (behind_tab (behind_tab l))))

-- so many pairs are all of so many bytes, and one or more
unfoldable pub is_mask : ℕ → ℕ → Bool
is_mask pairs bytes = ltb 0 pairs && eqb (2 * pairs) bytes

unfoldable pub partial_reads : List ℕ → Bool
partial_reads t = all_numbers (take 3 (drop 1 t)) && is_flag (get_or t 4 0)

-- the configuration with PN on, and a mask of so many bytes
unfoldable pub with_partial : Config → List ℕ → ℕ → List ℕ → Config
with_partial c t pairs mask =
    record {
      period = c.period;
      times =
          record {
            timeout = c.times.timeout;
            wait = c.times.wait;
            repeat = c.times.repeat;
            cycle = c.times.cycle;
            offset = c.times.offset;
            fast = c.times.fast;
            remote = c.times.remote;
            reset = get_or t 3 0;
          };
      immediate = c.immediate;
      node = c.node;
      passive = c.passive;
      layout = c.layout;
      pn =
          record {
            on = true;
            start = get_or t 1 0;
            length = get_or t 2 0;
            awake = eqb (get_or t 4 0) 1;
            masked = pairs;
            mask = mask;
          };
    }

-- of the mask's bytes the first 8 are taken, with 0 behind fewer; `masked` counts all
unfoldable pub read_partial : Config → List ℕ → Setting
read_partial c l =
    record {
      readable =
          is_line l pn_name pn_fields (length (tokens_of l))
          && partial_reads (table_of l)
          && is_mask (length (hex_pairs (mask_text l))) (length (mask_text l));
      config =
          with_partial c (table_of l) (length (hex_pairs (mask_text l))) (sets (replicate 8 0) 0 (hex_pairs (mask_text l)));
    }
