-- What line 1 of a trace says: CFG, M, T, W, R, C, O, IN, IC, RS, passive, L, SNI, CBV, id. Assumes nothing.
use Rattle.std.specs.Prelude.{ℕ, Bool, false, cond, ◌&&◌, ◌||◌, List, eqb, ltb, get_or, length, take, drop, replicate, Option, Some}
use Rattle.config.specs.Ranges.{off}
use Rattle.config.specs.declared.Config.{Config}
use Rattle.fields.specs.Numbers.{dash_number, tokens_of}
use Rattle.names.specs.declared.Name.{Name}
use Rattle.names.specs.declared.Name.TheVariants.{Cfg}
use Rattle.settings.specs.Settings.{Setting, all_numbers, cfg_fields, is_flag, is_line, is_number, table_of}

-- CFG among the names
abbrev pub cfg_name : Option Name
cfg_name = Some Cfg

abbrev pub is_position : ℕ → Bool
is_position x = ltb x 2 || eqb x dash_number

-- a dash turns a header field off
abbrev pub position_of : ℕ → ℕ
position_of x = cond (eqb x dash_number) off x

unfoldable pub config_reads : List ℕ → Bool
config_reads t =
    all_numbers (take 9 (drop 1 t))
    && is_flag (get_or t 10 0)
    && is_number (get_or t 11 0)
    && is_position (get_or t 12 0)
    && is_position (get_or t 13 0)
    && is_number (get_or t 14 0)

-- the configuration, with PN off
unfoldable pub config_of : List ℕ → Config
config_of t =
    record {
      period = get_or t 1 0;
      times =
          record {
            timeout = get_or t 2 0;
            wait = get_or t 3 0;
            repeat = get_or t 4 0;
            cycle = get_or t 5 0;
            offset = get_or t 6 0;
            fast = get_or t 8 0;
            remote = get_or t 9 0;
            reset = 0;
          };
      immediate = get_or t 7 0;
      node = get_or t 14 0;
      passive = eqb (get_or t 10 0) 1;
      layout = record { length = get_or t 11 0; sni = position_of (get_or t 12 0); cbv = position_of (get_or t 13 0) };
      pn = record { on = false; start = 0; length = 0; awake = false; masked = 0; mask = replicate 8 0 };
    }

unfoldable pub read_config : List ℕ → Setting
read_config l =
    record {
      readable = is_line l cfg_name cfg_fields (length (tokens_of l)) && config_reads (table_of l);
      config = config_of (table_of l);
    }
