-- The files of the demonstration by their names.
use Rattle.std.specs.Prelude.{◌≡◌, ◌+◌, ◌≤◌, if◌then◌else◌, ℕ, zero, suc, List, Option, Some, None, option_map, codes, decimal}
use Rattle.std.specs.Str.{bytes_eq}
use Rattle.sig_base.specs.declared.values.Row.{Row}
use Rattle.sig_base.specs.Window.{Span}
use Rattle.demonstration.specs.Texts.{calendar, config_text, demo_rows, script_text, hour_text}

-- the hour whose decimal digits are this name, of so many from this one on
unfoldable pub hour_named : ℕ → ℕ → List ℕ → Option ℕ
hour_named zero hour name = None
hour_named (suc n) hour name = if bytes_eq (decimal hour) name then Some hour else hour_named n (hour + 1) name

-- the name of the configuration
abbrev pub config_name : List ℕ
config_name = codes "config"

-- the name of the script; no line of the script names it, nor the configuration
abbrev pub script_name : List ℕ
script_name = codes "script"

-- what is at each name in a demonstration of so many hours
unfoldable pub demo_files : ℕ → List ℕ → Option (List ℕ)
demo_files hours name =
    if bytes_eq name config_name then Some (config_text hours)
    else if bytes_eq name script_name then Some (script_text hours)
    else option_map (hour_text hours) (hour_named hours 0 name)

-- what is kept of a demonstration of so many hours
pub record IsDemo (hours : ℕ) (rows : List Row) (window : Span) : Type 0 where
  pub some : 1 ≤ hours
  pub few : hours ≤ 168
  pub all : rows ≡ demo_rows hours
  pub days : window ≡ calendar
