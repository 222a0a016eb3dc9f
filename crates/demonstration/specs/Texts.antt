-- The texts of the demonstration: its hour files, its configuration and its script.
use Rattle.std.specs.Prelude.{◌+◌, ◌*◌, ◌/◌, ◌%◌, ◌==◌, ◌&&◌, ◌++◌, nat_lt, nat_le, if◌then◌else◌, ℕ, zero, suc, pos, Bool, List, [], ◌∷◌, filter, slice_set, codes, decimal}
use Rattle.sig_base.specs.declared.values.Row.{Row}
use Rattle.sig_base.specs.Stamp.{stamp_at}
use Rattle.sig_base.specs.Window.{Span}
use Rattle.demonstration.specs.Rows.{pulses, services}
use Rattle.demonstration.specs.Order.{ordered}

-- a window that begins with 2024 and has the end of the longest demonstration, 168 hours, within it
abbrev pub calendar : Span
calendar = record { day = pos 19723; hour = 0; hours = 169 }

-- the stamp of a tenth with a space between date and time
unfoldable pub spaced_stamp : ℕ → List ℕ
spaced_stamp at = slice_set (stamp_at calendar at) 10 32

-- a row as the record of an hour file
unfoldable pub record_of : Row → List ℕ
record_of r =
    codes "9000," ++ spaced_stamp r.at ++ codes "," ++ decimal r.code ++ codes "," ++ decimal r.param ++ codes "\n"

-- the records of these rows, one after another
unfoldable pub records_of : List Row → List ℕ
records_of [] = []
records_of (r ∷ rs) = record_of r ++ records_of rs

-- all rows of so many hours in order: the services by the sequence that starts with 1, the pulses by the one that starts with 7;
-- each service and each pulse takes a tenth at least, so no more of them than there are tenths begin before the end
unfoldable pub demo_rows : ℕ → List Row
demo_rows hours = ordered (services (36000 * hours) (36000 * hours) 1 0 2 ++ pulses (36000 * hours) (36000 * hours) 7 0)

-- the file of this hour of a demonstration of so many hours: a header, and the records of the hour's rows
unfoldable pub hour_text : ℕ → ℕ → List ℕ
hour_text hours hour =
    codes "SignalID,Timestamp,EventCode,EventParam\n"
    ++ records_of (filter (λ r. nat_le (36000 * hour) r.at && nat_lt r.at (36000 * hour + 36000)) (demo_rows hours))

-- the configuration of a demonstration of so many hours: phases 2 and 4, one rule on the green of phase 2, and one approach
unfoldable pub config_text : ℕ → List ℕ
config_text hours =
    codes "signal = \"9000\"\nstart = \"2024-01-01T00\"\nhours = " ++ decimal hours
    ++ (codes "\n\n[[phase]]\nnumber = 2\nring = 1\nside = 1\n\n[[phase]]\nnumber = 4\nring = 1\nside = 2\n\n"
    ++ codes "[[interval]]\nchannel = \"phase 2\"\ncolour = \"Green\"\nat_least = 120\n\n[[approach]]\nname = \"A\"\nphase = 2\nadvance = 5\nstop_bar = 5\n")

-- the line that loads an hour from its file
unfoldable pub load_line : ℕ → List ℕ
load_line hour = codes "load " ++ decimal hour ++ codes " " ++ decimal hour ++ codes "\n"

-- the line that blanks ten seconds from half past the hour on
unfoldable pub blank_line : ℕ → List ℕ
blank_line hour =
    codes "blank " ++ stamp_at calendar (36000 * hour + 18000) ++ codes " " ++ stamp_at calendar (36000 * hour + 18100) ++ codes "\n"

-- a line for each of so many hours from this one on that leaves this remainder when it is divided
unfoldable pub each_hour : (ℕ → List ℕ) → ℕ → ℕ → ℕ → ℕ → List ℕ
each_hour line by rest zero hour = []
each_hour line by rest (suc n) hour =
    (if hour % by == rest then line hour else []) ++ each_hour line by rest n (hour + 1)

-- the script of a demonstration of so many hours: even hours are loaded, then odd ones, and a part of each fourth hour is blanked;
-- then the hour in the middle is withdrawn and measured without, loaded again, all is known, and it's measured again
unfoldable pub script_text : ℕ → List ℕ
script_text hours =
    each_hour load_line 2 0 hours 0 ++ each_hour load_line 2 1 hours 0 ++ each_hour blank_line 4 0 hours 0
    ++ ((codes "withdraw " ++ decimal (hours / 2) ++ codes "\n") ++ codes "measures\n" ++ load_line (hours / 2)
    ++ (codes "unblank " ++ stamp_at calendar 0 ++ codes " " ++ stamp_at calendar (36000 * hours) ++ codes "\n") ++ codes "measures\n")

-- ---- for contracts alone

-- how the record of a row at this tenth begins
abbrev pub record_start : ℕ → List ℕ
record_start at = codes "9000," ++ spaced_stamp at ++ codes ","

-- the row is of this hour
abbrev pub is_of_hour : ℕ → Row → Bool
is_of_hour hour r = nat_le (36000 * hour) r.at && nat_lt r.at (36000 * hour + 36000)

-- the script's edits
abbrev pub edit_lines : ℕ → List ℕ
edit_lines hours =
    each_hour load_line 2 0 hours 0 ++ each_hour load_line 2 1 hours 0 ++ each_hour blank_line 4 0 hours 0

-- the line that takes an hour out
abbrev pub withdraw_line : ℕ → List ℕ
withdraw_line hour = codes "withdraw " ++ decimal hour ++ codes "\n"

-- the line with which all of the window is known again
abbrev pub unblank_line : ℕ → List ℕ
unblank_line hours =
    codes "unblank " ++ stamp_at calendar 0 ++ codes " " ++ stamp_at calendar (36000 * hours) ++ codes "\n"

-- the script's end
abbrev pub end_lines : ℕ → ℕ → List ℕ
end_lines hours middle =
    withdraw_line middle ++ codes "measures\n" ++ load_line middle ++ unblank_line hours ++ codes "measures\n"
