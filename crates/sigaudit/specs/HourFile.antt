-- What the file of an hour says.
use Rattle.std.specs.Prelude.{◌≡◌, nat_eq, if◌then◌else◌, ℕ, List, [], Option, Result, Ok, Err, ⊤}
use Rattle.std.specs.List.{starts_with}
use Rattle.std.specs.Result.{result_map_both}
use Rattle.sig_base.specs.HourRows.{Shown}
use Rattle.sig_base.specs.Window.{Span}
use Rattle.sig_base.specs.declared.values.Row.{Row}
use Rattle.row_reader.specs.declared.row_error.RowError.{RowError}
use Rattle.row_reader.specs.Rows.{Wanted, rows_of}
use Rattle.hour_pack.specs.declared.pack_error.PackError.{PackError}
use Rattle.hour_pack.specs.Grammar.{mark}
use Rattle.hour_pack.specs.Reading.{reading}
use Rattle.report_text.specs.declared.refusal.Refusal.TheVariants.{File}
use Rattle.report_text.specs.Packed.{packed_text}
use Rattle.report_text.specs.Refusals.{refusal_text}
use Rattle.sigaudit.specs.declared.hour_file.Unread.{Unread}
use Rattle.sigaudit.specs.declared.hour_file.Unread.TheVariants.{Records, Packed, Memory}

-- the rows that an hour's file says, or its refusal: bytes that begin with the mark of a packed hour are one, all others are a log
unfoldable pub hour_said : Wanted → List ℕ → Result Shown Unread
hour_said w bytes =
    if starts_with nat_eq bytes mark then result_map_both (λ rows. record { hour = w.hour; rows = rows; repeats = 0 }) Packed (reading w.signal w.window w.hour bytes)
    else result_map_both (λ shown. shown) Records (rows_of w bytes)

-- the line of a refused file, in a script or by itself
abbrev pub unread_text : Span → Option ℕ → Unread → List ℕ
unread_text w line (Records e) = refusal_text w line (File e)
unread_text w line (Packed e) = packed_text line e
unread_text w line Memory = []

-- ---- For contracts alone

-- the rows of a log file, or its refusal
abbrev pub of_records : Result Shown RowError → Result Shown Unread
of_records (Ok shown) = Ok shown
of_records (Err e) = Err (Records e)

-- the rows of a packed hour, or its refusal
abbrev pub of_packed : ℕ → Result (List Row) PackError → Result Shown Unread
of_packed hour (Ok rows) = Ok (record { hour = hour; rows = rows; repeats = 0 })
of_packed hour (Err e) = Err (Packed e)

-- the answer is why these bytes give no rows, or memory ran out
abbrev pub IsUnread : Result Shown Unread → Unread → Type 0
IsUnread want (Records e) = want ≡ Err (Records e)
IsUnread want (Packed e) = want ≡ Err (Packed e)
IsUnread want Memory = ⊤
