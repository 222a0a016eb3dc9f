-- The rows of a file are of the hour that was asked for.
use Rattle.std.proofs.Common.{◌≡◌, ℕ, List, Result, Ok, Err, sym, ap, inl, inr, nat_eq}
use Rattle.std.specs.List.{starts_with}
use Rattle.std.proofs.lemmas.Bool.{cases_Bool}
use Rattle.sig_base.specs.HourRows.{Shown}
use Rattle.sig_base.specs.declared.values.Row.{Row}
use Rattle.row_reader.specs.declared.row_error.RowError.{RowError}
use Rattle.row_reader.specs.Rows.{Wanted, good_rows, on_rows}
use Rattle.hour_pack.specs.declared.pack_error.PackError.{PackError}
use Rattle.hour_pack.specs.Grammar.{mark}
use Rattle.hour_pack.specs.Reading.{reading}
use Rattle.sigaudit.specs.declared.hour_file.Unread.{Unread}
use Rattle.sigaudit.specs.HourFile.{hour_said, of_packed, of_records}

abbrev hour_of : Result Shown Unread → ℕ
hour_of (Ok h) = h.hour
hour_of (Err e) = 0

packed_hour : (hour : ℕ) (r : Result (List Row) PackError) (h : Shown) → of_packed hour r ≡ Ok h → h.hour ≡ hour
packed_hour hour (Ok rows) h e = sym (ap hour_of e)
packed_hour hour (Err x) h e = absurd (cc)

records_hour : (hour : ℕ) (r : Result (List Row) RowError) (h : Shown) → of_records (on_rows hour r) ≡ Ok h → h.hour ≡ hour
records_hour hour (Ok rows) h e = sym (ap hour_of e)
records_hour hour (Err x) h e = absurd (cc)

pub said_hour : (w : Wanted) (bytes : List ℕ) (h : Shown) → hour_said w bytes ≡ Ok h → h.hour ≡ w.hour
unfolding hour_said
said_hour w bytes h e = elim (cases_Bool (starts_with nat_eq bytes mark)) [
  | inl y ↦ packed_hour w.hour (reading w.signal w.window w.hour bytes) h (rw y at e)
  | inr n ↦ records_hour w.hour (good_rows w bytes) h (rw n at e)
]
