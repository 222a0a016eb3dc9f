-- What is asked of a file, as the reader hands it down.
use Rattle.row_reader.specs.declared.row.Request.{Request}
use Rattle.row_reader.specs.Rows.{Wanted}

abbrev pub wanted : Request → Wanted
wanted r = record { signal = r.signal.now; hour = r.hour; window = r.window.now }
