-- What a line of a script writes and does.
use Rattle.std.specs.Prelude.{ℕ, List, [], Some, Bool, true, false}
use Rattle.hour_store.specs.Store.{Store}
use Rattle.ring_config.specs.Settings.{Settings}
use Rattle.report_text.specs.declared.refusal.Refusal.{Refusal}
use Rattle.report_text.specs.Refusals.{refusal_text}
use Rattle.sigaudit.specs.declared.hour_file.Unread.{Unread}
use Rattle.sigaudit.specs.HourFile.{unread_text}

-- what a line writes, the store after it, and whether it was refused
pub record Turn : Type 0 where
  pub text : List ℕ
  pub store : Store
  pub refused : Bool

-- the turn of a line that is passed over
abbrev pub passes : Store → Turn
passes s = record { text = []; store = s; refused = false }

-- the turn of a line that is refused: it is named and changes nothing
abbrev pub refuses : Settings → ℕ → Refusal → Store → Turn
refuses c n refusal s = record { text = refusal_text c.window (Some n) refusal; store = s; refused = true }

-- the turn of a line that writes a text and changes nothing
abbrev pub writes : List ℕ → Store → Turn
writes text s = record { text = text; store = s; refused = false }

-- ---- For contracts alone

-- the turn of a line whose file is refused
abbrev pub refuses_file : Settings → ℕ → Unread → Store → Turn
refuses_file c n e s = record { text = unread_text c.window (Some n) e; store = s; refused = true }
