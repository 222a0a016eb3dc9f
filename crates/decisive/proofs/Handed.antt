-- What is told, as it is handed on.
use Rattle.std.proofs.Common.{◌≡◌, ℕ, List}
use Rattle.std.specs.Prelude.{MatchOption, Option}
use Rattle.sig_base.specs.declared.values.Row.{Row}
use Rattle.gap_map.specs.declared.stretch.Stretch.{Stretch}
use Rattle.channel_path.specs.declared.moves.Move.{Move}
use Rattle.board.specs.Courses.{AreCourses}
use Rattle.board.specs.Places.{IsPlace, upto}
use Rattle.rule_audit.specs.declared.lines.Place.{Place}
use Rattle.decisive.specs.declared.hours.HourMoves.{HourMoves}
use Rattle.decisive.specs.declared.judge.Question.{Question}
use Rattle.decisive.specs.declared.judge.Told.{Told}
use Rattle.decisive.specs.Breaks.{FitsParts}
use Rattle.decisive.specs.Laws.{rows_to}
use Rattle.decisive.specs.Lines.{IsHourBegin, place_in}
use Rattle.decisive.specs.Searches.{IsBeginAt}
use Rattle.decisive.specs.Tries.{IsBeginOf, IsToldAt}

pub told_of : (q : Question) (told : Told) (f t : ℕ) (rows : List Row) (ss : List Stretch) (courses : List (List Move)) (n : ℕ) → told.rows.now ≡ rows → told.stretches.now ≡ ss → told.courses.now ≡ courses → told.place ≡ n → FitsParts q.specs.now q.parts.now → AreCourses q.specs.now rows ss courses → IsPlace f t rows ss q.at n → IsToldAt q told f t
told_of q told f t rows ss courses n e1 e2 e3 e4 parts are place = record { parts = parts; courses = rw (e1, e2, e3) are; place = rw (e1, e2, e4) place }

-- what is said of the rows, the stretches and the place that are told
pub said_of : (told : Told) (rows : List Row) (ss : List Stretch) (n : ℕ) (F : List Row → List Stretch → ℕ → Type 0) → told.rows.now ≡ rows → told.stretches.now ≡ ss → told.place ≡ n → F told.rows.now told.stretches.now told.place → F rows ss n
said_of told rows ss n F e1 e2 e3 h = rw (← e1, ← e2, ← e3) h

pub hour_begin : (q : Question) (m : HourMoves) (told : Told) (place : Place) (o : Option ℕ) (N : Type 0) → told.rows.now ≡ m.rows.now → told.stretches.now ≡ m.stretches.items → told.place ≡ place_in m.rows.now q.at place → MatchOption o N (IsBeginOf q told q.at) → MatchOption o N (IsHourBegin q m place)
hour_begin q m told place o N e1 e2 e3 h = said_of told m.rows.now m.stretches.items (place_in m.rows.now q.at place) (λ rs ss n. MatchOption o N (λ u. IsBeginAt q.specs.now q.parts.now q.at (rows_to q.at rs) (upto q.at ss) n u)) e1 e2 e3 h
