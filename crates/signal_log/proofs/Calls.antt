-- What the calls of an hour know of it.
use Rattle.std.proofs.Common.{◌≡◌, refl, sym, ◌∙◌, ap, subst, zero, suc, ℕ, ℤ, ◌+◌, ◌-◌, ◌*◌, ◌<◌, Bool, List, [], ◌∷◌, length, arith, Option, Some, None, Bor}
use Rattle.std.specs.Prelude.{is_some, slice_get, option_copied, IfSome, IfOk, IfErr, Result, Ok, Err}
use Rattle.std.proofs.lemmas.Option.{same_Some}
use Rattle.std.proofs.lemmas.Result.{IfErr-weaker, IfOk-weaker}
use Rattle.span_set.specs.declared.set.Span.{Span}
use Rattle.sig_base.specs.declared.values.Row.{Row}
use Rattle.sig_base.specs.HourRows.{AreRowsOf}
use Rattle.gap_map.specs.declared.stretch.Stretch.{Stretch}
use Rattle.gap_map.specs.Stretches.{AreStretches, IsCut, known_in}
use Rattle.channel_tables.specs.declared.spec.Spec.{Spec}
use Rattle.gap_map.proofs.Following.{follows}
use Rattle.hour_store.specs.Store.{Store}
use Rattle.board.specs.declared.pasts.PastsError.{PastsError}
use Rattle.board.specs.declared.pasts.PastsError.TheVariants.{NoState, Memory}
use Rattle.board.specs.Channels.{AreSpecs}
use Rattle.board.specs.Courses.{CourseLog, course_log}
use Rattle.board.specs.Logs.{IsHour, end_tenth, first_tenth}
use Rattle.board.specs.Stops.{AreBefore}
use Rattle.board.specs.Places.{AllEarly, AreAheadsOf}
use Rattle.board.specs.Hours.{AreAheadsBefore, ArePastsOf, NamesStop}
use Rattle.board.proofs.Rows.{rows_split}
use Rattle.board.proofs.Within.{hour_rows, one_hour}
use Rattle.signal_log.specs.Log.{IsContradiction, log_of}
use Rattle.signal_log.specs.Points.{AreAheadsAt, ArePastsAt, HasHour, NamesContradiction, rows_or_none}
use Rattle.signal_log.specs.Over.{AreAheadsOver, AreCoursesOver, ArePastsOver, IsCutOf, NamesStopOver}
use Rattle.signal_log.specs.Opened.{HasPlace, IsOpened, Opened}
use Rattle.signal_log.proofs.Hour.{aheads_at, pasts_at}
use Rattle.signal_log.proofs.Stopped.{contradicts}

pub copied_some : (o : Option (Bor (List Row))) → is_some o ≡ is_some (option_copied o)
copied_some None = refl
copied_some (Some r) = refl

pub rows_fit : (hour : ℕ) (o : Option (Bor (List Row))) → hour < 744 → IfSome o (λ s. AreRowsOf hour s.now) → AreRowsOf hour (rows_or_none (option_copied o))
rows_fit hour None lt h = record { in_range = lt; few = omega arith; rise = tt }
rows_fit hour (Some r) lt h = h

pub cut_as : (hour : ℕ) (rows : Option (List Row)) (held : Bool) (blanks : List Span) (ss : List Stretch) → held ≡ is_some rows → IsCut (known_in held blanks) (36000 * hour) (36000 * hour + 36000) ss → IsCutOf hour rows blanks ss
cut_as hour rows held blanks ss e cut = subst (λ (b : Bool). IsCut (known_in b blanks) (36000 * hour) (36000 * hour + 36000) ss) e cut

pub one_as : (hour : ℕ) (rows : Option (List Row)) (held : Bool) (blanks : List Span) (ss : List Stretch) → held ≡ is_some rows → ((zs : List Stretch) → IsCut (known_in held blanks) (36000 * hour) (36000 * hour + 36000) zs → zs ≡ ss) → (zs : List Stretch) → IsCutOf hour rows blanks zs → zs ≡ ss
one_as hour rows held blanks ss e one = subst (λ (b : Bool). (zs : List Stretch) → IsCut (known_in b blanks) (36000 * hour) (36000 * hour + 36000) zs → zs ≡ ss) e one

pub hour_told : (hour : ℕ) (rows : Option (List Row)) (blanks : List Span) (ss : List Stretch) → AreRowsOf hour (rows_or_none rows) → IsCutOf hour rows blanks ss → IsHour hour (rows_or_none rows) ss
hour_told hour rows blanks ss are cut = record { are_rows = are; follow = follows (known_in (is_some rows) blanks) (36000 * hour) (36000 * hour + 36000) ss cut.stretches }

-- what the answer is, where there is one
pub ok_both : {X E : Type 0} (r : Result X E) (P Q S : X → Type 0) → ((x : X) → P x → Q x → S x) → IfOk r P → IfOk r Q → IfOk r S
ok_both (Ok x) P Q S h p q = h x p q
ok_both (Err e) P Q S h p q = tt

-- what a call knows of the stretches of the hour that it's given: they are its one cut
pub record IsTold (hour : ℕ) (rows : Option (List Row)) (blanks : List Span) (ss : List Stretch) : Type 0 where
  pub cut : IsCutOf hour rows blanks ss
  pub is : IsHour hour (rows_or_none rows) ss
  pub one : (zs : List Stretch) → IsCutOf hour rows blanks zs → zs ≡ ss

pub opened_told : (o : Opened) → IsOpened o → IsTold o.hour o.rows o.blanks o.stretches
opened_told o is = record {
  cut = is.cut;
  is = hour_told o.hour o.rows o.blanks o.stretches is.are_rows is.cut;
  one = is.one;
}

-- courses that are cut out of its one cut
pub courses_told : {E : Type 0} (specs : List Spec) (o : Opened) (r : Result CourseLog E) → IsOpened o → IfOk r (λ c. c ≡ course_log specs (rows_or_none o.rows) o.stretches) → IfOk r (AreCoursesOver specs o.hour o.rows o.blanks)
courses_told specs o r is are = IfOk-weaker r (λ c. c ≡ course_log specs (rows_or_none o.rows) o.stretches) (AreCoursesOver specs o.hour o.rows o.blanks) (λ c e ss cut. e ∙ ap (course_log specs (rows_or_none o.rows)) (sym (is.one ss cut))) are

-- what an hour that is opened is, by what it's made of
pub opened : (hour : ℕ) (rows : Option (Bor (List Row))) (held : Bool) (blanks : List Span) (ss : List Stretch) → hour < 744 → IfSome rows (λ s. AreRowsOf hour s.now) → held ≡ is_some rows → IsCut (known_in held blanks) (36000 * hour) (36000 * hour + 36000) ss → ((zs : List Stretch) → IsCut (known_in held blanks) (36000 * hour) (36000 * hour + 36000) zs → zs ≡ ss) → IsOpened (record { hour = hour; rows = option_copied rows; blanks = blanks; stretches = ss })
opened hour rows held blanks ss lt fit same cut only =
    let is_held = same ∙ copied_some rows in
    record {
      in_range = lt;
      are_rows = rows_fit hour rows lt fit;
      cut = cut_as hour (option_copied rows) held blanks ss is_held cut;
      one = one_as hour (option_copied rows) held blanks ss is_held only;
    }

-- the last stretch says whether the last tenth is known
pub end_known : (known : ℕ → Bool) (a b n : ℕ) (ss : List Stretch) (x : Stretch) → n + 1 ≡ length ss → AreStretches known a b ss → slice_get ss n ≡ Some x → x.known ≡ known (b - 1)
end_known known a b n [] x le h is = absurd (omega arith)
end_known known a b zero (s ∷ []) x le (from, lt, each, end) is =
    let same : s ≡ x = same_Some s x is in
    let at : s.to - 1 ≡ b - 1 = ap (λ (t : ℕ). t - 1) end in
    ap (λ (q : Stretch). q.known) (sym same) ∙ (sym (each (s.to - 1) (omega arith) (omega arith)) ∙ ap known at)
end_known known a b zero (s ∷ q ∷ ss) x le h is = absurd (omega arith)
end_known known a b (suc n) (s ∷ ss) x le (from, lt, each, rest) is = end_known known s.to b n ss x (omega arith) rest is

-- the row that is named
pub names : (specs : List Spec) (s : Store) (hour : ℕ) (rows : Option (List Row)) (blanks : List Span) (ss : List Stretch) (before : List (List (List Span))) → AreSpecs specs → AreRowsOf hour (rows_or_none rows) → IsCutOf hour rows blanks ss → (e : PastsError) → NamesStop specs (rows_or_none rows) ss before e → HasHour s hour rows blanks → ArePastsAt (log_of specs s) hour before → NamesContradiction (log_of specs s) e
names specs s hour rows blanks ss before are fit cut (NoState row) (n, is, at) has pasts =
    let hour_is = hour_told hour rows blanks ss fit cut in
    subst (λ (r : Row). IsContradiction (log_of specs s) r) (sym is) (contradicts specs s hour rows blanks ss before n are has cut hour_is pasts (at hour hour_is))
names specs s hour rows blanks ss before are fit cut Memory at has pasts = tt

-- an hour's cut is one list, so what holds of the list that a call made holds of each
pub aheads_over : (specs : List Spec) (hour : ℕ) (rows : Option (List Row)) (blanks : List Span) (ss : List Stretch) (after aheads : List (List (Option ℤ))) → IsHour hour (rows_or_none rows) ss → ((zs : List Stretch) → IsCutOf hour rows blanks zs → zs ≡ ss) → AreAheadsBefore specs (rows_or_none rows) ss after aheads → AreAheadsOver specs hour rows blanks after aheads
aheads_over specs hour rows blanks ss after aheads is one are = λ zs cut. rw (one zs cut) (are hour is)

pub pasts_over : (specs : List Spec) (hour : ℕ) (rows : Option (List Row)) (blanks : List Span) (ss : List Stretch) (before pasts : List (List (List Span))) → IsHour hour (rows_or_none rows) ss → ((zs : List Stretch) → IsCutOf hour rows blanks zs → zs ≡ ss) → ArePastsOf specs (rows_or_none rows) ss before pasts → ArePastsOver specs hour rows blanks before pasts
pasts_over specs hour rows blanks ss before pasts is one are =
    (λ zs cut. rw (one zs cut) (are hour is).0, λ zs cut. rw (one zs cut) (are hour is).1)

pub stop_over : (specs : List Spec) (hour : ℕ) (rows : Option (List Row)) (blanks : List Span) (ss : List Stretch) (before : List (List (List Span))) → IsHour hour (rows_or_none rows) ss → ((zs : List Stretch) → IsCutOf hour rows blanks zs → zs ≡ ss) → (e : PastsError) → NamesStop specs (rows_or_none rows) ss before e → NamesStopOver specs hour rows blanks before e
stop_over specs hour rows blanks ss before is one Memory names_it = tt
stop_over specs hour rows blanks ss before is one (NoState row) (n, same, at) =
    let own = rows_or_none rows in
    let stop = at hour is in
    let ((i, lt, there), _, _) = stop in
    let (_, _, low, high) = rows_split (first_tenth hour) (end_tenth hour) n own (hour_rows hour own ss is) there.within in
    record {
      place = n;
      within = there.within;
      is = same;
      low = rw same low;
      high = rw same (omega arith);
      stops = λ zs cut. rw (one zs cut) stop;
    }

-- and back: what holds of each cut of the hour holds of the one that was made
pub aheads_was : (specs : List Spec) (hour : ℕ) (rows : Option (List Row)) (blanks : List Span) (ss : List Stretch) (after aheads : List (List (Option ℤ))) → IsTold hour rows blanks ss → AreAheadsOver specs hour rows blanks after aheads → AreAheadsBefore specs (rows_or_none rows) ss after aheads
aheads_was specs hour rows blanks ss after aheads it over = λ h is. rw (one_hour h hour (rows_or_none rows) ss is it.is) (over ss it.cut)

pub pasts_was : (specs : List Spec) (hour : ℕ) (rows : Option (List Row)) (blanks : List Span) (ss : List Stretch) (before pasts : List (List (List Span))) → IsTold hour rows blanks ss → ArePastsOver specs hour rows blanks before pasts → ArePastsOf specs (rows_or_none rows) ss before pasts
pasts_was specs hour rows blanks ss before pasts it over = λ h is. rw (one_hour h hour (rows_or_none rows) ss is it.is) (over.0 ss it.cut, over.1 ss it.cut)

-- states that an hour leads to from those at the point before it are those at the point after it
pub over_leads : (specs : List Spec) (s : Store) (o : Opened) (before pasts : List (List (List Span))) → AreSpecs specs → IsOpened o → ArePastsOver specs o.hour o.rows o.blanks before pasts → AreBefore specs pasts → AllEarly (first_tenth (o.hour + 1)) pasts → HasPlace s o → ArePastsAt (log_of specs s) o.hour before → ArePastsAt (log_of specs s) (o.hour + 1) pasts
over_leads specs s o before pasts are opened over shape early has at =
    let end : first_tenth (o.hour + 1) ≡ end_tenth o.hour = omega arith in
    pasts_at specs s o.hour o.rows o.blanks o.stretches before pasts are has opened.cut at shape (subst (λ (t : ℕ). AllEarly t pasts) end early) (over.1 o.stretches opened.cut)

-- what the calls of an hour answer, by what those of its cut do
module _ {E : Type 0} (specs : List Spec) (hour : ℕ) (rows : Option (List Row)) (blanks : List Span) (ss : List Stretch) (after : List (List (Option ℤ))) (it : IsTold hour rows blanks ss) (r : Result (List (List (Option ℤ))) E) (before : IfOk r (λ a. AreAheadsBefore specs (rows_or_none rows) ss after a)) where
  pub aheads_answer : AreSpecs specs → IfOk r (λ a. AreAheadsOf specs a) → IfOk r (λ a. (s : Store) → HasHour s hour rows blanks → AreAheadsAt (log_of specs s) (hour + 1) after → AreAheadsAt (log_of specs s) hour a)
  aheads_answer are shape = ok_both r (λ a. AreAheadsOf specs a) (λ a. AreAheadsBefore specs (rows_or_none rows) ss after a) (λ a. (s : Store) → HasHour s hour rows blanks → AreAheadsAt (log_of specs s) (hour + 1) after → AreAheadsAt (log_of specs s) hour a) (λ a shaped steps s has at. aheads_at specs s hour rows blanks ss after a are has it.cut at shaped (steps hour it.is)) shape before

  pub aheads_answer_over : IfOk r (λ a. AreAheadsOver specs hour rows blanks after a)
  aheads_answer_over = IfOk-weaker r (λ a. AreAheadsBefore specs (rows_or_none rows) ss after a) (λ a. AreAheadsOver specs hour rows blanks after a) (λ a steps. aheads_over specs hour rows blanks ss after a it.is it.one steps) before

module _ (specs : List Spec) (hour : ℕ) (rows : Option (List Row)) (blanks : List Span) (ss : List Stretch) (before : List (List (List Span))) (it : IsTold hour rows blanks ss) (r : Result (List (List (List Span))) PastsError) where
  pub pasts_shape : IfOk r (λ p. AreBefore specs p) → IfOk r (λ p. (h : ℕ) → IsHour h (rows_or_none rows) ss → AllEarly (end_tenth h) p) → IfOk r (λ p. AreBefore specs p × AllEarly (end_tenth hour) p)
  pasts_shape shape early = ok_both r (λ p. AreBefore specs p) (λ p. (h : ℕ) → IsHour h (rows_or_none rows) ss → AllEarly (end_tenth h) p) (λ p. AreBefore specs p × AllEarly (end_tenth hour) p) (λ p shaped e. (shaped, e hour it.is)) shape early

  pub pasts_answer : AreSpecs specs → IfOk r (λ p. AreBefore specs p × AllEarly (end_tenth hour) p) → IfOk r (λ p. ArePastsOf specs (rows_or_none rows) ss before p) → IfOk r (λ p. (s : Store) → HasHour s hour rows blanks → ArePastsAt (log_of specs s) hour before → ArePastsAt (log_of specs s) (hour + 1) p)
  pasts_answer are shape pasts = ok_both r (λ p. AreBefore specs p × AllEarly (end_tenth hour) p) (λ p. ArePastsOf specs (rows_or_none rows) ss before p) (λ p. (s : Store) → HasHour s hour rows blanks → ArePastsAt (log_of specs s) hour before → ArePastsAt (log_of specs s) (hour + 1) p) (λ p shaped steps s has at. pasts_at specs s hour rows blanks ss before p are has it.cut at shaped.0 shaped.1 (steps hour it.is).1) shape pasts

  pub stop_answer : AreSpecs specs → IfErr r (λ e. NamesStop specs (rows_or_none rows) ss before e) → IfErr r (λ e. (s : Store) → HasHour s hour rows blanks → ArePastsAt (log_of specs s) hour before → NamesContradiction (log_of specs s) e)
  stop_answer are stop = IfErr-weaker r (λ e. NamesStop specs (rows_or_none rows) ss before e) (λ e. (s : Store) → HasHour s hour rows blanks → ArePastsAt (log_of specs s) hour before → NamesContradiction (log_of specs s) e) (λ e named s has at. names specs s hour rows blanks ss before are it.is.are_rows it.cut e named has at) stop

  pub pasts_answer_over : IfOk r (λ p. ArePastsOf specs (rows_or_none rows) ss before p) → IfOk r (λ p. ArePastsOver specs hour rows blanks before p)
  pasts_answer_over pasts = IfOk-weaker r (λ p. ArePastsOf specs (rows_or_none rows) ss before p) (λ p. ArePastsOver specs hour rows blanks before p) (λ p steps. pasts_over specs hour rows blanks ss before p it.is it.one steps) pasts

  pub stop_answer_over : IfErr r (λ e. NamesStop specs (rows_or_none rows) ss before e) → IfErr r (λ e. NamesStopOver specs hour rows blanks before e)
  stop_answer_over stop = IfErr-weaker r (λ e. NamesStop specs (rows_or_none rows) ss before e) (λ e. NamesStopOver specs hour rows blanks before e) (λ e named. stop_over specs hour rows blanks ss before it.is it.one e named) stop
