-- A history of which no row was lost is one that agrees with the log.
use Rattle.std.proofs.Common.{◌≡◌, refl, ap, sym, ◌∙◌, subst, inl, inr, ℕ, ◌+◌, pos, Bool, List, [], ◌∷◌, map, arith}
use Rattle.std.proofs.lemmas.Bool.{cases_Bool}
use Rattle.std.proofs.lemmas.List.{length-map}
use Rattle.reach.specs.Runs.{Run}
use Rattle.board.specs.History.{Agree, Bounded, Event, History, events_at, letters, start_of}
use Rattle.signal_log.specs.Log.{AgreesWith, Log, track_at}
use Rattle.lost_rows.specs.Marked.{AllLostAreEvents, LosesRows, LostAtKnown, Marked, MarkedHistory, events_of, lost_in, lost_of, plain, told}
use Rattle.lost_laws.specs.Agreeing.{NoneLostAgrees}
use Rattle.lost_laws.proofs.Making.{held_are, held_events, held_marks, held_none}

-- where nothing is lost all is told
all_told : (es : List Marked) → lost_of es ≡ 0 → told es ≡ events_of es
all_told [] none = refl
all_told (e ∷ es) none = elim (cases_Bool e.lost) [
  | inl lost ↦ absurd (let more = rw lost at none in omega arith)
  | inr held ↦ rw held (ap (λ zs. e.event ∷ zs) (all_told es (rw held at none)))
]

tenths_told : (ts : List (List Marked)) → lost_in ts ≡ 0 → map told ts ≡ map events_of ts
tenths_told [] none = refl
tenths_told (es ∷ ts) none = ap (λ z. z ∷ map told ts) (all_told es (omega arith)) ∙ ap (λ zs. events_of es ∷ zs) (tenths_told ts (omega arith))

-- tenths of which nothing is lost
marks_events : (ts : List (List Event)) → map events_of (map held_marks ts) ≡ ts
marks_events [] = refl
marks_events (es ∷ ts) = ap (λ z. z ∷ map events_of (map held_marks ts)) (held_events es) ∙ ap (λ zs. es ∷ zs) (marks_events ts)

marks_none : (ts : List (List Event)) → lost_in (map held_marks ts) ≡ 0
marks_none [] = refl
marks_none (es ∷ ts) = let a = held_none es in let b = marks_none ts in omega arith

marks_are : (ts : List (List Event)) → AllLostAreEvents (map held_marks ts)
marks_are [] = tt
marks_are (es ∷ ts) = (held_are es, marks_are ts)

marks_known : (known : ℕ → Bool) (t : ℕ) (ts : List (List Event)) → LostAtKnown known t (map held_marks ts)
marks_known known t [] = tt
marks_known known t (es ∷ ts) = ((λ _. held_none es), marks_known known (t + 1) ts)

none_agrees : (log : Log) (h : MarkedHistory) → LosesRows log h 0 → AgreesWith log (plain h)
none_agrees log h loses = record {
  covers = length-map h.tenths events_of ∙ loses.covers;
  starts = loses.starts;
  agrees = record {
    legal = loses.legal;
    agree = subst (λ (zs : List (List Event)). Agree log.known (events_at log.rows) 0 zs) (tenths_told h.tenths loses.count) loses.agree;
    bounded = loses.bounded;
  };
}

agreeing_loses : (log : Log) (h : History) → AgreesWith log h → (m : MarkedHistory) × LosesRows log m 0 × (plain m ≡ h)
agreeing_loses log h agrees =
    let ts = map held_marks h.events in
    let same : map events_of ts ≡ h.events = marks_events h.events in
    let all : map told ts ≡ h.events = tenths_told ts (marks_none h.events) ∙ same in (
      record { starts = h.starts; tenths = ts },
      record {
        covers = length-map h.events held_marks ∙ agrees.covers;
        starts = agrees.starts;
        legal = λ i lt. let (u, r) = agrees.agrees.legal i lt in (u, subst (λ (zs : List (List Event)). Run (track_at log i).rules (pos 0) (start_of h i) (map (letters (track_at log i)) zs) u) (sym same) r);
        agree = subst (λ (zs : List (List Event)). Agree log.known (events_at log.rows) 0 zs) (sym all) agrees.agrees.agree;
        bounded = subst (λ (zs : List (List Event)). Bounded log.known 0 zs) (sym same) agrees.agrees.bounded;
        at_known = marks_known log.known 0 h.events;
        events = marks_are h.events;
        count = marks_none h.events;
      },
      ap (λ (zs : List (List Event)). let made : History = record { starts = h.starts; events = zs } in made) same,
    )

pub none_lost_agrees : NoneLostAgrees
none_lost_agrees = record { to = none_agrees; back = agreeing_loses }
