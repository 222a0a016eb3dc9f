-- Of the states that can be completed, those that come up count.
use Rattle.std.proofs.Common.{◌≡◌, refl, ap, inl, inr, ◌↔◌, ℕ, pos, ◌-ℤ◌, ◌<ℤ◌, ◌≤ℤ◌, List, [], get_or, arith}
use Rattle.std.proofs.lemmas.Int.{ints}
use Rattle.span_set.specs.declared.set.Span.{Span}
use Rattle.span_set.proofs.Sets.{int_cases}
use Rattle.reach.specs.Runs.{State, state}
use Rattle.reach.specs.Past.{Holds}
use Rattle.board.specs.Logs.{first_tenth}
use Rattle.board.specs.History.{events_at}
use Rattle.board.specs.Hours.{Clamped}
use Rattle.board.proofs.Plain.{agreeing_early}
use Rattle.signal_log.specs.Log.{Log, track_at}
use Rattle.signal_log.specs.States.{IsReached}
use Rattle.signal_log.specs.Points.{ComesUp}
use Rattle.signal_log.specs.Laws.{AllCount, SameCount}

-- a state that comes up was entered before the point
entered_before : (log : Log) (k i : ℕ) (s : State) → ComesUp log k i s → s.entry <ℤ pos (first_tenth k)
entered_before log k i s (v, (b, bw, g), (few, same, alike)) =
    let early : v.entry <ℤ pos (first_tenth k) = agreeing_early (track_at log i) log.known (events_at log.rows) 0 (first_tenth k) b v g bw.1 in
    elim alike [
      | inl e ↦ let at : s.entry ≡ v.entry = ap (λ (x : State). x.entry) e in omega (arith, ints)
      | inr (x, y) ↦ omega (arith, ints)
    ]

pub all_count : AllCount
all_count log k aheads at = record {
  shape = at.shape;
  states = λ i lt s up.
      let (v, r, (few, same, alike)) = up in (
        λ ad. ((at.states i lt s).0 ad).2,
        λ done. (at.states i lt s).1 (rw same few, entered_before log k i s up, done),
      );
}

-- what is held for a state that comes up: one of its colour that wasn't entered earlier
held_for : (log : Log) (k i : ℕ) (past : List (List Span)) (s : State) → ((u : State) → Holds past u ↔ Clamped (pos (first_tenth k) -ℤ pos 36001) (IsReached log i (first_tenth k)) u) → ComesUp log k i s → (u : State) × Holds past u × (s.colour ≡ u.colour) × (s.entry ≤ℤ u.entry)
held_for log k i past s states (v, r, (few, same, alike)) =
    elim (int_cases v.entry (pos (first_tenth k) -ℤ pos 36001)) [
      | inr (_, le) ↦ (
        v,
        (states v).1 (inl (r, le)),
        same,
        elim alike [
          | inl e ↦ let at : s.entry ≡ v.entry = ap (λ (x : State). x.entry) e in omega (arith, ints)
          | inr (x, y) ↦ omega (arith, ints)
        ],
      )
      | inl (_, lt) ↦
          let u = state v.colour (pos (first_tenth k) -ℤ pos 36001) in (
            u,
            (states u).1 (inr (refl, (v.entry, r, lt))),
            same,
            elim alike [
              | inl e ↦ let at : s.entry ≡ v.entry = ap (λ (x : State). x.entry) e in omega (arith, ints)
              | inr (x, y) ↦ omega (arith, ints)
            ],
          )
    ]

pub same_count : SameCount
same_count log k pasts a b at same shape tells = record {
  shape = shape;
  states = λ i lt s up.
      let (u, h, c, le) = held_for log k i (get_or pasts i []) s (at.states i lt) up in
      let width = tells.shape.0 in
      let both = same i (omega arith) s u h c le in (
        λ ad. (tells.states i lt s up).0 (both.1 ad),
        λ done. both.0 ((tells.states i lt s up).1 done),
      );
}
