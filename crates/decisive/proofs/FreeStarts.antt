-- The states with which a tenth may begin where nothing before it is known.
use Rattle.std.proofs.Common.{refl, inl, inr, ℕ, ◌<◌, pos, negsuc, ◌≤ℤ◌, ◌<ℤ◌, Bool, false, List, [], arith}
use Rattle.std.proofs.lemmas.Int.{ints}
use Rattle.span_set.proofs.Sets.{int_cases}
use Rattle.colour_machine.specs.Rules.{IsMachine, Rules}
use Rattle.reach.specs.Runs.{Fills, State, state}
use Rattle.board.specs.History.{Event, Track, events_at}
use Rattle.board.proofs.Alike.{Alike, agreeing_alike}
use Rattle.signal_log.proofs.Runs.{alike_later}
use Rattle.decisive.specs.Moves.{IsFreeAt}
use Rattle.decisive.proofs.Alone.{agree_fills, fills_agree}

-- a start more than an hour before the window is as good as one an hour before it
late_start : (m : Rules) (s : State) → s.colour < m.colours → s.entry <ℤ pos 0 → (r : State) × ((r.colour < m.colours) × (negsuc 36000 ≤ℤ r.entry) × (r.entry <ℤ pos 0)) × Alike m (pos 0) s r
late_start m s few early = elim (int_cases s.entry (negsuc 36000)) [
  | inl q ↦ let lt = q.1 in (state s.colour (negsuc 36000), (few, omega (arith, ints), omega (arith, ints)), (few, refl, inr (omega (arith, ints), omega (arith, ints))))
  | inr q ↦ (s, (few, q.1, early), (few, refl, inl refl))
]

pub free_late : (k : Track) (t : ℕ) (s a : State) → IsMachine k.rules → s.colour < k.rules.colours → s.entry <ℤ pos 0 → Fills k.rules (pos 0) (pos t) s a → (b : State) × IsFreeAt k.rules t b × Alike k.rules (pos t) a b
free_late k t s a laws few early f =
    let (r, is, al) = late_start k.rules s few early in
    let none : ℕ → Bool = λ y. false in
    let no_events : ℕ → List Event = λ y. events_at [] y in
    let g = fills_agree k none no_events 0 t s a (λ y l1 l2 e. absurd (cc)) f in
    let (b, g2, al2) = agreeing_alike k none no_events 0 t s r a laws al g in
    (b, (r, is, agree_fills k none no_events 0 t r b g2), alike_later k.rules (pos 0) (pos t) a b (omega (arith, ints)) al2)
