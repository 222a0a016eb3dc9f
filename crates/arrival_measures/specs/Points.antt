-- Points of a phase's diagram: when vehicles came in its cycles.
use Rattle.std.specs.Prelude.{ℕ, zero, suc, ◌≡◌, ◌⊎◌, ◌+◌, ◌-◌, ◌==◌, ◌<◌, All, Bool, true, false, if◌then◌else◌, ◌&&◌, List, [], ◌∷◌, ◌++◌, Option, Some, map, filter, flat_map}
use Rattle.std.specs.List.{list_any}
use Rattle.std.specs.List.Sorted.{IsNonDecreasingBy}
use Rattle.sig_base.specs.declared.values.Row.{Row}
use Rattle.event_codes.specs.declared.channels.Channel.{Channel}
use Rattle.event_codes.specs.declared.channels.Kind.TheVariants.{Detector}
use Rattle.gap_map.specs.Stretches.{known_at}
use Rattle.board.specs.Logs.{HourLog}
use Rattle.board.specs.Verdicts.{MayPassRow}
use Rattle.service_cut.specs.declared.items.Cycle.{Cycle}
use Rattle.service_cut.specs.Whole.{CycleFits}
use Rattle.ring_config.specs.Settings.{Settings, spec_place}
use Rattle.ring_config.specs.declared.items.Approach.{Approach}
use Rattle.arrival_measures.specs.declared.points.Point.{Point}
use Rattle.arrival_measures.specs.declared.points.Diagram.{Diagram}
use Rattle.arrival_measures.specs.Arrivals.{is_on}
use Rattle.arrival_measures.specs.Faults.{arrivals_from}
use Rattle.arrival_measures.specs.Hours.{cycles_of}
use Rattle.arrival_measures.specs.Judged.{AllPass}
use Rattle.std.specs.Option.{option_map_or}

-- the points of an arrival: one for each approach of phase p that has its detector ahead, of which the first has place i
abbrev pub points_at : ℕ → ℕ → List Approach → Row → List Point
points_at p i [] x = []
points_at p i (a ∷ more) x =
    let rest = points_at p (i + 1) more x in
    if a.phase == p && option_map_or (λ d. is_on d x) a.advance false then record { approach = i; offset = x.at + a.travel } ∷ rest else rest

-- the points of the arrivals among the known rows, in row order, where the first rows stand before them; a point's offset is here its arrival tenth
abbrev pub points_from : (ℕ → Bool) → Settings → ℕ → List Row → List Row → List Point
points_from known c p before rows = flat_map (points_at p 0 c.approaches) (arrivals_from known before rows)

-- ---- by the view of an hour

-- the row says that this detector goes on, where there is one
abbrev pub is_on_at : Option ℕ → Row → Bool
is_on_at advance x = option_map_or (λ d. is_on d x) advance false

-- the colour is Fault
abbrev pub is_fault : ℕ → Bool
is_fault c = c == 2

-- the vehicle detector with this number, as a channel
abbrev pub detector_channel : ℕ → Channel
detector_channel d = record { kind = Detector; number = d }

-- the row, of this number among the hour's rows, is one before which its detector isn't sure to have a fault: not all states that it may have there have the colour Fault
pub record MayWork (c : Settings) (log : HourLog) (n : ℕ) (x : Row) : Type 0 where
  pub place : ℕ
  pub is_place : spec_place c.specs (detector_channel x.param) ≡ Some place
  pub not_sure : AllPass is_fault (MayPassRow log n place) → ⊥

-- it is one at which a detector goes on that is ahead of an approach of phase p
abbrev pub is_ahead : ℕ → List Approach → Row → Bool
is_ahead p all x = list_any (λ a. a.phase == p && is_on_at a.advance x) all

-- it is an arrival of phase p
pub record IsArrival (c : Settings) (log : HourLog) (p n : ℕ) (x : Row) : Type 0 where
  pub is_known : known_at log.stretches x.at ≡ true
  pub ahead : is_ahead p c.approaches x ≡ true
  pub may_work : MayWork c log n x

-- of the rows, of which the first has number n, these are those of which P holds, in their order
unfoldable pub ArePicked : (ℕ → Row → Type 0) → ℕ → List Row → List Row → Type 0
ArePicked P n [] picked = picked ≡ []
ArePicked P n (x ∷ xs) picked = (P n x × ((rest : List Row) × (picked ≡ x ∷ rest) × ArePicked P (n + 1) xs rest)) ⊎ ((P n x → ⊥) × ArePicked P (n + 1) xs picked)

-- these are the points of phase p in the hour: those of its arrivals, in row order
pub record ArePointsOf (c : Settings) (log : HourLog) (p : ℕ) (points : List Point) : Type 0 where
  pub arrivals : List Row
  pub are_arrivals : ArePicked (IsArrival c log p) 0 log.rows arrivals
  pub are_points : points ≡ flat_map (points_at p 0 c.approaches) arrivals

-- ---- diagrams

-- the points at so many tenths from this one on, tenth by tenth, and those of one tenth in their order
unfoldable pub by_tenth : ℕ → ℕ → List Point → List Point
by_tenth zero t points = []
by_tenth (suc n) t points = filter (λ x. x.offset == t) points ++ by_tenth n (t + 1) points

-- the points at this tenth
abbrev pub at_tenth : ℕ → List Point → List Point
at_tenth t points = filter (λ x. x.offset == t) points

-- the list has these points by tenth
pub record IsByTenth (points sorted : List Point) : Type 0 where
  pub rise : IsNonDecreasingBy (λ x. x.offset) sorted
  pub same : (t : ℕ) → at_tenth t sorted ≡ at_tenth t points

-- a cycle with its points, from its first tenth up to its last, each as tenths since the cycle's begin
abbrev pub diagram_of : List Point → Cycle → Diagram
diagram_of points cycle = record { cycle = cycle; points = map (λ (x : Point). record x { offset = x.offset - cycle.from }) (by_tenth (cycle.to - cycle.from) cycle.from points) }

-- For proofs alone: a point with its arrival told as tenths since the cycle's begin.
abbrev pub since_begin : Cycle → Point → Point
since_begin cycle x = record { approach = x.approach; offset = x.offset - cycle.from }

-- the diagrams of phase p in a log: of each whole cycle, in their order
abbrev pub diagrams_of : (ℕ → Bool) → Settings → ℕ → List Row → List Diagram
diagrams_of known c p rows = map (diagram_of (points_from known c p [] rows)) (cycles_of known c p [] rows)

-- the offsets of a diagram lie in its cycle: those of green and yellow are at most its length, and each point's is less
pub record DiagramFits (d : Diagram) : Type 0 where
  pub cycle_fits : CycleFits d.cycle
  pub points_in : All (λ x. x.offset < d.cycle.to - d.cycle.from) d.points
