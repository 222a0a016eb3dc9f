-- The offsets of a diagram lie in its cycle.
use Rattle.std.proofs.Common.{ℕ, zero, suc, ◌+◌, ◌-◌, ◌<◌, ◌≤◌, Bool, eqb, List, [], ◌∷◌, map, sym, subst, arith, inl, inr}
use Rattle.std.specs.Prelude.{All}
use Rattle.std.proofs.lemmas.List.{map-append}
use Rattle.std.proofs.lemmas.List.Elements.{All-append, All-nil, All-cons, All-head, All-tail, All-filter}
use Rattle.std.proofs.lemmas.Bool.{cases_Bool, eqb-true}
use Rattle.sig_base.specs.declared.values.Row.{Row}
use Rattle.sig_base.specs.Numbers.{has_phase}
use Rattle.hour_sweep.specs.Hours.{AreOrdered}
use Rattle.ring_config.specs.Settings.{Settings}
use Rattle.service_cut.specs.declared.items.Cycle.{Cycle}
use Rattle.service_cut.specs.Cut.{cycles_from}
use Rattle.service_cut.specs.Whole.{CycleFits}
use Rattle.service_cut.proofs.Fitting.{cycles_fit}
use Rattle.arrival_measures.specs.declared.points.Point.{Point}
use Rattle.arrival_measures.specs.Hours.{cycles_of}
use Rattle.arrival_measures.specs.Points.{DiagramFits, at_tenth, by_tenth, diagram_of, diagrams_of, points_from, since_begin}

since_less : (n from to : ℕ) → from ≤ n → n < to → n - from < to - from
since_less n from to low high = omega (arith, low, high)

tenth_in : (c : Cycle) (t : ℕ) (points : List Point) → c.from ≤ t → t < c.to → All (λ x. x.offset < c.to - c.from) (map (since_begin c) (at_tenth t points))
tenth_in c t [] lo hi = All-nil (λ x. x.offset < c.to - c.from)
tenth_in c t (x ∷ xs) lo hi = elim (cases_Bool (eqb x.offset t)) [
  | inl e ↦
      let at = eqb-true x.offset t e in
      rw e (All-cons (λ x. x.offset < c.to - c.from) (since_begin c x) (map (since_begin c) (at_tenth t xs)) (since_less x.offset c.from c.to (omega arith) (omega arith)) (tenth_in c t xs lo hi))
  | inr e ↦ rw e (tenth_in c t xs lo hi)
]

points_in : (c : Cycle) (n t : ℕ) (points : List Point) → c.from ≤ t → n ≤ c.to - t → All (λ x. x.offset < c.to - c.from) (map (since_begin c) (by_tenth n t points))
unfolding by_tenth
points_in c zero t points lo few = All-nil (λ x. x.offset < c.to - c.from)
points_in c (suc n) t points lo few =
    subst (λ (zs : List Point). All (λ x. x.offset < c.to - c.from) zs) (sym (map-append (since_begin c) (at_tenth t points) (by_tenth n (t + 1) points)))
    (All-append (λ (x : Point). x.offset < c.to - c.from) (map (since_begin c) (at_tenth t points)) (map (since_begin c) (by_tenth n (t + 1) points)) (tenth_in c t points lo (omega arith)) (points_in c n (t + 1) points (omega arith) (omega arith)))

diagram_fits : (points : List Point) (c : Cycle) → CycleFits c → DiagramFits (diagram_of points c)
diagram_fits points c h = record { cycle_fits = h; points_in = points_in c (c.to - c.from) c.from points (omega arith) (omega arith) }

all_fit : (points : List Point) (cycles : List Cycle) → All CycleFits cycles → All DiagramFits (map (diagram_of points) cycles)
all_fit points [] h = All-nil DiagramFits
all_fit points (c ∷ cs) h = All-cons DiagramFits (diagram_of points c) (map (diagram_of points) cs) (diagram_fits points c (All-head CycleFits c cs h)) (all_fit points cs (All-tail CycleFits c cs h))

pub diagrams_fit : (known : ℕ → Bool) (c : Settings) (p a b : ℕ) (rows : List Row) → AreOrdered a b rows → All DiagramFits (diagrams_of known c p rows)
diagrams_fit known c p a b rows h =
    all_fit (points_from known c p [] rows) (cycles_of known c p [] rows)
    (All-filter (λ (x : Cycle). eqb x.phase p) CycleFits (cycles_from known c.phases [] rows) (cycles_fit known (has_phase c.phases) a b [] rows h))
