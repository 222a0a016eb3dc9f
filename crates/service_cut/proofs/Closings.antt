-- Services whose red window crosses a point.
use Rattle.std.proofs.Common.{◌≡◌, ℕ, ◌+◌, ◌<◌, ◌≤◌, Bool, true, false, cond, Some, None, List, [], ◌∷◌, ◌++◌, Option, refl, ap, ◌∙◌, arith}
use Rattle.std.proofs.lemmas.Bool.{le-ltb}
use Rattle.std.proofs.lemmas.List.Elements.{All-head, All-tail, filter-append}
use Rattle.sig_base.specs.declared.values.Row.{Row}
use Rattle.sig_base.specs.declared.values.PhaseItem.{PhaseItem}
use Rattle.sig_base.specs.Numbers.{has_phase}
use Rattle.hour_sweep.specs.Hours.{AreOrdered}
use Rattle.hour_sweep.proofs.Counted.{given_between, AreBetween, HasTenth, IsGivenAt}
use Rattle.service_cut.specs.declared.items.Served.{Served}
use Rattle.service_cut.specs.declared.services.ServiceBegun.{ServiceBegun}
use Rattle.service_cut.specs.Signs.{sign, is_end}
use Rattle.service_cut.specs.Services.{service_begun_of, served_of, whole_served, served_at}
use Rattle.service_cut.specs.Cut.{served_from, closing_at}
use Rattle.service_cut.proofs.HourLists.{served_add}

rows_given : (p : ℕ) (s : ServiceBegun) (r : Row) (g y : Option Row) → IsGivenAt (λ (w : Served). w.r.at) r.at (served_of p s r g y)
rows_given p s r (Some g) (Some y) = refl
rows_given p s r (Some g) None = tt
rows_given p s r None y = tt

served_given : (p : ℕ) (o : Option ServiceBegun) (r : Row) → IsGivenAt (λ (w : Served). w.r.at) r.at (whole_served p o r)
served_given p None r = tt
served_given p (Some s) r = rows_given p s r s.g s.y

served_given_if : (v : Bool) (t : ℕ) (o : Option Served) → IsGivenAt (λ (w : Served). w.r.at) t o → IsGivenAt (λ (w : Served). w.r.at) t (cond v o None)
served_given_if true t o h = h
served_given_if false t o h = tt

pub served_tenth : (known : ℕ → Bool) → HasTenth (λ (w : Served). w.r.at) (λ p earlier r rest. served_at known p earlier r)
unfolding served_at
served_tenth known p before r rest = served_given_if (is_end (sign p r)) r.at (whole_served p (service_begun_of known r.at p before) r) (served_given p (service_begun_of known r.at p before) r)

over_by : (a b : ℕ) (ws : List Served) → a + 50 ≤ b → AreBetween (λ (w : Served). w.r.at) 0 a ws → closing_at b ws ≡ []
over_by a b [] le h = refl
over_by a b (w ∷ ws) le h =
    let lt = (All-head (λ (w : Served). (0 ≤ w.r.at) × (w.r.at < a)) w ws h).1 in
    rw (le-ltb b (w.r.at + 50) (omega arith)) (over_by a b ws le (All-tail (λ (w : Served). (0 ≤ w.r.at) × (w.r.at < a)) w ws h))

-- the services that ended before an hour are over at its end
pub closing_later : (known : ℕ → Bool) (phases : List PhaseItem) (t b : ℕ) (before rows : List Row) → t + 50 ≤ b → AreOrdered 0 t before → AreOrdered t b rows → closing_at b (served_from known phases [] (before ++ rows)) ≡ closing_at b (served_from known phases before rows)
closing_later known phases t b before rows le ob or =
    let early = served_from known phases [] before in
    ap (λ ws. closing_at b ws) (served_add known phases t b before rows ob or)
    ∙ (filter-append _ early (served_from known phases before rows)
    ∙ ap (λ ws. ws ++ closing_at b (served_from known phases before rows)) (over_by t b early le (given_between (λ (w : Served). w.r.at) (λ p earlier r rest. served_at known p earlier r) (has_phase phases) 0 t [] before (served_tenth known) ob)))
