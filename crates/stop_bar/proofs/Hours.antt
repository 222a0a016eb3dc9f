-- One stop bar over one hour.
use Rattle.std.proofs.Common.{◌≡◌, refl, ap, sym, ◌∙◌, subst, ℕ, ◌+◌, ◌≤◌, true, Bool, Option, Some, None, List, [], ◌∷◌, ◌++◌, arith}
use Rattle.std.specs.Prelude.{All, unwrap_or}
use Rattle.sig_base.specs.declared.values.PhaseItem.{PhaseItem}
use Rattle.sig_base.specs.declared.values.Row.{Row}
use Rattle.sig_base.specs.Numbers.{has_phase}
use Rattle.board.specs.Logs.{end_tenth, first_tenth}
use Rattle.signal_log.specs.Log.{Log}
use Rattle.hour_sweep.specs.Hours.{AreOrdered}
use Rattle.hour_sweep.specs.Rows.{known_rows}
use Rattle.hour_sweep.proofs.Orders.{filter_ordered}
use Rattle.service_cut.specs.declared.items.OpenService.{OpenService}
use Rattle.service_cut.specs.declared.items.Service.{Service}
use Rattle.service_cut.specs.declared.services.ServiceBegun.{ServiceBegun}
use Rattle.service_cut.specs.Cut.{CutLists, services_from}
use Rattle.service_cut.specs.Parts.{open_service_of}
use Rattle.service_cut.specs.Services.{service_begun_of}
use Rattle.detector_state.specs.declared.part.Part.{Part}
use Rattle.detector_state.specs.declared.tenths.OnTenths.{OnTenths}
use Rattle.stop_bar.specs.declared.windows.OpenGreen.{OpenGreen}
use Rattle.stop_bar.specs.declared.windows.Windows.{Windows}
use Rattle.stop_bar.specs.Going.{AreInOrder, CanGoOn, IsGreenAt, of_phase, tenth_or}
use Rattle.stop_bar.specs.Windows.{AreEnded, AreFit, ArePending, AreServicesOf, AreWindows, IsEnded, IsOpen, due, left, services_of}
use Rattle.stop_bar.proofs.Fitting.{opens_fit, services_fit, services_in_order}
use Rattle.stop_bar.proofs.Staying.{pending_are_one, tenths_are_one, head_same, tail_same}
use Rattle.stop_bar.specs.Crossing.{Crossing}
use Rattle.stop_bar.specs.Bars.{AreListedOnce, AreOver, CrossesOnce, IsAtBar, IsHourOf, open_with, services_upto, without_ends}
use Rattle.stop_bar.proofs.Listing.{ending_both, left_later, waiting_end}
use Rattle.stop_bar.proofs.Opening.{open_found, open_none, open_some}

-- services without their terminations are of an hour as they are with them
of_without : (first end : ℕ) (begun : Option OpenGreen) (ss : List Service) → AreServicesOf first end begun ss → AreServicesOf first end begun (without_ends ss)
of_without first end begun [] h = tt
of_without first end begun (s ∷ ss) h = (h.0, of_without first end begun ss h.1)

in_order_without : (ss : List Service) → AreInOrder ss → AreInOrder (without_ends ss)
in_order_without [] h = tt
in_order_without (s ∷ ss) h = (h.0, in_order_without ss h.1)

pub upto_in_order : (known : ℕ → Bool) (phases : List PhaseItem) (p end : ℕ) (rows : List Row) → AreOrdered 0 end rows → All (λ z. known z.at ≡ true) rows → AreInOrder (services_upto known phases p rows)
upto_in_order known phases p end rows order are_known = in_order_without (of_phase p (services_from known phases [] rows)) (services_in_order known phases p end rows order are_known)

module _ (log : Log) (i : ℕ) (phases : List PhaseItem) (p hour : ℕ) (before rows : List Row) (cuts : CutLists) (parts : List Part) (is : IsHourOf log i phases hour before rows cuts parts) (at : Crossing) (here : IsAtBar log i phases p before hour at) where
  abbrev first : ℕ
  first = first_tenth hour

  abbrev end : ℕ
  end = end_tenth hour

  abbrev ks : List Row
  ks = known_rows log.known rows

  abbrev own : List Service
  own = without_ends (of_phase p (services_from log.known phases before ks))

  kept : AreOrdered first end ks
  kept = filter_ordered log.known first end first rows (omega arith) is.about.1

  long : first + 50 ≤ end
  long = omega arith

  fit : AreFit hour at.green at.pending own
  fit = (
    waiting_end log.known phases p first end before at.pending long is.about.0 here.waiting,
    of_without first end at.green (of_phase p (services_from log.known phases before ks)) (services_fit log.known phases p hour before rows at.green is.about here.green).0,
  )

  next : first_tenth (hour + 1) ≡ end
  next = omega arith

  -- what crosses the point after the hour, by the hour's end
  crossing : (green : Option OpenGreen) (waiting : List Windows) → IsGreenAt end (service_begun_of log.known end p (before ++ ks)) green → IsOpen log i green → services_of waiting ≡ left end (services_upto log.known phases p (before ++ ks)) → ArePending log i end waiting → IsAtBar log i phases p (before ++ ks) (hour + 1) (record { green = green; pending = waiting })
  crossing green waiting g t w n = record {
    green = subst (λ (x : ℕ). IsGreenAt x (service_begun_of log.known x p (before ++ ks)) green) (sym next) g;
    tenths = t;
    waiting = subst (λ (x : ℕ). services_of waiting ≡ left x (services_upto log.known phases p (before ++ ks))) (sym next) w;
    numbers = subst (λ (x : ℕ). ArePending log i x waiting) (sym next) n;
  }

  pub over_is : (mine : List Service) → mine ≡ without_ends (of_phase p cuts.services) → (ended waiting : List Windows) → services_of ended ≡ services_of at.pending ++ due end mine → services_of waiting ≡ left end mine → AreWindows hour at.green at.pending mine parts ended waiting → (green : Option OpenGreen) → IsGreenAt end (service_begun_of log.known end p (before ++ ks)) green × IsOpen log i green → AreOver log i phases p hour (before ++ ks) ended × IsAtBar log i phases p (before ++ ks) (hour + 1) (record { green = green; pending = waiting })
  over_is mine e ended waiting se sw numbers green (g, t) =
      let same : mine ≡ own = e ∙ ap (λ (ss : List Service). without_ends (of_phase p ss)) is.cut.services_are in
      let told = subst (λ (ss : List Service). AreWindows hour at.green at.pending ss parts ended waiting) same numbers log i is.told fit here.tenths here.numbers in
      let se2 : services_of ended ≡ services_of at.pending ++ due end own = se ∙ ap (λ (ss : List Service). services_of at.pending ++ due end ss) same in
      let sw2 : services_of waiting ≡ left end own = sw ∙ ap (λ (ss : List Service). left end ss) same in (
        record {
          services = ending_both log.known phases p first end before ks long is.about.0 kept at.pending here.waiting ended se2;
          numbers = told.0;
        },
        crossing green waiting g t (sw2 ∙ sym (left_later log.known phases p first end before ks long is.about.0 kept)) told.1,
      )

  begun : ServiceBegun → Type 0
  begun s = service_begun_of log.known end p (before ++ ks) ≡ Some s

  found : has_phase phases p ≡ true → open_with p cuts.open_services ≡ open_service_of p (service_begun_of log.known end p (before ++ ks))
  found has =
      ap (λ (ys : List OpenService). open_with p ys) is.cut.open_services_are
      ∙ (open_found log.known phases p (hour + 1) (before ++ ks) has
      ∙ ap (λ (x : ℕ). open_service_of p (service_begun_of log.known x p (before ++ ks))) next)

  pub green_on : has_phase phases p ≡ true → (y : OpenService) → open_with p cuts.open_services ≡ Some y → (g : OpenGreen) → g.b ≡ y.b → (to : ℕ) → to ≡ unwrap_or y.g end → g.to ≡ to → (CanGoOn first end at.green y.b to → IsOpen log i (Some g)) → IsGreenAt end (service_begun_of log.known end p (before ++ ks)) (Some g) × IsOpen log i (Some g)
  green_on has y is_y g eb to et eg goes =
      let (s, at_s, sb, sg) = open_some p end (service_begun_of log.known end p (before ++ ks)) y (sym (found has) ∙ is_y) in
      let can = opens_fit log.known p hour before rows at.green s is.about here.green at_s in
      let to_s : tenth_or end s.g ≡ to = sg ∙ sym et in
      let can2 = subst (λ (x : ℕ). CanGoOn first end at.green x to) sb (subst (λ (x : ℕ). CanGoOn first end at.green s.b.at x) to_s can) in
      (rw at_s (eb ∙ sym sb, eg ∙ sym to_s), goes can2)

  pub green_none : has_phase phases p ≡ true → open_with p cuts.open_services ≡ None → IsGreenAt end (service_begun_of log.known end p (before ++ ks)) None × IsOpen log i None
  green_none has none =
      let at_none = open_none p (service_begun_of log.known end p (before ++ ks)) (sym (found has) ∙ none) in
      (rw at_none tt, tt)

-- ---- one value

same_open : (a b c d : ℕ) (t u : OnTenths) → a ≡ b → c ≡ d → t ≡ u → let x : OpenGreen = record { b = a; to = c; tenths = t } in let y : OpenGreen = record { b = b; to = d; tenths = u } in Some x ≡ Some y
same_open a b c d t u x y z = rw (x, y, z) refl

same_crossing : (g h : Option OpenGreen) (v w : List Windows) → g ≡ h → v ≡ w → let x : Crossing = record { green = g; pending = v } in let y : Crossing = record { green = h; pending = w } in x ≡ y
same_crossing g h v w x y = rw (x, y) refl

same_windows : (s u : Service) (a b c d : OnTenths) → s ≡ u → a ≡ b → c ≡ d → let x : Windows = record { service = s; green = a; red = c } in let y : Windows = record { service = u; green = b; red = d } in x ≡ y
same_windows s u a b c d x y z = rw (x, y, z) refl

green_one : (log : Log) (i t : ℕ) (o : Option ServiceBegun) (a b : Option OpenGreen) → IsGreenAt t o a → IsOpen log i a → IsGreenAt t o b → IsOpen log i b → a ≡ b
green_one log i t None None None x ax y by = refl
green_one log i t None None (Some b) x ax y by = absurd y
green_one log i t None (Some a) b x ax y by = absurd x
green_one log i t (Some o) None b x ax y by = absurd x
green_one log i t (Some o) (Some a) None x ax y by = absurd y
green_one log i t (Some o) (Some a) (Some b) x ax y by =
    let eb : a.b ≡ b.b = x.0 ∙ sym y.0 in
    let et : a.to ≡ b.to = x.1 ∙ sym y.1 in
    let e = tenths_are_one log i a.b a.to a.tenths b.tenths ax (rw (eb, et) by) in
    same_open a.b b.b a.to b.to a.tenths b.tenths eb et e

pub crosses_once : CrossesOnce
crosses_once log i phases p before k a b x y =
    let green = green_one log i (first_tenth k) (service_begun_of log.known (first_tenth k) p before) a.green b.green x.green x.tenths y.green y.tenths in
    let pending = pending_are_one log i (first_tenth k) a.pending b.pending x.numbers y.numbers (x.waiting ∙ sym y.waiting) in
    same_crossing a.green b.green a.pending b.pending green pending

ended_one : (log : Log) (i : ℕ) (v w : Windows) → IsEnded log i v → IsEnded log i w → v.service ≡ w.service → v ≡ w
ended_one log i v w x y e =
    let green = tenths_are_one log i v.service.b v.service.g v.green w.green x.green (rw e y.green) in
    let red = tenths_are_one log i v.service.r (v.service.r + 50) v.red w.red x.red (rw e y.red) in
    same_windows v.service w.service v.green w.green v.red w.red e green red

ended_are_one : (log : Log) (i : ℕ) (vs ws : List Windows) → AreEnded log i vs → AreEnded log i ws → services_of vs ≡ services_of ws → vs ≡ ws
ended_are_one log i [] [] x y e = refl
ended_are_one log i [] (w ∷ ws) x y e = absurd (cc)
ended_are_one log i (v ∷ vs) [] x y e = absurd (cc)
ended_are_one log i (v ∷ vs) (w ∷ ws) x y e =
    let here = ended_one log i v w x.0 y.0 (head_same v.service w.service (services_of vs) (services_of ws) e) in
    let rest = ended_are_one log i vs ws x.1 y.1 (tail_same v.service w.service (services_of vs) (services_of ws) e) in
    cc

pub listed_once : AreListedOnce
listed_once log i phases p hour upto vs ws x y = ended_are_one log i vs ws x.numbers y.numbers (x.services ∙ sym y.services)
