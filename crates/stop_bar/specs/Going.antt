-- Services that cross the point between two hours.
use Rattle.std.specs.Prelude.{ℕ, ◌≡◌, ◌<◌, ◌≤◌, ◌==◌, ◌++◌, min, Bool, Option, Some, None, List, [], ◌∷◌, All}
use Rattle.std.specs.List.{filter}
use Rattle.sig_base.specs.declared.values.PhaseItem.{PhaseItem}
use Rattle.sig_base.specs.declared.values.Row.{Row}
use Rattle.board.specs.Logs.{end_tenth, first_tenth}
use Rattle.hour_sweep.specs.Hours.{AreOrdered}
use Rattle.hour_sweep.specs.Rows.{known_rows}
use Rattle.service_cut.specs.declared.items.Service.{Service}
use Rattle.service_cut.specs.declared.services.ServiceBegun.{ServiceBegun}
use Rattle.service_cut.specs.Cut.{services_from}
use Rattle.service_cut.specs.Services.{service_at, service_begun_of}
use Rattle.stop_bar.specs.declared.windows.OpenGreen.{OpenGreen}
use Rattle.stop_bar.specs.Windows.{AreServicesOf, IsOpened}
use Rattle.std.specs.Option.{option_map_or}

-- For contracts alone: the tenth of the row, or this one where it hasn't come.
abbrev pub tenth_or : ℕ → Option Row → ℕ
tenth_or t row = option_map_or (λ x. x.at) row t

-- the service of phase p that ends with row r, after the rows before tenth t and those from it on, was open at t, with the end of its green where that had come
abbrev pub ServicesGoOn : Type 0
ServicesGoOn = (known : ℕ → Bool) (p t : ℕ) (before front : List Row) (r : Row) (later : List Row) (s : Service) → All (λ z. z.at < t) before → All (λ z. t ≤ z.at) front → t ≤ r.at → service_at known p (before ++ front) r later ≡ Some s → s.b < t → (o : ServiceBegun) × (service_begun_of known t p before ≡ Some o) × (o.b.at ≡ s.b) × (tenth_or t o.g ≡ min s.g t)

-- what crosses tenth t is the green of the service that is open there, where one is: from its begin up to its end, or to t where that hasn't come
abbrev pub IsGreenAt : ℕ → Option ServiceBegun → Option OpenGreen → Type 0
IsGreenAt t None None = Unit {0}
IsGreenAt t (Some o) (Some g) = (g.b ≡ o.b.at) × (g.to ≡ option_map_or (λ x. x.at) o.g t)
IsGreenAt t _ _ = ⊥

-- For contracts alone: the services of phase p.
abbrev pub of_phase : ℕ → List Service → List Service
of_phase p ss = filter (λ s. s.phase == p) ss

-- the green of each ends after its begin, and not after its end of yellow
abbrev pub AreInOrder : List Service → Type 0
AreInOrder [] = Unit {0}
AreInOrder (s ∷ ss) = ((s.b ≤ s.g) × (s.g ≤ s.r)) × AreInOrder ss

-- these are the known rows of a log before an hour, and the hour's rows
abbrev pub AreRowsAbout : ℕ → List Row → List Row → Type 0
AreRowsAbout hour before rows = AreOrdered 0 (first_tenth hour) before × AreOrdered (first_tenth hour) (end_tenth hour) rows

-- an hour's services of a phase, as service_cut lists them, are such as `windows_hour` counts for
abbrev pub ServicesFit : Type 0
ServicesFit = (known : ℕ → Bool) (phases : List PhaseItem) (p hour : ℕ) (before rows : List Row) (begun : Option OpenGreen) → AreRowsAbout hour before rows → IsGreenAt (first_tenth hour) (service_begun_of known (first_tenth hour) p before) begun → AreServicesOf (first_tenth hour) (end_tenth hour) begun (of_phase p (services_from known phases before (known_rows known rows))) × AreInOrder (of_phase p (services_from known phases before (known_rows known rows)))

-- a green from b, which has come to tenth `to` at the hour's end, is such as `open_after` goes on with
abbrev pub CanGoOn : ℕ → ℕ → Option OpenGreen → ℕ → ℕ → Type 0
CanGoOn first end begun b to = (b ≤ to) × (to ≤ end) × (b < first → IsOpened first b to begun)

-- the service that is open at an hour's end, as service_cut has it, does so
abbrev pub OpensFit : Type 0
OpensFit = (known : ℕ → Bool) (p hour : ℕ) (before rows : List Row) (begun : Option OpenGreen) (o : ServiceBegun) → AreRowsAbout hour before rows → IsGreenAt (first_tenth hour) (service_begun_of known (first_tenth hour) p before) begun → service_begun_of known (end_tenth hour) p (before ++ known_rows known rows) ≡ Some o → CanGoOn (first_tenth hour) (end_tenth hour) begun o.b.at (tenth_or (end_tenth hour) o.g)
