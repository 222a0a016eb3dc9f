-- What each row and each gap makes of a part.
use Rattle.std.specs.Prelude.{ℕ, nat_le, Bool, false, if◌then◌else◌, List, [], ◌∷◌, Option, Some, None, is_some, replicate, slice_index_or, slice_set}
use Rattle.std.specs.List.{cons_option}
use Rattle.std.specs.Option.{option_or}
use Rattle.sig_base.specs.declared.values.Row.{Row}
use Rattle.sig_base.specs.declared.values.PhaseItem.{PhaseItem}
use Rattle.sig_base.specs.Numbers.{has_phase}
use Rattle.service_cut.specs.declared.items.Service.{Service}
use Rattle.service_cut.specs.declared.items.Served.{Served}
use Rattle.service_cut.specs.declared.items.Cycle.{Cycle}
use Rattle.service_cut.specs.declared.services.ServiceBegun.{ServiceBegun}
use Rattle.service_cut.specs.declared.cycles.CycleBegun.{CycleBegun}
use Rattle.service_cut.specs.declared.parts.Part.{Part}
use Rattle.service_cut.specs.declared.parts.Told.{Told}
use Rattle.service_cut.specs.declared.parts.Told.TheVariants.{Ends, Says}
use Rattle.service_cut.specs.declared.services.ServiceOver.{ServiceOver}
use Rattle.service_cut.specs.declared.signs.Sign.{Sign}
use Rattle.service_cut.specs.declared.signs.Sign.TheVariants.{Begin, Change, Yellow, End, Cause, Other}
use Rattle.service_cut.specs.Signs.{sign}
use Rattle.service_cut.specs.Services.{is_within, termination}
use Rattle.service_cut.specs.Cycles.{cycle_of}

abbrev pub first_of : Option Row → Row → Option Row
first_of (Some g) x = Some g
first_of None x = Some x

abbrev pub with_change : Row → Option ServiceBegun → Option ServiceBegun
with_change x None = None
with_change x (Some s) = Some (record s { g = first_of s.g x })

abbrev pub with_yellow : Row → Option ServiceBegun → Option ServiceBegun
with_yellow x None = None
with_yellow x (Some s) = Some (record s { g = first_of s.g x; y = first_of s.y x })

abbrev pub cause_after : Option Row → Row → Option Row → Option Row
cause_after g x c = if is_within g x then Some x else c

abbrev pub with_cause : Row → Option ServiceBegun → Option ServiceBegun
with_cause x None = None
with_cause x (Some s) = Some (record s { cause = cause_after s.g x s.cause })

abbrev pub unless_yellow : Option Row → Option ServiceBegun → Option ServiceBegun
unless_yellow None s = s
unless_yellow (Some y) s = None

abbrev pub without_ended : Option ServiceBegun → Option ServiceBegun
without_ended None = None
without_ended (Some s) = unless_yellow s.y (Some s)

-- the service that isn't over, after a row of this sign
abbrev pub service_after : Sign → Row → Option ServiceBegun → Option ServiceBegun
service_after Begin x s = Some (record { b = x; g = None; y = None; cause = None })
service_after Change x s = with_change x s
service_after Yellow x s = with_yellow x s
service_after End x s = without_ended s
service_after Cause x s = with_cause x s
service_after Other x s = s

abbrev pub yellow_after : Sign → Row → Option Row → Option Row
yellow_after Yellow x y = Some x
yellow_after End x y = None
yellow_after _ x y = y

abbrev pub is_yellow_over : Sign → Option Row → Bool
is_yellow_over End y = is_some y
is_yellow_over _ y = false

abbrev pub with_green : Row → Option CycleBegun → Option CycleBegun
with_green x None = None
with_green x (Some s) = Some (record s { green = Some x })

abbrev pub with_last_yellow : Row → Option CycleBegun → Option CycleBegun
with_last_yellow x None = None
with_last_yellow x (Some s) = Some (record s { yellow = Some x })

abbrev pub cycle_renewed : Option Row → Row → Option CycleBegun → Option CycleBegun
cycle_renewed None x s = s
cycle_renewed (Some y) x s = Some (record { from = x; green = None; yellow = None })

abbrev pub cycle_after : Sign → Row → Option Row → Option CycleBegun → Option CycleBegun
cycle_after Begin x y s = with_green x s
cycle_after Yellow x y s = with_last_yellow x s
cycle_after End x y s = cycle_renewed y x s
cycle_after _ x y s = s

abbrev pub part_after : Row → Part → Part
part_after x a =
    let s = sign a.phase x in
    record a { service = service_after s x a.service; yellow = yellow_after s x a.yellow; cycle = cycle_after s x a.yellow a.cycle }

abbrev pub part_cleared : Part → Part
part_cleared a = record a { service = None; yellow = None; cycle = None }

-- what a service has where its end of yellow has come
abbrev pub service_whole : ℕ → ServiceBegun → Row → Option Row → Option Row → Option ServiceOver
service_whole p s r (Some g) (Some y) = Some (record { served = record { phase = p; b = s.b; g = g; y = y; r = r }; cause = s.cause })
service_whole p s r _ _ = None

abbrev pub service_over : ℕ → Option ServiceBegun → Row → Option ServiceOver
service_over p None r = None
service_over p (Some s) r = service_whole p s r s.g s.y

abbrev pub cycle_over_in : ℕ → Option Row → Option CycleBegun → Row → Option Cycle
cycle_over_in p None s r = None
cycle_over_in p (Some y) s r = cycle_of p s r

abbrev pub cycle_over : Row → Part → Option Cycle
cycle_over x a = cycle_over_in a.phase a.yellow a.cycle x

abbrev pub ends_with : Option ServiceOver → Option Cycle → Option Told
ends_with None None = None
ends_with s c = Some (Ends (record { service = s; cycle = c }))

abbrev pub told_by_sign : Sign → Row → Part → Option Told
told_by_sign Cause x a = Some (Says x)
told_by_sign End x a = ends_with (service_over a.phase a.service x) (cycle_over x a)
told_by_sign _ x a = None

-- what the row tells of its phase
abbrev pub told_by : Row → Part → Option Told
told_by x a = told_by_sign (sign a.phase x) x a

abbrev pub cycle_told : Told → Option Cycle
cycle_told (Ends e) = e.cycle
cycle_told (Says x) = None

abbrev pub over_served : Option ServiceOver → Option Served
over_served None = None
over_served (Some s) = Some s.served

abbrev pub served_told : Told → Option Served
served_told (Ends e) = over_served e.service
served_told (Says x) = None

-- of a row and one that was found after it, the one at the row's tenth that stands last
abbrev pub kept : Row → Option Row → Row
kept x None = x
kept x (Some z) = if nat_le z.at x.at then z else x

-- the row, where it isn't later than tenth g
abbrev pub within : ℕ → Option Row → Option Row
within g None = None
within g (Some z) = if nat_le z.at g then Some z else None

-- the service, where this row of its phase was found after it
abbrev pub closed : ServiceOver → Option Row → Service
closed s late = record { phase = s.served.phase; b = s.served.b.at; g = s.served.g.at; y = s.served.y.at; r = s.served.r.at; end = termination (option_or (within s.served.g.at late) s.cause) }

-- what was found of each phase, with one more row in front
abbrev pub lates_after : Told → List (Option Row) → List (Option Row)
lates_after (Ends e) ls = ls
lates_after (Says x) ls = slice_set ls x.param (Some (kept x (slice_index_or ls x.param None)))

unfoldable pub lates : ℕ → List Told → List (Option Row)
lates n [] = replicate n None
lates n (o ∷ os) = lates_after o (lates n os)

abbrev pub service_closed : List (Option Row) → Option ServiceOver → Option Service
service_closed ls None = None
service_closed ls (Some s) = Some (closed s (slice_index_or ls s.served.phase None))

abbrev pub service_told : List (Option Row) → Told → Option Service
service_told ls (Ends e) = service_closed ls e.service
service_told ls (Says x) = None

-- the services that the rows end, each closed by what was found after it
unfoldable pub services_told : ℕ → List Told → List Service
services_told n [] = []
services_told n (o ∷ os) = cons_option (service_told (lates n os) o) (services_told n os)

-- the part of a number before any row
abbrev pub no_part : List PhaseItem → ℕ → Option Part
no_part phases p = if has_phase phases p then Some (record { phase = p; service = None; yellow = None; cycle = None }) else None
