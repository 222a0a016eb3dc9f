-- The hour's lists and the next point's carry.
use Rattle.std.proofs.Common.{◌≡◌, ℕ, ◌+◌, ◌<◌, ◌≤◌, Bool, true, false, cond, Some, None, List, [], ◌∷◌, ◌++◌, Option, refl, ap, ap₂, ◌∙◌, arith, length}
use Rattle.std.specs.Prelude.{filter_map, filter, map, option_map}
use Rattle.std.specs.List.{cons_option}
use Rattle.std.proofs.lemmas.List.FromFn.{length-map-range_with_len}
use Rattle.std.proofs.lemmas.List.Elements.{All-nil, All-append, All-weaker, All-filter}
use Rattle.sig_base.specs.declared.values.Row.{Row}
use Rattle.sig_base.specs.declared.values.PhaseItem.{PhaseItem}
use Rattle.sig_base.specs.Numbers.{has_phase}
use Rattle.sig_base.proofs.Common.{some_same}
use Rattle.gap_map.specs.declared.stretch.Stretch.{Stretch}
use Rattle.hour_sweep.specs.Rows.{known_rows}
use Rattle.hour_sweep.specs.Hours.{AreOrdered, IsHour, point}
use Rattle.hour_sweep.specs.Passes.{swept}
use Rattle.hour_sweep.specs.Numbers.{given, outs_from, Tracking, tracking_after, tracking_cleared, numbered, IsTracked}
use Rattle.hour_sweep.proofs.Orders.{rise_ordered, below_end, filter_ordered}
use Rattle.hour_sweep.proofs.Laws.{hour_tracked}
use Rattle.hour_sweep.proofs.Counted.{outs_from-part, outs_from-append, hour_part, IsCutOff, HasTenth, IsGivenAt}
use Rattle.hour_sweep.proofs.Common.{next_point}
use Rattle.service_cut.specs.declared.items.Service.{Service}
use Rattle.service_cut.specs.declared.items.Served.{Served}
use Rattle.service_cut.specs.declared.items.Cycle.{Cycle}
use Rattle.service_cut.specs.declared.services.ServiceBegun.{ServiceBegun}
use Rattle.service_cut.specs.declared.cycles.CycleBegun.{CycleBegun}
use Rattle.service_cut.specs.declared.parts.Part.{Part}
use Rattle.service_cut.specs.declared.parts.Told.{Told}
use Rattle.service_cut.specs.Signs.{sign, is_end}
use Rattle.service_cut.specs.Services.{service_of, whole_service, service_begun_of, service_at, served_of, whole_served, served_at}
use Rattle.service_cut.specs.Cycles.{cycle_of, cycle_begun_of, is_yellow_end, cycle_at}
use Rattle.service_cut.specs.Parts.{room, part_of, parts_of, IsCarry, open_service, open_cycle}
use Rattle.service_cut.specs.Cut.{services_from, served_from, cycles_from, service_is_in, cycle_is_in, service_tenths, served_tenths, CutLists, IsCut}
use Rattle.service_cut.specs.Steps.{part_after, part_cleared, told_by, cycle_told, served_told, services_told}
use Rattle.service_cut.proofs.Push.{service_at-append}
use Rattle.service_cut.proofs.Rooms.{has_room}
use Rattle.service_cut.proofs.PartLaws.{told_at, part_tracks}
use Rattle.service_cut.proofs.ToldRows.{services_are, served_now, cycle_now}

-- the pass over an hour, for all phases
pub tracked : (known : ℕ → Bool) (phases : List PhaseItem) (before : List Row) (hour : ℕ) (rows : List Row) (ss : List Stretch) (carry : List (Option Part)) (end : Tracking Part Told) → end ≡ swept (tracking_after part_after told_by) (tracking_cleared part_cleared) ss rows (record { parts = carry; outs = [] }) → IsHour known hour rows ss → IsCarry known phases before hour carry → IsTracked known (part_of known) (told_at known) (has_phase phases) (room phases) before rows (point hour + 36000) end.outs end.parts
tracked known phases before hour rows ss carry end e h c =
    let or = rise_ordered (point hour) (point hour + 36000) rows (omega arith) h.are_rows.rise in
    hour_tracked known (part_of known) part_after part_cleared (told_at known) told_by (part_tracks known) (has_phase phases) (room phases) (has_room phases) before (point hour) (point hour + 36000) rows ss carry end e h.are_stretches or c.earlier c.parts_are

pub lists_are : (known : ℕ → Bool) (phases : List PhaseItem) (before : List Row) (hour : ℕ) (rows : List Row) (ss : List Stretch) (carry : List (Option Part)) (end : Tracking Part Told) (cuts : CutLists) → end ≡ swept (tracking_after part_after told_by) (tracking_cleared part_cleared) ss rows (record { parts = carry; outs = [] })
    → cuts ≡ record { services = services_told (length end.parts) end.outs; served = filter_map served_told end.outs; cycles = filter_map cycle_told end.outs; open_services = filter_map open_service end.parts; open_cycles = filter_map open_cycle end.parts }
    → IsHour known hour rows ss → IsCarry known phases before hour carry → IsCut known phases before hour rows cuts
lists_are known phases before hour rows ss carry end cuts e l h c =
    let t = tracked known phases before hour rows ss carry end e h c in
    let seen = known_rows known rows in
    let parts : end.parts ≡ parts_of known (point (hour + 1)) phases (before ++ seen) = t.parts_are ∙ ap (λ u. parts_of known u phases (before ++ seen)) (next_point hour) in
    let or = rise_ordered (point hour) (point hour + 36000) rows (omega arith) h.are_rows.rise in
    let count : length end.parts ≡ room phases = ap (λ ps. length ps) parts ∙ length-map-range_with_len (numbered (has_phase phases) (part_of known (point (hour + 1)) (before ++ seen))) 0 (room phases) in
    rw l (record {
      services_are = ap₂ (λ k os. services_told k os) count t.outs_are ∙ services_are known (has_phase phases) (room phases) (has_room phases) (point hour) (point hour + 36000) before seen (filter_ordered known (point hour) (point hour + 36000) (point hour) rows (omega arith) or) (All-weaker (λ (x : Row). x.at < point hour) (λ x. x.at ≤ point hour) (λ x l. omega arith) before c.earlier);
      served_are = ap (λ os. filter_map served_told os) t.outs_are ∙ outs_from-part served_told (told_at known) (λ p earlier x rest. served_at known p earlier x) (has_phase phases) before seen (λ p earlier x rest. served_now known p earlier x rest);
      cycles_are = ap (λ os. filter_map cycle_told os) t.outs_are ∙ outs_from-part cycle_told (told_at known) (λ p earlier x rest. cycle_at known p earlier x) (has_phase phases) before seen (λ p earlier x rest. cycle_now known p earlier x rest);
      open_services_are = ap (λ ps. filter_map open_service ps) parts;
      open_cycles_are = ap (λ ps. filter_map open_cycle ps) parts;
    })

pub carry_is : (known : ℕ → Bool) (phases : List PhaseItem) (before : List Row) (hour : ℕ) (rows : List Row) (ss : List Stretch) (carry : List (Option Part)) (end : Tracking Part Told) → end ≡ swept (tracking_after part_after told_by) (tracking_cleared part_cleared) ss rows (record { parts = carry; outs = [] }) → IsHour known hour rows ss → IsCarry known phases before hour carry → IsCarry known phases (before ++ known_rows known rows) (hour + 1) end.parts
carry_is known phases before hour rows ss carry end e h c =
    let t = tracked known phases before hour rows ss carry end e h c in
    let seen = known_rows known rows in
    let or = rise_ordered (point hour) (point hour + 36000) rows (omega arith) h.are_rows.rise in
    let lower = All-weaker (λ (x : Row). x.at < point hour) (λ x. x.at < point (hour + 1)) (λ x l. omega arith) before c.earlier in
    let below = All-weaker (λ (x : Row). x.at < point hour + 36000) (λ x. x.at < point (hour + 1)) (λ x l. omega arith) seen (All-filter (λ (x : Row). known x.at) (λ x. x.at < point hour + 36000) rows (below_end (point hour) (point hour + 36000) rows or)) in
    record {
      earlier = All-append (λ (x : Row). x.at < point (hour + 1)) before seen lower below;
      parts_are = t.parts_are ∙ ap (λ u. parts_of known u phases (before ++ seen)) (next_point hour);
    }

-- the same from what the code has

pub lists_by : (known : ℕ → Bool) (phases : List PhaseItem) (before : List Row) (hour : ℕ) (rows : List Row) (ss : List Stretch) (carry start : List (Option Part)) (end : Tracking Part Told) (outs : List Told) (parts : List (Option Part)) (cuts : CutLists) → start ≡ carry → end ≡ swept (tracking_after part_after told_by) (tracking_cleared part_cleared) ss rows (record { parts = start; outs = [] }) → outs ≡ end.outs → parts ≡ end.parts
    → cuts ≡ record { services = services_told (length parts) outs; served = filter_map served_told outs; cycles = filter_map cycle_told outs; open_services = filter_map open_service parts; open_cycles = filter_map open_cycle parts }
    → IsHour known hour rows ss → IsCarry known phases before hour carry → IsCut known phases before hour rows cuts
lists_by known phases before hour rows ss carry start end outs parts cuts s e o p l h c = lists_are known phases before hour rows ss carry end cuts (rw s at e) (rw (o, p) at l) h c

pub carry_by : (known : ℕ → Bool) (phases : List PhaseItem) (before : List Row) (hour : ℕ) (rows : List Row) (ss : List Stretch) (carry start : List (Option Part)) (end : Tracking Part Told) (parts : List (Option Part)) → start ≡ carry → end ≡ swept (tracking_after part_after told_by) (tracking_cleared part_cleared) ss rows (record { parts = start; outs = [] }) → parts ≡ end.parts → IsHour known hour rows ss → IsCarry known phases before hour carry → IsCarry known phases (before ++ known_rows known rows) (hour + 1) parts
carry_by known phases before hour rows ss carry start end parts s e p h c = rw p (carry_is known phases before hour rows ss carry end (rw s at e) h c)

-- what a row ends has the row's tenth

service_given : (p : ℕ) (s : ServiceBegun) (r : Row) (rest : List Row) (g y : Option Row) → IsGivenAt (λ (s : Service). s.r) r.at (service_of p s r rest g y)
service_given p s r rest (Some g) (Some y) = refl
service_given p s r rest (Some g) None = tt
service_given p s r rest None y = tt

whole_given : (p : ℕ) (o : Option ServiceBegun) (r : Row) (rest : List Row) → IsGivenAt (λ (s : Service). s.r) r.at (whole_service p o r rest)
whole_given p None r rest = tt
whole_given p (Some s) r rest = service_given p s r rest s.g s.y

pub service_given_if : (v : Bool) (t : ℕ) (o : Option Service) → IsGivenAt (λ (s : Service). s.r) t o → IsGivenAt (λ (s : Service). s.r) t (cond v o None)
service_given_if true t o h = h
service_given_if false t o h = tt

pub service_tenth : (known : ℕ → Bool) → HasTenth (λ (s : Service). s.r) (service_at known)
unfolding service_at
service_tenth known p before r rest = service_given_if (is_end (sign p r)) r.at (whole_service p (service_begun_of known r.at p before) r rest) (whole_given p (service_begun_of known r.at p before) r rest)

cycle_given : (p : ℕ) (o : Option CycleBegun) (r : Row) → IsGivenAt (λ (c : Cycle). c.to) r.at (cycle_of p o r)
cycle_given p None r = tt
cycle_given p (Some s) r = refl

cycle_given_if : (v : Bool) (t : ℕ) (o : Option Cycle) → IsGivenAt (λ (c : Cycle). c.to) t o → IsGivenAt (λ (c : Cycle). c.to) t (cond v o None)
cycle_given_if true t o h = h
cycle_given_if false t o h = tt

cycle_tenth : (known : ℕ → Bool) → HasTenth (λ (c : Cycle). c.to) (λ p before r rest. cycle_at known p before r)
unfolding cycle_at
cycle_tenth known p before r rest = cycle_given_if (is_yellow_end known p before r) r.at (cycle_of p (cycle_begun_of known r.at p before) r) (cycle_given p (cycle_begun_of known r.at p before) r)

service_cut_off : (known : ℕ → Bool) → IsCutOff (service_at known)
service_cut_off known before x rs ys t b low lt h = service_at-append known x.param before x rs ys t b low h

-- the law of two parts of a log

pub services_add : (known : ℕ → Bool) (phases : List PhaseItem) (t b : ℕ) (before rows : List Row) → AreOrdered 0 t before → AreOrdered t b rows → services_from known phases [] (before ++ rows) ≡ services_from known phases [] before ++ services_from known phases before rows
services_add known phases t b before rows ob or = outs_from-append (service_at known) (has_phase phases) t b [] before rows (service_cut_off known) (All-nil (λ z. z.at < t)) (below_end 0 t before ob) or

pub served_add : (known : ℕ → Bool) (phases : List PhaseItem) (t b : ℕ) (before rows : List Row) → AreOrdered 0 t before → AreOrdered t b rows → served_from known phases [] (before ++ rows) ≡ served_from known phases [] before ++ served_from known phases before rows
served_add known phases t b before rows ob or = outs_from-append (λ p earlier r rest. served_at known p earlier r) (has_phase phases) t b [] before rows (λ earlier x rs ys t b low lt h. refl) (All-nil (λ z. z.at < t)) (below_end 0 t before ob) or

-- the rows that are listed are those of the services

same_tenths : (p : ℕ) (s : ServiceBegun) (r : Row) (rest : List Row) (g y : Option Row) → option_map served_tenths (served_of p s r g y) ≡ option_map service_tenths (service_of p s r rest g y)
same_tenths p s r rest (Some g) (Some y) = refl
same_tenths p s r rest (Some g) None = refl
same_tenths p s r rest None y = refl

same_whole : (p : ℕ) (o : Option ServiceBegun) (r : Row) (rest : List Row) → option_map served_tenths (whole_served p o r) ≡ option_map service_tenths (whole_service p o r rest)
same_whole p None r rest = refl
same_whole p (Some s) r rest = same_tenths p s r rest s.g s.y

same_if : (v : Bool) (o : Option Served) (u : Option Service) → option_map served_tenths o ≡ option_map service_tenths u → option_map served_tenths (cond v o None) ≡ option_map service_tenths (cond v u None)
same_if true o u e = e
same_if false o u e = refl

same_at : (known : ℕ → Bool) (p : ℕ) (before : List Row) (r : Row) (rest : List Row) → option_map served_tenths (served_at known p before r) ≡ option_map service_tenths (service_at known p before r rest)
unfolding served_at service_at
same_at known p before r rest = same_if (is_end (sign p r)) (whole_served p (service_begun_of known r.at p before) r) (whole_service p (service_begun_of known r.at p before) r rest) (same_whole p (service_begun_of known r.at p before) r rest)

same_cons : (o : Option Served) (u : Option Service) (ws : List Served) (ss : List Service) → option_map served_tenths o ≡ option_map service_tenths u → map served_tenths ws ≡ map service_tenths ss → map served_tenths (cons_option o ws) ≡ map service_tenths (cons_option u ss)
same_cons None None ws ss e es = es
same_cons None (Some u) ws ss e es = cc
same_cons (Some o) None ws ss e es = cc
same_cons (Some o) (Some u) ws ss e es = ap₂ (λ t ts. t ∷ ts) (some_same _ _ e) es

same_from : (known : ℕ → Bool) (has : ℕ → Bool) (before rows : List Row) → map served_tenths (outs_from (λ p earlier r rest. served_at known p earlier r) has before rows) ≡ map service_tenths (outs_from (service_at known) has before rows)
same_from known has before [] = refl
same_from known has before (x ∷ xs) =
    same_cons (given (λ p earlier r rest. served_at known p earlier r) has before x xs) (given (service_at known) has before x xs) _ _
    (same_if (has x.param) (served_at known x.param before x) (service_at known x.param before x xs) (same_at known x.param before x xs))
    (same_from known has (before ++ x ∷ []) xs)

pub served_same : (known : ℕ → Bool) (phases : List PhaseItem) (before rows : List Row) → map served_tenths (served_from known phases before rows) ≡ map service_tenths (services_from known phases before rows)
served_same known phases before rows = same_from known (has_phase phases) before rows

pub cycles_add : (known : ℕ → Bool) (phases : List PhaseItem) (t b : ℕ) (before rows : List Row) → AreOrdered 0 t before → AreOrdered t b rows → cycles_from known phases [] (before ++ rows) ≡ cycles_from known phases [] before ++ cycles_from known phases before rows
cycles_add known phases t b before rows ob or = outs_from-append (λ p earlier r rest. cycle_at known p earlier r) (has_phase phases) t b [] before rows (λ earlier x rs ys t b low lt h. refl) (All-nil (λ z. z.at < t)) (below_end 0 t before ob) or

pub services_count : (known : ℕ → Bool) (phases : List PhaseItem) (a b c : ℕ) (before rows later : List Row) → AreOrdered 0 a before → AreOrdered a b rows → AreOrdered b c later → filter (service_is_in a b) (services_from known phases [] (before ++ (rows ++ later))) ≡ services_from known phases before rows
services_count known phases a b c before rows later ob or ol = hour_part (λ (s : Service). s.r) (service_at known) (has_phase phases) a b c before rows later (service_cut_off known) (service_tenth known) ob or ol

pub cycles_count : (known : ℕ → Bool) (phases : List PhaseItem) (a b c : ℕ) (before rows later : List Row) → AreOrdered 0 a before → AreOrdered a b rows → AreOrdered b c later → filter (cycle_is_in a b) (cycles_from known phases [] (before ++ (rows ++ later))) ≡ cycles_from known phases before rows
cycles_count known phases a b c before rows later ob or ol = hour_part (λ (c : Cycle). c.to) (λ p earlier r rest. cycle_at known p earlier r) (has_phase phases) a b c before rows later (λ earlier x rs ys t b low lt h. refl) (cycle_tenth known) ob or ol
