use Rattle.std.proofs.Common.{◌∙◌, ◌+◌, [], length, refl, ap, subst, arith}
use Rattle.std.specs.List.{filter}
use Rattle.board.specs.Logs.{first_tenth}
use Rattle.hour_store.specs.Store.{is_known}
use Rattle.hour_sweep.specs.Hours.{AreOrdered, point}
use Rattle.service_cut.specs.Cut.{cycle_is_in, cycles_from, service_is_in, services_from}
use Rattle.service_cut.proofs.HourLists.{cycles_add, cycles_count, services_add, services_count}
use Rattle.other_measures.specs.Hours.{delays_from, events_from}
use Rattle.other_measures.proofs.Hours.{delays_add, events_add}
use Rattle.arrival_measures.specs.Points.{points_from}
use Rattle.hour_work.specs.Rows.{earlier_rows, own_rows}
use Rattle.hour_work.proofs.ArrivalLaws.{points_add}
use Rattle.hour_work.proofs.WholeLog.{all_rows, earlier_ordered, hour_within, over_log, own_ordered}
use Rattle.hour_work.proofs.laws.hours_make_up_the_log.Goals as goal

pub returns-clause-services : goal.returns-clause-services
returns-clause-services f c s is = over_log (services_from (is_known s) c.phases) s is refl (services_add (is_known s) c.phases)

pub returns-clause-cycles : goal.returns-clause-cycles
returns-clause-cycles f c s is = over_log (cycles_from (is_known s) c.phases) s is refl (cycles_add (is_known s) c.phases)

pub returns-clause-delays : goal.returns-clause-delays
returns-clause-delays f c s is = over_log (delays_from (is_known s) c) s is refl (delays_add (is_known s) c)

pub returns-clause-events : goal.returns-clause-events
returns-clause-events f c s is = over_log (events_from (is_known s) c) s is refl (events_add (is_known s) c)

pub returns-clause-points : goal.returns-clause-points
returns-clause-points f c s p is = over_log (points_from (is_known s) c p) s is refl (λ t b before rows first rest. points_add (is_known s) c p before rows)

pub returns-clause-ordered : goal.returns-clause-ordered
returns-clause-ordered f s is = subst (λ rs. AreOrdered 0 (first_tenth (length s.hours)) rs) (all_rows s) (earlier_ordered s (length s.hours) is (omega arith))

pub returns-clause-own_services : goal.returns-clause-own_services
returns-clause-own_services f c s hour is lt =
    let w = hour_within s hour is lt in
    ap (λ rs. filter (service_is_in (first_tenth hour) (first_tenth (hour + 1))) (services_from (is_known s) c.phases [] rs)) w.parts
    ∙ services_count (is_known s) c.phases (point hour) (point (hour + 1)) (point (length s.hours)) (earlier_rows s hour) (own_rows s hour) w.later (earlier_ordered s hour is (omega arith)) (own_ordered s hour is) w.order

pub returns-clause-own_cycles : goal.returns-clause-own_cycles
returns-clause-own_cycles f c s hour is lt =
    let w = hour_within s hour is lt in
    ap (λ rs. filter (cycle_is_in (first_tenth hour) (first_tenth (hour + 1))) (cycles_from (is_known s) c.phases [] rs)) w.parts
    ∙ cycles_count (is_known s) c.phases (point hour) (point (hour + 1)) (point (length s.hours)) (earlier_rows s hour) (own_rows s hour) w.later (earlier_ordered s hour is (omega arith)) (own_ordered s hour is) w.order
