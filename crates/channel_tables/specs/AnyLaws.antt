-- Each machine keeps the laws, by its table.
use Rattle.colour_machine.specs.Rules.{IsMachine}
use Rattle.channel_tables.specs.declared.any.AnyMachine.{AnyMachine}
use Rattle.channel_tables.specs.declared.any.AnyMachine.TheVariants.{Phase, Ped, Overlap, Switch, Detector, Preempt, Coord}
use Rattle.channel_tables.specs.Any.{any_rules}
use Rattle.channel_tables.specs.TableLaws.{phase_laws, ped_laws, overlap_laws, switch_laws, detector_laws, preempt_laws, coordination_laws}

pub any_laws : (m : AnyMachine) → IsMachine (any_rules m)
any_laws (Phase m) = phase_laws m.floors m.low
any_laws (Ped m) = ped_laws m.floors m.low
any_laws (Overlap m) = overlap_laws m.floors m.low
any_laws (Switch m) = switch_laws
any_laws (Detector m) = detector_laws
any_laws (Preempt m) = preempt_laws m.floors m.low
any_laws (Coord m) = coordination_laws
