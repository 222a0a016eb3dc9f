-- The machine of each spec keeps the laws of a machine.
use Rattle.std.proofs.Common.{◌≡◌, refl, true}
use Rattle.event_codes.specs.declared.channels.Kind.{Kind}
use Rattle.event_codes.specs.declared.channels.Kind.TheVariants.{Phase, Ped, Overlap, Detector, PedDetector, PreemptInput, PreemptService, Coordination}
use Rattle.colour_machine.specs.Rules.{IsMachine}
use Rattle.channel_tables.specs.declared.spec.Spec.{Spec}
use Rattle.channel_tables.specs.Table.{table_fits}
use Rattle.channel_tables.specs.Tables.{table_of}
use Rattle.channel_tables.specs.Laws.{table_laws}
use Rattle.channel_tables.specs.Spec.{IsSpec, rules_of}

pub kind_fits : (kind : Kind) → table_fits (table_of kind) ≡ true
kind_fits Phase = refl
kind_fits Ped = refl
kind_fits Overlap = refl
kind_fits Detector = refl
kind_fits PedDetector = refl
kind_fits PreemptInput = refl
kind_fits PreemptService = refl
kind_fits Coordination = refl

pub spec_machine : (s : Spec) → IsSpec s → IsMachine (rules_of s)
spec_machine s h = table_laws (table_of s.channel.kind) s.floors (kind_fits s.channel.kind) h.low
