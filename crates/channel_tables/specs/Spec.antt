-- What a channel's machine is by its spec.
use Rattle.std.specs.Prelude.{ℕ, ◌≡◌, slice_index}
use Rattle.event_codes.specs.declared.channels.Kind.{Kind}
use Rattle.event_codes.specs.declared.channels.Kind.TheVariants.{Phase, Ped, Overlap, Detector, PedDetector, PreemptInput, PreemptService, Coordination}
use Rattle.colour_machine.specs.Rules.{Rules}
use Rattle.channel_tables.specs.declared.spec.Spec.{Spec}
use Rattle.channel_tables.specs.Table.{AreFloors, table_rules}
use Rattle.channel_tables.specs.Tables.{table_of}

-- no floor may be set for a channel of this kind
abbrev pub HasNoFloor : Kind → Type 0
HasNoFloor Phase = ⊥
HasNoFloor Ped = ⊥
HasNoFloor Overlap = ⊥
HasNoFloor Detector = Unit {0}
HasNoFloor PedDetector = Unit {0}
HasNoFloor PreemptInput = Unit {0}
HasNoFloor PreemptService = ⊥
HasNoFloor Coordination = Unit {0}

-- the floors are at most an hour, and 0 where none may be set
pub record IsSpec (s : Spec) : Type 0 where
  pub low : AreFloors s.floors
  pub none : HasNoFloor s.channel.kind → (c : ℕ) → slice_index s.floors c ≡ 0

-- the machine of a channel: the table of its kind, with the floors of the spec
abbrev pub rules_of : Spec → Rules
rules_of s = table_rules (table_of s.channel.kind) s.floors
