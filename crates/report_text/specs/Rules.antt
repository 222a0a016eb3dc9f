-- The names of audit rules.
use Rattle.std.specs.Prelude.{◌++◌, ℕ, List, [], ◌∷◌, codes, decimal, Option, slice_get, unwrap_or}
use Rattle.std.specs.Option.{option_map_or}
use Rattle.event_codes.specs.declared.channels.Channel.{Channel}
use Rattle.event_codes.specs.declared.channels.Kind.{Kind}
use Rattle.event_codes.specs.declared.channels.Kind.TheVariants.{Phase, Ped, Overlap, Detector, PedDetector, PreemptInput, PreemptService, Coordination}
use Rattle.reach.specs.declared.seen.AgeBound.{AgeBound}
use Rattle.reach.specs.declared.seen.AgeBound.TheVariants.{Any, AtLeast, AtMost}
use Rattle.channel_tables.specs.declared.spec.Spec.{Spec}
use Rattle.channel_tables.specs.Tables.{table_of}
use Rattle.ring_config.specs.declared.items.IntervalItem.{IntervalItem}
use Rattle.report_text.specs.Line.{num}
use Rattle.rule_audit.specs.declared.rules.Rule.{Rule}
use Rattle.rule_audit.specs.declared.rules.Rule.TheVariants.{Interval, Conflict, Companion, Parents}

-- these parts, one after the other
abbrev pub joined : List (List ℕ) → List ℕ
joined [] = []
joined (p ∷ ps) = p ++ joined ps

-- what a kind of channel is called
abbrev pub kind_text : Kind → List ℕ
kind_text Phase = codes "phase"
kind_text Ped = codes "ped"
kind_text Overlap = codes "overlap"
kind_text PreemptService = codes "preempt"
kind_text Detector = codes "detector"
kind_text PedDetector = codes "ped detector"
kind_text PreemptInput = codes "preempt input"
kind_text Coordination = codes "coordination"

-- the name of a colour of a kind of channel, where it has the colour
abbrev pub colour_text : Kind → ℕ → List ℕ
colour_text kind colour = unwrap_or (slice_get (table_of kind).names colour) []

-- the bound of a rule on durations, in tenths
abbrev pub bound_text : AgeBound → List ℕ
bound_text Any = []
bound_text (AtLeast n) = joined (num " at least " n ∷ [])
bound_text (AtMost n) = joined (num " at most " n ∷ [])

-- what a rule is called: one on durations by its channel, if that is tracked, its colour and its bound; every other by the numbers of its phases, its pedestrian signal or its overlap
abbrev pub rule_name : List Spec → Rule → List ℕ
rule_name specs (Interval item) =
    option_map_or (λ spec. joined (kind_text spec.channel.kind ∷ num " " spec.channel.number ∷ codes " " ∷ colour_text spec.channel.kind item.colour ∷ []) ++ bound_text item.bound)
    (slice_get specs item.spec) []
rule_name specs (Conflict a b terms) = joined (num "conflict " a ∷ num " " b ∷ [])
rule_name specs (Companion p terms) = joined (num "companion " p ∷ [])
rule_name specs (Parents o terms) = joined (num "parents " o ∷ [])

-- ---- For contracts alone

-- a channel and its colour
abbrev pub coloured_text : Channel → ℕ → List ℕ
coloured_text channel colour = joined (kind_text channel.kind ∷ codes " " ∷ decimal channel.number ∷ codes " " ∷ colour_text channel.kind colour ∷ [])

-- the name of a rule on durations, if its channel is tracked
abbrev pub interval_text : Option Spec → IntervalItem → List ℕ
interval_text o item = option_map_or (λ spec. coloured_text spec.channel item.colour ++ bound_text item.bound) o []
