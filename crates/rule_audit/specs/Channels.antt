-- The channels that a rule names, and the places of its terms among the specs.
use Rattle.std.specs.Prelude.{◌≡◌, ℕ, IsTrue, List, [], ◌∷◌, map, All, Contains, Some, slice_index_or}
use Rattle.event_codes.specs.declared.channels.Channel.{Channel}
use Rattle.event_codes.specs.declared.channels.Kind.{Kind}
use Rattle.event_codes.specs.declared.channels.Kind.TheVariants as kinds
use Rattle.channel_tables.specs.declared.spec.Spec.{Spec}
use Rattle.board.specs.declared.clause.Term.{Term}
use Rattle.board.specs.Logs.{no_spec}
use Rattle.ring_config.specs.declared.items.OverlapItem.{OverlapItem}
use Rattle.ring_config.specs.Settings.{Settings, is_tracked_as, spec_place}
use Rattle.ring_config.specs.Sound.{IsSound}
use Rattle.ring_config.specs.Values.{phases_in}
use Rattle.rule_audit.specs.declared.rules.Rule.{Rule}
use Rattle.rule_audit.specs.declared.rules.Rule.TheVariants.{Interval, Conflict, Companion, Parents}
use Rattle.rule_audit.specs.Rules.{rules_for}

abbrev pub channel_of : Kind → ℕ → Channel
channel_of kind n = record { kind = kind; number = n }

-- the channel of this kind and number has this place among the specs
abbrev pub IsPlace : List Spec → Kind → ℕ → ℕ → Type 0
IsPlace specs kind n i = spec_place specs (channel_of kind n) ≡ Some i

-- the channel of this kind and number is tracked
abbrev pub IsTracked : Settings → Kind → ℕ → Type 0
IsTracked c kind n = IsTrue (is_tracked_as c kind n)

-- ---- the channels of the clauses, in the order of their terms

abbrev pub conflict_channels : ℕ → ℕ → List Channel
conflict_channels a b = channel_of kinds.Phase a ∷ channel_of kinds.Phase b ∷ []

abbrev pub companion_channels : ℕ → List Channel
companion_channels p = channel_of kinds.Ped p ∷ channel_of kinds.Phase p ∷ []

-- the overlap and its parents, ascending
abbrev pub parents_channels : OverlapItem → List Channel
parents_channels o = channel_of kinds.Overlap o.number ∷ map (channel_of kinds.Phase) (phases_in o.parents)

-- the terms are of these channels, one by one: each term has its channel's place among the specs
abbrev pub AreOf : List Spec → List Channel → List Term → Type 0
AreOf specs [] [] = Unit {0}
AreOf specs [] (t ∷ ts) = ⊥
AreOf specs (c ∷ cs) [] = ⊥
AreOf specs (c ∷ cs) (t ∷ ts) = (spec_place specs c ≡ Some t.spec) × AreOf specs cs ts

-- the rule's terms are of the channels that it names; an interval rule is of the channel at its place
abbrev pub IsOfOwn : Settings → Rule → Type 0
IsOfOwn c (Interval item) = spec_place c.specs (slice_index_or c.specs item.spec no_spec).channel ≡ Some item.spec
IsOfOwn c (Conflict a b terms) = AreOf c.specs (conflict_channels a b) terms
IsOfOwn c (Companion p terms) = AreOf c.specs (companion_channels p) terms
IsOfOwn c (Parents n terms) = (o : OverlapItem) × Contains c.overlaps o × (o.number ≡ n) × AreOf c.specs (parents_channels o) terms

-- each rule of a configuration that was accepted is of the channels that it names
abbrev pub AreOfOwn : Type 0
AreOfOwn = (c : Settings) → IsSound c → All (IsOfOwn c) (rules_for c)
