-- The channels of these kinds are ordered, and letters lead everywhere.
use Rattle.std.proofs.Common.{suc, zero, ◌≡◌, refl, sym, subst, ℕ, List, [], ◌∷◌, arith}
use Rattle.std.specs.Prelude.{slice_index, slice_index_or}
use Rattle.colour_machine.specs.Rules.{IsMachine}
use Rattle.channel_tables.proofs.Machines.{spec_machine}
use Rattle.event_codes.specs.declared.channels.Channel.{Channel}
use Rattle.event_codes.specs.declared.channels.Kind.{Kind}
use Rattle.event_codes.specs.declared.channels.Kind.TheVariants.{Phase, Ped, Overlap, Detector, PedDetector, PreemptInput, PreemptService, Coordination}
use Rattle.channel_tables.specs.declared.spec.Spec.{Spec}
use Rattle.channel_tables.specs.Spec.{HasNoFloor, IsSpec, rules_of}
use Rattle.channel_tables.specs.Table.{table_rules}
use Rattle.channel_tables.specs.Tables.{table_of}
use Rattle.board.specs.Logs.{no_spec}
use Rattle.colour_machine.specs.Rules.{Rules}
use Rattle.detector_state.specs.Free.{IsMixed, IsOrdered, Order}
use Rattle.detector_state.specs.Tables.{fault_order, switch_order}
use Rattle.detector_state.proofs.Tables.{fault_parts, switch_fits}
use Rattle.detector_state.specs.Switches.{IsSwitch, SwitchesAreOrdered, switch_spec}

kind_fits : (kind : Kind) (floors : List ℕ) → IsSwitch kind → ((c : ℕ) → slice_index floors c ≡ 0) → IsMixed (table_rules (table_of kind) floors)
kind_fits Phase floors s none = absurd s
kind_fits Ped floors s none = absurd s
kind_fits Overlap floors s none = absurd s
kind_fits Detector floors s none = (fault_parts floors none).1
kind_fits PedDetector floors s none = (switch_fits (table_rules (table_of PedDetector) floors) refl refl refl refl refl refl none).1
kind_fits PreemptInput floors s none = (switch_fits (table_rules (table_of PreemptInput) floors) refl refl refl refl refl refl none).1
kind_fits PreemptService floors s none = absurd s
kind_fits Coordination floors s none = absurd s

no_floor : (kind : Kind) → IsSwitch kind → HasNoFloor kind
no_floor Phase s = absurd s
no_floor Ped s = absurd s
no_floor Overlap s = absurd s
no_floor Detector s = tt
no_floor PedDetector s = tt
no_floor PreemptInput s = tt
no_floor PreemptService s = absurd s
no_floor Coordination s = absurd s

pub spec_fits : (s : Spec) → IsSwitch s.channel.kind → IsSpec s → IsMixed (rules_of s)
spec_fits s switch fits = kind_fits s.channel.kind s.floors switch (fits.none (no_floor s.channel.kind switch))

AreZero : List ℕ → Type 0
AreZero [] = Unit {0}
AreZero (x ∷ xs) = (x ≡ 0) × AreZero xs

all_zero : (xs : List ℕ) → AreZero xs → (c : ℕ) → slice_index xs c ≡ 0
unfolding AreZero
all_zero [] h zero = refl
all_zero [] h (suc c) = refl
all_zero (x ∷ xs) h zero = h.0
all_zero (x ∷ xs) h (suc c) = all_zero xs h.1 c

zeros : (c : ℕ) → slice_index (0 ∷ 0 ∷ 0 ∷ 0 ∷ 0 ∷ 0 ∷ 0 ∷ 0 ∷ 0 ∷ 0 ∷ 0 ∷ 0 ∷ 0 ∷ 0 ∷ 0 ∷ 0 ∷ []) c ≡ 0
unfolding AreZero
zeros = all_zero (0 ∷ 0 ∷ 0 ∷ 0 ∷ 0 ∷ 0 ∷ 0 ∷ 0 ∷ 0 ∷ 0 ∷ 0 ∷ 0 ∷ 0 ∷ 0 ∷ 0 ∷ 0 ∷ []) ((refl, (refl, (refl, (refl, (refl, (refl, (refl, (refl, (refl, (refl, (refl, (refl, (refl, (refl, (refl, (refl, tt)))))))))))))))))

-- the channel without floors is a spec
pub switch_is_spec : (channel : Channel) → IsSpec (switch_spec channel)
switch_is_spec channel = record { low = λ c. let e = zeros c in omega arith; none = λ _ c. zeros c }

pub switch_machine : (channel : Channel) → IsMachine (rules_of (switch_spec channel))
switch_machine channel = spec_machine (switch_spec channel) (switch_is_spec channel)

abbrev HasOrder : Rules → Type 0
HasOrder m = (o : Order) × IsOrdered m o × (o.on ≡ 1)

kind_ordered : (kind : Kind) (floors : List ℕ) → IsSwitch kind → ((c : ℕ) → slice_index floors c ≡ 0) → HasOrder (table_rules (table_of kind) floors)
kind_ordered Phase floors s none = absurd s
kind_ordered Ped floors s none = absurd s
kind_ordered Overlap floors s none = absurd s
kind_ordered Detector floors s none = (fault_order, (fault_parts floors none).0, refl)
kind_ordered PedDetector floors s none = (switch_order, (switch_fits (table_rules (table_of PedDetector) floors) refl refl refl refl refl refl none).0, refl)
kind_ordered PreemptInput floors s none = (switch_order, (switch_fits (table_rules (table_of PreemptInput) floors) refl refl refl refl refl refl none).0, refl)
kind_ordered PreemptService floors s none = absurd s
kind_ordered Coordination floors s none = absurd s

spec_ordered : (s : Spec) → IsSwitch s.channel.kind → IsSpec s → HasOrder (rules_of s)
spec_ordered s switch fits = kind_ordered s.channel.kind s.floors switch (fits.none (no_floor s.channel.kind switch))

pub switches_are_ordered : SwitchesAreOrdered
switches_are_ordered log i channel is switch =
    let s = slice_index_or log.specs i no_spec in
    let kind : IsSwitch s.channel.kind = subst (λ (c : Channel). IsSwitch c.kind) (sym is.same) switch in
    spec_ordered s kind is.fits
