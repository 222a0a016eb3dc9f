-- The audit rules of a configuration, in the order of their numbers.
use Rattle.std.specs.Prelude.{ℕ, ◌-◌, ◌^◌, ◌&&◌, ◌==◌, not, Bool, nat_lt, if◌then◌else◌, List, [], ◌∷◌, ◌++◌, map, filter, flat_map, fold, bit_or, unwrap_or, length}
use Rattle.std.specs.Int.{bit_at}
use Rattle.std.specs.List.{range_with_len}
use Rattle.event_codes.specs.declared.channels.Kind.{Kind}
use Rattle.event_codes.specs.declared.channels.Kind.TheVariants as kinds
use Rattle.channel_tables.specs.declared.spec.Spec.{Spec}
use Rattle.channel_tables.specs.Tables.{table_of}
use Rattle.channel_tables.specs.PhaseTable as phase
use Rattle.channel_tables.specs.PedTable as ped
use Rattle.channel_tables.specs.OverlapTable as overlap
use Rattle.board.specs.declared.clause.Term.{Term}
use Rattle.ring_config.specs.declared.items.OverlapItem.{OverlapItem}
use Rattle.sig_base.specs.Numbers.{has_number, has_phase}
use Rattle.ring_config.specs.Settings.{Settings, in_conflict, spec_place}
use Rattle.rule_audit.specs.declared.rules.Rule.{Rule}
use Rattle.rule_audit.specs.declared.rules.Rule.TheVariants.{Interval, Conflict, Companion, Parents}

-- what f gives for the numbers 1 to 16, one after another
unfoldable pub each_number : {A : Type 0} → (ℕ → List A) → List A
each_number f = flat_map f (range_with_len 1 16)

-- ---- terms

-- a set of colours as a number: bit c for colour c
unfoldable pub colours_of : List ℕ → ℕ
colours_of cs = fold (λ mask c. bit_or mask (2 ^ c)) 0 cs

-- the colours of the machine of a kind of channel, without these
unfoldable pub others : Kind → List ℕ → List ℕ
others kind cs = filter (λ c. not (has_number cs c)) (range_with_len 0 (length (table_of kind).names))

-- the channel is in one of these colours, as a term of a rule; the channels of rules are tracked, so that each has a place
unfoldable pub is_in : List Spec → Kind → ℕ → List ℕ → Term
is_in specs kind n cs = record { spec = unwrap_or (spec_place specs (record { kind = kind; number = n })) 0; colours = colours_of cs }

-- the channel is in none of these colours, as a term of a rule
abbrev pub is_in_none : List Spec → Kind → ℕ → List ℕ → Term
is_in_none specs kind n cs = is_in specs kind n (others kind cs)

-- the colours in which a phase is served: On, Green, Term, Yellow and Clear; not YellowDone, in which no clearance runs
abbrev pub served : List ℕ
served = phase.on ∷ phase.green ∷ phase.term ∷ phase.yellow ∷ phase.clear ∷ []

-- ---- rules

-- the rules that phases a and b aren't both served, where they are configured, a < b, and conflict: by the first phase, and then by the second
abbrev pub conflict_rules : Settings → List Rule
conflict_rules c = each_number (λ a. each_number (λ b.
    if (nat_lt a b && has_phase c.phases a) && (has_phase c.phases b && in_conflict c a b)
    then Conflict a b (is_in_none c.specs kinds.Phase a served ∷ is_in_none c.specs kinds.Phase b served ∷ []) ∷ [] else []))

-- the rules that a pedestrian signal doesn't show walk, or its phase is on or green: by number
abbrev pub companion_rules : Settings → List Rule
companion_rules c = each_number (λ p. if has_number c.peds p
    then Companion p (is_in_none c.specs kinds.Ped p (ped.walk ∷ []) ∷ is_in c.specs kinds.Phase p (phase.on ∷ phase.green ∷ []) ∷ []) ∷ [] else [])

-- that an overlap isn't green, or one of its parents is served
abbrev pub parents_terms : List Spec → OverlapItem → List Term
parents_terms specs o =
    is_in_none specs kinds.Overlap o.number (overlap.green ∷ [])
    ∷ each_number (λ p. if bit_at o.parents (p - 1) == 1 then is_in specs kinds.Phase p served ∷ [] else [])

-- the rules on overlaps and their parents, by the overlap's number
abbrev pub parents_rules : Settings → List Rule
parents_rules c = each_number (λ n. flat_map (λ o. if o.number == n then Parents n (parents_terms c.specs o) ∷ [] else []) c.overlaps)

-- all rules: interval rules in file order, conflicts, companions, parents; the first has number 1
unfoldable pub rules_for : Settings → List Rule
rules_for c = ((map Interval c.intervals ++ conflict_rules c) ++ companion_rules c) ++ parents_rules c

-- ---- For contracts alone: one rule, and its terms

-- phase a isn't served, or phase b isn't
abbrev pub conflict_terms : List Spec → ℕ → ℕ → List Term
conflict_terms specs a b = is_in_none specs kinds.Phase a served ∷ is_in_none specs kinds.Phase b served ∷ []

-- pedestrian signal p doesn't show walk, or its phase is on or green
abbrev pub companion_terms : List Spec → ℕ → List Term
companion_terms specs p = is_in_none specs kinds.Ped p (ped.walk ∷ []) ∷ is_in specs kinds.Phase p (phase.on ∷ phase.green ∷ []) ∷ []

-- phase p is a parent of the overlap
abbrev pub is_parent : OverlapItem → ℕ → Bool
is_parent o p = bit_at o.parents (p - 1) == 1

-- phase p is served, as a term, where it is a parent of the overlap
abbrev pub parent_term : List Spec → OverlapItem → ℕ → List Term
parent_term specs o p = if is_parent o p then is_in specs kinds.Phase p served ∷ [] else []

-- a and b are configured phases, a < b, that conflict
abbrev pub is_conflict : Settings → ℕ → ℕ → Bool
is_conflict c a b = (nat_lt a b && has_phase c.phases a) && (has_phase c.phases b && in_conflict c a b)

-- the rule that phases a and b aren't served together, where they conflict
abbrev pub conflict_rule : Settings → ℕ → ℕ → List Rule
conflict_rule c a b = if is_conflict c a b then Conflict a b (conflict_terms c.specs a b) ∷ [] else []

-- the rule that pedestrian signal p shows walk only while its phase is on or green, where there is one
abbrev pub companion_rule : Settings → ℕ → List Rule
companion_rule c p = if has_number c.peds p then Companion p (companion_terms c.specs p) ∷ [] else []

-- the rule on an overlap and its parents, where the overlap has this number
abbrev pub parents_rule_of : Settings → ℕ → OverlapItem → List Rule
parents_rule_of c n o = if o.number == n then Parents n (parents_terms c.specs o) ∷ [] else []

-- the rule that overlap n is green only while one of its parents is served, where there is one
abbrev pub parents_rule : Settings → ℕ → List Rule
parents_rule c n = flat_map (parents_rule_of c n) c.overlaps
