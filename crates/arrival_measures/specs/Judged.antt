-- What a phase shows at the ends of tenths, over all states that it may have there.
use Rattle.std.specs.Prelude.{ℕ, suc, ◌≡◌, ◌⊎◌, ◌==◌, ◌||◌, Bool, true, false, List, [], ◌∷◌, Some}
use Rattle.sig_base.specs.declared.values.Row.{Row}
use Rattle.event_codes.specs.declared.channels.Channel.{Channel}
use Rattle.event_codes.specs.declared.channels.Kind.TheVariants.{Phase}
use Rattle.channel_tables.specs.PhaseTable.{clear, clear_done, green, red, yellow_done}
use Rattle.reach.specs.Runs.{State}
use Rattle.ring_config.specs.Settings.{Settings, spec_place}

-- the colour is the phase's green
abbrev pub is_green : ℕ → Bool
is_green c = c == green

-- the colour is Red, YellowDone, Clear or ClearDone; On, in which green hasn't begun, isn't counted as red
abbrev pub is_red : ℕ → Bool
is_red c = c == red || c == yellow_done || c == clear || c == clear_done

-- in each state that may be, the colour passes
abbrev pub AllPass : (ℕ → Bool) → (State → Type 0) → Type 0
AllPass test May = (v : State) → May v → test v.colour ≡ true

-- in none of the states that may be, the colour passes
abbrev pub NonePass : (ℕ → Bool) → (State → Type 0) → Type 0
NonePass test May = (v : State) → May v → test v.colour ≡ false

-- For contracts alone: the colour passes in some of the states that may be and not in others: neither all pass nor none does.
abbrev pub OnlySomePass : (ℕ → Bool) → (State → Type 0) → Type 0
OnlySomePass test May = (AllPass test May → ⊥) × (NonePass test May → ⊥)

-- exactly n of these have the property P
unfoldable pub CountOf : {X : Type 0} → (X → Type 0) → List X → ℕ → Type 0
CountOf P [] n = n ≡ 0
CountOf P (x ∷ xs) n = (P x × ((m : ℕ) × (n ≡ suc m) × CountOf P xs m)) ⊎ ((P x → ⊥) × CountOf P xs n)

-- For contracts alone: the phase with this number, as a channel.
abbrev pub phase_channel : ℕ → Channel
phase_channel p = record { kind = Phase; number = p }

-- the counts of these actuations by what the phase shows at the end of the tenth of each: the colour passes in all states that it may have there, in none, or only in some; May says which states a channel may have at the end of a tenth
pub record AreJudged (May : ℕ → ℕ → State → Type 0) (c : Settings) (p : ℕ) (test : ℕ → Bool) (ons : List Row) (all none some : ℕ) : Type 0 where
  pub place : ℕ
  pub is_place : spec_place c.specs (record { kind = Phase; number = p }) ≡ Some place
  pub all_pass : CountOf (λ x. AllPass test (May place x.at)) ons all
  pub none_pass : CountOf (λ x. NonePass test (May place x.at)) ons none
  pub some_pass : CountOf (λ x. (AllPass test (May place x.at) → ⊥) × (NonePass test (May place x.at) → ⊥)) ons some
