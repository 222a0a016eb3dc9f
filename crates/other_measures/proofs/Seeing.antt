-- Channels that are tracked, and the tenths of states.
use Rattle.std.proofs.Common.{◌≡◌, refl, inl, inr, ℕ, zero, suc, ◌+◌, ◌<◌, true, false, List, Option, Some, None, length, get_or, set, ap, sym, subst, ◌∙◌, arith}
use Rattle.std.specs.Prelude.{is_some}
use Rattle.std.proofs.lemmas.Bool.{cases_eq}
use Rattle.std.proofs.lemmas.List.{get_or-set_same, get_or-set_other}
use Rattle.event_codes.specs.declared.channels.Channel.{Channel}
use Rattle.board.specs.Logs.{HourLog, first_tenth}
use Rattle.ring_config.specs.Settings.{Settings, is_tracked}
use Rattle.detector_state.specs.declared.state_asked.Asked.{Asked}
use Rattle.detector_state.specs.declared.state_asked.Asked.TheVariants.{Colour}
use Rattle.detector_state.specs.States.{IsCount, MeetsAt}
use Rattle.other_measures.specs.declared.states.Seen.{Seen}
use Rattle.other_measures.specs.States.{HasTenths, IsWhatIsSeen, MetBy, coordination}

pub seen_counted : (c : Settings) (s : Seen) (i : ℕ) (asked : Asked) (m n : ℕ) → n ≡ m → (s.from ≡ first_tenth s.view.now.hour → IsCount (MeetsAt s.view.now i asked) s.from 36000 m) → (log : Option HourLog) (first : ℕ) → IsWhatIsSeen c (Some s) log first → IsCount (MetBy log i asked) first 36000 n
seen_counted c s i asked m n same at None first is = absurd is
seen_counted c s i asked m n same at (Some log) first is =
    let here = (rw is.is_view.same at at) (is.from ∙ is.is_first) in
    subst (λ (z : ℕ). IsCount (MeetsAt log i asked) first 36000 z) (sym same) (subst (λ (z : ℕ). IsCount (MeetsAt log i asked) z 36000 m) is.from here)

none_counted : (P : ℕ → Type 0) (a n : ℕ) → ((t : ℕ) → P t → ⊥) → IsCount P a n 0
unfolding IsCount
none_counted P a zero never = refl
none_counted P a (suc n) never = inr (never a, none_counted P (a + 1) n never)

pub unseen_counted : (c : Settings) (i : ℕ) (asked : Asked) (log : Option HourLog) (first : ℕ) → IsWhatIsSeen c None log first → IsCount (MetBy log i asked) first 36000 0
unseen_counted c i asked None first is = none_counted (λ _. ⊥) first 36000 (λ t x. x)
unseen_counted c i asked (Some log) first is = absurd is

-- a channel that is tracked has a place
pub has_place : (c : Settings) (channel : Channel) (o : Option ℕ) → is_tracked c channel ≡ true → is_some o ≡ is_tracked c channel → o ≡ None → ⊥
has_place c channel o t s e = let bad : is_some o ≡ true = s ∙ t in let none : false ≡ true = rw e at bad in cc

pub tenths_more : (At : ℕ → Asked → ℕ → Type 0) (from : ℕ) (c : Settings) (all : List ℕ) (state n : ℕ) → length all ≡ 7 → state < 7 → HasTenths At from c coordination (Colour state) n → ((q : ℕ) → q < state → HasTenths At from c coordination (Colour q) (get_or all q 0)) → (q : ℕ) → q < state + 1 → HasTenths At from c coordination (Colour q) (get_or (set all state n) q 0)
tenths_more At from c all state n len low h below q lt = elim (cases_eq q state) [
  | inl same ↦
      let at : get_or (set all state n) q 0 ≡ n = ap (λ z. get_or (set all state n) z 0) same ∙ get_or-set_same all state n 0 (omega arith) in
      subst (λ (z : ℕ). HasTenths At from c coordination (Colour q) z) (sym at) (subst (λ (z : ℕ). HasTenths At from c coordination (Colour z) n) (sym same) h)
  | inr ne ↦ subst (λ (z : ℕ). HasTenths At from c coordination (Colour q) z) (sym (get_or-set_other all state q n 0 ne)) (below q (omega arith))
]
