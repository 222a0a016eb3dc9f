-- All stop bars over one hour, bar by bar.
use Rattle.std.proofs.Common.{◌≡◌, ap, sym, ◌∙◌, subst, ℕ, ◌+◌, ◌<◌, true, Some, List, [], ◌∷◌, ◌++◌, length, take, get_or}
use Rattle.std.specs.Prelude.{slice_get}
use Rattle.std.proofs.lemmas.List.{take_more}
use Rattle.sig_base.specs.declared.values.Row.{Row}
use Rattle.sig_base.specs.Numbers.{has_phase}
use Rattle.signal_log.specs.Log.{Log}
use Rattle.hour_sweep.specs.Rows.{known_rows}
use Rattle.service_cut.specs.Cut.{CutLists}
use Rattle.ring_config.specs.Settings.{Settings}
use Rattle.detector_state.specs.declared.part.Part.{Part}
use Rattle.detector_state.specs.Hours.{IsSwitched}
use Rattle.stop_bar.specs.declared.windows.Windows.{Windows}
use Rattle.stop_bar.specs.declared.bars.StopBar.{StopBar}
use Rattle.stop_bar.specs.Crossing.{Crossing}
use Rattle.stop_bar.specs.Bars.{AreOver, IsAtBar, IsBarHour}
use Rattle.stop_bar.specs.Lists.{Each}
use Rattle.stop_bar.specs.All.{AreAtBars, AreTold, IsCutHour, IsPlaceOf, bars_of}
use Rattle.stop_bar.proofs.Places.{each_at, each_more}

-- what is so at each of the first stop bars
pub record AreDone (log : Log) (c : Settings) (hour : ℕ) (upto : List Row) (bars : List StopBar) (ended : List (List Windows)) (after : List Crossing) : Type 0 where
  pub over : Each (λ b ws. (i : ℕ) → IsPlaceOf c b i → AreOver log i c.phases b.phase hour upto ws) bars ended
  pub at : Each (λ b at. (i : ℕ) → IsPlaceOf c b i → IsAtBar log i c.phases b.phase upto (hour + 1) at) bars after

module _ (log : Log) (c : Settings) (hour : ℕ) (before rows : List Row) (cuts : CutLists) (told : List (List Part)) (ats : List Crossing) (is : IsCutHour log c hour before rows cuts) (tells : AreTold log c hour told) (here : AreAtBars log c before hour ats) where
  abbrev upto : List Row
  upto = before ++ known_rows log.known rows

  abbrev all : List StopBar
  all = bars_of c.approaches

  pub one_more : (j : ℕ) (d b : StopBar) → j < length all → get_or all j d ≡ b → has_phase c.phases b.phase ≡ true → (ended new_ended : List (List Windows)) (after new_after : List Crossing) → AreDone log c hour upto (take j all) ended after → (ws : List Windows) (at : Crossing) → ((x : Crossing) (parts : List Part) → slice_get ats j ≡ Some x → slice_get told j ≡ Some parts → IsBarHour b.phase hour x cuts parts ws at) → new_ended ≡ ended ++ ws ∷ [] → new_after ≡ after ++ at ∷ [] → AreDone log c hour upto (take (j + 1) all) new_ended new_after
  one_more j d b lt own has ended new_ended after new_after done ws at gives e f =
      let AtOf : StopBar → Crossing → Type 0 = λ (b : StopBar) (at : Crossing). (i : ℕ) → IsPlaceOf c b i → IsAtBar log i c.phases b.phase before hour at in
      let ToldOf : StopBar → List Part → Type 0 = λ (b : StopBar) (parts : List Part). (i : ℕ) → IsPlaceOf c b i → IsSwitched log i hour parts in
      let OverOf : StopBar → List Windows → Type 0 = λ (b : StopBar) (ws : List Windows). (i : ℕ) → IsPlaceOf c b i → AreOver log i c.phases b.phase hour upto ws in
      let NextOf : StopBar → Crossing → Type 0 = λ (b : StopBar) (at : Crossing). (i : ℕ) → IsPlaceOf c b i → IsAtBar log i c.phases b.phase upto (hour + 1) at in
      let (x, x_is, x_at) = each_at AtOf all ats j d here lt in
      let (parts, parts_is, parts_at) = each_at ToldOf all told j d tells lt in
      let hour_is = gives x parts x_is parts_is in
      let both : (i : ℕ) → IsPlaceOf c b i → AreOver log i c.phases b.phase hour upto ws × IsAtBar log i c.phases b.phase upto (hour + 1) at =
      λ (i : ℕ) (place : IsPlaceOf c b i).
      let place2 = subst (λ (z : StopBar). IsPlaceOf c z i) (sym own) place in
      let at_b = subst (λ (z : StopBar). IsAtBar log i c.phases z.phase before hour x) own (x_at i place2) in
      hour_is log i c.phases before rows has (record { about = is.about; cut = is.cut; told = parts_at i place2 }) at_b in
      let more : take (j + 1) all ≡ take j all ++ b ∷ [] = take_more all j d lt ∙ ap (λ (z : StopBar). take j all ++ z ∷ []) own in
      rw (more, e, f) (record {
        over = each_more OverOf (take j all) ended b ws done.over (λ i place. (both i place).0);
        at = each_more NextOf (take j all) after b at done.at (λ i place. (both i place).1);
      })
