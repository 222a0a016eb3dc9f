-- An hour has one list of sums.
use Rattle.std.proofs.Common.{◌≡◌, refl, ap, sym, ◌∙◌, subst, ℕ, Option, Some, None, List, [], ◌∷◌, ◌++◌}
use Rattle.sig_base.specs.declared.values.Frac.{Frac}
use Rattle.sig_base.specs.declared.values.Row.{Row}
use Rattle.signal_log.specs.Log.{HasHistory, Log}
use Rattle.service_cut.specs.declared.items.Service.{Service}
use Rattle.ring_config.specs.Settings.{Settings}
use Rattle.ring_config.specs.declared.items.Approach.{Approach}
use Rattle.stop_bar.specs.declared.bars.StopBar.{StopBar}
use Rattle.stop_bar.specs.Lists.{Each}
use Rattle.stop_bar.specs.All.{bar_with}
use Rattle.split_measures.specs.declared.failures.SplitSum.{SplitSum}
use Rattle.split_measures.specs.declared.verdict.SplitVerdict.{SplitVerdict}
use Rattle.split_measures.specs.declared.verdict.SplitVerdict.TheVariants.{Fail, Pass, Undecided, Open, Fault}
use Rattle.split_measures.specs.Failures.{split_sum_of}
use Rattle.split_measures.specs.Hours.{IsApproachSum, IsSplitSum, SplitSumsAreOne, open_in, opens_of}
use Rattle.split_measures.specs.Verdicts.{IsVerdict}

module _ (log : Log) (has : HasHistory log) where
  one_verdict : (i : ℕ) (high : Frac) (s : Service) (v w : SplitVerdict) → IsVerdict log i high s v → IsVerdict log i high s w → v ≡ w
  one_verdict i high s Fail Fail x y = refl
  one_verdict i high s Fail Pass x y = let (h, a) = has in absurd (y.1 h a (x.1 h a))
  one_verdict i high s Fail Undecided x y = let (h, a, never) = y.1.1 in absurd (never (x.1 h a))
  one_verdict i high s Fail Open x y = absurd y
  one_verdict i high s Fail Fault x y = absurd (x.0 y)
  one_verdict i high s Pass Fail x y = let (h, a) = has in absurd (x.1 h a (y.1 h a))
  one_verdict i high s Pass Pass x y = refl
  one_verdict i high s Pass Undecided x y = let (h, a, fails) = y.1.0 in absurd (x.1 h a fails)
  one_verdict i high s Pass Open x y = absurd y
  one_verdict i high s Pass Fault x y = absurd (x.0 y)
  one_verdict i high s Undecided Fail x y = let (h, a, never) = x.1.1 in absurd (never (y.1 h a))
  one_verdict i high s Undecided Pass x y = let (h, a, fails) = x.1.0 in absurd (y.1 h a fails)
  one_verdict i high s Undecided Undecided x y = refl
  one_verdict i high s Undecided Open x y = absurd y
  one_verdict i high s Undecided Fault x y = absurd (x.0 y)
  one_verdict i high s Open w x y = absurd x
  one_verdict i high s Fault Fail x y = absurd (y.0 x)
  one_verdict i high s Fault Pass x y = absurd (y.0 x)
  one_verdict i high s Fault Undecided x y = absurd (y.0 x)
  one_verdict i high s Fault Open x y = absurd y
  one_verdict i high s Fault Fault x y = refl

  verdicts_one : (i : ℕ) (high : Frac) (ss : List Service) (vs ws : List SplitVerdict) → Each (λ s v. IsVerdict log i high s v) ss vs → Each (λ s v. IsVerdict log i high s v) ss ws → vs ≡ ws
  verdicts_one i high [] [] [] x y = refl
  verdicts_one i high [] [] (w ∷ ws) x y = absurd y
  verdicts_one i high [] (v ∷ vs) ws x y = absurd x
  verdicts_one i high (s ∷ ss) [] ws x y = absurd x
  verdicts_one i high (s ∷ ss) (v ∷ vs) [] x y = absurd y
  verdicts_one i high (s ∷ ss) (v ∷ vs) (w ∷ ws) x y =
      let here = one_verdict i high s v w x.0 y.0 in
      let rest = verdicts_one i high ss vs ws x.1 y.1 in
      cc

  module _ (c : Settings) (hour : ℕ) (upto : List Row) where
    bar_one : (i : ℕ) (b : StopBar) (s t : SplitSum) → IsSplitSum log c i b hour upto s → IsSplitSum log c i b hour upto t → s ≡ t
    bar_one i b s t x y =
        let e = verdicts_one i b.high _ x.verdicts y.verdicts x.each y.each in
        x.sums ∙ (ap (λ (vs : List SplitVerdict). split_sum_of (vs ++ opens_of (open_in c.window.hours hour _))) e ∙ sym y.sums)

    place_one : (i j : ℕ) (o : Option ℕ) → o ≡ Some i → o ≡ Some j → i ≡ j
    place_one i j o e f = cc

    approach_one : (o : Option StopBar) (s t : SplitSum) → IsApproachSum log c hour upto s o → IsApproachSum log c hour upto t o → s ≡ t
    approach_one None s t x y = x ∙ sym y
    approach_one (Some b) s t (i, pi, x) (j, pj, y) =
        let same : i ≡ j = place_one i j _ pi pj in
        bar_one i b s t x (subst (λ (k : ℕ). IsSplitSum log c k b hour upto t) (sym same) y)

    all_one : (all : List Approach) (ss ts : List SplitSum) → Each (λ a s. IsApproachSum log c hour upto s (bar_with a a.stop_bar)) all ss → Each (λ a s. IsApproachSum log c hour upto s (bar_with a a.stop_bar)) all ts → ss ≡ ts
    all_one [] [] [] x y = refl
    all_one [] [] (t ∷ ts) x y = absurd y
    all_one [] (s ∷ ss) ts x y = absurd x
    all_one (a ∷ more) [] ts x y = absurd x
    all_one (a ∷ more) (s ∷ ss) [] x y = absurd y
    all_one (a ∷ more) (s ∷ ss) (t ∷ ts) x y =
        let here = approach_one (bar_with a a.stop_bar) s t x.0 y.0 in
        let rest = all_one more ss ts x.1 y.1 in
        cc

pub sums_are_one : SplitSumsAreOne
sums_are_one log c hour upto a b has x y = all_one log has c hour upto c.approaches a b x y
