-- What verdicts by windows mean.
use Rattle.std.proofs.Common.{◌≡◌, sym, ◌∙◌, inl, inr, ◌↔◌, ℕ, ◌<◌, true, false, List, [], ◌∷◌, arith}
use Rattle.std.proofs.lemmas.Bool.{cases_Bool}
use Rattle.sig_base.specs.declared.values.Frac.{Frac}
use Rattle.event_codes.specs.declared.channels.Channel.{Channel}
use Rattle.board.specs.Channels.{AreSpecs}
use Rattle.signal_log.specs.Log.{HasHistory, Log, track_at, window_end}
use Rattle.detector_state.specs.Free.{IsFree}
use Rattle.detector_state.specs.Tells.{AllHave, IsSure}
use Rattle.detector_state.proofs.FreeColours.{colours_tell}
use Rattle.detector_state.specs.Switches.{IsChannelOf, IsSwitch}
use Rattle.detector_state.proofs.Switching.{switches_are_ordered}
use Rattle.stop_bar.specs.declared.windows.Windows.{Windows}
use Rattle.stop_bar.specs.Windows.{AreEnded, IsEnded}
use Rattle.split_measures.specs.Verdicts.{AreInLog, AreVerdicts, HasFault, IsInLog, IsVerdict, VerdictsTell, verdict_by, verdicts_by}
use Rattle.split_measures.proofs.Numbers.{numbers_tell}

module _ (log : Log) (i : ℕ) (channel : Channel) (high : Frac) (are : AreSpecs log.specs) (has : HasHistory log) (own : IsChannelOf log i channel) (switch : IsSwitch channel.kind) where
  free : IsFree (track_at log i).rules
  free = let (o, is, one) = switches_are_ordered log i channel own switch in is.free

  sure_all : (x : ℕ) → x < window_end log → IsSure log i 2 x ↔ AllHave log i 2 x
  sure_all x small = let both = (colours_tell log i 2 x are has own.within small free).1 in (both.1, both.0)

  module _ (w : Windows) (inside : IsInLog log w.service) (told : IsEnded log i w) where
    green_fault : w.green.fault ≡ true → HasFault log i w.service
    green_fault e = let w1 = inside.yellow in let w2 = inside.red in let (x, l, u, p) = told.green.fault.0 e in (x, inl (l, u), (sure_all x (omega arith)).0 p)

    red_fault : w.red.fault ≡ true → HasFault log i w.service
    red_fault e = let w2 = inside.red in let (x, l, u, p) = told.red.fault.0 e in (x, inr (l, u), (sure_all x (omega arith)).0 p)

    no_fault : w.green.fault ≡ false → w.red.fault ≡ false → HasFault log i w.service → ⊥
    no_fault e f (x, here, all) =
        let w1 = inside.yellow in
        let w2 = inside.red in
        elim here [
          | inl (l, u) ↦ (let is = told.green.fault.1 (x, l, u, (sure_all x (omega arith)).1 all) in let bad : true ≡ false = sym is ∙ e in absurd (cc))
          | inr (l, u) ↦ (let is = told.red.fault.1 (x, l, u, (sure_all x (omega arith)).1 all) in let bad : true ≡ false = sym is ∙ f in absurd (cc))
        ]

    one_tells : IsVerdict log i high w.service (verdict_by high w)
    one_tells = elim (cases_Bool w.green.fault) [
      | inl e ↦ rw e (green_fault e)
      | inr e ↦ elim (cases_Bool w.red.fault) [
        | inl f ↦ rw (e, f) (red_fault f)
        | inr f ↦ rw (e, f) (numbers_tell log i channel high w.service w.green.least w.green.greatest w.red.least w.red.greatest are has own switch inside (no_fault e f) (record { green_least = told.green.least; green_greatest = told.green.greatest; red_least = told.red.least; red_greatest = told.red.greatest }))
      ]
    ]

  tell : (ws : List Windows) → AreInLog log ws → AreEnded log i ws → AreVerdicts log i high ws (verdicts_by high ws)
  tell [] inside told = tt
  tell (w ∷ ws) inside told = (one_tells w inside.0 told.0, tell ws inside.1 told.1)

pub verdicts_tell : VerdictsTell
verdicts_tell log i channel high ws are has own switch inside told = tell log i channel high are has own switch ws inside told
