use Rattle.std.proofs.Common.{◌≡◌, ◌∙◌, ◌+◌, ◌++◌, ℕ, Bool, List, ap, sym, subst}
use Rattle.std.specs.Prelude.{option_copied}
use Rattle.sig_base.specs.declared.values.Row.{Row}
use Rattle.gap_map.specs.declared.stretch.Stretch.{Stretch}
use Rattle.hour_sweep.specs.Rows.{known_rows}
use Rattle.hour_sweep.specs.Hours.{IsHour, point}
use Rattle.service_cut.specs.Cut.{IsCut}
use Rattle.arrival_measures.specs.Crossing.{CarryParts, IsCarry, all_flags, flags_of}
use Rattle.arrival_measures.specs.Steps.{AreGiven, flags_in}
use Rattle.arrival_measures.specs.Results.{IsJudgedBy}
use Rattle.arrival_measures.proofs.Hours.{carry_is, given_of}
use Rattle.arrival_measures.proofs.hour.over_rows.Goals as goal
use Rattle.arrival_measures.proofs.hour.over_rows.Goals.{After-drop-found-3}

told : (c : After-drop-found-3) (known : ℕ → Bool) (before : List Row) (hour : ℕ) → IsCarry known c.args.config.now before hour c.args.carry.now → all_flags c.deref.result.now ≡ flags_of known c.args.config.now (point hour) before
told c known before hour is = ap (λ zs. all_flags zs) c.deref.ensures.value ∙ ap (λ (z : CarryParts). z.flags) c.carry.view_is ∙ is.flags_are

given : (c : After-drop-found-3) (known : ℕ → Bool) (before : List Row) (hour : ℕ) → IsHour known hour c.args.rows.now c.args.stretches.now → IsCarry known c.args.config.now before hour c.args.carry.now → IsCut known c.args.config.now.phases before hour c.args.rows.now c.args.cuts.now → AreGiven known c.args.config.now before c.args.rows.now hour c.in_ok-sources.sources c.deref-3.result.now c.args.cuts.now
given c known before hour h is cut =
    let are = c.in_ok-sources.ensures.sources known before c.args.rows.now hour (c.deref-2.ensures.value ∙ c.in_ok-turns.ensures) h is.ordered (c.in_ok-found.ensures.found known c.args.config.now before hour h is.earlier (told c known before hour is)) in
    given_of known c.args.config.now before c.args.rows.now hour c.in_ok-sources.sources c.args.carry.now c.deref-3.result.now c.args.cuts.now are is (c.deref-3.ensures.value ∙ ap (λ (z : CarryParts). z.crossings) c.carry.view_is) cut

carried : (c : After-drop-found-3) (known : ℕ → Bool) (before : List Row) (hour : ℕ) → IsHour known hour c.args.rows.now c.args.stretches.now → IsCarry known c.args.config.now before hour c.args.carry.now → IsCut known c.args.config.now.phases before hour c.args.rows.now c.args.cuts.now → IsCarry known c.args.config.now (before ++ known_rows known c.args.rows.now) (hour + 1) (record { crossings = c.in_ok-numbers.numbers.crossings.items; flags = all_flags c.put_flags.new.flags.items })
carried c known before hour h is cut =
    let found = c.in_ok-found.found.flags in
    let flags = c.deref.result.now in
    carry_is known c.args.config.now before hour c.args.rows.now c.args.stretches.now c.args.carry.now (record { crossings = c.in_ok-numbers.numbers.crossings.items; flags = all_flags c.put_flags.new.flags.items }) (all_flags (flags_in flags found)) h is
    (c.in_ok-found.ensures.flags known c.args.config.now before hour h is.earlier (told c known before hour is)) (c.in_ok-numbers.ensures.crossings known before c.args.rows.now hour (given c known before hour h is cut))
    (ap (λ zs. all_flags zs) (c.put_flags.ensures ∙ ap (λ zs. flags_in zs found) (sym c.deref.ensures.value)))

pub returns-clause-judged : goal.returns-clause-judged
returns-clause-judged c = λ known before hour log h is cut by.
    let seen = subst (λ (ss : List Stretch). IsJudgedBy c.args.config.now (option_copied c.args.view) known c.args.rows.now ss hour log) (sym c.in_ok-sources.ensures.stretches) by in
    c.in_ok-numbers.ensures.judged known before c.args.rows.now hour log (given c known before hour h is cut) seen

pub returns-clause-cycles : goal.returns-clause-cycles
returns-clause-cycles c = λ known before hour h is cut. c.in_ok-numbers.ensures.cycles known before c.args.rows.now hour (given c known before hour h is cut)

pub returns-clause-carry : goal.returns-clause-carry
returns-clause-carry c = λ known before hour h is cut. carried c known before hour h is cut
