-- Strands that keep an interval rule, and strands that break it.
use Rattle.std.proofs.Common.{◌≡◌, refl, sym, subst, inl, inr, ◌↔◌, ℕ, ℤ, pos, Bool, true, false, List, [], ◌∷◌, get_or}
use Rattle.std.specs.Prelude.{not}
use Rattle.sig_base.specs.declared.values.Row.{Row}
use Rattle.sig_base.specs.declared.values.Verdict.TheVariants.{Undecided}
use Rattle.channel_tables.specs.declared.spec.Spec.{Spec}
use Rattle.colour_machine.specs.Mask.{Has}
use Rattle.reach.specs.Runs.{State}
use Rattle.reach.specs.Tests.{InBound, Meets}
use Rattle.reach.specs.declared.seen.AgeBound.{AgeBound}
use Rattle.reach.specs.declared.seen.Test.{Test}
use Rattle.ring_config.specs.declared.items.IntervalItem.{IntervalItem}
use Rattle.hour_store.specs.Store.{Store}
use Rattle.board.specs.Logs.{no_row, no_spec}
use Rattle.gap_ways.specs.Choices.{Answers}
use Rattle.signal_log.specs.Log.{Log, log_of}
use Rattle.signal_log.specs.States.{MayBeAfter}
use Rattle.rule_audit.specs.declared.lines.AuditLine.{AuditLine}
use Rattle.rule_audit.specs.declared.lines.Place.{Place}
use Rattle.rule_audit.specs.declared.lines.Place.TheVariants.{BeforeRow, EndOfTenth}
use Rattle.rule_audit.specs.declared.rules.Rule.TheVariants.{Interval}
use Rattle.rule_audit.specs.Judged.{IsRuleVerdict, KeepsInterval}
use Rattle.strand_search.specs.Runs.{TellsWithinHour}
use Rattle.filling_pair.specs.declared.asks.Ask.{Ask}
use Rattle.filling_pair.specs.declared.strands.Strand.{Strand}
use Rattle.filling_pair.specs.Asks.{HasAsk, IsAmong, IsOpenRule, LacksReply, MayStand, NoneStands, Replies, ReplyAll, Shows, states_over}
use Rattle.filling_pair.specs.Kept.{IsAsSaid, IsPlaceOf, KeepsAt, StandsAt, line_rows}
use Rattle.signal_log.specs.Rows.{rows_before}
use Rattle.rule_audit.proofs.Judging.{in_or_out}
use Rattle.filling_pair.proofs.Showing.{KeepHere, are_strands, have_few, kept_never, kept_with, stands_once}

module _ (specs : List Spec) (log : Log) (same : log.specs ≡ specs) (rows : List Row) (t : ℕ) (item : IntervalItem) (colours : ℕ) (opposite : AgeBound) (only : (x : ℕ) → Has colours x ↔ (x ≡ item.colour)) (other : (t e : ℤ) → InBound opposite t e ↔ (InBound item.bound t e → ⊥)) where
  abbrev asked : Test
  asked = record { colours = colours; bound = opposite; at = pos t }

  abbrev Open : Place → Type 0
  Open place = IsRuleVerdict (states_over log rows) specs rows t place (Interval item) Undecided

  -- no state but one of the rule's colour at an age outside the bound breaks the rule
  keeps_unmet : (n : ℕ) (v : State) → IsPlaceOf rows t (BeforeRow n) → (Meets asked v → ⊥) → KeepsInterval (get_or specs item.spec no_spec) (get_or rows n no_row) item v
  keeps_unmet n v placed none (is, leaves) = elim (in_or_out item.bound (pos t) v.entry) [
    | inl fits ↦ rw placed.1 fits
    | inr unfit ↦ absurd (none ((only v.colour).1 is, (other (pos t) v.entry).1 unfit))
  ]

  -- with such a state the rule is broken where it is with any
  breaks_met : (n : ℕ) (v w : State) → IsPlaceOf rows t (BeforeRow n) → (KeepsInterval (get_or specs item.spec no_spec) (get_or rows n no_row) item w → ⊥) → Meets asked v → KeepsInterval (get_or specs item.spec no_spec) (get_or rows n no_row) item v → ⊥
  breaks_met n v w placed broken (has, out) keeps =
      let is = (only v.colour).0 has in
      let unfit = (other (pos t) v.entry).0 out in
      broken (λ (same, leaves). absurd (unfit (rw placed.1 at (keeps (is, leaves)))))

  never_lacks : (place : Place) (met : Bool) → IsPlaceOf rows t place → Open place → ((v : State) → MayStand log rows item.spec t place v → Answers met asked v → ⊥) → ⊥
  never_lacks EndOfTenth met placed some none = some
  never_lacks (BeforeRow n) true placed ((v, may, keeps), (w, may2, broken)) none =
      let may3 = subst (λ (x : ℕ). MayBeAfter log item.spec x (rows_before rows n) w) placed.1 may2 in
      broken (keeps_unmet n w placed (none w may3))
  never_lacks (BeforeRow n) false placed ((v, may, keeps), (w, may2, broken)) none =
      let may3 = subst (λ (x : ℕ). MayBeAfter log item.spec x (rows_before rows n) v) placed.1 may in
      none v may3 (λ meets. breaks_met n v w placed broken meets keeps)

  keeps_there : (place : Place) (z : Strand) (v : State) → IsPlaceOf rows t place → Open place → item.spec ≡ z.spec → StandsAt log rows t place z v → Answers false asked v → KeepsAt log rows t place (Interval item) z
  keeps_there EndOfTenth z v placed some is stands none = absurd some
  keeps_there (BeforeRow n) z v placed some is stands none = (v, stands, (is, rw same (keeps_unmet n v placed none)))

  breaks_there : (place : Place) (z : Strand) (v : State) → IsPlaceOf rows t place → Open place → StandsAt log rows t place z v → Answers true asked v → KeepsAt log rows t place (Interval item) z → ⊥
  breaks_there EndOfTenth z v placed some stands meets kept = some
  breaks_there (BeforeRow n) z v placed ((y, may, keeps), (w, may2, broken)) stands meets (u, there, (is, kept)) =
      let one : u ≡ v = stands_once log rows t (BeforeRow n) z u v there stands in
      breaks_met n v w placed broken meets (subst (λ (x : State). KeepsInterval (get_or specs item.spec no_spec) (get_or rows n no_row) item x) one (rw same at kept))

module _ (specs : List Spec) (s : Store) (line : AuditLine) (item : IntervalItem) (colours : ℕ) (opposite : AgeBound) (only : (x : ℕ) → Has colours x ↔ (x ≡ item.colour)) (other : (t e : ℤ) → InBound opposite t e ↔ (InBound item.bound t e → ⊥)) (tells : TellsWithinHour opposite) (given : IsOpenRule specs s line (Interval item)) where
  abbrev the_ask : Bool → Ask
  the_ask met = record { spec = item.spec; colours = colours; bound = opposite; met = met }

  abbrev Rows : List Row
  Rows = line_rows s line

  pub interval_lacks : (met : Bool) → LacksReply specs s line (the_ask met ∷ []) → ⊥
  interval_lacks met (a, among, none) = elim among [
    | inl e ↦ never_lacks specs (log_of specs s) refl Rows line.at item colours opposite only other line.place met given.placed.place given.verdict (subst (λ (x : Ask). NoneStands specs s line x) e none)
    | inr absent ↦ absent
  ]

  one_ask : (met : Bool) (i : ℕ) → HasAsk i (the_ask met ∷ []) ↔ (item.spec ≡ i)
  one_ask met i = ((λ h. elim h [ inl e ↦ e | inr none ↦ absurd none ]), λ e. inl e)

  among_one : (met : Bool) (a : Ask) → IsAmong a (the_ask met ∷ []) → a ≡ the_ask met
  among_one met a among = elim among [ inl e ↦ e | inr none ↦ absurd none ]

  said_there : (met : Bool) (ss : List Strand) → ReplyAll specs s line (the_ask met ∷ []) ss → IsAsSaid (not met) (KeepHere specs s line (Interval item) ss)
  said_there true ss r = kept_never specs s line (the_ask true ∷ []) (Interval item) ss r.each (λ z a among reply kept.
      let one = subst (λ (x : Ask). Replies specs s line x z) (among_one true a among) reply in
      let (v, stands, meets) = one.answer in
      breaks_there specs (log_of specs s) refl Rows line.at item colours opposite only other line.place z v given.placed.place given.verdict stands meets kept)
  said_there false ss r = kept_with specs s line (the_ask false ∷ []) (Interval item) item.spec ss r.each ((r.channels item.spec).1 (inl refl, given.fits.within)) (λ z a is among reply.
      let one = subst (λ (x : Ask). Replies specs s line x z) (among_one false a among) reply in
      let (v, stands, none) = one.answer in
      keeps_there specs (log_of specs s) refl Rows line.at item colours opposite only other line.place z v given.placed.place given.verdict (sym is) stands none)

  pub interval_shows : (met : Bool) (ss : List Strand) → ReplyAll specs s line (the_ask met ∷ []) ss → Shows specs s line (Interval item) (not met) ss
  interval_shows met ss r = record {
    strands = are_strands specs s line (the_ask met ∷ []) (Interval item) ss ((given.fits.within, tells), tt) (one_ask met) r;
    said = said_there met ss r;
    few = have_few specs s line (the_ask met ∷ []) ss r.each;
  }
