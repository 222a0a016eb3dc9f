-- Which table is refused first.
use Rattle.std.proofs.Common.{◌≡◌, inl, inr, ℕ, List, Ok, Err, refl, sym, ap, ◌∙◌}
use Rattle.toml.specs.Data.{Members}
use Rattle.ring_config.specs.declared.error.ConfigError.{ConfigError}
use Rattle.ring_config.specs.Reading.{Read, ◌>>=◌}
use Rattle.ring_config.specs.Walk.{Rules, entries_of}
use Rattle.ring_config.specs.Tables.{LayoutArrays, DetailArrays, Top, phase_rules, ped_rules, overlap_rules, preempt_rules, conflict_rules, allow_rules, floor_rules, interval_rules, approach_rules}
use Rattle.ring_config.specs.Settings.{Layout, Settings, layout_of, details_of, settings_of, signal_channels}
use Rattle.config_laws.specs.Walk.{IsRefusedTable}
use Rattle.config_laws.specs.Refusals.{IsRefusedFrom, IsRefusedLayout, AreRefusedDetails, AreRefusedTables, LayoutsAreRefused, DetailsAreRefused, DocumentsAreRefused}
use Rattle.sig_base.specs.declared.values.PhaseItem.{PhaseItem}
use Rattle.ring_config.specs.declared.items.OverlapItem.{OverlapItem}
use Rattle.ring_config.proofs.StagedLaws.{after_4}
use Rattle.config_laws.proofs.Document.{document_comes}
use Rattle.config_laws.proofs.Walk.{given, tables_accepted, tables_refused}

module _ {X B : Type 0} (rules : Rules X) (mss : List Members) (error : ConfigError) where
  refused_then : (f : List X → Read B) (After : List X → Type 0) → ((xs : List X) → f xs ≡ Err error → After xs) → (entries_of rules mss >>= f) ≡ Err error → IsRefusedFrom rules mss error After
  refused_then f After next h =
      elim (given (entries_of rules mss)) [
        | inl g ↦ inr (g.0, (tables_accepted rules mss g.0).0 g.1, next g.0 (rw g.1 at h))
        | inr g ↦ let k = rw g.1 at h in let same : g.0 ≡ error = cc in inl ((tables_refused rules mss error).0 (g.1 ∙ ap Err same))
      ]

  then_refused : (f : List X → Read B) (After : List X → Type 0) → ((xs : List X) → After xs → f xs ≡ Err error) → IsRefusedFrom rules mss error After → (entries_of rules mss >>= f) ≡ Err error
  then_refused f After next (inl r) = rw ((tables_refused rules mss error).1 r) refl
  then_refused f After next (inr a) = rw ((tables_accepted rules mss a.0).1 a.1) (next a.0 a.2)

  last_refused : (f : List X → B) → (entries_of rules mss >>= λ xs. Ok (f xs)) ≡ Err error → IsRefusedTable rules mss error
  last_refused f h =
      elim (given (entries_of rules mss)) [
        | inl g ↦ let k = rw g.1 at h in absurd cc
        | inr g ↦ let k = rw g.1 at h in let same : g.0 ≡ error = cc in (tables_refused rules mss error).0 (g.1 ∙ ap Err same)
      ]

  refused_last : (f : List X → B) → IsRefusedTable rules mss error → (entries_of rules mss >>= λ xs. Ok (f xs)) ≡ Err error
  refused_last f r = rw ((tables_refused rules mss error).1 r) refl

layout_is : (x : LayoutArrays) (error : ConfigError) → layout_of x ≡ Err error → IsRefusedLayout x error
unfolding layout_of
layout_is x error h =
    refused_then phase_rules x.phase error (λ p. entries_of (ped_rules p) x.ped >>= λ q. entries_of (overlap_rules p) x.overlap >>= λ o. entries_of preempt_rules x.preempt >>= λ r. Ok (record { phases = p; peds = q; overlaps = o; preempts = r })) _ (λ p k.
    refused_then (ped_rules p) x.ped error (λ q. entries_of (overlap_rules p) x.overlap >>= λ o. entries_of preempt_rules x.preempt >>= λ r. Ok (record { phases = p; peds = q; overlaps = o; preempts = r })) _ (λ q m.
    refused_then (overlap_rules p) x.overlap error (λ o. entries_of preempt_rules x.preempt >>= λ r. Ok (record { phases = p; peds = q; overlaps = o; preempts = r })) _ (λ o n.
    last_refused preempt_rules x.preempt error (λ r. record { phases = p; peds = q; overlaps = o; preempts = r }) n) m) k) h

layout_gives : (x : LayoutArrays) (error : ConfigError) → IsRefusedLayout x error → layout_of x ≡ Err error
unfolding layout_of
layout_gives x error h =
    then_refused phase_rules x.phase error (λ p. entries_of (ped_rules p) x.ped >>= λ q. entries_of (overlap_rules p) x.overlap >>= λ o. entries_of preempt_rules x.preempt >>= λ r. Ok (record { phases = p; peds = q; overlaps = o; preempts = r })) _ (λ p k.
    then_refused (ped_rules p) x.ped error (λ q. entries_of (overlap_rules p) x.overlap >>= λ o. entries_of preempt_rules x.preempt >>= λ r. Ok (record { phases = p; peds = q; overlaps = o; preempts = r })) _ (λ q m.
    then_refused (overlap_rules p) x.overlap error (λ o. entries_of preempt_rules x.preempt >>= λ r. Ok (record { phases = p; peds = q; overlaps = o; preempts = r })) _ (λ o n.
    refused_last preempt_rules x.preempt error (λ r. record { phases = p; peds = q; overlaps = o; preempts = r }) n) m) k) h

pub layouts_refused : LayoutsAreRefused
layouts_refused x error = (layout_is x error, layout_gives x error)

details_are : (l : Layout) (x : DetailArrays) (error : ConfigError) → details_of l x ≡ Err error → AreRefusedDetails l x error
unfolding details_of
details_are l x error h =
    refused_then (conflict_rules l.phases) x.conflict error (λ c. entries_of (allow_rules l.phases c) x.allow >>= λ w. entries_of (floor_rules (signal_channels l)) x.floor >>= λ f. entries_of (interval_rules (signal_channels l)) x.interval >>= λ i. entries_of (approach_rules l.phases) x.approach >>= λ p. Ok (record { conflicts = c; allows = w; floors = f; intervals = i; approaches = p })) _ (λ c k.
    refused_then (allow_rules l.phases c) x.allow error (λ w. entries_of (floor_rules (signal_channels l)) x.floor >>= λ f. entries_of (interval_rules (signal_channels l)) x.interval >>= λ i. entries_of (approach_rules l.phases) x.approach >>= λ p. Ok (record { conflicts = c; allows = w; floors = f; intervals = i; approaches = p })) _ (λ w m.
    refused_then (floor_rules (signal_channels l)) x.floor error (λ f. entries_of (interval_rules (signal_channels l)) x.interval >>= λ i. entries_of (approach_rules l.phases) x.approach >>= λ p. Ok (record { conflicts = c; allows = w; floors = f; intervals = i; approaches = p })) _ (λ f n.
    refused_then (interval_rules (signal_channels l)) x.interval error (λ i. entries_of (approach_rules l.phases) x.approach >>= λ p. Ok (record { conflicts = c; allows = w; floors = f; intervals = i; approaches = p })) _ (λ i o.
    last_refused (approach_rules l.phases) x.approach error (λ p. record { conflicts = c; allows = w; floors = f; intervals = i; approaches = p }) o) n) m) k) h

details_give : (l : Layout) (x : DetailArrays) (error : ConfigError) → AreRefusedDetails l x error → details_of l x ≡ Err error
unfolding details_of
details_give l x error h =
    then_refused (conflict_rules l.phases) x.conflict error (λ c. entries_of (allow_rules l.phases c) x.allow >>= λ w. entries_of (floor_rules (signal_channels l)) x.floor >>= λ f. entries_of (interval_rules (signal_channels l)) x.interval >>= λ i. entries_of (approach_rules l.phases) x.approach >>= λ p. Ok (record { conflicts = c; allows = w; floors = f; intervals = i; approaches = p })) _ (λ c k.
    then_refused (allow_rules l.phases c) x.allow error (λ w. entries_of (floor_rules (signal_channels l)) x.floor >>= λ f. entries_of (interval_rules (signal_channels l)) x.interval >>= λ i. entries_of (approach_rules l.phases) x.approach >>= λ p. Ok (record { conflicts = c; allows = w; floors = f; intervals = i; approaches = p })) _ (λ w m.
    then_refused (floor_rules (signal_channels l)) x.floor error (λ f. entries_of (interval_rules (signal_channels l)) x.interval >>= λ i. entries_of (approach_rules l.phases) x.approach >>= λ p. Ok (record { conflicts = c; allows = w; floors = f; intervals = i; approaches = p })) _ (λ f n.
    then_refused (interval_rules (signal_channels l)) x.interval error (λ i. entries_of (approach_rules l.phases) x.approach >>= λ p. Ok (record { conflicts = c; allows = w; floors = f; intervals = i; approaches = p })) _ (λ i o.
    refused_last (approach_rules l.phases) x.approach error (λ p. record { conflicts = c; allows = w; floors = f; intervals = i; approaches = p }) o) n) m) k) h

pub details_refused : DetailsAreRefused
details_refused l x error = (details_are l x error, details_give l x error)

-- ---- a whole document

error_is : {A B : Type 0} (r : Read A) (f : A → B) (error : ConfigError) → (r >>= λ x. Ok (f x)) ≡ Err error → r ≡ Err error
error_is (Ok x) f error h = absurd cc
error_is (Err k) f error h = let same : k ≡ error = cc in ap Err same

abbrev layout_with : List PhaseItem → List ℕ → List OverlapItem → List ℕ → Layout
layout_with p q o r = record { phases = p; peds = q; overlaps = o; preempts = r }

layout_then : {B : Type 0} (x : LayoutArrays) (k : Layout → Read B) → (layout_of x >>= k) ≡ (entries_of phase_rules x.phase >>= λ p. entries_of (ped_rules p) x.ped >>= λ q. entries_of (overlap_rules p) x.overlap >>= λ o. entries_of preempt_rules x.preempt >>= λ r. k (layout_with p q o r))
unfolding layout_of
layout_then x k = after_4 (entries_of phase_rules x.phase) (λ p. entries_of (ped_rules p) x.ped) (λ p q. entries_of (overlap_rules p) x.overlap) (λ p q o. entries_of preempt_rules x.preempt) layout_with k (λ p q o r. k (layout_with p q o r)) (λ p q o r. refl)

module _ (x : LayoutArrays) (y : DetailArrays) (error : ConfigError) (t : Top) where
  abbrev rest : Layout → Read Settings
  rest l = details_of l y >>= λ d. Ok (settings_of t l d)

  rest_is : (l : Layout) → rest l ≡ Err error → AreRefusedDetails l y error
  rest_is l h = (details_refused l y error).0 (error_is (details_of l y) (settings_of t l) error h)

  rest_gives : (l : Layout) → AreRefusedDetails l y error → rest l ≡ Err error
  rest_gives l r = rw ((details_refused l y error).1 r) refl

  tables_are : (layout_of x >>= rest) ≡ Err error → AreRefusedTables x y error
  tables_are h =
      refused_then phase_rules x.phase error (λ p. entries_of (ped_rules p) x.ped >>= λ q. entries_of (overlap_rules p) x.overlap >>= λ o. entries_of preempt_rules x.preempt >>= λ r. rest (layout_with p q o r)) _ (λ p k.
      refused_then (ped_rules p) x.ped error (λ q. entries_of (overlap_rules p) x.overlap >>= λ o. entries_of preempt_rules x.preempt >>= λ r. rest (layout_with p q o r)) _ (λ q m.
      refused_then (overlap_rules p) x.overlap error (λ o. entries_of preempt_rules x.preempt >>= λ r. rest (layout_with p q o r)) _ (λ o n.
      refused_then preempt_rules x.preempt error (λ r. rest (layout_with p q o r)) _ (λ r u. rest_is (layout_with p q o r) u) n) m) k) (sym (layout_then x rest) ∙ h)

  tables_give : AreRefusedTables x y error → (layout_of x >>= rest) ≡ Err error
  tables_give h =
      layout_then x rest ∙
      then_refused phase_rules x.phase error (λ p. entries_of (ped_rules p) x.ped >>= λ q. entries_of (overlap_rules p) x.overlap >>= λ o. entries_of preempt_rules x.preempt >>= λ r. rest (layout_with p q o r)) _ (λ p k.
      then_refused (ped_rules p) x.ped error (λ q. entries_of (overlap_rules p) x.overlap >>= λ o. entries_of preempt_rules x.preempt >>= λ r. rest (layout_with p q o r)) _ (λ q m.
      then_refused (overlap_rules p) x.overlap error (λ o. entries_of preempt_rules x.preempt >>= λ r. rest (layout_with p q o r)) _ (λ o n.
      then_refused preempt_rules x.preempt error (λ r. rest (layout_with p q o r)) _ (λ r u. rest_gives (layout_with p q o r) u) n) m) k) h

pub documents_refused : DocumentsAreRefused
documents_refused ms x y error h =
    let t : Top = record { signal = h.signal; window = h.window; coordination = h.coordination } in
    let comes = document_comes ms x y h in
    (λ e. tables_are x y error t (sym comes ∙ e), λ r. comes ∙ tables_give x y error t r)
