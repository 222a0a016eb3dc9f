-- What an hour of a store tells.
use Rattle.std.proofs.Common.{◌≡◌, refl, sym, ap, ◌∙◌, subst, ℕ, ◌+◌, ◌*◌, ◌<◌, Bool, List, length, Option, Some, None, Bor, arith}
use Rattle.std.specs.Prelude.{is_some, option_copied, option_map, IfSome}
use Rattle.sig_base.specs.declared.values.Row.{Row}
use Rattle.sig_base.specs.HourRows.{AreRowsOf}
use Rattle.span_set.specs.declared.set.Span.{Span}
use Rattle.gap_map.specs.declared.stretch.Stretch.{Stretch}
use Rattle.gap_map.specs.Stretches.{IsCut, known_in}
use Rattle.hour_store.specs.Store.{IsStore, Store, rows_at}
use Rattle.signal_log.specs.Points.{HasHour, rows_or_none}
use Rattle.signal_log.proofs.Calls.{rows_fit, copied_some}
use Rattle.signal_log.proofs.Stored.{cut_known, known_hour}
use Rattle.strand_search.specs.Parts.{IsHourPart}

copied_map : (o : Option (Bor (List Row))) → option_copied o ≡ option_map (λ s. s.now) o
copied_map None = refl
copied_map (Some r) = refl

pub has : (s : Store) (hour : ℕ) → IsStore s → hour < length s.hours → HasHour s hour (rows_at s hour) s.blanks
has s hour is lt = record { is_store = is; within = lt; held = refl; known = λ t low high. sym (known_hour s hour t (rows_at s hour) refl low (omega arith)) }

pub hour_told : (s : Store) (hour : ℕ) (o : Option (Bor (List Row))) (held : Bool) (blanks : List Span) (rows : List Row) (ss : List Stretch) → IsStore s → hour < length s.hours → option_map (λ x. x.now) o ≡ rows_at s hour → IfSome o (λ x. AreRowsOf hour x.now) → held ≡ is_some o → blanks ≡ s.blanks → rows ≡ rows_or_none (option_copied o) → IsCut (known_in held blanks) (36000 * hour) (36000 * hour + 36000) ss → IsHourPart s hour rows ss
hour_told s hour o held blanks rows ss is lt entry fits some same rows_is cut =
    let copied : option_copied o ≡ rows_at s hour = copied_map o ∙ entry in
    let few : hour < 744 = let f = is.few in omega arith in
    let held_is : held ≡ is_some (rows_at s hour) = some ∙ (copied_some o ∙ ap (λ (x : Option (List Row)). is_some x) copied) in
    record {
      rows_are = rows_is ∙ ap (λ (x : Option (List Row)). rows_or_none x) copied;
      fit = subst (λ (x : List Row). AreRowsOf hour x) (sym rows_is) (rows_fit hour o few fits);
      cut = cut_known s hour (rows_at s hour) s.blanks ss (has s hour is lt) (subst (λ (b : Bool). IsCut (known_in b s.blanks) (36000 * hour) (36000 * hour + 36000) ss) held_is (subst (λ (b : List Span). IsCut (known_in held b) (36000 * hour) (36000 * hour + 36000) ss) same cut));
    }

pub has_told : (s : Store) (hour : ℕ) (o : Option (Bor (List Row))) (blanks : List Span) → IsStore s → hour < length s.hours → option_map (λ x. x.now) o ≡ rows_at s hour → blanks ≡ s.blanks → HasHour s hour (option_copied o) blanks
has_told s hour o blanks is lt entry same = subst (λ (x : Option (List Row)). HasHour s hour x blanks) (sym (copied_map o ∙ entry)) (subst (λ (b : List Span). HasHour s hour (rows_at s hour) b) (sym same) (has s hour is lt))
