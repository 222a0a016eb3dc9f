-- What an edit makes of a store.
use Rattle.std.proofs.Common.{◌≡◌, ◌∙◌, ◌≤◌, List, length, Some, None, refl, sym, ap, subst, Ok}
use Rattle.span_set.specs.declared.set.Span.{Span}
use Rattle.hour_store.specs.Store.{IsStore, Store, with_blanks}
use Rattle.session.specs.Edits.{Change, load, replace, withdraw, blank, unblank, step_of}
use Rattle.session.proofs.EditLaws.{blank_step, few_blanks, load_step, replace_step, unblank_step, withdraw_step}
use Rattle.edit_laws.specs.Stores.{EditsMakeStores, IsTaken, Makes}
use Rattle.edit_laws.proofs.Hours.{has_one, rows_are, same_store}
use Rattle.edit_laws.proofs.Ranges.{in_test, with_one, without_one}
use Rattle.edit_laws.proofs.Told.{made_told}

makes : (s t : Store) → IsStore s → (ch : Change) → IsTaken s ch → Makes s ch t → step_of s ch ≡ Ok t
makes s t is (load r) p q = load_step s r r.hour refl p.0 p.1 (rw (rows_are s r p.0) at p.2) ∙ ap Ok (has_one s t r.hour (Some r) p.0 q)
makes s t is (replace r) p q = replace_step s r r.hour refl p.0 p.1 (rw (rows_are s r p.0) at p.2) ∙ ap Ok (has_one s t r.hour (Some r) p.0 q)
makes s t is (withdraw hour) p q = withdraw_step s hour p.0 p.1 ∙ ap Ok (has_one s t hour None p.0 q)
makes s t is (blank from to) p q =
    let r = p.0 in
    let same = with_one s is from to r p.1.0 t.blanks p.1.1 p.1.2 q.1 q.2 in
    let few = subst (λ (bs : List Span). length bs ≤ 10000) same p.1.3 in
    blank_step s (length s.hours) from to t.blanks refl is.few is.blanked (in_test s from to r.0 r.2) r.1 q.1 q.2 ∙ few_blanks s t.blanks few ∙ ap Ok (same_store (with_blanks s t.blanks) t (sym q.0) refl)
makes s t is (unblank from to) p q =
    let r = p.0 in
    let same = without_one s is from to p.1.0 t.blanks p.1.1 p.1.2 q.1 q.2 in
    let few = subst (λ (bs : List Span). length bs ≤ 10000) same p.1.3 in
    unblank_step s (length s.hours) from to t.blanks refl is.few is.blanked (in_test s from to r.0 r.2) r.1 q.1 q.2 ∙ few_blanks s t.blanks few ∙ ap Ok (same_store (with_blanks s t.blanks) t (sym q.0) refl)

pub stores_made : EditsMakeStores
stores_made s t ch is = (made_told s is ch t, λ p. makes s t is ch p.0 p.1)
