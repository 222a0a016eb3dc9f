-- What an edit is refused for.
use Rattle.std.proofs.Common.{◌≡◌, ◌∙◌, ℕ, ℤ, ◌<◌, length, Some, refl, Err}
use Rattle.sig_base.specs.HourRows.{Shown}
use Rattle.sig_base.proofs.Common.{is_less}
use Rattle.sig_base.specs.declared.values.EditError.{EditError}
use Rattle.sig_base.specs.declared.values.EditError.TheVariants.{OutOfWindow, AlreadyHeld, NotHeld, EmptyRange, TooManyRows, TooManyBlanks, Contradiction, Memory}
use Rattle.span_set.proofs.Sets.{over as not_below}
use Rattle.hour_store.specs.Store.{IsStore, Store, rows_held, with_hour}
use Rattle.session.specs.Edits.{Change, load, replace, withdraw, blank, unblank, step_of}
use Rattle.session.proofs.EditLaws.{blank_step, many_blanks, unblank_step}
use Rattle.edit_laws.specs.Refusals.{IsRefused, RefusalsInOrder}
use Rattle.edit_laws.proofs.Hours.{outside, rows_are, within}
use Rattle.edit_laws.proofs.Ranges.{in_test, out_test}
use Rattle.edit_laws.proofs.Told.{refused_told}

module _ (s : Store) (store : IsStore s) where
  load_refused : (r : Shown) (e : EditError) → IsRefused s (load r) e → step_of s (load r) ≡ Err e
  unfolding step_of
  load_refused r OutOfWindow p = rw (outside (length s.hours) r.hour p) refl
  load_refused r AlreadyHeld p = rw (within (length s.hours) r.hour p.0, p.1) refl
  load_refused r TooManyRows p =
      let many : 20000000 < rows_held (with_hour s r.hour (Some r)) = rw (rows_are s r p.0) at p.2 in
      rw (within (length s.hours) r.hour p.0, p.1, is_less 20000000 (rows_held (with_hour s r.hour (Some r))) many) refl
  load_refused r NotHeld p = absurd p
  load_refused r EmptyRange p = absurd p
  load_refused r TooManyBlanks p = absurd p
  load_refused r (Contradiction row) p = absurd p
  load_refused r Memory p = absurd p

  replace_refused : (r : Shown) (e : EditError) → IsRefused s (replace r) e → step_of s (replace r) ≡ Err e
  unfolding step_of
  replace_refused r OutOfWindow p = rw (outside (length s.hours) r.hour p) refl
  replace_refused r NotHeld p = rw (within (length s.hours) r.hour p.0, p.1) refl
  replace_refused r TooManyRows p =
      let many : 20000000 < rows_held (with_hour s r.hour (Some r)) = rw (rows_are s r p.0) at p.2 in
      rw (within (length s.hours) r.hour p.0, p.1, is_less 20000000 (rows_held (with_hour s r.hour (Some r))) many) refl
  replace_refused r AlreadyHeld p = absurd p
  replace_refused r EmptyRange p = absurd p
  replace_refused r TooManyBlanks p = absurd p
  replace_refused r (Contradiction row) p = absurd p
  replace_refused r Memory p = absurd p

  withdraw_refused : (hour : ℕ) (e : EditError) → IsRefused s (withdraw hour) e → step_of s (withdraw hour) ≡ Err e
  unfolding step_of
  withdraw_refused hour OutOfWindow p = rw (outside (length s.hours) hour p) refl
  withdraw_refused hour NotHeld p = rw (within (length s.hours) hour p.0, p.1) refl
  withdraw_refused hour AlreadyHeld p = absurd p
  withdraw_refused hour EmptyRange p = absurd p
  withdraw_refused hour TooManyRows p = absurd p
  withdraw_refused hour TooManyBlanks p = absurd p
  withdraw_refused hour (Contradiction row) p = absurd p
  withdraw_refused hour Memory p = absurd p

  blank_refused : (f t : ℤ) (e : EditError) → IsRefused s (blank f t) e → step_of s (blank f t) ≡ Err e
  unfolding step_of
  blank_refused f t OutOfWindow p = rw (out_test s f t p) refl
  blank_refused f t EmptyRange p = rw (in_test s f t p.0 p.2, not_below f t p.1) refl
  blank_refused f t TooManyBlanks p =
      let r = p.0 in
      blank_step s (length s.hours) f t p.1.0 refl store.few store.blanked (in_test s f t r.0 r.2) r.1 p.1.1 p.1.2 ∙ many_blanks s p.1.0 p.1.3
  blank_refused f t AlreadyHeld p = absurd p
  blank_refused f t NotHeld p = absurd p
  blank_refused f t TooManyRows p = absurd p
  blank_refused f t (Contradiction row) p = absurd p
  blank_refused f t Memory p = absurd p

  unblank_refused : (f t : ℤ) (e : EditError) → IsRefused s (unblank f t) e → step_of s (unblank f t) ≡ Err e
  unfolding step_of
  unblank_refused f t OutOfWindow p = rw (out_test s f t p) refl
  unblank_refused f t EmptyRange p = rw (in_test s f t p.0 p.2, not_below f t p.1) refl
  unblank_refused f t TooManyBlanks p =
      let r = p.0 in
      unblank_step s (length s.hours) f t p.1.0 refl store.few store.blanked (in_test s f t r.0 r.2) r.1 p.1.1 p.1.2 ∙ many_blanks s p.1.0 p.1.3
  unblank_refused f t AlreadyHeld p = absurd p
  unblank_refused f t NotHeld p = absurd p
  unblank_refused f t TooManyRows p = absurd p
  unblank_refused f t (Contradiction row) p = absurd p
  unblank_refused f t Memory p = absurd p

  refused : (ch : Change) (e : EditError) → IsRefused s ch e → step_of s ch ≡ Err e
  refused (load r) e p = load_refused r e p
  refused (replace r) e p = replace_refused r e p
  refused (withdraw hour) e p = withdraw_refused hour e p
  refused (blank f t) e p = blank_refused f t e p
  refused (unblank f t) e p = unblank_refused f t e p

pub refused_in_order : RefusalsInOrder
refused_in_order s ch e is = (refused_told s is ch e, refused s is ch e)
