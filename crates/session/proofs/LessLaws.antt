-- A withdrawal and a blanking leave less to agree with.
use Rattle.std.proofs.Common.{◌≡◌, ◌∙◌, ◌⊎◌, inl, inr, ℕ, zero, suc, ◌/◌, ℤ, pos, true, not, List, [], ◌∷◌, get_or, set, length-set, get_or-set_other, Option, Some, None, is_some, option_map, refl, sym, ap, IfErr, Result, Ok, Err}
use Rattle.std.proofs.lemmas.Bool.{and_from, and_parts, cases_eq, cases_Bool, false≢true}
use Rattle.sig_base.specs.HourRows.{Shown}
use Rattle.sig_base.specs.declared.values.Row.{Row}
use Rattle.sig_base.specs.declared.values.Applied.{Applied}
use Rattle.sig_base.specs.declared.values.EditError.{EditError}
use Rattle.sig_base.specs.declared.values.EditError.TheVariants as edit
use Rattle.span_set.specs.declared.set.Span.{Span}
use Rattle.span_set.specs.Spans.{Member, is_member}
use Rattle.span_set.proofs.Sets.{member_test}
use Rattle.hour_store.specs.Store.{IsStore, Store, held_at, is_known, rows_at, with_blanks, with_hour}
use Rattle.ring_config.specs.Settings.{Settings}
use Rattle.ring_config.specs.Sound.{IsSound}
use Rattle.signal_log.specs.Log.{HasHistory, log_of}
use Rattle.signal_log.proofs.Lawful.{fewer}
use Rattle.rule_audit.proofs.Tracked.{channels_are}
use Rattle.session.specs.Edits.{blank, withdraw}
use Rattle.session.specs.Ranges.{With}
use Rattle.session.specs.Sessions.{MayRefuse, StopsAt}

gone : (xs : List (Option Shown)) (h : ℕ) → get_or (set xs h None) h None ≡ None
gone [] h = refl
gone (x ∷ xs) zero = refl
gone (x ∷ xs) (suc h) = gone xs h

-- what is held without an hour
held_less : (s : Store) (h k : ℕ) → (held_at (with_hour s h None) k ≡ None) ⊎ (held_at (with_hour s h None) k ≡ held_at s k)
held_less s h k = elim (cases_eq k h) [
  | inl same ↦ inl (ap (λ (i : ℕ). get_or (set s.hours h None) i None) same ∙ gone s.hours h)
  | inr other ↦ inr (get_or-set_other s.hours h k None None other)
]

known_less : (s : Store) (h t : ℕ) → is_known (with_hour s h None) t ≡ true → is_known s t ≡ true
known_less s h t is =
    let p = and_parts (is_some (held_at (with_hour s h None) (t / 36000))) (not (is_member s.blanks (pos t))) is in
    elim (held_less s h (t / 36000)) [
      | inl none ↦ absurd (false≢true (sym (ap (λ (o : Option Shown). is_some o) none) ∙ p.0))
      | inr same ↦ and_from (is_some (held_at s (t / 36000))) (not (is_member s.blanks (pos t))) (sym (ap (λ (o : Option Shown). is_some o) same) ∙ p.0) p.1
    ]

rows_less : (s : Store) (h k : ℕ) (rows : List Row) → rows_at (with_hour s h None) k ≡ Some rows → rows_at s k ≡ Some rows
rows_less s h k rows e = elim (held_less s h k) [
  | inl none ↦ absurd (let bad : None ≡ Some rows = sym (ap (λ (o : Option Shown). option_map (λ x. x.rows) o) none) ∙ e in cc)
  | inr same ↦ sym (ap (λ (o : Option Shown). option_map (λ x. x.rows) o) same) ∙ e
]

withdrawn : (c : Settings) (s : Store) (h : ℕ) (e : EditError) → HasHistory (log_of c.specs (with_hour s h None)) → StopsAt c (with_hour s h None) e → MayRefuse (withdraw h) e
withdrawn c s h (edit.Contradiction row) has stop = absurd (stop.1 has)
withdrawn c s h edit.Memory has stop = tt
withdrawn c s h edit.OutOfWindow has stop = tt
withdrawn c s h edit.AlreadyHeld has stop = tt
withdrawn c s h edit.NotHeld has stop = tt
withdrawn c s h edit.EmptyRange has stop = tt
withdrawn c s h edit.TooManyRows has stop = tt
withdrawn c s h edit.TooManyBlanks has stop = tt

pub never_withdrawn : (c : Settings) (s : Store) (h : ℕ) (result : Result Applied EditError) → IsSound c → IsStore s → IsStore (with_hour s h None) → HasHistory (log_of c.specs s) → IfErr result (StopsAt c (with_hour s h None)) → IfErr result (MayRefuse (withdraw h))
never_withdrawn c s h (Ok x) sound is less has stop = tt
never_withdrawn c s h (Err e) sound is less has stop =
    withdrawn c s h e (fewer c.specs s (with_hour s h None) (channels_are c sound) is less (length-set s.hours h None) (known_less s h) (rows_less s h) has) stop

-- ---- blanking

not_more : (ns os : List Span) (t : ℕ) → ((e : ℤ) → Member os e → Member ns e) → not (is_member ns (pos t)) ≡ true → not (is_member os (pos t)) ≡ true
not_more ns os t h e = elim (cases_Bool (is_member os (pos t))) [
  | inl is ↦ let more : is_member ns (pos t) ≡ true = (member_test ns (pos t)).1 (h (pos t) ((member_test os (pos t)).0 is)) in absurd (false≢true (sym (ap not more) ∙ e))
  | inr isnt ↦ ap not isnt
]

known_blanked : (s : Store) (ns : List Span) (t : ℕ) → ((e : ℤ) → Member s.blanks e → Member ns e) → is_known (with_blanks s ns) t ≡ true → is_known s t ≡ true
known_blanked s ns t h is =
    let p = and_parts (is_some (held_at s (t / 36000))) (not (is_member ns (pos t))) is in
    and_from (is_some (held_at s (t / 36000))) (not (is_member s.blanks (pos t))) p.0 (not_more ns s.blanks t h p.1)

blanked : (c : Settings) (s : Store) (ns : List Span) (f t : ℤ) (e : EditError) → HasHistory (log_of c.specs (with_blanks s ns)) → StopsAt c (with_blanks s ns) e → MayRefuse (blank f t) e
blanked c s ns f t (edit.Contradiction row) has stop = absurd (stop.1 has)
blanked c s ns f t edit.Memory has stop = tt
blanked c s ns f t edit.OutOfWindow has stop = tt
blanked c s ns f t edit.AlreadyHeld has stop = tt
blanked c s ns f t edit.NotHeld has stop = tt
blanked c s ns f t edit.EmptyRange has stop = tt
blanked c s ns f t edit.TooManyRows has stop = tt
blanked c s ns f t edit.TooManyBlanks has stop = tt

pub never_blanked : (c : Settings) (s : Store) (ns : List Span) (f t : ℤ) (result : Result Applied EditError) → IsSound c → IsStore s → IsStore (with_blanks s ns) → HasHistory (log_of c.specs s) → With s.blanks f t ns → IfErr result (StopsAt c (with_blanks s ns)) → IfErr result (MayRefuse (blank f t))
never_blanked c s ns f t (Ok x) sound is less has made stop = tt
never_blanked c s ns f t (Err e) sound is less has made stop =
    blanked c s ns f t e (fewer c.specs s (with_blanks s ns) (channels_are c sound) is less refl (λ k known. known_blanked s ns k (λ z m. (made z).1 (inl m)) known) (λ hour rows e2. e2) has) stop
