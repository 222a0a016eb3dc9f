-- What is kept of a store that holds nothing.
use Rattle.std.proofs.Common.{◌≡◌, ◌∙◌, inl, inr, ℕ, ◌+◌, ◌<◌, Bool, List, [], ◌∷◌, ◌++◌, length, length-append, get_or, Option, None, sym, ap, subst, arith}
use Rattle.std.proofs.lemmas.Bool.{cases_lt}
use Rattle.std.proofs.lemmas.List.{get_or_append_left, length-replicate}
use Rattle.std.proofs.Math.Seq.{get_or-append_seam}
use Rattle.sig_base.specs.HourRows.{Shown}
use Rattle.hour_store.specs.Store.{Store, nothing_held}
use Rattle.ring_config.specs.Settings.{Settings}
use Rattle.hour_work.specs.Numbers.{Numbers}
use Rattle.hour_work.specs.Points.{Carried, IsCarryAt, IsFutureAt}
use Rattle.session.specs.Links.{Ahead, Apart, AreKeptBut}

-- one more element that is like all others
pub all_more : {A : Type 0} (P : A → Type 0) (xs items : List A) (x : A) → ((k : ℕ) (d : A) → k < length xs → P (get_or xs k d)) → P x → items ≡ xs ++ x ∷ [] → (k : ℕ) (d : A) → k < length items → P (get_or items k d)
all_more {A} P xs items x are is e = rw e (λ k d lt. elim (cases_lt k (length xs)) [
  | inl below ↦ subst P (sym (get_or_append_left xs (x ∷ []) d k below)) (are k d below)
  | inr from ↦
      let more : k < length xs + 1 = rw length-append at lt in
      let here : k ≡ length xs = omega arith in
      subst P (sym (ap (λ (i : ℕ). get_or (xs ++ x ∷ []) i d) here ∙ get_or-append_seam xs x [] d)) is
])

-- what is known before any hour is gone over
pub kept_first : (c : Settings) (n last : ℕ) (waiting : List Bool) (xs : List Carried) (ys : List Ahead) (ps : List Numbers) → n ≡ c.window.hours → last + 1 ≡ n → length xs ≡ n + 1 → ((d : Carried) (r : Store) → IsCarryAt c r 0 (get_or xs 0 d)) → length ys ≡ n + 1 → ((k : ℕ) (d : Ahead) (r : Store) → k < n + 1 → length r.hours ≡ c.window.hours → IsFutureAt c r (length r.hours) (get_or ys k d)) → length ps ≡ n → length waiting ≡ n → AreKeptBut c (nothing_held n) 0 last waiting xs ys ps
kept_first c n last waiting xs ys ps window le nx starts ny ends np nw =
    let size : length (nothing_held n).hours ≡ n = length-replicate n no_rows in
    let none : (k : ℕ) → k < length (nothing_held n).hours → Apart 0 last k → ⊥ = λ k lt out. elim out [ inl a ↦ omega arith | inr b ↦ omega arith ] in
    record {
      order = omega arith;
      within = omega arith;
      forth = record { size = omega arith; start = starts; leads = λ k lt out. absurd (none k lt out) };
      back = record {
        size = omega arith;
        end = λ d r e. subst (λ (m : ℕ). IsFutureAt c r m (get_or ys (length (nothing_held n).hours) d)) e (ends (length (nothing_held n).hours) d r (omega arith) (e ∙ size ∙ window));
        backs = λ k lt out. absurd (none k lt out);
      };
      shapes = λ k d le. (ends k d (nothing_held n) (omega arith) (size ∙ window)).shape;
      size = omega arith;
      room = omega arith;
      counts = λ k lt out wait. absurd (none k lt out);
    }
  where
    no_rows : Option Shown
    no_rows = None
