-- A configuration that is read is sound, and its window has 1 to 744 hours.
use Rattle.std.proofs.Common.{◌≡◌, ℕ, ℤ, pos, ◌≤◌, Bool, true, false, if◌then◌else◌, List, Option, Some, None, Ok, subst, sym, ◌∙◌}
use Rattle.std.specs.Prelude.{int_le}
use Rattle.toml.specs.Data.{Data, Members}
use Rattle.sig_base.specs.Window.{Span}
use Rattle.ring_config.specs.Reading.{◌>>=◌, EntryData, defaulted, only, required}
use Rattle.ring_config.specs.Settings.{Parts, Settings, config_at, config_in, config_of, details_of, document, document_of, layout_of, parts_of, settings_of}
use Rattle.ring_config.specs.Sound.{IsBetween, IsSound}
use Rattle.ring_config.specs.Tables.{Top, detail_arrays_of, layout_arrays_of, top_keys, top_of}
use Rattle.ring_config.specs.Values as values
use Rattle.ring_config.specs.Values.{last_day, whole, window_from}
use Rattle.ring_config.specs.declared.error.KeyName.TheVariants as keys
use Rattle.ring_config.proofs.DoLaws.{and_then_is, bound, ok_is, required_means, whole_between}
use Rattle.ring_config.proofs.SoundLaws.{parts_are}
use Rattle.ring_config.proofs.StagedLaws.{config_stages}

some_is : {X : Type 0} (P : X → Type 0) (x y : X) → Some x ≡ Some y → P x → P y
some_is P x y e p = let same : x ≡ y = cc in subst P same p

from_hours : (first : ℤ × ℕ) (hours : ℕ) (w : Span) → window_from first hours ≡ Some w → IsBetween 1 744 hours → IsBetween 1 744 w.hours
from_hours first hours w e h = go (int_le (last_day first hours) (pos 2932896)) e
  where
    go : (b : Bool) → (if b then Some (record { day = first.0; hour = first.1; hours = hours }) else None) ≡ Some w → IsBetween 1 744 w.hours
    go true e = some_is (λ (x : Span). IsBetween 1 744 x.hours) (record { day = first.0; hour = first.1; hours = hours }) w e h
    go false e = absurd (cc)

window_hours : (first : ℤ × ℕ) (d : Data) (w : Span) → values.window first d ≡ Some w → IsBetween 1 744 w.hours
unfolding values.window
window_hours first d w e =
    let a = and_then_is (window_from first) (whole 1 744 d) w e in
    from_hours first a.0 w a.2 (whole_between 1 744 d a.0 a.1)

top_hours : (e : EntryData) (t : Top) → top_of e ≡ Ok t → IsBetween 1 744 t.window.hours
unfolding top_of
top_hours e t h =
    let a = bound (required values.signal keys.Signal e) (λ s. required values.start keys.Start e >>= λ f. required (values.window f) keys.Hours e >>= λ w. defaulted false values.yes_or_no keys.Coordination e >>= λ c. Ok (record { signal = s; window = w; coordination = c })) t h in
    let b = bound (required values.start keys.Start e) (λ f. required (values.window f) keys.Hours e >>= λ w. defaulted false values.yes_or_no keys.Coordination e >>= λ c. Ok (record { signal = a.0; window = w; coordination = c })) t a.2 in
    let c = bound (required (values.window b.0) keys.Hours e) (λ w. defaulted false values.yes_or_no keys.Coordination e >>= λ c. Ok (record { signal = a.0; window = w; coordination = c })) t b.2 in
    let d = bound (defaulted false values.yes_or_no keys.Coordination e) (λ x. Ok (record { signal = a.0; window = c.0; coordination = x })) t c.2 in
    let r = required_means (values.window b.0) keys.Hours e c.0 c.1 in
    ok_is (λ (x : Top). IsBetween 1 744 x.window.hours) (record { signal = a.0; window = c.0; coordination = d.0 }) t d.2 (window_hours b.0 r.0 c.0 r.1)

parts_hours : (e : EntryData) (p : Parts) → parts_of e ≡ Ok p → IsBetween 1 744 p.top.window.hours
unfolding parts_of
parts_hours e p h =
    let a = bound (only top_keys e) (λ _. top_of e >>= λ t. layout_arrays_of e >>= λ x. detail_arrays_of e >>= λ y. layout_of x >>= λ l. details_of l y >>= λ d. Ok (record { top = t; layout = l; details = d })) p h in
    let b = bound (top_of e) (λ t. layout_arrays_of e >>= λ x. detail_arrays_of e >>= λ y. layout_of x >>= λ l. details_of l y >>= λ d. Ok (record { top = t; layout = l; details = d })) p a.2 in
    let c = bound (layout_arrays_of e) (λ x. detail_arrays_of e >>= λ y. layout_of x >>= λ l. details_of l y >>= λ d. Ok (record { top = b.0; layout = l; details = d })) p b.2 in
    let f = bound (detail_arrays_of e) (λ y. layout_of c.0 >>= λ l. details_of l y >>= λ d. Ok (record { top = b.0; layout = l; details = d })) p c.2 in
    let g = bound (layout_of c.0) (λ l. details_of l f.0 >>= λ d. Ok (record { top = b.0; layout = l; details = d })) p f.2 in
    let k = bound (details_of g.0 f.0) (λ d. Ok (record { top = b.0; layout = g.0; details = d })) p g.2 in
    ok_is (λ (x : Parts). IsBetween 1 744 x.top.window.hours) (record { top = b.0; layout = g.0; details = k.0 }) p k.2 (top_hours e b.0 b.1)

-- what is known of a configuration that is read
pub record IsReadable (c : Settings) : Type 0 where
  pub sound : IsSound c
  pub some : 1 ≤ c.window.hours
  pub few : c.window.hours ≤ 744

at_members : (ms : Members) (c : Settings) → config_at ms ≡ Ok c → IsReadable c
at_members ms c h =
    let a = bound (parts_of (document ms)) (λ p. Ok (settings_of p.top p.layout p.details)) c (sym (config_stages ms) ∙ h) in
    let hours = parts_hours (document ms) a.0 a.1 in
    ok_is IsReadable (settings_of a.0.top a.0.layout a.0.details) c a.2 (record { sound = (parts_are (document ms) a.0 a.1).sound; some = hours.0; few = hours.1 })

in_document : (ms : Option Members) (c : Settings) → config_in ms ≡ Ok c → IsReadable c
in_document None c h = absurd (cc)
in_document (Some ms) c h = at_members ms c h

-- a configuration that is read
pub config_readable : (bytes : List ℕ) (c : Settings) → config_of bytes ≡ Ok c → IsReadable c
unfolding config_of
config_readable bytes c h = in_document (document_of bytes) c h
