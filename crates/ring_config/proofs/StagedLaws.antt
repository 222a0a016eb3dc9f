-- The configuration of a document is what its stages give.
use Rattle.std.proofs.Common.{◌≡◌, false, [], Ok, Err, refl, sym, ◌∙◌}
use Rattle.toml.specs.Data.{Members}
use Rattle.ring_config.specs.declared.error.KeyName.TheVariants as keys
use Rattle.ring_config.specs.Reading.{Read, ◌>>=◌, EntryData, only, required, defaulted}
use Rattle.ring_config.specs.Values as values
use Rattle.ring_config.specs.Walk.{entries_of}
use Rattle.ring_config.specs.Tables.{LayoutArrays, DetailArrays, Top, top_keys, top_of, layout_arrays_of, detail_arrays_of, phase_rules, ped_rules, overlap_rules, preempt_rules, conflict_rules, allow_rules, floor_rules, interval_rules, approach_rules}
use Rattle.ring_config.specs.Settings.{Settings, Layout, Details, Parts, layout_of, details_of, parts_of, settings_of, document, config_at, staged_at, signal_channels}

-- what is read next may be replaced by what is the same
then_same : {A Y : Type 0} (a : Read A) (f g : A → Read Y) → ((x : A) → f x ≡ g x) → (a >>= f) ≡ (a >>= g)
then_same (Ok x) f g same = same x
then_same (Err e) f g same = refl

-- a stage of one to six readings, and what is read after it
after_1 : {A X Y : Type 0} (a : Read A) (f : A → X) (k : X → Read Y) (g : A → Read Y) → ((x : A) → k (f x) ≡ g x) → ((a >>= λ x. Ok (f x)) >>= k) ≡ (a >>= g)
after_1 (Ok x) f k g same = same x
after_1 (Err e) f k g same = refl

pub after_2 : {A B X Y : Type 0} (a : Read A) (b : A → Read B) (f : A → B → X) (k : X → Read Y) (g : A → B → Read Y) → ((x : A) (y : B) → k (f x y) ≡ g x y) → ((a >>= λ x. b x >>= λ y. Ok (f x y)) >>= k) ≡ (a >>= λ x. b x >>= g x)
after_2 (Ok x) b f k g same = after_1 (b x) (f x) k (g x) (same x)
after_2 (Err e) b f k g same = refl

after_3 : {A B C X Y : Type 0} (a : Read A) (b : A → Read B) (c : A → B → Read C) (f : A → B → C → X) (k : X → Read Y) (g : A → B → C → Read Y) → ((x : A) (y : B) (z : C) → k (f x y z) ≡ g x y z) → ((a >>= λ x. b x >>= λ y. c x y >>= λ z. Ok (f x y z)) >>= k) ≡ (a >>= λ x. b x >>= λ y. c x y >>= g x y)
after_3 (Ok x) b c f k g same = after_2 (b x) (c x) (f x) k (g x) (same x)
after_3 (Err e) b c f k g same = refl

pub after_4 : {A B C D X Y : Type 0} (a : Read A) (b : A → Read B) (c : A → B → Read C) (d : A → B → C → Read D) (f : A → B → C → D → X) (k : X → Read Y) (g : A → B → C → D → Read Y) → ((x : A) (y : B) (z : C) (w : D) → k (f x y z w) ≡ g x y z w) → ((a >>= λ x. b x >>= λ y. c x y >>= λ z. d x y z >>= λ w. Ok (f x y z w)) >>= k) ≡ (a >>= λ x. b x >>= λ y. c x y >>= λ z. d x y z >>= g x y z)
after_4 (Ok x) b c d f k g same = after_3 (b x) (c x) (d x) (f x) k (g x) (same x)
after_4 (Err e) b c d f k g same = refl

after_5 : {A B C D E X Y : Type 0} (a : Read A) (b : A → Read B) (c : A → B → Read C) (d : A → B → C → Read D) (e : A → B → C → D → Read E) (f : A → B → C → D → E → X) (k : X → Read Y) (g : A → B → C → D → E → Read Y) → ((x : A) (y : B) (z : C) (w : D) (v : E) → k (f x y z w v) ≡ g x y z w v) → ((a >>= λ x. b x >>= λ y. c x y >>= λ z. d x y z >>= λ w. e x y z w >>= λ v. Ok (f x y z w v)) >>= k) ≡ (a >>= λ x. b x >>= λ y. c x y >>= λ z. d x y z >>= λ w. e x y z w >>= g x y z w)
after_5 (Ok x) b c d e f k g same = after_4 (b x) (c x) (d x) (e x) (f x) k (g x) (same x)
after_5 (Err r) b c d e f k g same = refl

after_6 : {A B C D E F X Y : Type 0} (a : Read A) (b : A → Read B) (c : A → B → Read C) (d : A → B → C → Read D) (e : A → B → C → D → Read E) (h : A → B → C → D → E → Read F) (f : A → B → C → D → E → F → X) (k : X → Read Y) (g : A → B → C → D → E → F → Read Y) → ((x : A) (y : B) (z : C) (w : D) (v : E) (u : F) → k (f x y z w v u) ≡ g x y z w v u) → ((a >>= λ x. b x >>= λ y. c x y >>= λ z. d x y z >>= λ w. e x y z w >>= λ v. h x y z w v >>= λ u. Ok (f x y z w v u)) >>= k) ≡ (a >>= λ x. b x >>= λ y. c x y >>= λ z. d x y z >>= λ w. e x y z w >>= λ v. h x y z w v >>= g x y z w v)
after_6 (Ok x) b c d e h f k g same = after_5 (b x) (c x) (d x) (e x) (h x) (f x) k (g x) (same x)
after_6 (Err r) b c d e h f k g same = refl

-- the stages one after another
flat_at : Members → Read Settings
flat_at ms = only top_keys (document ms) >>= λ _. top_of (document ms) >>= λ t. layout_arrays_of (document ms) >>= λ x. detail_arrays_of (document ms) >>= λ y. layout_of x >>= λ l. details_of l y >>= λ d. Ok (settings_of t l d)

flat_is : (ms : Members) → staged_at ms ≡ flat_at ms
unfolding parts_of flat_at
flat_is ms =
    let e : EntryData = document ms in
    after_6 (only top_keys e) (λ _. top_of e) (λ _ t. layout_arrays_of e) (λ _ t x. detail_arrays_of e) (λ _ t x y. layout_of x) (λ _ t x y l. details_of l y)
    (λ _ t x y l d. let p : Parts = record { top = t; layout = l; details = d } in p) (λ p. Ok (settings_of p.top p.layout p.details)) (λ _ t x y l d. Ok (settings_of t l d)) (λ _ t x y l d. refl)

same_at : (ms : Members) → flat_at ms ≡ config_at ms
unfolding flat_at config_at top_of layout_arrays_of detail_arrays_of layout_of details_of values.signal values.start values.yes_or_no
same_at ms =
    let e : EntryData = document ms in
    then_same (only top_keys e) _ _ (λ _.
    after_4 (required values.signal keys.Signal e) (λ s. required values.start keys.Start e) (λ s f. required (values.window f) keys.Hours e) (λ s f w. defaulted false values.yes_or_no keys.Coordination e)
    (λ s f w c. let t : Top = record { signal = s; window = w; coordination = c } in t) _ _ (λ s f w c.
    after_4 (defaulted [] values.tables keys.Phase e) (λ _. defaulted [] values.tables keys.Ped e) (λ _ _. defaulted [] values.tables keys.Overlap e) (λ _ _ _. defaulted [] values.tables keys.Preempt e)
    (λ p q o r. let x : LayoutArrays = record { phase = p; ped = q; overlap = o; preempt = r } in x) _ _ (λ xp xq xo xr.
    after_5 (defaulted [] values.tables keys.Conflict e) (λ _. defaulted [] values.tables keys.Allow e) (λ _ _. defaulted [] values.tables keys.Floor e) (λ _ _ _. defaulted [] values.tables keys.Interval e) (λ _ _ _ _. defaulted [] values.tables keys.Approach e)
    (λ c a f i p. let y : DetailArrays = record { conflict = c; allow = a; floor = f; interval = i; approach = p } in y) _ _ (λ yc ya yf yi yp.
    after_4 (entries_of phase_rules xp) (λ p. entries_of (ped_rules p) xq) (λ p q. entries_of (overlap_rules p) xo) (λ p q o. entries_of preempt_rules xr)
    (λ p q o r. let l : Layout = record { phases = p; peds = q; overlaps = o; preempts = r } in l) _ _ (λ p q o r.
    let l : Layout = record { phases = p; peds = q; overlaps = o; preempts = r } in
    after_5 (entries_of (conflict_rules p) yc) (λ k. entries_of (allow_rules p k) ya) (λ k a. entries_of (floor_rules (signal_channels l)) yf) (λ k a g. entries_of (interval_rules (signal_channels l)) yi) (λ k a g i. entries_of (approach_rules p) yp)
    (λ k a g i v. let d : Details = record { conflicts = k; allows = a; floors = g; intervals = i; approaches = v } in d) _ _ (λ k a g i v. refl))))))

-- a document is read as its stages are
pub config_stages : (ms : Members) → config_at ms ≡ staged_at ms
config_stages ms = sym (flat_is ms ∙ same_at ms)
