-- The diagrams of a phase, one after another.
use Rattle.std.proofs.Common.{◌≡◌, ◌<◌, ◌*◌, ◌++◌, ◌∙◌, ℕ, Bool, true, false, List, [], ◌∷◌, length, Option, Some, None, Result, Ok, Err, refl, sym, ap, subst, cond}
use Rattle.std.specs.List.{All, cons_option}
use Rattle.std.specs.Prelude.{◌==◌}
use Rattle.std.proofs.lemmas.List.Elements.{All-cons, All-filter, All-head, All-map, All-nil, All-push, All-same, All-tail, All-weaker, filter_passes}
use Rattle.outside.specs.Sink.{Stops, Taken, Writes}
use Rattle.sig_base.specs.declared.values.PhaseItem.{PhaseItem}
use Rattle.sig_base.specs.declared.values.Row.{Row}
use Rattle.sig_base.specs.Numbers.{has_phase}
use Rattle.hour_store.specs.Store.{Store, is_known, known_rows, rows_of}
use Rattle.service_cut.specs.declared.items.Cycle.{Cycle}
use Rattle.service_cut.specs.Cut.{cycles_from}
use Rattle.service_cut.specs.Cycles.{cycle_at, cycle_begun, cycle_begun_in, cycle_begun_of, cycle_of, is_yellow_end, last_end_from}
use Rattle.service_cut.proofs.WholeCycles.{EndIs, end_is, if_true}
use Rattle.ring_config.specs.Settings.{Settings}
use Rattle.arrival_measures.specs.declared.points.Diagram.{Diagram}
use Rattle.arrival_measures.specs.Hours.{cycles_of}
use Rattle.arrival_measures.specs.Points.{diagram_of, diagrams_of, points_from}
use Rattle.decisive.proofs.Concluded.{known_within}
use Rattle.report_text.specs.Approaches.{diagrams_text}
use Rattle.report_text.specs.declared.refusal.Refusal.TheVariants.{BadLine}
use Rattle.sigaudit.specs.Turns.{refuses}
use Rattle.report_text.specs.Heads.{points_head}
use Rattle.sigaudit.specs.Points.{points_of_phase, points_turn}
use Rattle.sigaudit.specs.Run.{TakesBy, TakesPut}
use Rattle.sigaudit.proofs.TakeFacts.{by_refusal}
use Rattle.sigaudit.specs.declared.status.Stopped.{Stopped}
use Rattle.sigaudit.specs.declared.status.Stopped.TheVariants as stopped

-- ---- each cycle begins at one of the rows

-- the row is before a tenth, and the cycle begins before it
abbrev IsEarly : ℕ → Row → Type 0
IsEarly t x = x.at < t

abbrev BeginsEarly : ℕ → Cycle → Type 0
BeginsEarly t c = c.from < t

between : (t : ℕ) (front : List Row) (x : Row) (back : List Row) → All (IsEarly t) (front ++ x ∷ back) → x.at < t
between t [] x back h = All-head (IsEarly t) x back h
between t (z ∷ front) x back h = between t front x back (All-tail (IsEarly t) z (front ++ x ∷ back) h)

-- where a cycle begins
abbrev begin_of : Option Cycle → ℕ
begin_of None = 0
begin_of (Some c) = c.from

begun_if : (b : Bool) (p : ℕ) (f : Row) (after : List Row) (r : Row) (c : Cycle) → cycle_of p (cond b (Some (cycle_begun p f after)) None) r ≡ Some c → f.at ≡ c.from
begun_if true p f after r c e = ap begin_of e
begun_if false p f after r c e = absurd (cc)

begun_early : (known : ℕ → Bool) (p t : ℕ) (before : List Row) (r : Row) (c : Cycle) (o : Option (Row × List Row)) → All (IsEarly t) before → EndIs known p [] before o
    → cycle_of p (cycle_begun_in known r.at p o) r ≡ Some c → c.from < t
begun_early known p t before r c None early h e = absurd (cc)
begun_early known p t before r c (Some f) early h e =
    let same : f.0.at ≡ c.from = begun_if _ p f.0 f.1 r c e in
    subst (λ (n : ℕ). n < t) same (between t h.0 f.0 f.1 (All-same (IsEarly t) (h.0 ++ f.0 ∷ f.1) before (sym h.1) early))

cycle_early : (known : ℕ → Bool) (p t : ℕ) (before : List Row) (r : Row) (c : Cycle) → All (IsEarly t) before → cycle_at known p before r ≡ Some c → c.from < t
unfolding cycle_at cycle_begun_of
cycle_early known p t before r c early e =
    let h = if_true (is_yellow_end known p before r) (cycle_of p (cycle_begun_in known r.at p (last_end_from known p [] before)) r) c e in
    begun_early known p t before r c (last_end_from known p [] before) early (end_is known p [] before) h.1

-- what a row gives stands in front
in_front : (t : ℕ) (o : Option Cycle) (cs : List Cycle) → ((c : Cycle) → o ≡ Some c → c.from < t) → All (BeginsEarly t) cs → All (BeginsEarly t) (cons_option o cs)
in_front t None cs one rest = rest
in_front t (Some c) cs one rest = All-cons (BeginsEarly t) c cs (one c refl) rest

cycles_early : (known : ℕ → Bool) (phases : List PhaseItem) (t : ℕ) (before rows : List Row) → All (IsEarly t) before → All (IsEarly t) rows → All (BeginsEarly t) (cycles_from known phases before rows)
cycles_early known phases t before [] early h = All-nil (BeginsEarly t)
cycles_early known phases t before (r ∷ rs) early h =
    let at_row = All-head (IsEarly t) r rs h in
    in_front t (cond (has_phase phases r.param) (cycle_at known r.param before r) None) (cycles_from known phases (before ++ r ∷ []) rs)
    (λ c e. cycle_early known r.param t before r c early ((if_true (has_phase phases r.param) (cycle_at known r.param before r) c e).1))
    (cycles_early known phases t (before ++ r ∷ []) rs (All-push (IsEarly t) before r early at_row) (All-tail (IsEarly t) r rs h))

-- the known rows of a store are in its window
rows_early : (s : Store) → All (IsEarly (36000 * length s.hours)) (known_rows s)
rows_early s =
    All-weaker (λ r. is_known s r.at ≡ true) (IsEarly (36000 * length s.hours)) (λ r h. known_within s r.at h) (known_rows s) (filter_passes (λ r. is_known s r.at) (rows_of s.hours))

-- a diagram's cycle begins before a tenth
abbrev IsWithin : ℕ → Diagram → Type 0
IsWithin t d = d.cycle.from < t

diagrams_early : (c : Settings) (s : Store) (p : ℕ) → All (IsWithin (36000 * length s.hours)) (diagrams_of (is_known s) c p (known_rows s))
diagrams_early c s p =
    let t = 36000 * length s.hours in
    All-map (IsWithin t) (diagram_of (points_from (is_known s) c p [] (known_rows s))) (cycles_of (is_known s) c p [] (known_rows s))
    (All-filter (λ x. x.phase == p) (BeginsEarly t) (cycles_from (is_known s) c.phases [] (known_rows s))
    (cycles_early (is_known s) c.phases t [] (known_rows s) (All-nil (IsEarly t)) (rows_early s)))

pub diagrams_in : (c c' : Settings) (s : Store) (p : ℕ) (ds ds' : List Diagram) → c' ≡ c → length s.hours ≡ c.window.hours → ds ≡ diagrams_of (is_known s) c p (known_rows s) → ds' ≡ ds
    → All (λ d. d.cycle.from < 36000 * c'.window.hours) ds'
diagrams_in c c' s p ds ds' ec size e e' = rw (e', e, ec, ← size) (diagrams_early c s p)

-- ---- the turn of a phase

-- what the diagrams say, in the words of the configuration and the store
same_text : (c c' : Settings) (s : Store) (p : ℕ) (ds ds' : List Diagram) → c' ≡ c → ds ≡ diagrams_of (is_known s) c p (known_rows s) → ds' ≡ ds
    → diagrams_text c' ds' ≡ diagrams_text c (diagrams_of (is_known s) c p (known_rows s))
same_text c c' s p ds ds' ec e e' = ap (λ (k : Settings). diagrams_text k ds') ec ∙ ap (λ (xs : List Diagram). diagrams_text c xs) (e' ∙ e)

-- they were written, or cut off
pub points_done : (c c' : Settings) (n p : ℕ) (s : Store) (ds ds' : List Diagram) (w w' : Taken) → c' ≡ c → ds ≡ diagrams_of (is_known s) c p (known_rows s) → ds' ≡ ds → Writes w w' (points_head n p ++ diagrams_text c' ds')
    → TakesBy (λ t. t ≡ points_turn c n p s true) w w' s (Ok false)
points_done c c' n p s ds ds' w w' ec e e' h =
    let h' = subst (λ (xs : List ℕ). Writes w w' (points_head n p ++ xs)) (same_text c c' s p ds ds' ec e e') h in
    (points_turn c n p s true, refl, h', refl, refl)

pub points_cut : (c c' : Settings) (n p : ℕ) (s : Store) (ds ds' : List Diagram) (w w' : Taken) → c' ≡ c → ds ≡ diagrams_of (is_known s) c p (known_rows s) → ds' ≡ ds → Stops w w' (points_head n p ++ diagrams_text c' ds')
    → TakesBy (λ t. t ≡ points_turn c n p s true) w w' s (Err stopped.Fault)
points_cut c c' n p s ds ds' w w' ec e e' h =
    let h' = subst (λ (xs : List ℕ). Stops w w' (points_head n p ++ xs)) (same_text c c' s p ds ds' ec e e') h in
    (points_turn c n p s true, refl, h')

-- a phase that is configured, or isn't
pub phase_there : (c c' : Settings) (n p : ℕ) (s : Store) (b : Bool) (w w' : Taken) (r : Result Bool Stopped) → c' ≡ c → b ≡ has_phase c'.phases p → b ≡ true
    → TakesBy (λ t. t ≡ points_turn c n p s true) w w' s r → TakesBy (λ t. t ≡ points_of_phase c n p s) w w' s r
phase_there c c' n p s b w w' r ec e y h =
    let there : true ≡ has_phase c.phases p = sym y ∙ e ∙ ap (λ (k : Settings). has_phase k.phases p) ec in
    subst (λ (x : Bool). TakesBy (λ t. t ≡ points_turn c n p s x) w w' s r) there h

pub phase_absent : (c c' c'' : Settings) (n p : ℕ) (s : Store) (b : Bool) (w w' : Taken) (r : Result Bool Stopped) → c' ≡ c → c'' ≡ c → b ≡ has_phase c'.phases p → b ≡ false
    → ((x : Store) → TakesPut (refuses c'' n BadLine x) w w' x r) → TakesBy (λ t. t ≡ points_of_phase c n p s) w w' s r
phase_absent c c' c'' n p s b w w' r ec ed e y h =
    let absent : false ≡ has_phase c.phases p = sym y ∙ e ∙ ap (λ (k : Settings). has_phase k.phases p) ec in
    subst (λ (x : Bool). TakesBy (λ t. t ≡ points_turn c n p s x) w w' s r) absent (by_refusal (λ t. t ≡ refuses c n BadLine s) c c'' n BadLine s w w' r ed refl h)

-- a phase that is configured isn't one that isn't
pub phase_still : (c c' : Settings) (p : ℕ) (b : Bool) (old now : List ℕ) → c' ≡ c → b ≡ has_phase c'.phases p → b ≡ true → has_phase c.phases p ≡ false → now ≡ old
phase_still c c' p b old now ec e y n =
    let there : true ≡ has_phase c.phases p = sym y ∙ e ∙ ap (λ (k : Settings). has_phase k.phases p) ec in
    absurd (let bad : true ≡ false = there ∙ n in cc)
