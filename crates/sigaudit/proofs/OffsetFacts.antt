-- The shifts of an approach: what is handed on, and the line's turn.
use Rattle.std.proofs.Common.{◌≡◌, ◌≤◌, ◌-◌, ◌∙◌, ℕ, Bool, true, false, List, [], ◌∷◌, ◌++◌, length, Option, Some, None, Result, Ok, Err, refl, sym, ap, subst, inl, inr, nat_le, get_or, take, append_assoc, append-nil, ◌+◌, ◌<◌}
use Rattle.std.specs.Prelude.{◌==◌, ◌&&◌, All, flat_map}
use Rattle.std.proofs.lemmas.Bool.{and_parts, cases_Bool, leb-true}
use Rattle.std.proofs.lemmas.List.{take_all, take_more}
use Rattle.std.proofs.lemmas.List.Concat.{flat_map-append}
use Rattle.std.proofs.lemmas.List.Elements.{All-append, All-cons, All-get_or, All-head, All-nil, All-tail, All-weaker}
use Rattle.outside.specs.Sink.{Stops, Taken, Writes}
use Rattle.hour_store.specs.Store.{Store}
use Rattle.service_cut.specs.declared.items.Cycle.{Cycle}
use Rattle.service_cut.specs.Whole.{CycleFits}
use Rattle.ring_config.specs.Settings.{Settings}
use Rattle.arrival_measures.specs.declared.points.Diagram.{Diagram}
use Rattle.arrival_measures.specs.declared.points.Point.{Point}
use Rattle.arrival_measures.specs.Points.{DiagramFits}
use Rattle.offset_search.specs.declared.arrival.Arrival.{Arrival}
use Rattle.offset_search.specs.Shifted.{IsInCycle, counts_of}
use Rattle.report_text.specs.declared.refusal.Refusal.TheVariants.{BadLine}
use Rattle.report_text.specs.Shifts.{shifts_text}
use Rattle.sigaudit.specs.Turns.{refuses}
use Rattle.sigaudit.specs.Offsets.{advance_of, arrival_of, arrivals_at, arrivals_in, arrivals_of, is_taken, offsets_of, offsets_text, offsets_turn, store_arrivals}
use Rattle.sigaudit.specs.Run.{TakesBy, TakesPut}
use Rattle.sigaudit.proofs.TakeFacts.{by_refusal}
use Rattle.sigaudit.specs.declared.status.Stopped.{Stopped}
use Rattle.sigaudit.specs.declared.status.Stopped.TheVariants as stopped

-- ---- the arrivals that are handed on lie in their cycles

in_taken : (x : Cycle) (p : Point) → is_taken x ≡ true → CycleFits x → p.offset < x.to - x.from → IsInCycle (arrival_of x p)
in_taken x p t fits low =
    let a = and_parts (nat_le 1 (x.to - x.from) && nat_le (x.to - x.from) 3000) (nat_le x.green x.yellow) t in
    let b = and_parts (nat_le 1 (x.to - x.from)) (nat_le (x.to - x.from) 3000) a.0 in
    record {
      some = leb-true 1 (x.to - x.from) b.0;
      few = leb-true (x.to - x.from) 3000 b.1;
      in_cycle = low;
      in_order = leb-true x.green x.yellow a.1;
      yellow_in = fits.yellow_in;
    }

at_in : (place : ℕ) (x : Cycle) (p : Point) → is_taken x ≡ true → CycleFits x → p.offset < x.to - x.from → All IsInCycle (arrivals_at place x p)
at_in place x p t fits low = elim (cases_Bool (p.approach == place)) as (λ _. All IsInCycle (arrivals_at place x p)) [
  | inl y ↦ rw y (All-cons IsInCycle (arrival_of x p) [] (in_taken x p t fits low) (All-nil IsInCycle))
  | inr n ↦ rw n (All-nil IsInCycle)
]

all_flat : {A B : Type 0} (P : B → Type 0) (Q : A → Type 0) (F : A → List B) → ((x : A) → Q x → All P (F x)) → (xs : List A) → All Q xs → All P (flat_map F xs)
all_flat P Q F one [] h = All-nil P
all_flat P Q F one (x ∷ xs) h = All-append P (F x) (flat_map F xs) (one x (All-head Q x xs h)) (all_flat P Q F one xs (All-tail Q x xs h))

one_in : (place : ℕ) (d : Diagram) → DiagramFits d → All IsInCycle (arrivals_in place d)
one_in place d fits = elim (cases_Bool (is_taken d.cycle)) as (λ _. All IsInCycle (arrivals_in place d)) [
  | inl t ↦ rw t (all_flat IsInCycle (λ p. p.offset < d.cycle.to - d.cycle.from) (arrivals_at place d.cycle) (λ p low. at_in place d.cycle p t fits.cycle_fits low) d.points fits.points_in)
  | inr n ↦ rw n (All-nil IsInCycle)
]

all_in : (place : ℕ) (ds : List Diagram) → All DiagramFits ds → All IsInCycle (arrivals_of place ds)
all_in place ds h = all_flat IsInCycle DiagramFits (arrivals_in place) (one_in place) ds h

pub handed_in : (place : ℕ) (ds ds' : List Diagram) (xs xs' : List Arrival) → All DiagramFits ds → ds' ≡ ds → xs ≡ arrivals_of place ds' → xs' ≡ xs → All IsInCycle xs'
handed_in place ds ds' xs xs' h e ea eb = rw (eb, ea, e) (all_in place ds h)

pub fit_as : (ds ds' : List Diagram) → All DiagramFits ds → ds' ≡ ds → All DiagramFits ds'
fit_as ds ds' h e = rw e h

pub in_order : (ds ds' : List Diagram) → All DiagramFits ds → ds' ≡ ds → All (λ d. d.cycle.from ≤ d.cycle.to) ds'
in_order ds ds' h e = rw e (All-weaker DiagramFits (λ d. d.cycle.from ≤ d.cycle.to) (λ d fits. fits.cycle_fits.in_order) ds h)

-- ---- one after another

pub flat_next : {A B : Type 0} (F : A → List B) (xs : List A) (i : ℕ) (d : A) (start old new : List B) → i < length xs → old ≡ start ++ flat_map F (take i xs) → new ≡ old ++ F (get_or xs i d)
    → new ≡ start ++ flat_map F (take (i + 1) xs)
flat_next F xs i d start old new lt h e =
    e ∙ ap (λ zs. zs ++ F (get_or xs i d)) h
    ∙ append_assoc start (flat_map F (take i xs)) (F (get_or xs i d))
    ∙ ap (λ zs. start ++ (flat_map F (take i xs) ++ zs)) (sym (append-nil (F (get_or xs i d))))
    ∙ ap (λ zs. start ++ zs) (sym (flat_map-append F (take i xs) (get_or xs i d ∷ [])))
    ∙ ap (λ zs. start ++ flat_map F zs) (sym (take_more xs i d lt))

pub flat_item : {A B : Type 0} (F : A → List B) (xs : List A) (i : ℕ) (x : A) (old new : List B) → i < length xs → x ≡ get_or xs i x → old ≡ flat_map F (take i xs) → new ≡ old ++ F x → new ≡ flat_map F (take (i + 1) xs)
flat_item F xs i x old new lt is h e = flat_next F xs i x [] old new lt h (e ∙ ap (λ y. old ++ F y) is)

pub item_in_order : (ds : List Diagram) (i : ℕ) (d : Diagram) → All (λ d. d.cycle.from ≤ d.cycle.to) ds → i < length ds → d ≡ get_or ds i d → d.cycle.from ≤ d.cycle.to
item_in_order ds i d h lt is = subst (λ (x : Diagram). x.cycle.from ≤ x.cycle.to) (sym is) (All-get_or (λ d. d.cycle.from ≤ d.cycle.to) ds i d lt h)

pub flat_end : {A B : Type 0} (F : A → List B) (xs ys : List A) (i : ℕ) (start all : List B) → length xs ≤ i → xs ≡ ys → all ≡ start ++ flat_map F (take i xs) → all ≡ start ++ flat_map F ys
flat_end F xs ys i start all over same h = h ∙ ap (λ zs. start ++ flat_map F zs) (take_all i xs over ∙ same)

pub taken_all : (place : ℕ) (d : Diagram) (b : Bool) (start all : List Arrival) → b ≡ is_taken d.cycle → b ≡ true → all ≡ start ++ flat_map (arrivals_at place d.cycle) d.points → all ≡ start ++ arrivals_in place d
taken_all place d b start all e t h = let y : is_taken d.cycle ≡ true = sym e ∙ t in rw y h

pub taken_none : (place : ℕ) (d : Diagram) (b : Bool) (start : List Arrival) → b ≡ is_taken d.cycle → b ≡ false → start ≡ start ++ arrivals_in place d
taken_none place d b start e f = let n : is_taken d.cycle ≡ false = sym e ∙ f in rw n (sym (append-nil start))

-- ---- the turn

pub offsets_absent : (c c' c'' : Settings) (n : ℕ) (name : List ℕ) (s : Store) (w w' : Taken) (r : Result Bool Stopped) → c' ≡ c → c'' ≡ c → None ≡ advance_of c' name
    → ((x : Store) → TakesPut (refuses c'' n BadLine x) w w' x r) → TakesBy (λ t. t ≡ offsets_of c n name s) w w' s r
offsets_absent c c' c'' n name s w w' r ec ed e h =
    let absent : None ≡ advance_of c name = e ∙ ap (λ (k : Settings). advance_of k name) ec in
    subst (λ (o : Option (ℕ × ℕ)). TakesBy (λ t. t ≡ offsets_turn c n name s o) w w' s r) absent (by_refusal (λ t. t ≡ refuses c n BadLine s) c c'' n BadLine s w w' r ed refl h)

same_text : (c : Settings) (n : ℕ) (name : List ℕ) (s : Store) (at : ℕ × ℕ) (count : ℕ) (counts : List ℕ) → counts ≡ counts_of (store_arrivals c s at) → count ≡ length (store_arrivals c s at)
    → shifts_text n name counts count ≡ offsets_text n name (store_arrivals c s at)
same_text c n name s at count counts e k = rw (e, k) refl

pub offsets_done : (c c' : Settings) (n : ℕ) (name : List ℕ) (s : Store) (at : ℕ × ℕ) (count : ℕ) (counts : List ℕ) (w w' : Taken) → c' ≡ c → Some at ≡ advance_of c' name
    → count ≡ length (store_arrivals c s at) → counts ≡ counts_of (store_arrivals c s at) → Writes w w' (shifts_text n name counts count) → TakesBy (λ t. t ≡ offsets_of c n name s) w w' s (Ok false)
offsets_done c c' n name s at count counts w w' ec e el es a =
    let there : Some at ≡ advance_of c name = e ∙ ap (λ (k : Settings). advance_of k name) ec in
    let a' = subst (λ (text : List ℕ). Writes w w' text) (same_text c n name s at count counts es el) a in
    subst (λ (o : Option (ℕ × ℕ)). TakesBy (λ t. t ≡ offsets_turn c n name s o) w w' s (Ok false)) there (offsets_turn c n name s (Some at), refl, a', refl, refl)

pub offsets_cut : (c c' : Settings) (n : ℕ) (name : List ℕ) (s : Store) (at : ℕ × ℕ) (count : ℕ) (counts : List ℕ) (w w' : Taken) → c' ≡ c → Some at ≡ advance_of c' name
    → count ≡ length (store_arrivals c s at) → counts ≡ counts_of (store_arrivals c s at) → Stops w w' (shifts_text n name counts count) → TakesBy (λ t. t ≡ offsets_of c n name s) w w' s (Err stopped.Fault)
offsets_cut c c' n name s at count counts w w' ec e el es a =
    let there : Some at ≡ advance_of c name = e ∙ ap (λ (k : Settings). advance_of k name) ec in
    let a' = subst (λ (text : List ℕ). Stops w w' text) (same_text c n name s at count counts es el) a in
    subst (λ (o : Option (ℕ × ℕ)). TakesBy (λ t. t ≡ offsets_turn c n name s o) w w' s (Err stopped.Fault)) there (offsets_turn c n name s (Some at), refl, a')

-- an approach with an advance detector isn't one without
pub advance_still : (c c' : Settings) (name : List ℕ) (at : ℕ × ℕ) (old now : List ℕ) → c' ≡ c → Some at ≡ advance_of c' name → advance_of c name ≡ None → now ≡ old
advance_still c c' name at old now ec e n =
    let there : Some at ≡ advance_of c name = e ∙ ap (λ (k : Settings). advance_of k name) ec in
    absurd (let bad : Some at ≡ None = there ∙ n in cc)
