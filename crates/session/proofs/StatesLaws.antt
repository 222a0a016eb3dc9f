-- Forward over the hours that an edit changes: the states.
use Rattle.std.proofs.Common.{◌≡◌, ◌∙◌, ◌⊎◌, inl, inr, ℕ, zero, suc, ◌+◌, ◌*◌, ◌<◌, ◌≤◌, Bool, true, false, List, [], ◌∷◌, ◌++◌, length, length-append, get_or, map, refl, sym, ap, subst, arith}
use Rattle.std.specs.Prelude.{is_some}
use Rattle.std.proofs.lemmas.Bool.{cases_lt}
use Rattle.std.proofs.lemmas.List.{get_or-map, get_or_default, length-map}
use Rattle.gap_map.specs.Cuts.{stretch}
use Rattle.gap_map.specs.declared.stretch.Stretch.{Stretch}
use Rattle.gap_map.specs.Stretches.{IsCut, known_in}
use Rattle.hour_store.specs.Store.{IsStore, Store, rows_at}
use Rattle.board.specs.Channels.{AreSpecs}
use Rattle.board.specs.Logs.{first_tenth}
use Rattle.board.specs.Places.{AllEarly, AreSamePasts}
use Rattle.ring_config.specs.Settings.{Settings}
use Rattle.ring_config.specs.Sound.{IsSound}
use Rattle.signal_log.specs.Log.{HasHistory, log_of}
use Rattle.signal_log.specs.Points.{ArePastsAt}
use Rattle.signal_log.proofs.Hour.{pasts_at}
use Rattle.signal_log.proofs.Lawful.{some_history}
use Rattle.rule_audit.proofs.Tracked.{channels_are}
use Rattle.strand_search.proofs.Told.{has}
use Rattle.hour_work.specs.Numbers.{patched}
use Rattle.hour_work.specs.Points.{Carried}
use Rattle.hour_work.proofs.PatchLaws.{patched-at, patched-below, patched-last, patched-more, patched-past}
use Rattle.session.specs.Links.{AreCarriesBut, LeadsAt, States, StatesLead, StatesLeadAt}
use Rattle.session.specs.Renewed.{AreCarriesTo, AreNewCarries, AreNewPasts, states_with}
use Rattle.session.proofs.KeptLaws.{carry_kept, carry_up}

-- ---- each hour has its cut

same_or_not : (x y : Bool) → (x ≡ y) ⊎ (x ≡ y → ⊥)
same_or_not true true = inl refl
same_or_not true false = inr (λ e. cc)
same_or_not false true = inr (λ e. cc)
same_or_not false false = inl refl

-- one more tenth before those that are cut
cut_more : (known : ℕ → Bool) (a b : ℕ) (ss : List Stretch) → IsCut known (a + 1) b ss → (zs : List Stretch) × IsCut known a b zs
cut_more known a b [] cut =
    (stretch a (a + 1) (known a) ∷ [], record { stretches = (refl, omega arith, λ t low high. (let here : t ≡ a = omega arith in ap known here), cut.stretches); alternate = (tt, tt) })
cut_more known a b (s ∷ ss) cut = elim (same_or_not (known a) s.known) [
  | inl same ↦
      let each : (t : ℕ) → a ≤ t → t < s.to → known t ≡ s.known = λ t low high. elim (cases_lt a t) [
        | inl above ↦ cut.stretches.2 t (omega arith) high
        | inr no_more ↦ let here : t ≡ a = omega arith in ap known here ∙ same
      ] in
      let some : a + 1 < s.to = cut.stretches.1 in
      (stretch a s.to s.known ∷ ss, record { stretches = (refl, omega arith, each, cut.stretches.3); alternate = cut.alternate })
  | inr other ↦ (
    stretch a (a + 1) (known a) ∷ s ∷ ss,
    record {
      stretches = (refl, omega arith, λ t low high. (let here : t ≡ a = omega arith in ap known here), cut.stretches);
      alternate = (λ e. other (sym e), cut.alternate);
    },
  )
]

-- so many tenths from a tenth on have a cut
pub has_cut : (known : ℕ → Bool) (n a : ℕ) → (ss : List Stretch) × IsCut known a (a + n) ss
has_cut known zero a = ([], record { stretches = omega arith; alternate = tt })
has_cut known (suc n) a =
    let (ss, cut) = has_cut known n (a + 1) in
    let end : a + 1 + n ≡ a + suc n = omega arith in
    cut_more known a (a + suc n) ss (subst (λ (b : ℕ). IsCut known (a + 1) b ss) end cut)

-- what the store says of the states at a point, it says at the next one
pub states_on : (c : Settings) (s : Store) (k : ℕ) (before after : States) → AreSpecs c.specs → IsStore s → k < length s.hours → ArePastsAt (log_of c.specs s) k before → StatesLead c s k before after → ArePastsAt (log_of c.specs s) (k + 1) after
states_on c s k before after are is lt at leads =
    let (ss, cut) = has_cut (known_in (is_some (rows_at s k)) s.blanks) 36000 (36000 * k) in
    let end : first_tenth (k + 1) ≡ 36000 * k + 36000 = omega arith in
    pasts_at c.specs s k (rows_at s k) s.blanks ss before after are (has s k is lt) cut at leads.shape (subst (λ (t : ℕ). AllEarly t after) end leads.early) (leads.over.1 ss cut)

-- ---- the states of what is kept

no_carry : Carried
no_carry = record { pasts = []; known = true; cuts = []; closing = []; splits = []; others = record { peds = []; preempts = [] }; arrivals = record { crossings = []; flags = [] } }

pub kept_states : (kept : List Carried) (k : ℕ) (d : Carried) → k < length kept → get_or (map (λ (x : Carried). x.pasts) kept) k [] ≡ (get_or kept k d).pasts
kept_states kept k d lt = get_or-map (λ (x : Carried). x.pasts) kept k d [] lt

pub size_states : (kept : List Carried) → length (map (λ (x : Carried). x.pasts) kept) ≡ length kept
size_states kept = length-map kept (λ (x : Carried). x.pasts)

-- up to the point of the hour `first`
pub states_below : (kept : List Carried) (first : ℕ) (fresh : List States) (k : ℕ) (d : Carried) → first < length kept → k ≤ first → get_or (states_with kept first fresh) k [] ≡ (get_or kept k d).pasts
states_below kept first fresh k d room le =
    let n = size_states kept in
    patched-below (map (λ (x : Carried). x.pasts) kept) (first + 1) fresh k [] (omega arith) (omega arith) ∙ kept_states kept k d (omega arith)

-- and past those that are new
pub states_past : (kept : List Carried) (first : ℕ) (fresh : List States) (k : ℕ) (d : Carried) → first < length kept → first + 1 + length fresh ≤ k → k < length kept → get_or (states_with kept first fresh) k [] ≡ (get_or kept k d).pasts
states_past kept first fresh k d room ge lt =
    let n = size_states kept in
    patched-past (map (λ (x : Carried). x.pasts) kept) (first + 1) fresh k [] (omega arith) (omega arith) ∙ kept_states kept k d lt

states_more : (kept : List Carried) (first : ℕ) (fresh : List States) (next : States) (k : ℕ) → first < length kept → k ≤ first + length fresh → get_or (states_with kept first (fresh ++ next ∷ [])) k [] ≡ get_or (states_with kept first fresh) k []
states_more kept first fresh next k room le =
    let n = size_states kept in
    patched-more (map (λ (x : Carried). x.pasts) kept) (first + 1) fresh next k [] (omega arith) (omega arith)

states_last : (kept : List Carried) (first : ℕ) (fresh : List States) (next : States) (k : ℕ) → first < length kept → k ≡ first + 1 + length fresh → get_or (states_with kept first (fresh ++ next ∷ [])) k [] ≡ next
states_last kept first fresh next k room e =
    let n = size_states kept in
    patched-last (map (λ (x : Carried). x.pasts) kept) (first + 1) fresh next k [] (omega arith) e

lead_as : (c : Settings) (s : Store) (k : ℕ) (a a2 b b2 : States) → a2 ≡ a → b2 ≡ b → StatesLead c s k a b → StatesLead c s k a2 b2
lead_as c s k a a2 b b2 e q p = subst (λ (v : States). StatesLead c s k v b2) (sym e) (subst (λ (v : States). StatesLead c s k a v) (sym q) p)

-- what is kept leads on, so do its states
pub lead_states : (c : Settings) (s : Store) (kept : List Carried) (k : ℕ) (d : Carried) → LeadsAt c s kept k → StatesLead c s k (get_or kept k d).pasts (get_or kept (k + 1) d).pasts
lead_states c s kept k d leads = let over = (leads d).over in record { over = over.over; shape = over.fit.shape; early = over.fit.early }

-- ---- from point to point

-- the way from the hour `first` has come to the point before the hour `hour`
pub record AreWalked (c : Settings) (s : Store) (first : ℕ) (kept : List Carried) (fresh : List States) (hour : ℕ) : Type 0 where
  pub size : first + length fresh ≡ hour
  pub here : ArePastsAt (log_of c.specs s) hour (get_or (states_with kept first fresh) hour [])
  pub leads : (k : ℕ) → k < hour → StatesLeadAt c s (states_with kept first fresh) k

pub walked_start : (c : Settings) (s : Store) (first last : ℕ) (kept : List Carried) (fresh : List States) → IsStore s → first ≤ last → last < length s.hours → AreCarriesBut c s first last kept → fresh ≡ [] → AreWalked c s first kept fresh first
walked_start c s first last kept fresh is order within but e =
    let size = but.size in
    let d = no_carry in
    let same : (k : ℕ) → k ≤ first → get_or (states_with kept first []) k [] ≡ (get_or kept k d).pasts = λ k le. states_below kept first [] k d (omega arith) le in
    let at = carry_up c s kept first is (omega arith) but.start (λ k lt. but.leads k (omega arith) (inl lt)) first d (omega arith) in
    rw e (record {
      size = omega arith;
      here = subst (λ (v : States). ArePastsAt (log_of c.specs s) first v) (sym (same first (omega arith))) at.pasts;
      leads = λ k lt. lead_as c s k (get_or kept k d).pasts (get_or (states_with kept first []) k []) (get_or kept (k + 1) d).pasts (get_or (states_with kept first []) (k + 1) []) (same k (omega arith)) (same (k + 1) (omega arith)) (lead_states c s kept k d (but.leads k (omega arith) (inl lt)));
    })

-- the last of the new states, or those that are kept
pub walked_at : (c : Settings) (s : Store) (first : ℕ) (kept : List Carried) (fresh : List States) (hour : ℕ) (there : Carried) (before : States) → AreWalked c s first kept fresh hour → first < length kept → there ≡ get_or kept first there → before ≡ get_or (there.pasts ∷ fresh) (length fresh) [] → before ≡ get_or (states_with kept first fresh) hour []
walked_at c s first kept [] hour there before p room at e =
    let n = p.size in
    let here : first ≡ hour = omega arith in
    e ∙ (ap (λ (v : Carried). v.pasts) at ∙ (sym (states_below kept first [] first there room (omega arith)) ∙ ap (λ (k : ℕ). get_or (states_with kept first []) k []) here))
walked_at c s first kept (f ∷ fs) hour there before p room at e =
    let n = p.size in
    let m = size_states kept in
    let here : hour ≡ first + 1 + length fs = omega arith in
    e ∙ sym (patched-at (map (λ (x : Carried). x.pasts) kept) (first + 1) (f ∷ fs) hour (length fs) [] (omega arith) here (omega arith))

pub walked_on : (c : Settings) (s : Store) (first : ℕ) (kept : List Carried) (fresh items : List States) (hour : ℕ) (before next : States) → length kept ≡ length s.hours + 1 → hour < length s.hours → AreWalked c s first kept fresh hour → before ≡ get_or (states_with kept first fresh) hour []
    → StatesLead c s hour before next → ArePastsAt (log_of c.specs s) (hour + 1) next → items ≡ fresh ++ next ∷ [] → AreWalked c s first kept items (hour + 1)
walked_on c s first kept fresh items hour before next size lt p at leads there e =
    let n = p.size in
    let old : (k : ℕ) → k ≤ hour → get_or (states_with kept first (fresh ++ next ∷ [])) k [] ≡ get_or (states_with kept first fresh) k [] = λ k le. states_more kept first fresh next k (omega arith) (omega arith) in
    let new : get_or (states_with kept first (fresh ++ next ∷ [])) (hour + 1) [] ≡ next = states_last kept first fresh next (hour + 1) (omega arith) (omega arith) in
    rw e (record {
      size = rw length-append (omega arith);
      here = subst (λ (v : States). ArePastsAt (log_of c.specs s) (hour + 1) v) (sym new) there;
      leads = λ k l. elim (cases_lt k hour) [
        | inl below ↦ lead_as c s k (get_or (states_with kept first fresh) k []) (get_or (states_with kept first (fresh ++ next ∷ [])) k []) (get_or (states_with kept first fresh) (k + 1) []) (get_or (states_with kept first (fresh ++ next ∷ [])) (k + 1) []) (old k (omega arith)) (old (k + 1) (omega arith)) (p.leads k below)
        | inr from ↦
            let here : hour ≡ k = omega arith in
            subst (λ (j : ℕ). StatesLeadAt c s (states_with kept first (fresh ++ next ∷ [])) j) here
            (lead_as c s hour before (get_or (states_with kept first (fresh ++ next ∷ [])) hour []) next (get_or (states_with kept first (fresh ++ next ∷ [])) (hour + 1) []) (old hour (omega arith) ∙ sym at) new leads)
      ];
    })

-- ---- where something changes

-- at the points after the hour `last` and before the point `to` the states are others than those that are kept
abbrev pub AreOthers : ℕ → ℕ → List Carried → List States → ℕ → Type 0
AreOthers first last kept fresh to = (k : ℕ) (d : Carried) → last < k → k < to → AreSamePasts (get_or (states_with kept first fresh) k []) (get_or kept k d).pasts → ⊥

pub others_start : (first last : ℕ) (kept : List Carried) (fresh : List States) → first ≤ last → AreOthers first last kept fresh (first + 1)
others_start first last kept fresh order k d low high same = omega arith

-- new ones at one more point
pub others_on : (first last : ℕ) (kept : List Carried) (fresh items : List States) (hour : ℕ) (next : States) → first + length fresh ≡ hour → hour + 1 < length kept → items ≡ fresh ++ next ∷ [] → AreOthers first last kept fresh (hour + 1) → AreOthers first last kept items (hour + 1)
others_on first last kept fresh items hour next n lt e other k d low high same =
    let old : get_or (states_with kept first items) k [] ≡ get_or (states_with kept first fresh) k [] = rw e (states_more kept first fresh next k (omega arith) (omega arith)) in
    other k d low high (subst (λ (v : States). AreSamePasts v (get_or kept k d).pasts) old same)

-- which are others too, or the hour `last` isn't behind
pub others_more : (first last : ℕ) (kept : List Carried) (fresh items : List States) (hour : ℕ) (next : States) (there : Carried) → first + length fresh ≡ hour → hour + 1 < length kept → items ≡ fresh ++ next ∷ [] → ((d : Carried) → there ≡ get_or kept (hour + 1) d)
    → ((last ≤ hour) × AreSamePasts next there.pasts → ⊥) → AreOthers first last kept fresh (hour + 1) → AreOthers first last kept items (hour + 1 + 1)
others_more first last kept fresh items hour next there n lt e at none other k d low high same = elim (cases_lt k (hour + 1)) [
  | inl below ↦ others_on first last kept fresh items hour next n lt e other k d low below same
  | inr above ↦
      let here : k ≡ hour + 1 = omega arith in
      let new : get_or (states_with kept first items) (hour + 1) [] ≡ next = rw e (states_last kept first fresh next (hour + 1) (omega arith) (omega arith)) in
      let both : AreSamePasts (get_or (states_with kept first items) (hour + 1) []) (get_or kept (hour + 1) d).pasts = subst (λ (j : ℕ). AreSamePasts (get_or (states_with kept first items) j []) (get_or kept j d).pasts) here same in
      let mine : AreSamePasts next (get_or kept (hour + 1) d).pasts = subst (λ (v : States). AreSamePasts v (get_or kept (hour + 1) d).pasts) new both in
      none (omega arith, subst (λ (v : Carried). AreSamePasts next v.pasts) (sym (at d)) mine)
]

pub others_before : (first last : ℕ) (kept : List Carried) (fresh : List States) (to end : ℕ) → to ≤ end → AreOthers first last kept fresh end → AreOthers first last kept fresh to
others_before first last kept fresh to end le other k d low high = other k d low (omega arith)

-- ---- all of it

-- at the window's end, or where the states are those that are kept
pub walked_done : (c : Settings) (s : Store) (first last : ℕ) (kept : List Carried) (items : List States) (to : ℕ) → last < to → to ≤ length s.hours → AreCarriesBut c s first last kept → AreWalked c s first kept items to → AreOthers first last kept items to
    → (to ≡ length s.hours) ⊎ ((d : Carried) → get_or (states_with kept first items) to [] ≡ (get_or kept to d).pasts) → AreNewPasts c s first last kept items
walked_done c s first last kept items to some within but p other stop =
    let n = p.size in
    let size = but.size in
    let same : (k : ℕ) (d : Carried) → to ≤ k → k < length s.hours → get_or (states_with kept first items) k [] ≡ (get_or kept k d).pasts = λ k d le lt. elim stop [
      | inl end ↦ absurd (omega arith)
      | inr equal ↦ elim (cases_lt to k) [
        | inl above ↦ states_past kept first items k d (omega arith) (omega arith) (omega arith)
        | inr no_more ↦ let here : to ≡ k = omega arith in subst (λ (j : ℕ). get_or (states_with kept first items) j [] ≡ (get_or kept j d).pasts) here (equal d)
      ]
    ] in
    record {
      some = omega arith;
      within = omega arith;
      leads = λ k lt. elim (cases_lt k to) [
        | inl below ↦ p.leads k below
        | inr from ↦ lead_as c s k (get_or kept k no_carry).pasts (get_or (states_with kept first items) k []) (get_or kept (k + 1) no_carry).pasts (get_or (states_with kept first items) (k + 1) []) (same k no_carry from lt) (states_past kept first items (k + 1) no_carry (omega arith) (omega arith) (omega arith)) (lead_states c s kept k no_carry (but.leads k lt (inr (omega arith))))
      ];
      same = λ k d le lt. same k d (omega arith) lt;
      differ = λ k d low high. other k d low (omega arith);
    }

-- the states that are kept are the new ones at the point after the hour
pub walked_same : (first : ℕ) (kept : List Carried) (fresh items : List States) (hour : ℕ) (next : States) (there : Carried) → first + length fresh ≡ hour → hour + 1 < length kept → items ≡ fresh ++ next ∷ [] → next ≡ there.pasts → ((d : Carried) → there ≡ get_or kept (hour + 1) d)
    → (d : Carried) → get_or (states_with kept first items) (hour + 1) [] ≡ (get_or kept (hour + 1) d).pasts
walked_same first kept fresh items hour next there n lt e same at d =
    rw e (states_last kept first fresh next (hour + 1) (omega arith) (omega arith) ∙ same ∙ ap (λ (v : Carried). v.pasts) (at d))

-- what is kept up to the hour `first`
pub carries_to : (c : Settings) (s : Store) (first last : ℕ) (kept : List Carried) → IsStore s → first ≤ last → last < length s.hours → AreCarriesBut c s first last kept → AreCarriesTo c s first kept
carries_to c s first last kept is order within but k d le =
    carry_up c s kept first is (omega arith) but.start (λ j lt. but.leads j (omega arith) (inl lt)) k d le

states_up : (c : Settings) (s : Store) (first last : ℕ) (kept : List Carried) (fresh : List States) → AreSpecs c.specs → IsStore s → AreCarriesBut c s first last kept → AreNewPasts c s first last kept fresh → (k : ℕ) → k ≤ length s.hours → ArePastsAt (log_of c.specs s) k (get_or (states_with kept first fresh) k [])
states_up c s first last kept fresh are is but new zero le =
    let size = but.size in
    let within = new.within in
    subst (λ (v : States). ArePastsAt (log_of c.specs s) 0 v) (sym (states_below kept first fresh 0 no_carry (omega arith) (omega arith))) (but.start no_carry s).pasts
states_up c s first last kept fresh are is but new (suc k) le =
    let e : k + 1 ≡ suc k = omega arith in
    subst (λ (j : ℕ). ArePastsAt (log_of c.specs s) j (get_or (states_with kept first fresh) j [])) e
    (states_on c s k (get_or (states_with kept first fresh) k []) (get_or (states_with kept first fresh) (k + 1) []) are is (omega arith) (states_up c s first last kept fresh are is but new k (omega arith)) (new.leads k (omega arith)))

-- some history agrees, where the states reach the window's end
pub history_new : (c : Settings) (s : Store) (first last : ℕ) (kept : List Carried) (fresh : List States) → IsSound c → IsStore s → AreCarriesBut c s first last kept → AreNewPasts c s first last kept fresh → HasHistory (log_of c.specs s)
history_new c s first last kept fresh sound is but new =
    some_history (log_of c.specs s) (get_or (states_with kept first fresh) (length s.hours) []) (channels_are c sound) (states_up c s first last kept fresh (channels_are c sound) is but new (length s.hours) (omega arith))

-- the same by all that is kept
pub history_carries : (c : Settings) (s : Store) (first last : ℕ) (kept fresh : List Carried) → IsSound c → IsStore s → AreNewCarries c s first last kept fresh → HasHistory (log_of c.specs s)
history_carries c s first last kept fresh sound is new =
    some_history (log_of c.specs s) (get_or (patched kept (first + 1) fresh) (length s.hours) no_carry).pasts (channels_are c sound) (carry_kept c s (patched kept (first + 1) fresh) is new.forth (length s.hours) no_carry (omega arith)).pasts

-- ---- the first hour that is changed

-- the states before it that are kept lead to the first of the new ones
pub first_states : (c : Settings) (s : Store) (first last : ℕ) (kept : List Carried) (fresh : List States) (d : Carried) (e : States) → first ≤ last → last < length s.hours → AreCarriesBut c s first last kept → AreNewPasts c s first last kept fresh → StatesLead c s first (get_or kept first d).pasts (get_or fresh 0 e)
first_states c s first last kept fresh d e order within but new =
    let size = but.size in
    let more = new.some in
    let n = size_states kept in
    let some : 0 < length fresh = omega arith in
    let next : get_or (states_with kept first fresh) (first + 1) [] ≡ get_or fresh 0 [] = patched-at (map (λ (x : Carried). x.pasts) kept) (first + 1) fresh (first + 1) 0 [] (omega arith) (omega arith) some in
    lead_as c s first _ (get_or kept first d).pasts _ (get_or fresh 0 e) (sym (states_below kept first fresh first d (omega arith) (omega arith))) (sym (next ∙ get_or_default fresh 0 [] e some)) (new.leads first (omega arith))

-- the same of all that is kept
pub first_carries : (c : Settings) (s : Store) (first last : ℕ) (kept fresh : List Carried) (d : Carried) → first ≤ last → last < length s.hours → AreCarriesBut c s first last kept → AreNewCarries c s first last kept fresh → StatesLead c s first (get_or kept first d).pasts (get_or fresh 0 d).pasts
first_carries c s first last kept fresh d order within but new =
    let size = but.size in
    let more = new.some in
    let some : 0 < length fresh = omega arith in
    let all = patched kept (first + 1) fresh in
    let own : get_or all first d ≡ get_or kept first d = patched-below kept (first + 1) fresh first d (omega arith) (omega arith) in
    let next : get_or all (first + 1) d ≡ get_or fresh 0 d = patched-at kept (first + 1) fresh (first + 1) 0 d (omega arith) (omega arith) some in
    lead_as c s first _ (get_or kept first d).pasts _ (get_or fresh 0 d).pasts (ap (λ (x : Carried). x.pasts) (sym own)) (ap (λ (x : Carried). x.pasts) (sym next)) (lead_states c s all first d (new.forth.leads first (omega arith)))
