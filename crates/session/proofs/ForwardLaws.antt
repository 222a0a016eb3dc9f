-- Forward over the hours that an edit changes.
use Rattle.std.proofs.Common.{◌≡◌, ◌∙◌, ◌⊎◌, inl, inr, ℕ, ◌+◌, ◌<◌, ◌≤◌, Bool, List, [], ◌∷◌, ◌++◌, length, length-append, get_or, sym, subst, arith}
use Rattle.std.proofs.lemmas.Bool.{cases_lt}
use Rattle.hour_store.specs.Store.{IsStore, Store, rows_at}
use Rattle.ring_config.specs.Settings.{Settings}
use Rattle.strand_search.proofs.Told.{has}
use Rattle.hour_work.specs.Moved.{SaySame}
use Rattle.hour_work.specs.Numbers.{patched}
use Rattle.hour_work.specs.Points.{Carried, IsCarryAt}
use Rattle.session.specs.Links.{AreCarriesBut, CarriesFit, Leads, LeadsAt, Stays}
use Rattle.session.specs.Renewed.{AreNewCarries}
use Rattle.session.proofs.KeptLaws.{carry_up, leads_as, leads_same}
use Rattle.hour_work.proofs.PatchLaws.{length-patched, patched-below, patched-last, patched-more, patched-none, patched-past}

-- the way from the hour `first` has come to the point before the hour `hour`
pub record IsGoing (c : Settings) (s : Store) (first : ℕ) (kept fresh : List Carried) (hour : ℕ) : Type 0 where
  pub size : first + length fresh ≡ hour
  pub here : (d : Carried) → IsCarryAt c s hour (get_or (patched kept (first + 1) fresh) hour d)
  pub leads : (k : ℕ) → k < hour → LeadsAt c s (patched kept (first + 1) fresh) k

pub going_start : (c : Settings) (s : Store) (first last : ℕ) (kept fresh : List Carried) → IsStore s → first ≤ last → last < length s.hours → AreCarriesBut c s first last kept → fresh ≡ [] → IsGoing c s first kept fresh first
going_start c s first last kept fresh is order within but e =
    let size = but.size in
    let same : (k : ℕ) (d : Carried) → get_or (patched kept (first + 1) []) k d ≡ get_or kept k d = λ k d. patched-none kept (first + 1) k d (omega arith) in
    rw e (record {
      size = omega arith;
      here = λ d. subst (λ (v : Carried). IsCarryAt c s first v) (sym (same first d)) (carry_up c s kept first is (omega arith) but.start (λ k lt. but.leads k (omega arith) (inl lt)) first d (omega arith));
      leads = λ k lt. leads_same c s kept (patched kept (first + 1) []) k (same k) (same (k + 1)) (but.leads k (omega arith) (inl lt));
    })

pub going_here : (c : Settings) (s : Store) (first : ℕ) (kept fresh : List Carried) (hour : ℕ) (before : Carried) → IsGoing c s first kept fresh hour → ((d : Carried) → before ≡ get_or (patched kept (first + 1) fresh) hour d) → IsCarryAt c s hour before
going_here c s first kept fresh hour before p at = subst (λ (v : Carried). IsCarryAt c s hour v) (sym (at before)) (p.here before)

pub going_on : (c : Settings) (s : Store) (first : ℕ) (kept fresh items : List Carried) (hour : ℕ) (before next : Carried) → IsStore s → length kept ≡ length s.hours + 1 → hour < length s.hours → IsGoing c s first kept fresh hour
    → ((d : Carried) → before ≡ get_or (patched kept (first + 1) fresh) hour d) → Leads c hour (rows_at s hour) s.blanks before next → items ≡ fresh ++ next ∷ [] → IsGoing c s first kept items (hour + 1)
going_on c s first kept fresh items hour before next is size lt p at leads e =
    let n = p.size in
    let old : (k : ℕ) (d : Carried) → k < hour + 1 → get_or (patched kept (first + 1) (fresh ++ next ∷ [])) k d ≡ get_or (patched kept (first + 1) fresh) k d = λ k d l. patched-more kept (first + 1) fresh next k d (omega arith) (omega arith) in
    let new : (d : Carried) → get_or (patched kept (first + 1) (fresh ++ next ∷ [])) (hour + 1) d ≡ next = λ d. patched-last kept (first + 1) fresh next (hour + 1) d (omega arith) (omega arith) in
    rw e (record {
      size = rw length-append (omega arith);
      here = λ d. subst (λ (v : Carried). IsCarryAt c s (hour + 1) v) (sym (new d)) (leads.stays s (has s hour is lt) (subst (λ (v : Carried). IsCarryAt c s hour v) (sym (at d)) (p.here d)));
      leads = λ k l. elim (cases_lt k hour) [
        | inl below ↦ leads_same c s (patched kept (first + 1) fresh) (patched kept (first + 1) (fresh ++ next ∷ [])) k (λ d. old k d (omega arith)) (λ d. old (k + 1) d (omega arith)) (p.leads k below)
        | inr from ↦
            let here : hour ≡ k = omega arith in
            subst (λ (j : ℕ). LeadsAt c s (patched kept (first + 1) (fresh ++ next ∷ [])) j) here (λ d.
            leads_as c hour (rows_at s hour) s.blanks before (get_or (patched kept (first + 1) (fresh ++ next ∷ [])) hour d) next (get_or (patched kept (first + 1) (fresh ++ next ∷ [])) (hour + 1) d) (old hour d (omega arith) ∙ sym (at d)) (new d) leads)
      ];
    })

-- ---- where something changes

-- at the points after the hour `last` and before the point `to` what is new says something else than what is kept
abbrev pub SayOther : ℕ → ℕ → List Carried → List Carried → ℕ → Type 0
SayOther first last kept fresh to = (k : ℕ) (d : Carried) → last < k → k < to → SaySame (get_or (patched kept (first + 1) fresh) k d) (get_or kept k d) → ⊥

pub other_start : (first last : ℕ) (kept fresh : List Carried) → first ≤ last → SayOther first last kept fresh (first + 1)
other_start first last kept fresh order k d low high same = omega arith

-- one more is new, at the point after the hour
pub other_on : (first last : ℕ) (kept fresh items : List Carried) (hour : ℕ) (next : Carried) → first + length fresh ≡ hour → hour + 1 < length kept → items ≡ fresh ++ next ∷ [] → SayOther first last kept fresh (hour + 1) → SayOther first last kept items (hour + 1)
other_on first last kept fresh items hour next n lt e other k d low high same =
    let old : get_or (patched kept (first + 1) items) k d ≡ get_or (patched kept (first + 1) fresh) k d = rw e (patched-more kept (first + 1) fresh next k d (omega arith) (omega arith)) in
    other k d low high (subst (λ (v : Carried). SaySame v (get_or kept k d)) old same)

-- which says something else too, or the hour `last` isn't behind
pub other_more : (first last : ℕ) (kept fresh items : List Carried) (hour : ℕ) (next there : Carried) → first + length fresh ≡ hour → hour + 1 < length kept → items ≡ fresh ++ next ∷ [] → ((d : Carried) → there ≡ get_or kept (hour + 1) d)
    → ((last ≤ hour) × SaySame next there → ⊥) → SayOther first last kept fresh (hour + 1) → SayOther first last kept items (hour + 1 + 1)
other_more first last kept fresh items hour next there n lt e at none other k d low high same = elim (cases_lt k (hour + 1)) [
  | inl below ↦ other_on first last kept fresh items hour next n lt e other k d low below same
  | inr above ↦
      let here : k ≡ hour + 1 = omega arith in
      let new : get_or (patched kept (first + 1) items) (hour + 1) d ≡ next = rw e (patched-last kept (first + 1) fresh next (hour + 1) d (omega arith) (omega arith)) in
      let both : SaySame (get_or (patched kept (first + 1) items) (hour + 1) d) (get_or kept (hour + 1) d) = subst (λ (j : ℕ). SaySame (get_or (patched kept (first + 1) items) j d) (get_or kept j d)) here same in
      let mine : SaySame next (get_or kept (hour + 1) d) = subst (λ (v : Carried). SaySame v (get_or kept (hour + 1) d)) new both in
      none (omega arith, subst (λ (v : Carried). SaySame next v) (sym (at d)) mine)
]

pub other_before : (first last : ℕ) (kept fresh : List Carried) (to end : ℕ) → to ≤ end → SayOther first last kept fresh end → SayOther first last kept fresh to
other_before first last kept fresh to end le other k d low high = other k d low (omega arith)

-- ---- all of it

-- at the window's end, or where nothing changes
pub going_done : (c : Settings) (s : Store) (first last : ℕ) (kept items : List Carried) (to : ℕ) → last < to → to ≤ length s.hours → AreCarriesBut c s first last kept → IsGoing c s first kept items to → SayOther first last kept items to
    → (to ≡ length s.hours) ⊎ ((d : Carried) → get_or (patched kept (first + 1) items) to d ≡ get_or kept to d) → AreNewCarries c s first last kept items
going_done c s first last kept items to some within but p other stop =
    let n = p.size in
    let size = but.size in
    let room : first + 1 + length items ≤ length kept = omega arith in
    let same : (k : ℕ) (d : Carried) → to ≤ k → k < length s.hours → get_or (patched kept (first + 1) items) k d ≡ get_or kept k d = λ k d le lt. elim stop [
      | inl end ↦ absurd (omega arith)
      | inr equal ↦ elim (cases_lt to k) [
        | inl above ↦ patched-past kept (first + 1) items k d (omega arith) (omega arith)
        | inr no_more ↦ let here : to ≡ k = omega arith in subst (λ (j : ℕ). get_or (patched kept (first + 1) items) j d ≡ get_or kept j d) here (equal d)
      ]
    ] in
    record {
      some = omega arith;
      within = omega arith;
      forth = record {
        size = length-patched kept (first + 1) items room ∙ size;
        start = λ d r. subst (λ (v : Carried). IsCarryAt c r 0 v) (sym (patched-below kept (first + 1) items 0 d (omega arith) (omega arith))) (but.start d r);
        leads = λ k lt. elim (cases_lt k to) [
          | inl below ↦ p.leads k below
          | inr from ↦ leads_same c s kept (patched kept (first + 1) items) k (λ d. same k d from lt) (λ d. patched-past kept (first + 1) items (k + 1) d (omega arith) (omega arith)) (but.leads k lt (inr (omega arith)))
        ];
      };
      same = λ k d le lt. same k d (omega arith) lt;
      differ = λ k d low high. other k d low (omega arith);
    }

-- what is kept says the same as what is new at the point after the hour
pub going_same : (first : ℕ) (kept fresh items : List Carried) (hour : ℕ) (next there : Carried) → first + length fresh ≡ hour → hour + 1 < length kept → items ≡ fresh ++ next ∷ [] → next ≡ there → ((d : Carried) → there ≡ get_or kept (hour + 1) d)
    → (d : Carried) → get_or (patched kept (first + 1) items) (hour + 1) d ≡ get_or kept (hour + 1) d
going_same first kept fresh items hour next there n lt e same at d =
    rw e (patched-last kept (first + 1) fresh next (hour + 1) d (omega arith) (omega arith) ∙ same ∙ at d)

-- an hour that the edit hasn't changed fits
pub leads_told : (c : Settings) (s : Store) (first last : ℕ) (same : List Bool) (kept : List Carried) → AreCarriesBut c s first last kept → CarriesFit c s same kept → (k : ℕ) → k < length s.hours → Stays first last same k → LeadsAt c s kept k
leads_told c s first last same kept but fit k lt stays = elim stays [ inl out ↦ but.leads k lt out | inr told ↦ fit k lt told ]
