-- Back over the hours that an edit changes.
use Rattle.std.proofs.Common.{◌≡◌, ◌∙◌, ◌⊎◌, inl, inr, ℕ, ◌+◌, ◌-◌, ◌<◌, ◌≤◌, Bool, List, [], ◌∷◌, length, get_or, sym, subst, arith}
use Rattle.std.proofs.lemmas.Bool.{cases_lt}
use Rattle.hour_store.specs.Store.{IsStore, Store, rows_at}
use Rattle.ring_config.specs.Settings.{Settings}
use Rattle.strand_search.proofs.Told.{has}
use Rattle.hour_work.specs.Numbers.{patched}
use Rattle.hour_work.specs.Points.{IsFutureAt}
use Rattle.session.specs.Links.{Ahead, AreFuturesBut, Backs, BacksAt, FuturesFit, Stays}
use Rattle.session.specs.Renewed.{AreNewFutures}
use Rattle.session.proofs.KeptLaws.{backs_as, backs_same, future_down}
use Rattle.hour_work.proofs.PatchLaws.{length-patched, patched-below, patched-first, patched-front, patched-none, patched-past}

-- the way back from the hour `last` has come to the point `from`
pub record IsReturning (c : Settings) (s : Store) (last : ℕ) (kept fresh : List Ahead) (from : ℕ) : Type 0 where
  pub size : from + length fresh ≡ last + 1
  pub here : (d : Ahead) → IsFutureAt c s from (get_or (patched kept from fresh) from d)
  pub backs : (k : ℕ) → from ≤ k → k < length s.hours → BacksAt c s (patched kept from fresh) k

pub returning_start : (c : Settings) (s : Store) (first last : ℕ) (kept fresh : List Ahead) → IsStore s → first ≤ last → last < length s.hours → AreFuturesBut c s first last kept → fresh ≡ [] → IsReturning c s last kept fresh (last + 1)
returning_start c s first last kept fresh is order within but e =
    let size = but.size in
    let same : (k : ℕ) (d : Ahead) → get_or (patched kept (last + 1) []) k d ≡ get_or kept k d = λ k d. patched-none kept (last + 1) k d (omega arith) in
    rw e (record {
      size = omega arith;
      here = λ d. subst (λ (v : Ahead). IsFutureAt c s (last + 1) v) (sym (same (last + 1) d)) (future_down c s kept (last + 1) is but.end (λ k low lt. but.backs k lt (inr (omega arith))) (length s.hours - (last + 1)) (last + 1) d (omega arith) (omega arith));
      backs = λ k low lt. backs_same c s kept (patched kept (last + 1) []) k (same k) (same (k + 1)) (but.backs k lt (inr (omega arith)));
    })

pub returning_here : (c : Settings) (s : Store) (last : ℕ) (kept fresh : List Ahead) (hour from : ℕ) (after : Ahead) → from ≡ hour + 1 → IsReturning c s last kept fresh from → ((d : Ahead) → after ≡ get_or (patched kept (hour + 1) fresh) (hour + 1) d) → IsFutureAt c s (hour + 1) after
returning_here c s last kept fresh hour from after fe q at =
    let p : IsReturning c s last kept fresh (hour + 1) = subst (λ (j : ℕ). IsReturning c s last kept fresh j) fe q in
    subst (λ (v : Ahead). IsFutureAt c s (hour + 1) v) (sym (at after)) (p.here after)

pub returning_on : (c : Settings) (s : Store) (last : ℕ) (kept fresh items : List Ahead) (hour from : ℕ) (after next : Ahead) → from ≡ hour + 1 → IsStore s → length kept ≡ length s.hours + 1 → hour < length s.hours → IsReturning c s last kept fresh from
    → ((d : Ahead) → after ≡ get_or (patched kept (hour + 1) fresh) (hour + 1) d) → Backs c hour (rows_at s hour) s.blanks after next → items ≡ next ∷ fresh → IsReturning c s last kept items hour
returning_on c s last kept fresh items hour from after next fe is size lt q at backs e =
    let p : IsReturning c s last kept fresh (hour + 1) = subst (λ (j : ℕ). IsReturning c s last kept fresh j) fe q in
    let n = p.size in
    let old : (k : ℕ) (d : Ahead) → hour < k → get_or (patched kept hour (next ∷ fresh)) k d ≡ get_or (patched kept (hour + 1) fresh) k d = λ k d l. patched-front kept hour fresh next k d (omega arith) l in
    let new : (d : Ahead) → get_or (patched kept hour (next ∷ fresh)) hour d ≡ next = λ d. patched-first kept hour fresh next d (omega arith) in
    rw e (record {
      size = omega arith;
      here = λ d. subst (λ (v : Ahead). IsFutureAt c s hour v) (sym (new d)) (backs.stays s (has s hour is lt) (subst (λ (v : Ahead). IsFutureAt c s (hour + 1) v) (sym (at d)) (p.here d)));
      backs = λ k low l. elim (cases_lt hour k) [
        | inl above ↦ backs_same c s (patched kept (hour + 1) fresh) (patched kept hour (next ∷ fresh)) k (λ d. old k d above) (λ d. old (k + 1) d (omega arith)) (p.backs k (omega arith) l)
        | inr no_more ↦
            let here : hour ≡ k = omega arith in
            subst (λ (j : ℕ). BacksAt c s (patched kept hour (next ∷ fresh)) j) here (λ d.
            backs_as c hour (rows_at s hour) s.blanks after (get_or (patched kept hour (next ∷ fresh)) (hour + 1) d) next (get_or (patched kept hour (next ∷ fresh)) hour d) (old (hour + 1) d (omega arith) ∙ sym (at d)) (new d) backs)
      ];
    })

-- ---- where something changes

-- at the points from `low` on, up to the one before the hour `first`, what is new from the point `from` on isn't what is kept
abbrev pub AreOther : ℕ → List Ahead → ℕ → List Ahead → ℕ → Type 0
AreOther first kept from fresh low = (k : ℕ) (d : Ahead) → low ≤ k → k ≤ first → get_or (patched kept from fresh) k d ≡ get_or kept k d → ⊥

pub other_start : (first last : ℕ) (kept fresh : List Ahead) → first ≤ last → AreOther first kept (last + 1) fresh (last + 1)
other_start first last kept fresh order k d low high same = omega arith

-- one more is new, at the point before the hour
pub other_on : (first : ℕ) (kept fresh items : List Ahead) (hour from : ℕ) (next : Ahead) → from ≡ hour + 1 → hour < length kept → items ≡ next ∷ fresh → AreOther first kept from fresh from → AreOther first kept hour items (hour + 1)
other_on first kept fresh items hour from next fe lt e other k d low high same =
    let before : AreOther first kept (hour + 1) fresh (hour + 1) = subst (λ (j : ℕ). AreOther first kept j fresh j) fe other in
    let old : get_or (patched kept hour items) k d ≡ get_or (patched kept (hour + 1) fresh) k d = rw e (patched-front kept hour fresh next k d (omega arith) (omega arith)) in
    before k d low high (sym old ∙ same)

-- which isn't what is kept either, or the hour `first` isn't passed
pub other_more : (first : ℕ) (kept fresh items : List Ahead) (hour from : ℕ) (next there : Ahead) → from ≡ hour + 1 → hour < length kept → items ≡ next ∷ fresh → ((d : Ahead) → there ≡ get_or kept hour d) → ((hour ≤ first) × (next ≡ there) → ⊥) → AreOther first kept from fresh from → AreOther first kept hour items hour
other_more first kept fresh items hour from next there fe lt e at none other k d low high same = elim (cases_lt hour k) [
  | inl above ↦ other_on first kept fresh items hour from next fe lt e other k d (omega arith) high same
  | inr no_more ↦
      let here : k ≡ hour = omega arith in
      let new : get_or (patched kept hour items) hour d ≡ next = rw e (patched-first kept hour fresh next d (omega arith)) in
      let both : get_or (patched kept hour items) hour d ≡ get_or kept hour d = subst (λ (j : ℕ). get_or (patched kept hour items) j d ≡ get_or kept j d) here same in
      none (omega arith, sym new ∙ both ∙ sym (at d))
]

pub other_after : (first : ℕ) (kept : List Ahead) (from : ℕ) (fresh : List Ahead) (low after : ℕ) → low ≤ after → AreOther first kept from fresh low → AreOther first kept from fresh after
other_after first kept from fresh low after le other k d above = other k d (omega arith)

-- ---- all of it

-- at the window's start, or where nothing changes
pub returning_done : (c : Settings) (s : Store) (first last : ℕ) (kept items : List Ahead) (from at : ℕ) → at ≡ from → from ≤ first → first ≤ last → last < length s.hours → AreFuturesBut c s first last kept → IsReturning c s last kept items from → AreOther first kept from items (from + 1)
    → (from ≡ 0) ⊎ ((d : Ahead) → get_or (patched kept from items) from d ≡ get_or kept from d) → AreNewFutures c s first last kept at items
returning_done c s first last kept items from at ae low order within but p other stop =
    let n = p.size in
    let size = but.size in
    let room : from + length items ≤ length kept = omega arith in
    let same : (k : ℕ) (d : Ahead) → k < from → get_or (patched kept from items) (k + 1) d ≡ get_or kept (k + 1) d = λ k d lt. elim stop [
      | inl none ↦ absurd (omega arith)
      | inr equal ↦ elim (cases_lt (k + 1) from) [
        | inl below ↦ patched-below kept from items (k + 1) d (omega arith) below
        | inr no_more ↦ let here : from ≡ k + 1 = omega arith in subst (λ (j : ℕ). get_or (patched kept from items) j d ≡ get_or kept j d) here (equal d)
      ]
    ] in
    rw ae (record {
      size = n;
      low = low;
      back = record {
        size = length-patched kept from items room ∙ size;
        end = λ d r e. subst (λ (v : Ahead). IsFutureAt c r (length s.hours) v) (sym (patched-past kept from items (length s.hours) d (omega arith) (omega arith))) (but.end d r e);
        backs = λ k lt. elim (cases_lt k from) [
          | inl below ↦ backs_same c s kept (patched kept from items) k (λ d. patched-below kept from items k d (omega arith) below) (λ d. same k d below) (but.backs k lt (inl (omega arith)))
          | inr above ↦ p.backs k above lt
        ];
      };
      same = same;
      differ = λ k d above le. other k d (omega arith) le;
    })

pub returning_same : (kept fresh items : List Ahead) (hour : ℕ) (next there : Ahead) → hour < length kept → items ≡ next ∷ fresh → next ≡ there → ((d : Ahead) → there ≡ get_or kept hour d) → (d : Ahead) → get_or (patched kept hour items) hour d ≡ get_or kept hour d
returning_same kept fresh items hour next there lt e same at d = rw e (patched-first kept hour fresh next d (omega arith) ∙ same ∙ at d)

-- an hour that the edit hasn't changed fits
pub backs_told : (c : Settings) (s : Store) (first last : ℕ) (same : List Bool) (kept : List Ahead) → AreFuturesBut c s first last kept → FuturesFit c s same kept → (k : ℕ) → k < length s.hours → Stays first last same k → BacksAt c s kept k
backs_told c s first last same kept but fit k lt stays = elim stays [ inl out ↦ but.backs k lt out | inr told ↦ fit k lt told ]
