-- What is new of the hours from the first one that an edit touches on.
use Rattle.std.proofs.Common.{◌≡◌, ◌∙◌, inl, inr, ℕ, ◌+◌, ◌-◌, ◌<◌, ◌≤◌, List, [], ◌∷◌, ◌++◌, length, get_or, map, drop, refl, sym, ap, subst, arith}
use Rattle.std.proofs.lemmas.Bool.{cases_lt}
use Rattle.hour_store.specs.Store.{IsStore, Store, rows_at}
use Rattle.board.specs.Places.{AreSamePasts}
use Rattle.ring_config.specs.Settings.{Settings}
use Rattle.hour_work.specs.Moved.{SaySame}
use Rattle.hour_work.specs.Numbers.{FitHours, Numbers, patched}
use Rattle.hour_work.specs.Points.{Carried}
use Rattle.hour_work.proofs.PatchLaws.{patched-first, patched-front, patched-last, patched-more, patched-none}
use Rattle.session.specs.Links.{Ahead, AreCarriesBut, Counts, Leads, States, StatesLead}
use Rattle.session.specs.Renewed.{AreNewCarries, AreNewParts, AreNewPasts, states_with}
use Rattle.session.proofs.ForwardLaws.{IsGoing, SayOther, going_done, going_on, going_same, going_start, other_before, other_more, other_on, other_start}
use Rattle.session.specs.Opens.{AreOpened}
use Rattle.session.proofs.OpenLaws.{opened_as}
use Rattle.session.proofs.RenewLaws.{parts_more, parts_same}
use Rattle.session.proofs.StatesLaws.{kept_states, size_states, states_below}

-- the states that are kept, with these at the points after the hour
abbrev pub states_from : List Carried → ℕ → List States → List States
states_from kept hour left = patched (map (λ (x : Carried). x.pasts) kept) (hour + 1) left

-- the work has come from the hour `first` to the point before the hour `hour`: these states are left of the new ones
pub record AreWorked (c : Settings) (s : Store) (first last : ℕ) (kept : List Carried) (fresh rest : List States) (carries : List Carried) (hour : ℕ) : Type 0 where
  pub going : IsGoing c s first kept carries hour
  pub pasts : (d : Carried) → (get_or (patched kept (first + 1) carries) hour d).pasts ≡ get_or (states_with kept first fresh) hour []
  pub coming : (k : ℕ) → hour < k → k < length kept → get_or (states_from kept hour rest) k [] ≡ get_or (states_with kept first fresh) k []
  pub count : length rest ≡ (first + length fresh) - hour
  pub other : SayOther first last kept carries (hour + 1)

pub worked_start : (c : Settings) (s : Store) (first last : ℕ) (kept : List Carried) (fresh : List States) (carries : List Carried) → IsStore s → first ≤ last → last < length s.hours → AreCarriesBut c s first last kept → carries ≡ [] → AreWorked c s first last kept fresh fresh carries first
worked_start c s first last kept fresh carries is order within but e =
    let size = but.size in
    record {
      going = going_start c s first last kept carries is order within but e;
      pasts = λ d.
          let none : get_or (patched kept (first + 1) carries) first d ≡ get_or kept first d = rw e (patched-none kept (first + 1) first d (omega arith)) in
          ap (λ (v : Carried). v.pasts) none ∙ sym (states_below kept first fresh first d (omega arith) (omega arith));
      coming = λ k low lt. refl;
      count = omega arith;
      other = other_start first last kept carries order;
    }

-- the first states that are left are those at the next point
next_is : (kept : List Carried) (hour : ℕ) (left : List States) (there : Carried) → hour + 1 < length kept → there ≡ get_or kept (hour + 1) there → get_or left 0 there.pasts ≡ get_or (states_from kept hour left) (hour + 1) []
next_is kept hour [] there lt at =
    let n = size_states kept in
    ap (λ (v : Carried). v.pasts) at ∙ (sym (kept_states kept (hour + 1) there lt) ∙ sym (patched-none (map (λ (x : Carried). x.pasts) kept) (hour + 1) (hour + 1) [] (omega arith)))
next_is kept hour (x ∷ xs) there lt at =
    let n = size_states kept in
    sym (patched-first (map (λ (v : Carried). v.pasts) kept) (hour + 1) xs x [] (omega arith))

-- and those after them are those at the points after it
rest_is : (kept : List Carried) (hour : ℕ) (left : List States) (k : ℕ) → hour + 1 < length kept → hour + 1 < k → get_or (states_from kept (hour + 1) (drop 1 left)) k [] ≡ get_or (states_from kept hour left) k []
rest_is kept hour [] k lt low =
    let n = size_states kept in
    patched-none (map (λ (x : Carried). x.pasts) kept) (hour + 1 + 1) k [] (omega arith) ∙ sym (patched-none (map (λ (x : Carried). x.pasts) kept) (hour + 1) k [] (omega arith))
rest_is kept hour (x ∷ xs) k lt low =
    let n = size_states kept in
    sym (patched-front (map (λ (v : Carried). v.pasts) kept) (hour + 1) xs x k [] (omega arith) low)

size_rest : (left : List States) → length (drop 1 left) ≡ length left - 1
size_rest [] = refl
size_rest (x ∷ xs) = omega arith

module _ (c : Settings) (s : Store) (first last : ℕ) (kept : List Carried) (fresh left rest : List States) (carries : List Carried) (hour : ℕ) (there : Carried) (pasts : States) (size : length kept ≡ length s.hours + 1) (lt : hour < length s.hours) (at : (d : Carried) → there ≡ get_or kept (hour + 1) d) (is : pasts ≡ get_or left 0 there.pasts) (gone : rest ≡ drop 1 left) (p : AreWorked c s first last kept fresh left carries hour) where
  pub next_states_are : pasts ≡ get_or (states_with kept first fresh) (hour + 1) []
  next_states_are = is ∙ (next_is kept hour left there (omega arith) (at there) ∙ p.coming (hour + 1) (omega arith) (omega arith))

  -- they are those to which the hour leads
  pub worked_leads : (before : Carried) → ((d : Carried) → before ≡ get_or (patched kept (first + 1) carries) hour d) → AreNewPasts c s first last kept fresh → StatesLead c s hour before.pasts pasts
  worked_leads before here new =
      let same : before.pasts ≡ get_or (states_with kept first fresh) hour [] = ap (λ (v : Carried). v.pasts) (here before) ∙ p.pasts before in
      subst (λ (v : States). StatesLead c s hour v pasts) (sym same) (subst (λ (v : States). StatesLead c s hour (get_or (states_with kept first fresh) hour []) v) (sym next_states_are) (new.leads hour lt))

  pub worked_on : (items : List Carried) (before next : Carried) → IsStore s → AreNewPasts c s first last kept fresh → ((d : Carried) → before ≡ get_or (patched kept (first + 1) carries) hour d) → Leads c hour (rows_at s hour) s.blanks before next → next.pasts ≡ pasts → items ≡ carries ++ next ∷ [] → ((length rest ≡ 0) × SaySame next there → ⊥)
      → AreWorked c s first last kept fresh rest items (hour + 1)
  worked_on items before next store new here leads same e none =
      let n = p.going.size in
      let m = p.count in
      let more = size_rest left in
      let one_less : length rest ≡ length left - 1 = rw gone more in
      record {
        going = going_on c s first kept carries items hour before next store size lt p.going here leads e;
        pasts = λ d.
            let last_one : get_or (patched kept (first + 1) items) (hour + 1) d ≡ next = rw e (patched-last kept (first + 1) carries next (hour + 1) d (omega arith) (omega arith)) in
            ap (λ (v : Carried). v.pasts) last_one ∙ (same ∙ next_states_are);
        coming = λ k low high. rw gone (rest_is kept hour left k (omega arith) low ∙ p.coming k (omega arith) high);
        count = omega arith;
        other = other_more first last kept carries items hour next there n (omega arith) e at (λ h. elim (cases_lt 0 (length rest)) [
          | inl some ↦
              let low : last < hour + 1 = omega (arith, h.0) in
              let high : hour + 1 < first + length fresh = omega arith in
              let their : next.pasts ≡ get_or (states_with kept first fresh) (hour + 1) [] = same ∙ next_states_are in
              new.differ (hour + 1) there low high (subst (λ (v : States). AreSamePasts v (get_or kept (hour + 1) there).pasts) their (subst (λ (v : Carried). AreSamePasts next.pasts v.pasts) (at there) h.1.pasts))
          | inr no_more ↦ none (omega arith, h.1)
        ]) p.other;
      }

  -- where no new states are left, and nothing changes at the point after the hour
  pub worked_settled : (items : List Carried) (before next : Carried) → IsStore s → AreCarriesBut c s first last kept → AreNewPasts c s first last kept fresh → ((d : Carried) → before ≡ get_or (patched kept (first + 1) carries) hour d) → Leads c hour (rows_at s hour) s.blanks before next → items ≡ carries ++ next ∷ [] → length rest ≡ 0 → next ≡ there
      → AreNewCarries c s first last kept items × (length fresh ≤ length items)
  worked_settled items before next store but new here leads e none same =
      let n = p.going.size in
      let m = p.count in
      let some = new.some in
      let more = size_rest left in
      let one_less : length rest ≡ length left - 1 = rw gone more in
      let q = going_on c s first kept carries items hour before next store size lt p.going here leads e in
      let k = q.size in (
        going_done c s first last kept items (hour + 1) (omega arith) (omega arith) but q (other_on first last kept carries items hour next n (omega arith) e p.other) (inr (going_same first kept carries items hour next there n (omega arith) e same at)),
        omega arith,
      )

-- at the window's end
pub worked_end : (c : Settings) (s : Store) (first last : ℕ) (kept : List Carried) (fresh left : List States) (carries : List Carried) (hour : ℕ) → hour ≡ length s.hours → last < length s.hours → AreCarriesBut c s first last kept → AreNewPasts c s first last kept fresh → AreWorked c s first last kept fresh left carries hour → AreNewCarries c s first last kept carries × (length fresh ≤ length carries)
worked_end c s first last kept fresh left carries hour end within but new p =
    let n = p.going.size in
    let most = new.within in (
      going_done c s first last kept carries hour (omega arith) (omega arith) but p.going (other_before first last kept carries hour (hour + 1) (omega arith) p.other) (inl end),
      omega arith,
    )

-- ---- the numbers

-- of one more hour, with what is kept at one more point
pub parts_on : (c : Settings) (s : Store) (first : ℕ) (kept carries items : List Carried) (futures : List Ahead) (hour : ℕ) (ps more : List Numbers) (before next : Carried) (after : Ahead) (one : Numbers) → first + length carries ≡ hour → hour + 1 < length kept → items ≡ carries ++ next ∷ [] → AreNewParts c s (patched kept (first + 1) carries) futures first hour ps
    → ((d : Carried) → before ≡ get_or (patched kept (first + 1) carries) hour d) → ((d : Ahead) → after ≡ get_or futures (hour + 1) d) → Counts c hour (rows_at s hour) s.blanks before after one → FitHours 1 one → more ≡ ps ++ one ∷ [] → AreNewParts c s (patched kept (first + 1) items) futures first (hour + 1) more
parts_on c s first kept carries items futures hour ps more before next after one n lt e are b a counts small m =
    let old : (k : ℕ) (d : Carried) → k < hour + 1 → get_or (patched kept (first + 1) items) k d ≡ get_or (patched kept (first + 1) carries) k d = λ k d l. rw e (patched-more kept (first + 1) carries next k d (omega arith) (omega arith)) in
    parts_same c s (patched kept (first + 1) carries) (patched kept (first + 1) items) futures first (hour + 1) more old (parts_more c s (patched kept (first + 1) carries) futures first hour ps more before after one are b a counts small m)

-- ---- all of it

-- what is new of the hours from the first one that an edit touches up to the last point at which something is new, each of which was opened once
pub record AreAllNew (c : Settings) (s : Store) (first last : ℕ) (kept : List Carried) (fresh : List States) (futures : List Ahead) (carries : List Carried) (parts : List Numbers) (old new : List ℕ) : Type 0 where
  pub carries_new : AreNewCarries c s first last kept carries
  pub all : length fresh ≤ length carries
  pub parts_new : AreNewParts c s (patched kept (first + 1) carries) futures first (first + length carries) parts
  pub opens : AreOpened first (first + length carries) 1 1 old new

pub all_new : (c : Settings) (s : Store) (first last : ℕ) (kept : List Carried) (fresh : List States) (futures : List Ahead) (carries : List Carried) (parts : List Numbers) (old new : List ℕ) (to : ℕ) → first + length carries ≡ to → AreNewCarries c s first last kept carries × (length fresh ≤ length carries) → AreNewParts c s (patched kept (first + 1) carries) futures first to parts
    → AreOpened first to 1 1 old new → AreAllNew c s first last kept fresh futures carries parts old new
all_new c s first last kept fresh futures carries parts old new to e are more opens = record {
  carries_new = are.0;
  all = are.1;
  parts_new = subst (λ (n : ℕ). AreNewParts c s (patched kept (first + 1) carries) futures first n parts) (sym e) more;
  opens = opened_as first first to (first + length carries) 1 1 old new refl (sym e) opens;
}
