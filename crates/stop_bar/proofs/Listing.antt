-- The services up to a point, and those of an hour after it.
use Rattle.std.proofs.Common.{◌≡◌, refl, ap, ap₂, sym, ◌∙◌, subst, inl, inr, ℕ, ◌+◌, ◌<◌, ◌≤◌, Bool, nat_le, List, [], ◌∷◌, ◌++◌, arith}
use Rattle.std.specs.Prelude.{All}
use Rattle.std.proofs.lemmas.Bool.{cases_Bool, cases_lt, le-ltb, le-leb, lt-ltb}
use Rattle.std.proofs.lemmas.List.{map-append}
use Rattle.std.proofs.lemmas.List.Elements.{All-cons, All-filter, All-head, All-map, All-nil, All-tail, filter-append}
use Rattle.sig_base.specs.declared.values.PhaseItem.{PhaseItem}
use Rattle.sig_base.specs.declared.values.Row.{Row}
use Rattle.sig_base.specs.Numbers.{has_phase}
use Rattle.board.proofs.Bridge.{leb_no}
use Rattle.hour_sweep.specs.Hours.{AreOrdered}
use Rattle.hour_sweep.proofs.Counted.{given_between}
use Rattle.service_cut.specs.declared.items.Service.{Service}
use Rattle.service_cut.specs.Cut.{services_from}
use Rattle.service_cut.specs.Services.{service_at}
use Rattle.service_cut.proofs.HourLists.{services_add, service_tenth}
use Rattle.stop_bar.specs.declared.windows.Windows.{Windows}
use Rattle.stop_bar.specs.Going.{of_phase}
use Rattle.stop_bar.specs.Windows.{EndIn, due, left, services_of}
use Rattle.stop_bar.specs.Bars.{ending, services_upto, without_end, without_ends}

-- ---- what a row ends has the row's tenth

-- those of a phase end between the tenths of the rows
pub ends_between : (known : ℕ → Bool) (phases : List PhaseItem) (p a b : ℕ) (before rows : List Row) → AreOrdered a b rows → All (λ (s : Service). (a ≤ s.r) × (s.r < b)) (without_ends (of_phase p (services_from known phases before rows)))
ends_between known phases p a b before rows order =
    All-map (λ (s : Service). (a ≤ s.r) × (s.r < b)) without_end (of_phase p (services_from known phases before rows)) (All-filter _ (λ (s : Service). (a ≤ s.r) × (s.r < b)) (services_from known phases before rows) (given_between (λ (s : Service). s.r) (service_at known) (has_phase phases) a b before rows (service_tenth known) order))

-- those up to a point, and those of the rows after it
pub services_split : (known : ℕ → Bool) (phases : List PhaseItem) (p t b : ℕ) (before rows : List Row) → AreOrdered 0 t before → AreOrdered t b rows → services_upto known phases p (before ++ rows) ≡ services_upto known phases p before ++ without_ends (of_phase p (services_from known phases before rows))
services_split known phases p t b before rows first order =
    ap (λ (ss : List Service). without_ends (of_phase p ss)) (services_add known phases t b before rows first order)
    ∙ (ap (λ (ss : List Service). without_ends ss) (filter-append _ (services_from known phases [] before) (services_from known phases before rows))
    ∙ map-append without_end (of_phase p (services_from known phases [] before)) (of_phase p (services_from known phases before rows)))

-- ---- filters by the end of the red window

-- of those that end before tenth a the ones that wait there end in the next 50 tenths
ending_left : (a b : ℕ) (ss : List Service) → a + 50 ≤ b → All (λ (s : Service). (0 ≤ s.r) × (s.r < a)) ss → ending a b ss ≡ left a ss
ending_left a b [] le all = refl
ending_left a b (s ∷ ss) le all =
    let here = All-head (λ (s : Service). (0 ≤ s.r) × (s.r < a)) s ss all in
    let lt = here.1 in
    let rest = ending_left a b ss le (All-tail (λ (s : Service). (0 ≤ s.r) × (s.r < a)) s ss all) in
    elim (cases_lt a (s.r + 50)) [
      | inl l ↦ rw (lt-ltb a (s.r + 50) l, le-leb (s.r + 50) b (omega arith), leb_no (s.r + 50) a l) (ap (λ (us : List Service). s ∷ us) rest)
      | inr g ↦ rw (le-ltb a (s.r + 50) g, le-leb (s.r + 50) a g) rest
    ]

-- of those that end from tenth a on the ones whose red window is over by b
ending_due : (a b c : ℕ) (ss : List Service) → All (λ (s : Service). (a ≤ s.r) × (s.r < c)) ss → ending a b ss ≡ due b ss
ending_due a b c [] all = refl
ending_due a b c (s ∷ ss) all =
    let here = All-head (λ (s : Service). (a ≤ s.r) × (s.r < c)) s ss all in
    let le = here.0 in
    let rest = ending_due a b c ss (All-tail (λ (s : Service). (a ≤ s.r) × (s.r < c)) s ss all) in
    let l = lt-ltb a (s.r + 50) (omega arith) in
    elim (cases_Bool (nat_le (s.r + 50) b)) [
      | inl t ↦ rw (l, t) (ap (λ (us : List Service). s ∷ us) rest)
      | inr f ↦ rw (l, f) rest
    ]

-- none of those that end before tenth a waits 50 tenths after it
left_none : (a b : ℕ) (ss : List Service) → a + 50 ≤ b → All (λ (s : Service). (0 ≤ s.r) × (s.r < a)) ss → left b ss ≡ []
left_none a b [] le all = refl
left_none a b (s ∷ ss) le all =
    let here = All-head (λ (s : Service). (0 ≤ s.r) × (s.r < a)) s ss all in
    let lt = here.1 in
    rw (le-leb (s.r + 50) b (omega arith)) (left_none a b ss le (All-tail (λ (s : Service). (0 ≤ s.r) × (s.r < a)) s ss all))

-- the lists of an hour, whose rows stand after these
module _ (known : ℕ → Bool) (phases : List PhaseItem) (p a b : ℕ) (before rows : List Row) (long : a + 50 ≤ b) (first : AreOrdered 0 a before) (order : AreOrdered a b rows) where
  abbrev own : List Service
  own = without_ends (of_phase p (services_from known phases before rows))

  abbrev early : List Service
  early = services_upto known phases p before

  split_at : services_upto known phases p (before ++ rows) ≡ early ++ own
  split_at = services_split known phases p a b before rows first order

  earlier : All (λ (s : Service). (0 ≤ s.r) × (s.r < a)) early
  earlier = ends_between known phases p 0 a [] before first

  later : All (λ (s : Service). (a ≤ s.r) × (s.r < b)) own
  later = ends_between known phases p a b before rows order

  pub ending_both : (vs : List Windows) → services_of vs ≡ left a early → (ws : List Windows) → services_of ws ≡ services_of vs ++ due b own → services_of ws ≡ ending a b (services_upto known phases p (before ++ rows))
  ending_both vs e ws f =
      f
      ∙ (ap (λ (ss : List Service). ss ++ due b own) e
      ∙ sym (
      ap (λ (ss : List Service). ending a b ss) split_at
      ∙ (filter-append _ early own ∙ ap₂ (λ (x y : List Service). x ++ y) (ending_left a b early long earlier) (ending_due a b b own later))
      ))

  pub left_later : left b (services_upto known phases p (before ++ rows)) ≡ left b own
  left_later =
      ap (λ (ss : List Service). left b ss) split_at
      ∙ (filter-append _ early own ∙ ap (λ (ss : List Service). ss ++ left b own) (left_none a b early long earlier))

-- ---- those that wait

abbrev EndsAbout : ℕ → ℕ → List Service → Type 0
EndsAbout a b ss = All (λ (s : Service). (a ≤ s.r + 50) × (s.r + 50 ≤ b)) ss

left_about : (a b : ℕ) (ss : List Service) → a + 50 ≤ b → All (λ (s : Service). (0 ≤ s.r) × (s.r < a)) ss → EndsAbout a b (left a ss)
left_about a b [] le all = All-nil (λ (s : Service). (a ≤ s.r + 50) × (s.r + 50 ≤ b))
left_about a b (s ∷ ss) le all =
    let here = All-head (λ (s : Service). (0 ≤ s.r) × (s.r < a)) s ss all in
    let lt = here.1 in
    let rest = left_about a b ss le (All-tail (λ (s : Service). (0 ≤ s.r) × (s.r < a)) s ss all) in
    elim (cases_lt a (s.r + 50)) [
      | inl l ↦ rw (leb_no (s.r + 50) a l) (All-cons (λ (s : Service). (a ≤ s.r + 50) × (s.r + 50 ≤ b)) s (left a ss) (omega arith, omega arith) rest)
      | inr g ↦ rw (le-leb (s.r + 50) a g) rest
    ]

end_in : (a b : ℕ) (ws : List Windows) → EndsAbout a b (services_of ws) → EndIn a b ws
end_in a b [] h = tt
end_in a b (w ∷ ws) h = (All-head (λ (s : Service). (a ≤ s.r + 50) × (s.r + 50 ≤ b)) w.service (services_of ws) h, end_in a b ws (All-tail (λ (s : Service). (a ≤ s.r + 50) × (s.r + 50 ≤ b)) w.service (services_of ws) h))

-- the services that wait at tenth a end by b
pub waiting_end : (known : ℕ → Bool) (phases : List PhaseItem) (p a b : ℕ) (before : List Row) (ws : List Windows) → a + 50 ≤ b → AreOrdered 0 a before → services_of ws ≡ left a (services_upto known phases p before) → EndIn a b ws
waiting_end known phases p a b before ws le order e =
    end_in a b ws (subst (λ (ss : List Service). EndsAbout a b ss) (sym e) (left_about a b (services_upto known phases p before) le (ends_between known phases p 0 a [] before order)))
