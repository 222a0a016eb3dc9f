-- The services of an hour, and the one that is open at its end.
use Rattle.std.proofs.Common.{◌≡◌, refl, ap, sym, ◌∙◌, subst, inl, inr, ℕ, ◌<◌, ◌≤◌, Bool, true, eqb, not, ◌&&◌, Option, Some, None, List, [], ◌∷◌, ◌++◌, arith}
use Rattle.std.specs.Prelude.{All, find, min}
use Rattle.std.specs.List.{cons_option}
use Rattle.std.specs.Option.{option_or}
use Rattle.std.proofs.lemmas.Bool.{and_parts, cases_Bool, eqb-true}
use Rattle.std.proofs.lemmas.List.{append-nil, append_assoc}
use Rattle.std.proofs.lemmas.List.Elements.{All-append, All-cons, All-head, All-nil, All-tail}
use Rattle.std.proofs.lemmas.List.Folds.{find-append}
use Rattle.sig_base.specs.declared.values.PhaseItem.{PhaseItem}
use Rattle.sig_base.specs.declared.values.Row.{Row}
use Rattle.sig_base.specs.Numbers.{has_phase}
use Rattle.sig_base.proofs.Common.{not_true, some_same}
use Rattle.board.specs.Logs.{end_tenth, first_tenth}
use Rattle.hour_sweep.specs.Hours.{AreOrdered}
use Rattle.hour_sweep.specs.Numbers.{given, outs_from}
use Rattle.hour_sweep.specs.Rows.{known_rows, last_with, live}
use Rattle.hour_sweep.proofs.Orders.{below_end, filter_ordered, ordered-append}
use Rattle.hour_sweep.proofs.Places.{AllLast, last_with_all}
use Rattle.service_cut.specs.declared.items.Service.{Service}
use Rattle.service_cut.specs.declared.services.ServiceBegun.{ServiceBegun}
use Rattle.service_cut.specs.Cut.{services_from}
use Rattle.service_cut.specs.Signs.{is_begin, is_change, sign}
use Rattle.service_cut.specs.Services.{is_over, service_at, service_begun, service_begun_in, service_begun_of}
use Rattle.service_cut.proofs.WholeServices.{LastIs, find_split, last_is, service_is_whole}
use Rattle.service_cut.proofs.YellowEnds.{from_first}
use Rattle.service_cut.proofs.WholeCycles.{front_ordered}
use Rattle.stop_bar.specs.declared.windows.OpenGreen.{OpenGreen}
use Rattle.stop_bar.specs.Windows.{AreServicesOf, IsOpened, IsServiceOf}
use Rattle.stop_bar.specs.Going.{AreInOrder, IsGreenAt, OpensFit, ServicesFit, of_phase, tenth_or}
use Rattle.stop_bar.proofs.Going.{Found, all_found, joined, last_joined, live_less, over_less, services_go_on}

-- what stands behind a row of ordered rows
ordered_behind : (a b : ℕ) (xs : List Row) (x : Row) (ys : List Row) → AreOrdered a b (xs ++ x ∷ ys) → (a ≤ x.at) × (x.at < b) × AreOrdered x.at b ys
ordered_behind a b [] x ys h = h
ordered_behind a b (z ∷ xs) x ys h = let (le, lt, more) = ordered_behind z.at b xs x ys h.2 in let l = h.0 in (omega arith, lt, more)

-- two rows of ordered rows, the second behind the first
in_order : (a b : ℕ) (all to_x from_x to_y from_y : List Row) (x y : Row) → all ≡ to_x ++ x ∷ from_x → from_x ≡ to_y ++ y ∷ from_y → AreOrdered a b all → (x.at ≤ y.at) × (y.at < b)
in_order a b all to_x from_x to_y from_y x y e f h =
    let (low, high, more) = ordered_behind a b to_x x from_x (subst (λ (zs : List Row). AreOrdered a b zs) e h) in
    let (le, lt, rest) = ordered_behind x.at b to_y y from_y (subst (λ (zs : List Row). AreOrdered x.at b zs) f more) in
    (le, lt)

-- each of the front is at or before the row
front_low : (a b : ℕ) (xs to_y from_y : List Row) (y x : Row) (ys : List Row) → xs ≡ to_y ++ y ∷ from_y → AreOrdered a b (xs ++ x ∷ ys) → y.at ≤ x.at
front_low a b xs to_y from_y y x ys e h =
    let joined_all : xs ++ x ∷ ys ≡ to_y ++ y ∷ (from_y ++ x ∷ ys) = ap (λ (zs : List Row). zs ++ x ∷ ys) e ∙ append_assoc to_y (y ∷ from_y) (x ∷ ys) in
    (in_order a b (xs ++ x ∷ ys) to_y (from_y ++ x ∷ ys) from_y ys y x joined_all refl h).0

-- the open green is that of the service
opened : (t b g : ℕ) (o : ServiceBegun) (begun : Option OpenGreen) → IsGreenAt t (Some o) begun → o.b.at ≡ b → tenth_or t o.g ≡ min g t → IsOpened t b g begun
opened t b g o None at eb eg = absurd at
opened t b g o (Some x) at eb eg = (at.0 ∙ eb, at.1 ∙ eg)

module _ (p first end : ℕ) (begun : Option OpenGreen) where
  own_some : (o : Option Service) (ss : List Service) → ((s : Service) → o ≡ Some s → s.phase ≡ p → IsServiceOf first end begun s × ((s.b ≤ s.g) × (s.g ≤ s.r))) → AreServicesOf first end begun (of_phase p ss) × AreInOrder (of_phase p ss) → AreServicesOf first end begun (of_phase p (cons_option o ss)) × AreInOrder (of_phase p (cons_option o ss))
  own_some None ss one rest = rest
  own_some (Some s) ss one rest = elim (cases_Bool (eqb s.phase p)) [
    | inl t ↦ let (is, order) = one s refl (eqb-true s.phase p t) in rw t ((is, rest.0), (order, rest.1))
    | inr f ↦ rw f rest
  ]

  module _ (known : ℕ → Bool) (phases : List PhaseItem) (before : List Row) (early : All (λ z. z.at < first) before) (open_at : IsGreenAt first (service_begun_of known first p before) begun) where
    -- the service that row r ends, where these rows of the hour stand before it
    one_fits : (front : List Row) (r : Row) (rs : List Row) → All (λ z. first ≤ z.at) front → first ≤ r.at → known r.at ≡ true → AreOrdered 0 end ((before ++ front) ++ r ∷ rs) → (s : Service) → service_at known r.param (before ++ front) r rs ≡ Some s → s.phase ≡ p → IsServiceOf first end begun s × ((s.b ≤ s.g) × (s.g ≤ s.r))
    one_fits front r rs late le k order s e of =
        let xs = before ++ front in
        let w = service_is_whole known r.param xs r rs s k e in
        let is_p : r.param ≡ p = sym (ap (λ (z : Service). z.phase) w.s_is) ∙ of in
        let sb : s.b ≡ w.b.at = ap (λ (z : Service). z.b) w.s_is in
        let sg : s.g ≡ w.g.at = ap (λ (z : Service). z.g) w.s_is in
        let sr : s.r ≡ r.at = ap (λ (z : Service). z.r) w.s_is in
        let own_rows = front_ordered 0 end xs r rs order in
        let (bg, g_end) = in_order 0 end xs w.to_b w.from_b w.to_g w.from_g w.b w.g w.b_is.joined w.g_is.joined own_rows in
        let r_end = (ordered_behind 0 end xs r rs order).1 in
        let g_at : xs ≡ (w.to_b ++ w.b ∷ w.to_g) ++ w.g ∷ w.from_g = w.b_is.joined ∙ (ap (λ (zs : List Row). w.to_b ++ w.b ∷ zs) w.g_is.joined ∙ sym (append_assoc w.to_b (w.b ∷ w.to_g) (w.g ∷ w.from_g))) in
        let gr = front_low 0 end xs (w.to_b ++ w.b ∷ w.to_g) w.from_g w.g r rs g_at order in
        let e2 : service_at known p xs r rs ≡ Some s = subst (λ (q : ℕ). service_at known q xs r rs ≡ Some s) is_p e in (
          (
            omega arith,
            omega arith,
            omega arith,
            omega arith,
            λ lt.
                let (o, is, eb, eg) = services_go_on known p first before front r rs s early late le e2 lt in
                opened first s.b s.g o begun (subst (λ (x : Option ServiceBegun). IsGreenAt first x begun) is open_at) eb eg,
          ),
          (omega arith, omega arith),
        )

    given_some : (front : List Row) (r : Row) (rs : List Row) (s : Service) → given (service_at known) (has_phase phases) (before ++ front) r rs ≡ Some s → service_at known r.param (before ++ front) r rs ≡ Some s
    given_some front r rs s e = elim (cases_Bool (has_phase phases r.param)) [
      | inl t ↦ rw t at e
      | inr f ↦ (let bad : None ≡ Some s = rw f at e in absurd (cc))
    ]

    all_fit : (front rows : List Row) → All (λ z. first ≤ z.at) front → All (λ z. first ≤ z.at) rows → All (λ z. known z.at ≡ true) rows → AreOrdered 0 end ((before ++ front) ++ rows) → let ss = of_phase p (outs_from (service_at known) (has_phase phases) (before ++ front) rows) in AreServicesOf first end begun ss × AreInOrder ss
    all_fit front [] late le ks order = (tt, tt)
    all_fit front (r ∷ rs) late le ks order =
        let here = All-head (λ z. first ≤ z.at) r rs le in
        let e : (before ++ front) ++ r ∷ [] ≡ before ++ (front ++ r ∷ []) = append_assoc before front (r ∷ []) in
        let order2 : AreOrdered 0 end ((before ++ (front ++ r ∷ [])) ++ rs) = subst (λ (zs : List Row). AreOrdered 0 end (zs ++ rs)) e (subst (λ (zs : List Row). AreOrdered 0 end zs) (sym (append_assoc (before ++ front) (r ∷ []) rs)) order) in
        let more = all_fit (front ++ r ∷ []) rs (All-append (λ z. first ≤ z.at) front (r ∷ []) late (All-cons (λ z. first ≤ z.at) r [] here (All-nil (λ z. first ≤ z.at)))) (All-tail (λ z. first ≤ z.at) r rs le) (All-tail (λ z. known z.at ≡ true) r rs ks) order2 in
        let more2 = subst (λ (zs : List Row). AreServicesOf first end begun (of_phase p (outs_from (service_at known) (has_phase phases) zs rs)) × AreInOrder (of_phase p (outs_from (service_at known) (has_phase phases) zs rs))) (sym e) more in
        own_some (given (service_at known) (has_phase phases) (before ++ front) r rs) (outs_from (service_at known) (has_phase phases) ((before ++ front) ++ r ∷ []) rs) (λ s is of. one_fits front r rs late here (All-head (λ z. known z.at ≡ true) r rs ks) order s (given_some front r rs s is) of) more2

pub known_all : (known : ℕ → Bool) (xs : List Row) → All (λ z. known z.at ≡ true) (known_rows known xs)
known_all known [] = All-nil (λ z. known z.at ≡ true)
known_all known (x ∷ xs) = elim (cases_Bool (known x.at)) [
  | inl t ↦ rw t (All-cons (λ z. known z.at ≡ true) x (known_rows known xs) t (known_all known xs))
  | inr f ↦ rw f (known_all known xs)
]

pub services_fit : ServicesFit
services_fit known phases p hour before rows begun (ordered, own) open_at =
    let first = first_tenth hour in
    let end = end_tenth hour in
    let ks = known_rows known rows in
    let kept : AreOrdered first end ks = filter_ordered known first end first rows (omega arith) own in
    let all : AreOrdered 0 end ((before ++ []) ++ ks) = subst (λ (zs : List Row). AreOrdered 0 end (zs ++ ks)) (sym (append-nil before)) (ordered-append 0 first end before ks ordered kept) in
    let fit = all_fit p first end begun known phases before (below_end 0 first before ordered) open_at [] ks (All-nil (λ z. first ≤ z.at)) (from_first first end first ks (omega arith) kept) (known_all known rows) all in
    subst (λ (zs : List Row). AreServicesOf first end begun (of_phase p (outs_from (service_at known) (has_phase phases) zs ks)) × AreInOrder (of_phase p (outs_from (service_at known) (has_phase phases) zs ks))) (append-nil before) fit

no_begin : (known : ℕ → Bool) (p : ℕ) → IsGreenAt 0 (service_begun_of known 0 p []) None
unfolding service_begun_of
no_begin known p = tt

-- the services among known rows are in order
pub services_in_order : (known : ℕ → Bool) (phases : List PhaseItem) (p end : ℕ) (rows : List Row) → AreOrdered 0 end rows → All (λ z. known z.at ≡ true) rows → AreInOrder (of_phase p (services_from known phases [] rows))
services_in_order known phases p end rows order ks =
    let low = from_first 0 end 0 rows (omega arith) order in
    (all_fit p 0 end None known phases [] (All-nil (λ z. z.at < 0)) (no_begin known p) [] rows (All-nil (λ z. 0 ≤ z.at)) low ks order).1

-- the end of a green at two tenths
later_or : (t u : ℕ) (p : ℕ) (after front : List Row) → t ≤ u → All (λ z. z.at < t) after → All (λ z. t ≤ z.at) front → (o f : Option Row) → find (λ z. is_change (sign p z)) after ≡ o → find (λ z. is_change (sign p z)) front ≡ f → tenth_or t o ≡ min (tenth_or u (option_or o f)) t
later_or t u p after front le early late (Some y) f is no_matter =
    let lt = all_found (λ z. z.at < t) (λ z. is_change (sign p z)) after y early is in
    omega arith
later_or t u p after front le early late None (Some x) is found =
    let ge = all_found (λ z. t ≤ z.at) (λ z. is_change (sign p z)) front x late found in
    omega arith
later_or t u p after front le early late None None is found = omega arith

green_later : (t u p : ℕ) (after front : List Row) → t ≤ u → All (λ z. z.at < t) after → All (λ z. t ≤ z.at) front → tenth_or t (find (λ z. is_change (sign p z)) after) ≡ min (tenth_or u (find (λ z. is_change (sign p z)) (after ++ front))) t
green_later t u p after front le early late =
    let q : Row → Bool = λ z. is_change (sign p z) in
    later_or t u p after front le early late (find q after) (find q front) refl refl ∙ ap (λ (o : Option Row). min (tenth_or u o) t) (sym (find-append q after front))

-- a service that is open later was open before, where it began before
abbrev WasOpen : (ℕ → Bool) → ℕ → ℕ → ℕ → Found → ServiceBegun → Type 0
WasOpen known p t u a o = (x : ServiceBegun) × (service_begun_in known t p a ≡ Some x) × (x.b.at ≡ o.b.at) × (tenth_or t x.g ≡ min (tenth_or u o.g) t)

was_open : (known : ℕ → Bool) (p t u : ℕ) (front : List Row) (o : ServiceBegun) (a f : Found) → t ≤ u → AllLast (λ z. z.at < t) a → AllLast (λ z. t ≤ z.at) f → All (λ z. t ≤ z.at) front → service_begun_in known u p (joined a front f) ≡ Some o → o.b.at < t → WasOpen known p t u a o
was_open known p t u front o a (Some (b, after)) tu early late all e lt = absurd (
    elim (cases_Bool (live known b.at u && not (is_over p after))) [
      | inl is ↦ (let same = some_same _ o (rw is at e) in let at = ap (λ (z : ServiceBegun). z.b.at) same in let ge = late.0 in omega arith)
      | inr un ↦ (let bad : None ≡ Some o = rw un at e in absurd (cc))
    ]
    )
was_open known p t u front o None None tu early late all e lt = absurd (cc)
was_open known p t u front o (Some (b, after)) None tu early late all e lt = elim (cases_Bool (live known b.at u && not (is_over p (after ++ front)))) [
  | inl is ↦ (
      let same : service_begun p b (after ++ front) ≡ o = some_same _ o (rw is at e) in
      let parts = and_parts (live known b.at u) (not (is_over p (after ++ front))) is in
      let alive = live_less known b.at t u tu parts.0 in
      let over = over_less p after front (not_true (is_over p (after ++ front)) parts.1) in
      (service_begun p b after, rw (alive, over) refl, ap (λ (z : ServiceBegun). z.b.at) same, green_later t u p after front tu early.1 all ∙ ap (λ (z : ServiceBegun). min (tenth_or u z.g) t) same)
      )
  | inr un ↦ (let bad : None ≡ Some o = rw un at e in absurd (cc))
]

-- the rows of a service that is open
record HasRows (u p : ℕ) (before : List Row) (o : ServiceBegun) : Type 0 where
  to_b : List Row
  from_b : List Row
  joined_at : before ≡ to_b ++ o.b ∷ from_b
  green : o.g ≡ find (λ z. is_change (sign p z)) from_b

rows_of : (known : ℕ → Bool) (u p : ℕ) (before : List Row) (o : ServiceBegun) (f : Found) → LastIs (λ z. is_begin (sign p z)) before f → service_begun_in known u p f ≡ Some o → HasRows u p before o
rows_of known u p before o None is e = absurd (cc)
rows_of known u p before o (Some (b, after)) (front, last) e = elim (cases_Bool (live known b.at u && not (is_over p after))) [
  | inl on ↦ (
      let same : service_begun p b after ≡ o = some_same _ o (rw on at e) in
      subst (λ (z : ServiceBegun). HasRows u p before z) same (record { to_b = front; from_b = after; joined_at = last.joined; green = refl })
      )
  | inr un ↦ (let bad : None ≡ Some o = rw un at e in absurd (cc))
]

green_between : (p u : ℕ) (before : List Row) (o : ServiceBegun) → AreOrdered 0 u before → HasRows u p before o → (g : Option Row) → o.g ≡ g → (o.b.at ≤ tenth_or u g) × (tenth_or u g ≤ u)
green_between p u before o order h None e =
    let lt = (ordered_behind 0 u h.to_b o.b h.from_b (subst (λ (zs : List Row). AreOrdered 0 u zs) h.joined_at order)).1 in
    (omega arith, omega arith)
green_between p u before o order h (Some x) e =
    let (front, back, is) = find_split (λ z. is_change (sign p z)) h.from_b x (sym h.green ∙ e) in
    let (le, lt) = in_order 0 u before h.to_b h.from_b front back o.b x h.joined_at is.joined order in
    (le, omega arith)

pub opens_fit : OpensFit
unfolding service_begun_of
opens_fit known p hour before rows begun o (ordered, own) open_at e =
    let first = first_tenth hour in
    let end = end_tenth hour in
    let ks = known_rows known rows in
    let q : Row → Bool = λ z. is_begin (sign p z) in
    let kept : AreOrdered first end ks = filter_ordered known first end first rows (omega arith) own in
    let all : AreOrdered 0 end (before ++ ks) = ordered-append 0 first end before ks ordered kept in
    let early = below_end 0 first before ordered in
    let late = from_first first end first ks (omega arith) kept in
    let h = rows_of known end p (before ++ ks) o (last_with q (before ++ ks)) (last_is q (before ++ ks)) e in
    let (low, high) = green_between p end (before ++ ks) o all h o.g refl in (
      low,
      high,
      λ lt.
          let cut = subst (λ (f : Found). service_begun_in known end p f ≡ Some o) (last_joined q before ks) e in
          let (x, is, eb, eg) = was_open known p first end ks o (last_with q before) (last_with q ks) (omega arith) (last_with_all (λ z. z.at < first) q before early) (last_with_all (λ z. first ≤ z.at) q ks late) late cut lt in
          opened first o.b.at (tenth_or end o.g) x begun (subst (λ (y : Option ServiceBegun). IsGreenAt first y begun) is open_at) eb eg,
    )
