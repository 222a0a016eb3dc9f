-- The numbers of several hours, and numbers that are one.
use Rattle.std.proofs.Common.{◌≡◌, ◌↔◌, inl, inr, ℕ, zero, suc, ◌+◌, ◌<◌, ◌≤◌, Bool, true, false, eqb, List, [], ◌∷◌, ◌++◌, Some, length, refl, ap, sym, subst, ◌∙◌, arith}
use Rattle.std.proofs.lemmas.List.{same_from_push, ext_get_or, length-append}
use Rattle.sig_base.specs.declared.values.Row.{Row}
use Rattle.sig_base.specs.Numbers.{has_number}
use Rattle.event_codes.specs.declared.channels.Channel.{Channel}
use Rattle.hour_sweep.specs.Sums.{capped, merged}
use Rattle.hour_sweep.proofs.Adding.{count-add}
use Rattle.hour_sweep.specs.Hours.{AreOrdered}
use Rattle.hour_sweep.proofs.SumCommon.{capped_none}
use Rattle.ring_config.specs.Settings.{Settings, spec_place}
use Rattle.detector_state.specs.declared.state_asked.Asked.{Asked}
use Rattle.detector_state.specs.declared.state_asked.Asked.TheVariants.{Colour, NoneOf}
use Rattle.detector_state.specs.States.{IsCount}
use Rattle.other_measures.specs.declared.peds.Delay.{Delay}
use Rattle.other_measures.specs.declared.preempts.PreemptEvent.{PreemptEvent}
use Rattle.other_measures.specs.declared.sums.PedSum.{PedSum}
use Rattle.other_measures.specs.declared.sums.PreemptSum.{PreemptSum}
use Rattle.other_measures.specs.declared.sums.CoordSum.{CoordSum}
use Rattle.other_measures.specs.Sums.{ped_sum_of, ped_added, preempt_sum_of, preempt_added, coord_added, delays_of, events_of}
use Rattle.other_measures.specs.Hours.{delays_from, events_from, HasDelays, HasEvents, HasRows, with_detector, with_states, no_coordination, no_numbers, others_added, rows_with, OtherNumbers, AreNumbers, AreStates}
use Rattle.other_measures.specs.States.{EachOf, HasTenths, HasDetector, HasStates, HasCoordination, ped_detector, input, service, coordination}
use Rattle.other_measures.proofs.Numbers.{ped_numbers_add, preempt_numbers_add}
use Rattle.other_measures.proofs.Hours.{delays_add, events_add}

-- two ways of asking that say the same

count_as : (P Q : ℕ → Type 0) (a n k : ℕ) → ((t : ℕ) → a ≤ t → t < a + n → P t ↔ Q t) → IsCount P a n k → IsCount Q a n k
unfolding IsCount
count_as P Q a zero k same h = h
count_as P Q a (suc n) k same (inl (p, (j, e, rest))) = inl ((same a (omega arith) (omega arith)).0 p, (j, e, count_as P Q (a + 1) n j (λ t le lt. same t (omega arith) (omega arith)) rest))
count_as P Q a (suc n) k same (inr (never, rest)) = inr (λ q. never ((same a (omega arith) (omega arith)).1 q), count_as P Q (a + 1) n k (λ t le lt. same t (omega arith) (omega arith)) rest)

pub each_as : {A : Type 0} (has : ℕ → Bool) (Is As : ℕ → A → Type 0) (n : ℕ) (xs : List A) → ((p : ℕ) (x : A) → Is p x → As p x) → EachOf has Is n xs → EachOf has As n xs
unfolding EachOf
each_as has Is As zero xs f h = h
each_as has Is As (suc n) xs f (inl (e, (ys, y, rest, is, join))) = inl (e, (ys, y, each_as has Is As n ys f rest, f n y is, join))
each_as has Is As (suc n) xs f (inr (e, rest)) = inr (e, each_as has Is As n xs f rest)

module _ (At Bt : ℕ → Asked → ℕ → Type 0) (from : ℕ) (c : Settings) (same : (channel : Channel) (i : ℕ) (asked : Asked) (t : ℕ) → spec_place c.specs channel ≡ Some i → from ≤ t → t < from + 36000 → At i asked t ↔ Bt i asked t) where
  tenths_as : (channel : Channel) (asked : Asked) (n : ℕ) → HasTenths At from c channel asked n → HasTenths Bt from c channel asked n
  tenths_as channel asked n (i, at, count) = (i, at, count_as (At i asked) (Bt i asked) from 36000 n (λ t le lt. same channel i asked t at le lt) count)

  detector_as : (p : ℕ) (s : PedSum) → HasDetector At from c p s → HasDetector Bt from c p s
  detector_as p s h = record { on = tenths_as (ped_detector p) _ _ h.on; undecided = tenths_as (ped_detector p) _ _ h.undecided }

  served_as : (p : ℕ) (s : PreemptSum) → HasStates At from c p s → HasStates Bt from c p s
  served_as p s h = record {
    input_on = tenths_as (input p) _ _ h.input_on;
    input_undecided = tenths_as (input p) _ _ h.input_undecided;
    rest = tenths_as (service p) _ _ h.rest;
    entry = tenths_as (service p) _ _ h.entry;
    track = tenths_as (service p) _ _ h.track;
    dwell = tenths_as (service p) _ _ h.dwell;
    undecided = tenths_as (service p) _ _ h.undecided;
  }

  coordinated_as : (s : CoordSum) → HasCoordination At from c s → HasCoordination Bt from c s
  coordinated_as s h = record {
    size = h.size;
    tenths = λ q lt. tenths_as coordination _ _ (h.tenths q lt);
    undecided = tenths_as coordination _ _ h.undecided;
  }

pub states_as : (At Bt : ℕ → Asked → ℕ → Type 0) (from : ℕ) (c : Settings) (s : OtherNumbers) → ((channel : Channel) (i : ℕ) (asked : Asked) (t : ℕ) → spec_place c.specs channel ≡ Some i → from ≤ t → t < from + 36000 → At i asked t ↔ Bt i asked t) → AreStates At from c s → AreStates Bt from c s
states_as At Bt from c s same h = record {
  peds = each_as (has_number c.peds) (HasDetector At from c) (HasDetector Bt from c) 17 s.peds (detector_as At Bt from c same) h.peds;
  preempts = each_as (has_number c.preempts) (HasStates At from c) (HasStates Bt from c) 17 s.preempts (served_as At Bt from c same) h.preempts;
  coordination = λ on. coordinated_as At Bt from c same s.coordination (h.coordination on);
}

-- numbers that are told whole are one

count_one : (P : ℕ → Type 0) (a n j k : ℕ) → IsCount P a n j → IsCount P a n k → j ≡ k
unfolding IsCount
count_one P a zero j k h g = h ∙ sym g
count_one P a (suc n) j k (inl (p, (x, e, rest))) (inl (q, (y, f, more))) = e ∙ (ap (λ z. suc z) (count_one P (a + 1) n x y rest more) ∙ sym f)
count_one P a (suc n) j k (inl (p, rest)) (inr (never, more)) = absurd (never p)
count_one P a (suc n) j k (inr (never, rest)) (inl (q, more)) = absurd (never q)
count_one P a (suc n) j k (inr (never, rest)) (inr (nor, more)) = count_one P (a + 1) n j k rest more

each_both : {A : Type 0} (has : ℕ → Bool) (Is As : ℕ → A → Type 0) (n : ℕ) (xs : List A) → EachOf has Is n xs → EachOf has As n xs → EachOf has (λ p x. Is p x × As p x) n xs
unfolding EachOf
each_both has Is As zero xs h g = h
each_both has Is As (suc n) xs (inl (e, (ys, y, rest, is, join))) (inl (f, (zs, z, more, also, joined))) =
    let same = same_from_push ys zs y z (sym join ∙ joined) in
    inl (e, (ys, y, each_both has Is As n ys rest (subst (λ (us : List _). EachOf has As n us) (sym same.0) more), (is, subst (λ u. As n u) (sym same.1) also), join))
each_both has Is As (suc n) xs (inl (e, rest)) (inr (f, more)) = absurd (let bad : true ≡ false = sym e ∙ f in cc)
each_both has Is As (suc n) xs (inr (e, rest)) (inl (f, more)) = absurd (let bad : true ≡ false = sym f ∙ e in cc)
each_both has Is As (suc n) xs (inr (e, rest)) (inr (f, more)) = inr (e, each_both has Is As n xs rest more)

each_one : {A : Type 0} (has : ℕ → Bool) (Is : ℕ → A → Type 0) (n : ℕ) (xs zs : List A) → ((p : ℕ) (x z : A) → Is p x → Is p z → x ≡ z) → EachOf has Is n xs → EachOf has Is n zs → xs ≡ zs
unfolding EachOf
each_one has Is zero xs zs one h g = h ∙ sym g
each_one has Is (suc n) xs zs one (inl (e, (us, u, rest, is, join))) (inl (f, (vs, v, more, also, joined))) =
    join ∙ (ap (λ ws. ws ++ u ∷ []) (each_one has Is n us vs one rest more) ∙ (ap (λ w. vs ++ w ∷ []) (one n u v is also) ∙ sym joined))
each_one has Is (suc n) xs zs one (inl (e, rest)) (inr (f, more)) = absurd (let bad : true ≡ false = sym e ∙ f in cc)
each_one has Is (suc n) xs zs one (inr (e, rest)) (inl (f, more)) = absurd (let bad : true ≡ false = sym f ∙ e in cc)
each_one has Is (suc n) xs zs one (inr (e, rest)) (inr (f, more)) = each_one has Is n xs zs one rest more

module _ (At : ℕ → Asked → ℕ → Type 0) (from : ℕ) (c : Settings) where
  tenths_one : (channel : Channel) (asked : Asked) (m n : ℕ) → HasTenths At from c channel asked m → HasTenths At from c channel asked n → m ≡ n
  tenths_one channel asked m n (i, at, count) (j, bt, more) =
      let same : j ≡ i = cc in
      count_one (At i asked) from 36000 m n count (subst (λ (z : ℕ). IsCount (At z asked) from 36000 n) same more)

  ped_one : (ds : List Delay) (p : ℕ) (x z : PedSum) → HasDelays ds p x × HasDetector At from c p x → HasDelays ds p z × HasDetector At from c p z → x ≡ z
  ped_one ds p x z (e, h) (f, g) =
      let s = ped_sum_of (delays_of p ds) in
      e ∙ (ap (λ (n : ℕ). with_detector s n x.detector_undecided) (tenths_one (ped_detector p) _ _ _ h.on g.on) ∙ (ap (λ (n : ℕ). with_detector s z.detector_on n) (tenths_one (ped_detector p) _ _ _ h.undecided g.undecided) ∙ sym f))

  with_one : (s x z : PreemptSum) (p : ℕ) → HasStates At from c p x → HasStates At from c p z → with_states s x ≡ with_states s z
  with_one s x z p h g =
      rw (
        tenths_one (input p) (Colour 1) x.input_on z.input_on h.input_on g.input_on,
        tenths_one (input p) (NoneOf 2) x.input_undecided z.input_undecided h.input_undecided g.input_undecided,
        tenths_one (service p) (Colour 0) x.rest z.rest h.rest g.rest,
        tenths_one (service p) (Colour 1) x.entry z.entry h.entry g.entry,
        tenths_one (service p) (Colour 2) x.track z.track h.track g.track,
        tenths_one (service p) (Colour 3) x.dwell z.dwell h.dwell g.dwell,
        tenths_one (service p) (NoneOf 4) x.undecided z.undecided h.undecided g.undecided,
      ) refl

  preempt_one : (es : List PreemptEvent) (p : ℕ) (x z : PreemptSum) → HasEvents es p x × HasStates At from c p x → HasEvents es p z × HasStates At from c p z → x ≡ z
  preempt_one es p x z (e, h) (f, g) = e ∙ (with_one (preempt_sum_of (events_of p es)) x z p h g ∙ sym f)

  tenths_same : (x z : CoordSum) → HasCoordination At from c x → HasCoordination At from c z → x.tenths ≡ z.tenths
  tenths_same x z h g = ext_get_or 0 x.tenths z.tenths (h.size ∙ sym g.size) (λ q lt. let low : q < 7 = subst (λ (n : ℕ). q < n) h.size lt in tenths_one coordination (Colour q) _ _ (h.tenths q low) (g.tenths q low))

coord_same : (x z : CoordSum) → x.tenths ≡ z.tenths → x.undecided ≡ z.undecided → x.patterns ≡ z.patterns → x.cycle_changes ≡ z.cycle_changes → x.yields ≡ z.yields → x.begins ≡ z.begins → x ≡ z
coord_same x z a b d e f g =
    let one : CoordSum = record { tenths = x.tenths; undecided = x.undecided; patterns = x.patterns; cycle_changes = x.cycle_changes; yields = x.yields; begins = x.begins } in
    let other : CoordSum = record { tenths = z.tenths; undecided = z.undecided; patterns = z.patterns; cycle_changes = z.cycle_changes; yields = z.yields; begins = z.begins } in
    let same : one ≡ other = rw (a, b, d, e, f, g) refl in
    same

coord_one : (At : ℕ → Asked → ℕ → Type 0) (from : ℕ) (c : Settings) (rows : List Row) (v : Bool) (x z : CoordSum) → c.coordination ≡ v → (c.coordination ≡ true → HasRows rows x × HasCoordination At from c x) → (c.coordination ≡ true → HasRows rows z × HasCoordination At from c z) → (c.coordination ≡ false → x ≡ no_coordination) → (c.coordination ≡ false → z ≡ no_coordination) → x ≡ z
coord_one At from c rows true x z is hx hz nx nz =
    let (a, h) = hx is in
    let (b, g) = hz is in
    coord_same x z (tenths_same At from c x z h g) (tenths_one At from c coordination (NoneOf 7) x.undecided z.undecided h.undecided g.undecided) (a.patterns ∙ sym b.patterns) (a.cycle_changes ∙ sym b.cycle_changes) (a.yields ∙ sym b.yields) (a.begins ∙ sym b.begins)
coord_one At from c rows false x z is hx hz nx nz = nx is ∙ sym (nz is)

numbers_same : (a b : OtherNumbers) → a.peds ≡ b.peds → a.preempts ≡ b.preempts → a.coordination ≡ b.coordination → a ≡ b
numbers_same a b e f g =
    let one : OtherNumbers = record { peds = a.peds; preempts = a.preempts; coordination = a.coordination } in
    let other : OtherNumbers = record { peds = b.peds; preempts = b.preempts; coordination = b.coordination } in
    let same : one ≡ other = rw (e, f, g) refl in
    same

pub numbers_are_one : (known : ℕ → Bool) (At : ℕ → Asked → ℕ → Type 0) (from : ℕ) (c : Settings) (before rows : List Row) (a b : OtherNumbers) → AreNumbers known c before rows a → AreStates At from c a → AreNumbers known c before rows b → AreStates At from c b → a ≡ b
numbers_are_one known At from c before rows a b na sa nb sb =
    let ds = delays_from known c before rows in
    let es = events_from known c before rows in
    let peds = each_one (has_number c.peds) (λ p x. HasDelays ds p x × HasDetector At from c p x) 17 a.peds b.peds (ped_one At from c ds) (each_both (has_number c.peds) (HasDelays ds) (HasDetector At from c) 17 a.peds na.peds sa.peds) (each_both (has_number c.peds) (HasDelays ds) (HasDetector At from c) 17 b.peds nb.peds sb.peds) in
    let preempts = each_one (has_number c.preempts) (λ p x. HasEvents es p x × HasStates At from c p x) 17 a.preempts b.preempts (preempt_one At from c es) (each_both (has_number c.preempts) (HasEvents es) (HasStates At from c) 17 a.preempts na.preempts sa.preempts) (each_both (has_number c.preempts) (HasEvents es) (HasStates At from c) 17 b.preempts nb.preempts sb.preempts) in
    numbers_same a b peds preempts (coord_one At from c rows c.coordination a.coordination b.coordination refl (λ on. (na.coordination on, sa.coordination on)) (λ on. (nb.coordination on, sb.coordination on)) na.off nb.off)

-- the numbers of more rows

each_length : {A : Type 0} (has : ℕ → Bool) (Is As : ℕ → A → Type 0) (n : ℕ) (xs ys : List A) → EachOf has Is n xs → EachOf has As n ys → length xs ≡ length ys
unfolding EachOf
each_length has Is As zero xs ys h g = ap (λ zs. length zs) (h ∙ sym g)
each_length has Is As (suc n) xs ys (inl (e, (us, u, rest, is, join))) (inl (f, (vs, v, more, also, joined))) =
    ap (λ zs. length zs) join ∙ (length-append us (u ∷ []) ∙ (ap (λ (m : ℕ). m + 1) (each_length has Is As n us vs rest more) ∙ (sym (length-append vs (v ∷ [])) ∙ sym (ap (λ zs. length zs) joined))))
each_length has Is As (suc n) xs ys (inl (e, rest)) (inr (f, more)) = absurd (let bad : true ≡ false = sym e ∙ f in cc)
each_length has Is As (suc n) xs ys (inr (e, rest)) (inl (f, more)) = absurd (let bad : true ≡ false = sym f ∙ e in cc)
each_length has Is As (suc n) xs ys (inr (e, rest)) (inr (f, more)) = each_length has Is As n xs ys rest more

pub merged-push : {A : Type 0} (put : A → A → A) (us vs : List A) (u v : A) → length us ≡ length vs → merged put (us ++ u ∷ []) (vs ++ v ∷ []) ≡ merged put us vs ++ put u v ∷ []
merged-push put [] [] u v e = refl
merged-push put [] (y ∷ ys) u v e = absurd (omega arith)
merged-push put (x ∷ xs) [] u v e = absurd (omega arith)
merged-push put (x ∷ xs) (y ∷ ys) u v e = ap (λ zs. put x y ∷ zs) (merged-push put xs ys u v (omega arith))

pub each_merged : {A : Type 0} (put : A → A → A) (has : ℕ → Bool) (Is As Both : ℕ → A → Type 0) (n : ℕ) (xs ys : List A) → ((p : ℕ) (x y : A) → Is p x → As p y → Both p (put x y)) → EachOf has Is n xs → EachOf has As n ys → EachOf has Both n (merged put xs ys)
unfolding EachOf
each_merged put has Is As Both zero xs ys both h g = rw (h, g) refl
each_merged put has Is As Both (suc n) xs ys both (inl (e, (us, u, rest, is, join))) (inl (f, (vs, v, more, also, joined))) =
    let long : length us ≡ length vs = each_length has Is As n us vs rest more in
    inl (e, (merged put us vs, put u v, each_merged put has Is As Both n us vs both rest more, both n u v is also, ap (λ zs. merged put zs ys) join ∙ (ap (λ zs. merged put (us ++ u ∷ []) zs) joined ∙ merged-push put us vs u v long)))
each_merged put has Is As Both (suc n) xs ys both (inl (e, rest)) (inr (f, more)) = absurd (let bad : true ≡ false = sym e ∙ f in cc)
each_merged put has Is As Both (suc n) xs ys both (inr (e, rest)) (inl (f, more)) = absurd (let bad : true ≡ false = sym f ∙ e in cc)
each_merged put has Is As Both (suc n) xs ys both (inr (e, rest)) (inr (f, more)) = inr (e, each_merged put has Is As Both n xs ys both rest more)

ped_total : (ds more : List Delay) (p : ℕ) (x y : PedSum) → HasDelays ds p x → HasDelays more p y → HasDelays (ds ++ more) p (ped_added x y)
ped_total ds more p x y e f =
    let s = ped_sum_of (delays_of p ds) in
    let r = ped_sum_of (delays_of p more) in
    ap (λ (z : PedSum). ped_added z y) e
    ∙ (ap (λ (z : PedSum). ped_added (with_detector s x.detector_on x.detector_undecided) z) f
    ∙ ap (λ (z : PedSum). with_detector z (capped (x.detector_on + y.detector_on)) (capped (x.detector_undecided + y.detector_undecided))) (sym (ped_numbers_add p ds more)))

preempt_total : (es more : List PreemptEvent) (p : ℕ) (x y : PreemptSum) → HasEvents es p x → HasEvents more p y → HasEvents (es ++ more) p (preempt_added x y)
preempt_total es more p x y e f =
    let s = preempt_sum_of (events_of p es) in
    ap (λ (z : PreemptSum). preempt_added z y) e
    ∙ (ap (λ (z : PreemptSum). preempt_added (with_states s x) z) f
    ∙ ap (λ (z : PreemptSum). with_states z (preempt_added x y)) (sym (preempt_numbers_add p es more)))

rows_total : (code m n : ℕ) (before rows : List Row) → m ≡ rows_with code before → n ≡ rows_with code rows → capped (m + n) ≡ rows_with code (before ++ rows)
rows_total code m n before rows e f = rw (e, f) (sym (count-add (λ (x : Row). eqb x.code code) before rows))

coord_total : (before rows : List Row) (x y : CoordSum) → HasRows before x → HasRows rows y → HasRows (before ++ rows) (coord_added x y)
coord_total before rows x y h g = record {
  patterns = rows_total 131 x.patterns y.patterns before rows h.patterns g.patterns;
  cycle_changes = rows_total 132 x.cycle_changes y.cycle_changes before rows h.cycle_changes g.cycle_changes;
  yields = rows_total 151 x.yields y.yields before rows h.yields g.yields;
  begins = rows_total 152 x.begins y.begins before rows h.begins g.begins;
}

none_twice : coord_added no_coordination no_coordination ≡ no_coordination
none_twice = rw capped_none refl

off_total : (x y : CoordSum) → x ≡ no_coordination → y ≡ no_coordination → coord_added x y ≡ no_coordination
off_total x y e f = ap (λ (z : CoordSum). coord_added z y) e ∙ (ap (λ (z : CoordSum). coord_added no_coordination z) f ∙ none_twice)

pub delays_total : (c : Settings) (known : ℕ → Bool) (t b : ℕ) (before rows : List Row) (total part : OtherNumbers) → AreOrdered 0 t before → AreOrdered t b rows → AreNumbers known c [] before total → AreNumbers known c before rows part → AreNumbers known c [] (before ++ rows) (others_added total part)
delays_total c known t b before rows total part ob or h g = record {
  peds = subst (λ (zs : List Delay). EachOf (has_number c.peds) (HasDelays zs) 17 (merged ped_added total.peds part.peds)) (sym (delays_add known c t b before rows ob or))
      (each_merged ped_added (has_number c.peds) (HasDelays (delays_from known c [] before)) (HasDelays (delays_from known c before rows)) (HasDelays (delays_from known c [] before ++ delays_from known c before rows)) 17 total.peds part.peds (ped_total (delays_from known c [] before) (delays_from known c before rows)) h.peds g.peds);
  preempts = subst (λ (zs : List PreemptEvent). EachOf (has_number c.preempts) (HasEvents zs) 17 (merged preempt_added total.preempts part.preempts)) (sym (events_add known c t b before rows ob or))
      (each_merged preempt_added (has_number c.preempts) (HasEvents (events_from known c [] before)) (HasEvents (events_from known c before rows)) (HasEvents (events_from known c [] before ++ events_from known c before rows)) 17 total.preempts part.preempts (preempt_total (events_from known c [] before) (events_from known c before rows)) h.preempts g.preempts);
  coordination = λ on. coord_total before rows total.coordination part.coordination (h.coordination on) (g.coordination on);
  off = λ off. off_total total.coordination part.coordination (h.off off) (g.off off);
}

rows_first : (code n : ℕ) (rows : List Row) → n ≡ rows_with code rows → capped (0 + n) ≡ rows_with code rows
rows_first code n rows e = rows_total code 0 n [] rows (sym capped_none) e

coord_first : (rows : List Row) (x : CoordSum) → HasRows rows x → HasRows rows (coord_added no_coordination x)
coord_first rows x h = record {
  patterns = rows_first 131 x.patterns rows h.patterns;
  cycle_changes = rows_first 132 x.cycle_changes rows h.cycle_changes;
  yields = rows_first 151 x.yields rows h.yields;
  begins = rows_first 152 x.begins rows h.begins;
}

pub first_total : (c : Settings) (known : ℕ → Bool) (part : OtherNumbers) (rows : List Row) → AreNumbers known c [] rows part → AreNumbers known c [] rows (others_added no_numbers part)
first_total c known part rows h = record {
  peds = h.peds;
  preempts = h.preempts;
  coordination = λ on. coord_first rows part.coordination (h.coordination on);
  off = λ off. off_total no_coordination part.coordination refl (h.off off);
}
