-- The sums of approaches, from what stop bars give.
use Rattle.std.proofs.Common.{zero, suc, ◌≡◌, refl, ap, sym, ◌∙◌, subst, inl, inr, ℕ, ◌+◌, ◌<◌, ◌≤◌, true, eqb, ◌&&◌, Option, Some, None, List, [], ◌∷◌, ◌++◌, length, take, get_or, nat_le, nat_lt, arith}
use Rattle.std.specs.Prelude.{is_some, slice_get}
use Rattle.std.proofs.Math.Bool.{or-true}
use Rattle.std.proofs.lemmas.Bool.{cases_Bool, eq-eqb, leb-true, and_parts}
use Rattle.std.proofs.lemmas.List.{take_more}
use Rattle.std.proofs.lemmas.List.Folds.{list_any_at}
use Rattle.sig_base.specs.declared.values.Frac.{Frac}
use Rattle.sig_base.specs.declared.values.Row.{Row}
use Rattle.sig_base.specs.Numbers.{has_number}
use Rattle.event_codes.specs.declared.channels.Kind.TheVariants.{Detector}
use Rattle.board.specs.Logs.{end_tenth, first_tenth, no_spec}
use Rattle.signal_log.specs.Log.{Log, window_end}
use Rattle.service_cut.specs.declared.items.Service.{Service}
use Rattle.ring_config.specs.Settings.{Settings, detectors, some_number, spec_place}
use Rattle.ring_config.specs.Sound.{IsSound}
use Rattle.ring_config.specs.declared.items.Approach.{Approach}
use Rattle.detector_state.specs.Switches.{IsChannelOf}
use Rattle.stop_bar.specs.declared.windows.Windows.{Windows}
use Rattle.stop_bar.specs.Going.{AreInOrder}
use Rattle.stop_bar.specs.Windows.{left, services_of}
use Rattle.stop_bar.specs.declared.bars.StopBar.{StopBar}
use Rattle.stop_bar.specs.Bars.{AreOver, IsAtBar, ending, services_upto}
use Rattle.stop_bar.specs.Crossing.{Crossing}
use Rattle.stop_bar.specs.Lists.{Each}
use Rattle.stop_bar.specs.All.{AreAllOver, AreAtBars, IsPlaceOf, bar_with, bars_of}
use Rattle.stop_bar.proofs.Places.{each_at, each_more}
use Rattle.stop_bar.proofs.ToldAt.{place_channel}
use Rattle.stop_bar.proofs.Hours.{upto_in_order}
use Rattle.split_measures.specs.declared.failures.SplitSum.{SplitSum}
use Rattle.split_measures.specs.declared.verdict.SplitVerdict.{SplitVerdict}
use Rattle.split_measures.specs.Failures.{split_sum_of}
use Rattle.split_measures.specs.Hours.{IsApproachSum, IsLogUpto, IsSplitSum, open_at_end, open_in, opens_of}
use Rattle.split_measures.specs.Verdicts.{AreInLog, AreVerdicts, IsVerdict, verdicts_by}
use Rattle.split_measures.proofs.Telling.{verdicts_tell}

-- ---- stop bars by their approaches

-- one approach more in front
bar_next : (x : Approach) (xs : List Approach) (place : ℕ) (b e : StopBar) (o : Option StopBar) → bar_with x x.stop_bar ≡ o → (length (bars_of (take place xs)) < length (bars_of xs)) × (get_or (bars_of xs) (length (bars_of (take place xs))) e ≡ b) → (length (bars_of (x ∷ take place xs)) < length (bars_of (x ∷ xs))) × (get_or (bars_of (x ∷ xs)) (length (bars_of (x ∷ take place xs))) e ≡ b)
bar_next x xs place b e None is rest = rw is rest
bar_next x xs place b e (Some y) is rest = let l = rest.0 in rw is (omega arith, rest.1)

-- the stop bar of an approach has the place of those of the approaches before it
pub bar_here : (all : List Approach) (place : ℕ) (d a : Approach) (b e : StopBar) → place < length all → get_or all place d ≡ a → bar_with a a.stop_bar ≡ Some b → (length (bars_of (take place all)) < length (bars_of all)) × (get_or (bars_of all) (length (bars_of (take place all))) e ≡ b)
bar_here [] place d a b e lt at is = absurd (omega arith)
bar_here (x ∷ xs) zero d a b e lt at is =
    let here : bar_with x x.stop_bar ≡ Some b = ap (λ (z : Approach). bar_with z z.stop_bar) at ∙ is in
    rw here (omega arith, refl)
bar_here (x ∷ xs) (suc place) d a b e lt at is =
    let rest = bar_here xs place d a b e (omega arith) at is in
    bar_next x xs place b e (bar_with x x.stop_bar) refl rest

count_next : (x : Approach) (xs : List Approach) (i : ℕ) (a : Approach) (n : ℕ) (o : Option StopBar) → bar_with x x.stop_bar ≡ o → n ≡ length (bars_of (x ∷ take i xs)) → length (bars_of (take i xs)) + length (bars_of (a ∷ [])) ≡ length (bars_of (take (i + 1) xs)) → n + length (bars_of (a ∷ [])) ≡ length (bars_of (x ∷ take (i + 1) xs))
count_next x xs i a n None is e rest = rw (e, is) rest
count_next x xs i a n (Some y) is e rest = rw (e, is) (omega arith)

pub count_more : (all : List Approach) (i : ℕ) (d a : Approach) (n : ℕ) → i < length all → get_or all i d ≡ a → n ≡ length (bars_of (take i all)) → n + length (bars_of (a ∷ [])) ≡ length (bars_of (take (i + 1) all))
count_more [] i d a n lt at e = absurd (omega arith)
count_more (x ∷ xs) zero d a n lt at e =
    let l : length (bars_of (a ∷ [])) ≡ length (bars_of (x ∷ [])) = ap (λ (z : Approach). length (bars_of (z ∷ []))) (sym at) in
    let z : n ≡ 0 = e in
    omega (arith, l, z)
count_more (x ∷ xs) (suc i) d a n lt at e = let more : suc i + 1 ≡ suc (i + 1) = omega arith in rw more (count_next x xs i a n (bar_with x x.stop_bar) refl e (count_more xs i d a (length (bars_of (take i xs))) (omega arith) at refl))

-- ---- places of detectors

own_has : (o : Option ℕ) (d : ℕ) → has_number (some_number o ++ d ∷ []) d ≡ true
own_has None d = rw (eq-eqb d d refl) refl
own_has (Some n) d = rw (eq-eqb d d refl) (or-true (eqb n d))

bar_parts : (a : Approach) (o : Option ℕ) (b : StopBar) → bar_with a o ≡ Some b → (o ≡ Some b.detector) × (b.high ≡ a.high)
bar_parts a None b e = absurd (cc)
bar_parts a (Some d) b e = (cc, cc)

pub some_there : (o : Option ℕ) → is_some o ≡ true → (i : ℕ) × (o ≡ Some i)
some_there None e = absurd (cc)
some_there (Some i) e = (i, refl)

-- the detector of a stop bar is tracked
pub place_there : (c : Settings) (i : ℕ) (d a : Approach) (b : StopBar) → IsSound c → i < length c.approaches → get_or c.approaches i d ≡ a → bar_with a a.stop_bar ≡ Some b → (j : ℕ) × IsPlaceOf c b j
place_there c i d a b sound lt at is =
    let bar = (bar_parts a a.stop_bar b is).0 in
    let own : has_number (detectors a) b.detector ≡ true = rw bar (own_has a.advance b.detector) in
    let here : has_number (detectors (get_or c.approaches i d)) b.detector ≡ true = ap (λ (z : Approach). has_number (detectors z) b.detector) at ∙ own in
    let any = list_any_at (λ (z : Approach). has_number (detectors z) b.detector) c.approaches i d lt here in
    some_there (spec_place c.specs (record { kind = Detector; number = b.detector })) (sound.tracked (record { kind = Detector; number = b.detector }) ∙ any)

-- ---- windows in the log

abbrev pub AreWithin : ℕ → List Service → Type 0
AreWithin end [] = Unit {0}
AreWithin end (s ∷ ss) = ((s.b ≤ s.g) × (s.g ≤ s.r) × (s.r + 50 ≤ end)) × AreWithin end ss

ending_within : (a b : ℕ) (ss : List Service) → AreInOrder ss → AreWithin b (ending a b ss)
ending_within a b [] order = tt
ending_within a b (s ∷ ss) order = elim (cases_Bool (nat_lt a (s.r + 50) && nat_le (s.r + 50) b)) [
  | inl t ↦ (let le = leb-true (s.r + 50) b (and_parts (nat_lt a (s.r + 50)) (nat_le (s.r + 50) b) t).1 in rw t ((order.0.0, order.0.1, le), ending_within a b ss order.1))
  | inr f ↦ rw f (ending_within a b ss order.1)
]

all_in_log : (log : Log) (end : ℕ) (ws : List Windows) → end ≤ window_end log → AreWithin end (services_of ws) → AreInLog log ws
all_in_log log end [] le h = tt
all_in_log log end (w ∷ ws) le h = let top = h.0.2 in (record { green = h.0.0; yellow = h.0.1; red = omega arith }, all_in_log log end ws le h.1)

each_verdict : (log : Log) (i : ℕ) (high : Frac) (ws : List Windows) (vs : List SplitVerdict) → AreVerdicts log i high ws vs → Each (λ s v. IsVerdict log i high s v) (services_of ws) vs
each_verdict log i high [] [] h = tt
each_verdict log i high [] (v ∷ vs) h = absurd h
each_verdict log i high (w ∷ ws) [] h = absurd h
each_verdict log i high (w ∷ ws) (v ∷ vs) h = (h.0, each_verdict log i high ws vs h.1)

no_bar : (a : Approach) (o : Option ℕ) → bar_with a o ≡ None → o ≡ None
no_bar a None e = refl
no_bar a (Some d) e = absurd (cc)

-- ---- one stop bar

module _ (log : Log) (c : Settings) (hour : ℕ) (upto : List Row) (is : IsLogUpto log c hour upto) where
  abbrev first : ℕ
  first = first_tenth hour

  abbrev end : ℕ
  end = end_tenth hour

  abbrev services : StopBar → List Service
  services b = services_upto log.known c.phases b.phase upto

  next : first_tenth (hour + 1) ≡ end
  next = omega arith

  channel_of : (b : StopBar) (i : ℕ) → IsPlaceOf c b i → IsChannelOf log i (record { kind = Detector; number = b.detector })
  channel_of b i at =
      let found = place_channel c.specs b.detector i at in
      let same = is.specs in
      let lt : i < length log.specs = rw same found.0 in
      record {
        within = lt;
        fits = is.are_specs.fit i no_spec lt;
        same = rw same found.1;
      }

  open_is : (x : Crossing) (ss : List Service) → services_of x.pending ≡ left end ss → open_at_end c.window.hours hour x ≡ open_in c.window.hours hour ss
  open_is x ss e = rw e refl

  pub sum_is : (b : StopBar) (i : ℕ) (ws : List Windows) (x : Crossing) (sum : SplitSum) → IsPlaceOf c b i → AreOver log i c.phases b.phase hour upto ws → IsAtBar log i c.phases b.phase upto (hour + 1) x → sum ≡ split_sum_of (verdicts_by b.high ws ++ opens_of (open_at_end c.window.hours hour x)) → IsSplitSum log c i b hour upto sum
  sum_is b i ws x sum at over here e =
      let order = upto_in_order log.known c.phases b.phase end upto is.ordered is.are_known in
      let top = is.within in
      let inside = ending_within first end (services b) order in
      let in_log = all_in_log log end ws (omega arith) (subst (λ (ss : List Service). AreWithin end ss) (sym over.services) inside) in
      let told = verdicts_tell log i (record { kind = Detector; number = b.detector }) b.high ws is.are_specs is.history (channel_of b i at) tt in_log over.numbers in
      let wait : services_of x.pending ≡ left end (services b) = here.waiting ∙ ap (λ (t : ℕ). left t (services b)) next in
      record {
        verdicts = verdicts_by b.high ws;
        each = subst (λ (ss : List Service). Each (λ s v. IsVerdict log i b.high s v) ss (verdicts_by b.high ws)) over.services (each_verdict log i b.high ws (verdicts_by b.high ws) told);
        sums = e ∙ ap (λ (ss : List Service). split_sum_of (verdicts_by b.high ws ++ opens_of ss)) (open_is x (services b) wait);
      }

  -- what is so of the stop bars' lists
  module _ (ended : List (List Windows)) (ats : List Crossing) (over : AreAllOver log c hour upto ended) (here : AreAtBars log c upto (hour + 1) ats) where
    abbrev so : Approach → SplitSum → Type 0
    so a sum = IsApproachSum log c hour upto sum (bar_with a a.stop_bar)

    own : (a : Approach) (sum : SplitSum) (i : ℕ) (d : Approach) (n : ℕ) (o : Option StopBar) → bar_with a a.stop_bar ≡ o → i < length c.approaches → get_or c.approaches i d ≡ a → n ≡ length (bars_of (take i c.approaches)) → (a.stop_bar ≡ None → sum ≡ split_sum_of []) → ((b : StopBar) (ws : List Windows) (x : Crossing) → bar_with a a.stop_bar ≡ Some b → slice_get ended n ≡ Some ws → slice_get ats n ≡ Some x → sum ≡ split_sum_of (verdicts_by b.high ws ++ opens_of (open_at_end c.window.hours hour x))) → IsApproachSum log c hour upto sum o
    own a sum i d n None e lt at count none some = none (no_bar a a.stop_bar e)
    own a sum i d n (Some b) e lt at count none some =
        let (j, place) = place_there c i d a b is.sound lt at e in
        let (lt_n, is_b) = bar_here c.approaches i d a b b lt at e in
        let EndsOf : StopBar → List Windows → Type 0 = λ (b : StopBar) (ws : List Windows). (i : ℕ) → IsPlaceOf c b i → AreOver log i c.phases b.phase hour upto ws in
        let AtOf : StopBar → Crossing → Type 0 = λ (b : StopBar) (x : Crossing). (i : ℕ) → IsPlaceOf c b i → IsAtBar log i c.phases b.phase upto (hour + 1) x in
        let (ws, ws_is, ws_at) = each_at EndsOf (bars_of c.approaches) ended (length (bars_of (take i c.approaches))) b over lt_n in
        let (x, x_is, x_at) = each_at AtOf (bars_of c.approaches) ats (length (bars_of (take i c.approaches))) b here lt_n in
        let ws_b : EndsOf b ws = subst (λ (z : StopBar). EndsOf z ws) is_b ws_at in
        let x_b : AtOf b x = subst (λ (z : StopBar). AtOf z x) is_b x_at in
        let got = some b ws x e (rw count ws_is) (rw count x_is) in
        (j, place, sum_is b j ws x sum place (ws_b j place) (x_b j place) got)

    pub one_more : (i n : ℕ) (d a : Approach) (sum : SplitSum) (sums new : List SplitSum) → i < length c.approaches → get_or c.approaches i d ≡ a → n ≡ length (bars_of (take i c.approaches)) → (a.stop_bar ≡ None → sum ≡ split_sum_of []) → ((b : StopBar) (ws : List Windows) (x : Crossing) → bar_with a a.stop_bar ≡ Some b → slice_get ended n ≡ Some ws → slice_get ats n ≡ Some x → sum ≡ split_sum_of (verdicts_by b.high ws ++ opens_of (open_at_end c.window.hours hour x))) → Each so (take i c.approaches) sums → new ≡ sums ++ sum ∷ [] → Each so (take (i + 1) c.approaches) new
    one_more i n d a sum sums new lt at count none some done e =
        let mine = own a sum i d n (bar_with a a.stop_bar) refl lt at count none some in
        let more : take (i + 1) c.approaches ≡ take i c.approaches ++ a ∷ [] = take_more c.approaches i d lt ∙ ap (λ (z : Approach). take i c.approaches ++ z ∷ []) at in
        rw (more, e) (each_more so (take i c.approaches) sums a sum done mine)
