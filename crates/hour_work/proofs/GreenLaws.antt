-- In a whole cycle the rows say whether the phase is green.
use Rattle.std.proofs.Common.{◌≡◌, ◌∙◌, inl, inr, ℕ, zero, suc, ◌+◌, ◌<◌, ◌≤◌, Bool, true, false, cond, if◌then◌else◌, ◌&&◌, List, [], ◌∷◌, ◌++◌, length, get_or, Option, Some, None, refl, sym, ap, subst, append_assoc, arith}
use Rattle.std.specs.Prelude.{◌==◌, nat_le, nat_lt}
use Rattle.std.specs.List.{All, cons_option}
use Rattle.std.proofs.lemmas.Bool.{and_parts, cases_lt, eqb-true}
use Rattle.std.proofs.lemmas.List.{append-nil}
use Rattle.std.proofs.lemmas.List.Elements.{All-filter, All-head, All-tail, filter-append}
use Rattle.std.proofs.lemmas.List.Quantifiers.{position-Some}
use Rattle.sig_base.specs.declared.values.Row.{Row}
use Rattle.sig_base.specs.Numbers.{has_phase}
use Rattle.sig_base.proofs.Each.{Each}
use Rattle.event_codes.specs.declared.channels.Channel.{Channel}
use Rattle.event_codes.specs.declared.channels.Kind.{Kind}
use Rattle.event_codes.specs.declared.channels.Kind.TheVariants.{Phase, Ped, Overlap, Detector, PedDetector, PreemptInput, PreemptService, Coordination}
use Rattle.channel_tables.specs.declared.spec.Spec.{Spec}
use Rattle.channel_tables.specs.Letters.{IsNumber}
use Rattle.reach.specs.Runs.{State}
use Rattle.board.specs.Channels.{AreSpecs}
use Rattle.board.specs.History.{History}
use Rattle.board.specs.Logs.{no_spec}
use Rattle.hour_store.specs.Store.{IsStore, Store, is_known, known_rows, rows_of}
use Rattle.hour_sweep.specs.Hours.{AreOrdered, point}
use Rattle.hour_sweep.specs.Numbers.{given, outs_from}
use Rattle.ring_config.specs.Settings.{Settings, is_same_channel, kind_rank, spec_place}
use Rattle.signal_log.specs.Log.{AgreesWith, Log, log_of, window_end}
use Rattle.signal_log.specs.States.{IsAtEndOf}
use Rattle.service_cut.specs.declared.items.Cycle.{Cycle}
use Rattle.service_cut.specs.Signs.{is_end, is_yellow, sign}
use Rattle.service_cut.specs.Cycles.{cycle_at}
use Rattle.service_cut.specs.Whole.{AllKnown, IsCycle}
use Rattle.service_cut.proofs.WholeCycles.{cycle_is_whole, front_ordered}
use Rattle.service_cut.proofs.Fitting.{row_late}
use Rattle.arrival_measures.specs.Arrivals.{rows_within}
use Rattle.arrival_measures.specs.Green.{green_after, greens, shows_green}
use Rattle.arrival_measures.specs.Judged.{is_green, phase_channel}
use Rattle.arrival_measures.proofs.Telling.{within-append}
use Rattle.hour_work.specs.Rows.{earlier_rows, own_rows}
use Rattle.hour_work.specs.Measures.{MayBeIn, cycles_in}
use Rattle.hour_work.proofs.PlacedLaws.{each_all}
use Rattle.hour_work.proofs.ArrivalLaws.{each_known}
use Rattle.hour_work.proofs.WholeLog.{all_rows, earlier_ordered, hour_within, own_ordered}
use Rattle.hour_work.proofs.ColourLaws.{cut_at, none_within, told, told_join, told_since, within_here}
use Rattle.hour_work.proofs.PhaseLaws.{green_tells, greens_told, yellow_after, yellow_ends, yellow_tells}

-- ---- rows in order

pub tail_ordered : (a b : ℕ) (xs : List Row) (f : Row) (ys : List Row) → AreOrdered a b (xs ++ f ∷ ys) → AreOrdered f.at b (f ∷ ys)
tail_ordered a b [] f ys h = (omega arith, h.1, h.2)
tail_ordered a b (x ∷ xs) f ys h = tail_ordered x.at b xs f ys h.2

pub row_below : (a b : ℕ) (xs : List Row) (f : Row) (ys : List Row) → AreOrdered a b (xs ++ f ∷ ys) → f.at < b
row_below a b [] f ys h = h.1
row_below a b (x ∷ xs) f ys h = row_below x.at b xs f ys h.2

pub each_front : {X : Type 0} (P : X → Type 0) (xs ys : List X) → Each P (xs ++ ys) → Each P xs
each_front P [] ys h = tt
each_front P (x ∷ xs) ys h = (h.0, each_front P xs ys h.1)

pub each_at : {X : Type 0} (P : X → Type 0) (xs : List X) (y : X) (ys : List X) → Each P (xs ++ y ∷ ys) → P y
each_at P [] y ys h = h.0
each_at P (x ∷ xs) y ys h = each_at P xs y ys h.1

pub within_split : (a c : ℕ) (xs : List Row) (y : Row) (ys : List Row) → a ≤ y.at → y.at < c → rows_within a c (xs ++ y ∷ ys) ≡ rows_within a c xs ++ y ∷ rows_within a c ys
within_split a c xs y ys le lt = filter-append (λ (x : Row). nat_le a x.at && nat_lt x.at c) xs (y ∷ ys) ∙ ap (λ zs. rows_within a c xs ++ zs) (within_here a c y ys le lt)

-- ---- from a row 8 on

-- a row 8 of the phase among the rows tells all before it
green_reset : (p : ℕ) (g d : Bool) (xs : List Row) (y : Row) (ys : List Row) → is_yellow (sign p y) ≡ true → told (green_after p) g (xs ++ y ∷ ys) ≡ told (green_after p) d (xs ++ y ∷ ys)
green_reset p g d xs y ys is =
    let after = green_after p in
    told_join after g xs (y ∷ ys)
    ∙ (ap (λ (b : Bool). told after b ys) (yellow_ends p y (told after g xs) is ∙ sym (yellow_ends p y (told after d xs) is))
    ∙ sym (told_join after d xs (y ∷ ys)))

either_true : (v : Bool) → (if v then true else true) ≡ true
either_true true = refl
either_true false = refl

yellow_over : (p : ℕ) (xs : List Row) → All (λ z. is_end (sign p z) ≡ false) xs → told (yellow_after p) true xs ≡ true
yellow_over p [] none = refl
yellow_over p (x ∷ xs) none =
    let here = All-head (λ (z : Row). is_end (sign p z) ≡ false) x xs none in
    let same : yellow_after p x true ≡ true = rw here (either_true (is_yellow (sign p x))) in
    ap (λ (b : Bool). told (yellow_after p) b xs) same ∙ yellow_over p xs (All-tail (λ (z : Row). is_end (sign p z) ≡ false) x xs none)

-- it is told from a row 8 on, where no end of yellow comes after it
yellow_shown : (p : ℕ) (xs : List Row) (y : Row) (ys : List Row) → is_yellow (sign p y) ≡ true → All (λ z. is_end (sign p z) ≡ false) ys → told (yellow_after p) false (xs ++ y ∷ ys) ≡ true
yellow_shown p xs y ys is none =
    let after = yellow_after p in
    let here : after y (told after false xs) ≡ true = rw is refl in
    told_join after false xs (y ∷ ys) ∙ (ap (λ (b : Bool). told after b ys) here ∙ yellow_over p ys none)

-- rows with a row 8 of the phase and then one at which a cycle begins
pub record IsBegun (p : ℕ) (rows : List Row) : Type 0 where
  pub y : Row
  pub f : Row
  pub to_y : List Row
  pub from_y : List Row
  pub later : List Row
  pub joined : rows ≡ to_y ++ y ∷ (from_y ++ f ∷ later)
  pub y_is : is_yellow (sign p y) ≡ true
  pub none : All (λ z. is_end (sign p z) ≡ false) from_y

module _ (p low end : ℕ) (rows : List Row) (order : AreOrdered low end rows) (b : IsBegun p rows) where
  parted : AreOrdered low end (b.to_y ++ b.y ∷ (b.from_y ++ b.f ∷ b.later))
  parted = subst (λ (zs : List Row). AreOrdered low end zs) b.joined order

  from_yellow : AreOrdered b.y.at end (b.from_y ++ b.f ∷ b.later)
  from_yellow = (tail_ordered low end b.to_y b.y (b.from_y ++ b.f ∷ b.later) parted).2

  pub begun_after : b.y.at ≤ b.f.at
  begun_after = row_late b.y.at end b.from_y b.f b.later from_yellow

  -- up to the tenth at which the cycle begins
  pub yellow_told : b.y.at < b.f.at → told (yellow_after p) false (rows_within b.y.at b.f.at rows) ≡ true
  yellow_told lt =
      let a = b.y.at in
      let c = b.f.at in
      let rest : rows_within a c (b.f ∷ b.later) ≡ [] = none_within a c c end (b.f ∷ b.later) (omega arith) (tail_ordered b.y.at end b.from_y b.f b.later from_yellow) in
      let mine : rows_within a c (b.from_y ++ b.f ∷ b.later) ≡ rows_within a c b.from_y =
      within-append a c b.from_y (b.f ∷ b.later) ∙ (ap (λ zs. rows_within a c b.from_y ++ zs) rest ∙ append-nil (rows_within a c b.from_y)) in
      let all : rows_within a c rows ≡ rows_within a c b.to_y ++ b.y ∷ rows_within a c b.from_y =
      ap (λ zs. rows_within a c zs) b.joined ∙ (within_split a c b.to_y b.y (b.from_y ++ b.f ∷ b.later) (omega arith) lt ∙ ap (λ zs. rows_within a c b.to_y ++ b.y ∷ zs) mine) in
      ap (λ zs. told (yellow_after p) false zs) all
      ∙ yellow_shown p (rows_within a c b.to_y) b.y (rows_within a c b.from_y) b.y_is (All-filter (λ (x : Row). nat_le a x.at && nat_lt x.at c) (λ z. is_end (sign p z) ≡ false) b.from_y b.none)

  -- a row 8 at that tenth itself
  pub green_told : (t : ℕ) (g : Bool) → b.f.at ≤ b.y.at → b.f.at ≤ t → told (green_after p) g (rows_within b.f.at (t + 1) rows) ≡ told (green_after p) false (rows_within b.f.at (t + 1) rows)
  green_told t g le low_t =
      let a = b.f.at in
      let after = begun_after in
      let all : rows_within a (t + 1) rows ≡ rows_within a (t + 1) b.to_y ++ b.y ∷ rows_within a (t + 1) (b.from_y ++ b.f ∷ b.later) =
      ap (λ zs. rows_within a (t + 1) zs) b.joined ∙ within_split a (t + 1) b.to_y b.y (b.from_y ++ b.f ∷ b.later) le (omega arith) in
      ap (λ zs. told (green_after p) g zs) all
      ∙ (green_reset p g false (rows_within a (t + 1) b.to_y) b.y (rows_within a (t + 1) (b.from_y ++ b.f ∷ b.later)) b.y_is
      ∙ sym (ap (λ zs. told (green_after p) false zs) all))

-- ---- in a history

pub phase_told : (log : Log) (h : History) (agrees : AgreesWith log h) (i p low end : ℕ) → (get_or log.specs i no_spec).channel ≡ phase_channel p → 1 ≤ p → p ≤ 16 → (order : AreOrdered low end log.rows) (b : IsBegun p log.rows) (t : ℕ) (v : State) → b.f.at ≤ t → t < window_end log → AllKnown log.known b.y.at t → IsAtEndOf log h i t v → is_green v.colour ≡ greens p false (rows_within b.f.at (t + 1) log.rows)
phase_told log h agrees i p low end channel few many order b t v le lt all at =
    let spec = get_or log.specs i no_spec in
    let rows = log.rows in
    let after = begun_after p low end rows order b in
    let last = cut_at log h agrees i b.f.at (t + 1) v (omega arith) (omega arith) at in
    let z = last.between in
    let seen = rows_within b.f.at (t + 1) rows in
    let told_here : is_green v.colour ≡ told (green_after p) (is_green z.colour) seen =
    told_since log h agrees i b.f.at (t + 1) low end (green_after p) (λ d c. is_green c ≡ d) (green_tells spec p channel few many) order (omega arith) (omega arith) (λ u lo hi. all u (omega arith) (omega arith)) (is_green z.colour) v last refl in
    let begin : told (green_after p) (is_green z.colour) seen ≡ told (green_after p) false seen = elim (cases_lt b.y.at b.f.at) [
      | inl earlier ↦
          let first = cut_at log h agrees i b.y.at b.f.at z (omega arith) (omega arith) last.first in
          let shown = told_since log h agrees i b.y.at b.f.at low end (yellow_after p) (λ d c. d ≡ true → c ≡ 4) (yellow_tells spec p channel few many) order (omega arith) (omega arith) (λ u lo hi. all u (omega arith) (omega arith)) false z first (λ e. absurd (cc)) (yellow_told p low end rows order b earlier) in
          ap (λ (c : ℕ). told (green_after p) (is_green c) seen) shown
      | inr same ↦ green_told p low end rows order b t (is_green z.colour) same le
    ] in
    told_here ∙ (begin ∙ sym (greens_told p false seen))

-- ---- a cycle of an hour

cycle_if : (v : Bool) (o : Option Cycle) (c : Cycle) → cond v o None ≡ Some c → o ≡ Some c
cycle_if true o c e = e
cycle_if false o c e = absurd (cc)

-- the row that gives an element of what the rows give
pub record IsGivenBy {O : Type 0} (out_at : ℕ → List Row → Row → List Row → Option O) (has : ℕ → Bool) (before rows : List Row) (o : O) : Type 0 where
  pub front : List Row
  pub row : Row
  pub rest : List Row
  pub joined : rows ≡ front ++ row ∷ rest
  pub gives : given out_at has (before ++ front) row rest ≡ Some o

given_later : {O : Type 0} (out_at : ℕ → List Row → Row → List Row → Option O) (has : ℕ → Bool) (before : List Row) (x : Row) (xs : List Row) (o : O) → IsGivenBy out_at has (before ++ x ∷ []) xs o → IsGivenBy out_at has before (x ∷ xs) o
given_later out_at has before x xs o g = record {
  front = x ∷ g.front;
  row = g.row;
  rest = g.rest;
  joined = ap (λ zs. x ∷ zs) g.joined;
  gives = subst (λ (zs : List Row). given out_at has zs g.row g.rest ≡ Some o) (append_assoc before (x ∷ []) g.front) g.gives;
}

given_here : {O : Type 0} (out_at : ℕ → List Row → Row → List Row → Option O) (has : ℕ → Bool) (before : List Row) (x : Row) (xs : List Row) (o : O) → given out_at has before x xs ≡ Some o → IsGivenBy out_at has before (x ∷ xs) o
given_here out_at has before x xs o e = record {
  front = [];
  row = x;
  rest = xs;
  joined = refl;
  gives = subst (λ (zs : List Row). given out_at has zs x xs ≡ Some o) (sym (append-nil before)) e;
}

given_cons : {O : Type 0} (out_at : ℕ → List Row → Row → List Row → Option O) (has : ℕ → Bool) (before : List Row) (x : Row) (xs : List Row) (n : ℕ) (d : O) (v : Option O) → given out_at has before x xs ≡ v → n < length (cons_option v (outs_from out_at has (before ++ x ∷ []) xs)) → ((m : ℕ) → m < length (outs_from out_at has (before ++ x ∷ []) xs) → IsGivenBy out_at has (before ++ x ∷ []) xs (get_or (outs_from out_at has (before ++ x ∷ []) xs) m d)) → IsGivenBy out_at has before (x ∷ xs) (get_or (cons_option v (outs_from out_at has (before ++ x ∷ []) xs)) n d)
given_cons out_at has before x xs n d None e lt more = given_later out_at has before x xs (get_or (outs_from out_at has (before ++ x ∷ []) xs) n d) (more n lt)
given_cons out_at has before x xs zero d (Some o) e lt more = given_here out_at has before x xs o e
given_cons out_at has before x xs (suc n) d (Some o) e lt more = given_later out_at has before x xs (get_or (outs_from out_at has (before ++ x ∷ []) xs) n d) (more n (omega arith))

pub given_by : {O : Type 0} (out_at : ℕ → List Row → Row → List Row → Option O) (has : ℕ → Bool) (before rows : List Row) (n : ℕ) (d : O) → n < length (outs_from out_at has before rows) → IsGivenBy out_at has before rows (get_or (outs_from out_at has before rows) n d)
given_by out_at has before [] n d lt = absurd (omega arith)
given_by out_at has before (x ∷ xs) n d lt = given_cons out_at has before x xs n d (given out_at has before x xs) refl lt (λ m l. given_by out_at has (before ++ x ∷ []) xs m d l)

phase_rank : (k : Kind) → (kind_rank k == kind_rank Phase) ≡ true → k ≡ Phase
phase_rank Phase e = refl
phase_rank Ped e = absurd (cc)
phase_rank Overlap e = absurd (cc)
phase_rank Detector e = absurd (cc)
phase_rank PedDetector e = absurd (cc)
phase_rank PreemptInput e = absurd (cc)
phase_rank PreemptService e = absurd (cc)
phase_rank Coordination e = absurd (cc)

channel_is : (a : Channel) (p : ℕ) → is_same_channel a (phase_channel p) ≡ true → a ≡ phase_channel p
channel_is a p e =
    let parts = and_parts (kind_rank a.kind == kind_rank Phase) (a.number == p) e in
    let kind = phase_rank a.kind parts.0 in
    let number : a.number ≡ p = eqb-true a.number p parts.1 in
    let one : Channel = record { kind = a.kind; number = a.number } in
    let same : one ≡ phase_channel p = rw (kind, number) refl in
    same

pub place_within : (c : Settings) (p i : ℕ) → spec_place c.specs (phase_channel p) ≡ Some i → i < length c.specs
place_within c p i at = (position-Some (λ (z : Spec). is_same_channel z.channel (phase_channel p)) c.specs i no_spec at).0

pub place_channel : (c : Settings) (p i : ℕ) → spec_place c.specs (phase_channel p) ≡ Some i → (get_or c.specs i no_spec).channel ≡ phase_channel p
place_channel c p i at = channel_is (get_or c.specs i no_spec).channel p (position-Some (λ (z : Spec). is_same_channel z.channel (phase_channel p)) c.specs i no_spec at).1

pub regroup : (us : List Row) (y : Row) (vs : List Row) (f : Row) (ws zs : List Row) → ((us ++ y ∷ vs) ++ f ∷ ws) ++ zs ≡ us ++ y ∷ (vs ++ f ∷ (ws ++ zs))
regroup us y vs f ws zs = simp append_assoc

-- a cycle that ends with row r, among all rows
record IsAmong (known : ℕ → Bool) (p : ℕ) (all : List Row) (r : Row) (x : Cycle) : Type 0 where
  pub begun : IsBegun p all
  pub phase : x.phase ≡ p
  pub from : x.from ≡ begun.f.at
  pub to : x.to ≡ r.at
  pub all_known : AllKnown known begun.y.at r.at

among : (known : ℕ → Bool) (p end : ℕ) (all front : List Row) (r : Row) (rest : List Row) (x : Cycle) → all ≡ front ++ r ∷ rest → AreOrdered 0 end all → Each (λ z. known z.at ≡ true) all → cycle_at known p front r ≡ Some x → IsAmong known p all r x
among known p end all front r rest x parts order seen given =
    let is_known = λ (z : Row). known z.at ≡ true in
    let order_by = subst (λ (zs : List Row). AreOrdered 0 end zs) parts order in
    let seen_by = subst (λ (zs : List Row). Each is_known zs) parts seen in
    let cycle : IsCycle known p front r x = cycle_is_whole known p 0 end front r x (front_ordered 0 end front r rest order_by) (each_all is_known front (each_front is_known front (r ∷ rest) seen_by)) (each_at is_known front r rest seen_by) given in
    let y = cycle.first in
    let f = cycle.from in
    record {
      begun = record {
        y = y.y;
        f = f;
        to_y = y.to_y;
        from_y = y.from_y;
        later = cycle.between ++ r ∷ rest;
        joined = parts ∙ (ap (λ zs. zs ++ r ∷ rest) (cycle.joined ∙ ap (λ zs. zs ++ f ∷ cycle.between) y.joined) ∙ regroup y.to_y y.y y.from_y f cycle.between (r ∷ rest));
        y_is = y.y_is;
        none = y.none;
      };
      phase = ap (λ (z : Cycle). z.phase) cycle.c_is;
      from = ap (λ (z : Cycle). z.from) cycle.c_is;
      to = ap (λ (z : Cycle). z.to) cycle.c_is;
      all_known = λ u lo hi. elim (cases_lt u f.at) [ inl less ↦ y.all_known u lo (omega arith) | inr more ↦ cycle.all_known u more hi ];
    }

-- the same in parts
pub parts_are : (all before own front : List Row) (r : Row) (rest later : List Row) → all ≡ before ++ (own ++ later) → own ≡ front ++ r ∷ rest → all ≡ (before ++ front) ++ r ∷ (rest ++ later)
parts_are all before own front r rest later e f =
    e
    ∙ (ap (λ zs. before ++ (zs ++ later)) f
    ∙ (ap (λ zs. before ++ zs) (append_assoc front (r ∷ rest) later)
    ∙ sym (append_assoc before front (r ∷ (rest ++ later)))))

-- rows after these tenths tell nothing of them
greens_by : (p q a b t low end : ℕ) (all before own later : List Row) → all ≡ before ++ (own ++ later) → AreOrdered low end later → t < low → q ≡ p → b ≡ a → greens p false (rows_within a (t + 1) all) ≡ greens q false (rows_within b (t + 1) (before ++ own))
greens_by p q a b t low end all before own later e order lt same from =
    let both = before ++ own in
    let only : rows_within a (t + 1) all ≡ rows_within a (t + 1) both =
    ap (λ zs. rows_within a (t + 1) zs) (e ∙ sym (append_assoc before own later))
    ∙ (within-append a (t + 1) both later
    ∙ (ap (λ zs. rows_within a (t + 1) both ++ zs) (none_within a (t + 1) low end later (omega arith) order)
    ∙ append-nil (rows_within a (t + 1) both))) in
    ap (λ zs. greens p false zs) only
    ∙ (ap (λ (n : ℕ). greens n false (rows_within a (t + 1) both)) (sym same)
    ∙ ap (λ (n : ℕ). greens q false (rows_within n (t + 1) both)) (sym from))

-- what the rows of a cycle say of its phase is so in each history
pub cycle_shows : (c : Settings) (s : Store) (hour n i t : ℕ) (d : Cycle) → AreSpecs c.specs → IsStore s → hour < length s.hours → n < length (cycles_in c s hour)
    → let x = get_or (cycles_in c s hour) n d in
    spec_place c.specs (phase_channel x.phase) ≡ Some i → x.from ≤ t → t < x.to → (v : State) → MayBeIn c s i t v → is_green v.colour ≡ shows_green x.phase x.from (earlier_rows s hour ++ own_rows s hour) t
unfolding shows_green
cycle_shows c s hour n i t d specs store lt some at low high v (h, agrees, ends) =
    let known = is_known s in
    let before = earlier_rows s hour in
    let own = own_rows s hour in
    let log = log_of c.specs s in
    let x = get_or (cycles_in c s hour) n d in
    let g = given_by (λ p earlier r rest. cycle_at known p earlier r) (has_phase c.phases) before own n d some in
    let r = g.row in
    let p = r.param in
    let w = hour_within s hour store lt in
    let end = point (length s.hours) in
    let order : AreOrdered 0 end (known_rows s) = subst (λ (zs : List Row). AreOrdered 0 end zs) (all_rows s) (earlier_ordered s (length s.hours) store (omega arith)) in
    let parts = parts_are (known_rows s) before own g.front r g.rest w.later w.parts g.joined in
    let given_is = cycle_if (has_phase c.phases p) (cycle_at known p (before ++ g.front) r) x g.gives in
    let is = among known p end (known_rows s) (before ++ g.front) r (g.rest ++ w.later) x parts order (each_known known (rows_of s.hours)) given_is in
    let from = is.from in
    let to = is.to in
    let place : spec_place c.specs (phase_channel p) ≡ Some i = subst (λ (q : ℕ). spec_place c.specs (phase_channel q) ≡ Some i) is.phase at in
    let channel = place_channel c p i place in
    let number = subst (λ (z : Channel). IsNumber z.kind z.number) channel (specs.numbered i no_spec (place_within c p i place)) in
    let in_hour : r.at < point (hour + 1) = row_below (point hour) (point (hour + 1)) g.front r g.rest (subst (λ (zs : List Row). AreOrdered (point hour) (point (hour + 1)) zs) g.joined (own_ordered s hour store)) in
    let after : is.begun.f.at ≤ t = omega arith in
    let within : t < window_end log = omega arith in
    phase_told log h agrees i p 0 end channel number.0 number.1 order is.begun t v after within (λ u lo hi. is.all_known u lo (omega arith)) ends
    ∙ greens_by p x.phase is.begun.f.at x.from t (point (hour + 1)) end (known_rows s) before own w.later w.parts w.order (omega arith) is.phase is.from
