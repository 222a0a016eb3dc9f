-- A phase doesn't begin green while it is yellow: the last begin of green of a whole cycle isn't after its last begin of yellow.
use Rattle.std.proofs.Common.{◌≡◌, ◌∙◌, inl, inr, ℕ, ◌+◌, ◌-◌, ◌<◌, ◌≤◌, Bool, true, false, not, ◌&&◌, ◌||◌, if◌then◌else◌, List, [], ◌∷◌, ◌++◌, length, get_or, Option, Some, None, refl, sym, ap, subst, append_assoc, arith}
use Rattle.std.specs.Prelude.{◌==◌, All, filter, is_some, nat_le, nat_lt, option_map}
use Rattle.std.specs.Option.{option_or}
use Rattle.std.proofs.lemmas.Bool.{cases_Bool, eq-eqb, eqb-true}
use Rattle.std.proofs.lemmas.List.Elements.{All-nil, All-cons, All-filter, All-head, All-map, All-tail}
use Rattle.sig_base.specs.declared.values.Row.{Row}
use Rattle.sig_base.specs.Numbers.{has_phase}
use Rattle.sig_base.proofs.Common.{clash}
use Rattle.sig_base.proofs.Each.{Each}
use Rattle.event_codes.specs.declared.channels.Channel.{Channel}
use Rattle.channel_tables.specs.declared.spec.Spec.{Spec}
use Rattle.channel_tables.specs.Letters.{IsNumber}
use Rattle.channel_tables.specs.PhaseTable.{phase_table, yellow}
use Rattle.board.specs.Channels.{letter_in, track}
use Rattle.board.specs.History.{History}
use Rattle.board.specs.Logs.{no_spec}
use Rattle.hour_store.specs.Store.{IsStore, Store, is_known, known_rows, rows_of}
use Rattle.hour_sweep.specs.Hours.{AreOrdered, point}
use Rattle.hour_sweep.specs.Rows.{kept_last, last, last_with}
use Rattle.hour_sweep.proofs.Places.{AllLast, last-append, last_with_all}
use Rattle.ring_config.specs.Settings.{Settings, spec_place}
use Rattle.ring_config.specs.Sound.{IsSound}
use Rattle.rule_audit.proofs.Tracked.{channels_are}
use Rattle.signal_log.specs.Log.{AgreesWith, HasHistory, Log, log_of, window_end}
use Rattle.service_cut.specs.declared.items.Cycle.{Cycle}
use Rattle.service_cut.specs.Signs.{code_sign, is_begin, is_end, is_yellow, sign}
use Rattle.service_cut.specs.Cut.{cycles_from}
use Rattle.service_cut.specs.Cycles.{cycle_at, offset_of}
use Rattle.service_cut.specs.Whole.{AllKnown, IsCycle}
use Rattle.service_cut.proofs.Fitting.{begin_only, offset_in, yellow_only, row_late, earlier_low}
use Rattle.service_cut.proofs.WholeCycles.{cycle_is_whole, front_ordered, if_true}
use Rattle.service_cut.proofs.YellowEnds.{from_first}
use Rattle.service_cut.proofs.WholeServices.{kept_none}
use Rattle.arrival_measures.specs.Arrivals.{rows_within}
use Rattle.arrival_measures.specs.declared.points.Diagram.{Diagram}
use Rattle.arrival_measures.specs.Judged.{phase_channel}
use Rattle.arrival_measures.specs.Points.{diagram_of, diagrams_of, points_from}
use Rattle.hour_work.proofs.PlacedLaws.{each_all}
use Rattle.hour_work.proofs.ArrivalLaws.{each_known}
use Rattle.hour_work.proofs.WholeLog.{all_rows, earlier_ordered}
use Rattle.hour_work.proofs.OneLaws.{end_state}
use Rattle.hour_work.proofs.ColourLaws.{Tells, cut_at, told, told_join, told_since}
use Rattle.hour_work.proofs.PhaseLaws.{all_ok, in_phase, no_code, sign_other, sign_own, step_ok, yellow_code, yellow_lines, yellow_ok}
use Rattle.hour_work.proofs.GreenLaws.{each_at, each_front, given_by, place_channel, place_within, row_below, tail_ordered, within_split}

-- ---- what rows tell: None at first; Some true from a row 8 up to an end of yellow; Some false once a row 1 has come between

abbrev stage_by : Bool → Bool → Bool → Option Bool → Option Bool
stage_by y e g None = if y then Some true else None
stage_by y e g (Some true) = if y then Some true else (if e then None else (if g then Some false else Some true))
stage_by y e g (Some false) = Some false

abbrev stage_after : ℕ → Row → Option Bool → Option Bool
stage_after p x o = stage_by (is_yellow (sign p x)) (is_end (sign p x)) (is_begin (sign p x)) o

-- what it says of the colour: that it is yellow, or that it can't be
abbrev StageIs : Option Bool → ℕ → Type 0
StageIs None c = Unit {0}
StageIs (Some true) c = c ≡ yellow
StageIs (Some false) c = ⊥

abbrev begin_ok : ℕ → ℕ → ℕ → Bool
begin_ok code to c = if is_begin (code_sign code) then not (c == yellow) else true

begin_lines : Each (λ x. all_ok (begin_ok x.sign x.to) x.legal_in ≡ true) phase_table.lines
begin_lines = (refl, (refl, (refl, (refl, (refl, (refl, (refl, (refl, (refl, (refl, (refl, (refl, (refl, tt)))))))))))))

stage_next : (y e g : Bool) (o : Option Bool) (to c : ℕ) → (if y then to == yellow else (if e then true else (not (c == yellow) || to == yellow))) ≡ true → (if g then not (c == yellow) else true) ≡ true → StageIs o c → StageIs (stage_by y e g o) to
stage_next true e g None to c okay free h = eqb-true to yellow okay
stage_next false e g None to c okay free h = tt
stage_next true e g (Some true) to c okay free h = eqb-true to yellow okay
stage_next false true g (Some true) to c okay free h = tt
stage_next false false true (Some true) to c okay free h = absurd (let bad = rw (eq-eqb c yellow h) at free in cc)
stage_next false false false (Some true) to c okay free h = eqb-true to yellow (rw (eq-eqb c yellow h) at okay)
stage_next y e g (Some false) to c okay free h = absurd h

stage_other : (e : Bool) (o : Option Bool) (c : ℕ) → StageIs o c → StageIs (stage_by false e false o) c
stage_other e None c h = tt
stage_other true (Some true) c h = tt
stage_other false (Some true) c h = h
stage_other e (Some false) c h = h

not_begin : (a b d e : Bool) → is_begin (if a then code_sign 7 else (if b then code_sign 8 else (if d then code_sign 9 else (if e then code_sign 4 else code_sign 0)))) ≡ true → ⊥
not_begin true b d e h = absurd (cc)
not_begin false true d e h = absurd (cc)
not_begin false false true e h = absurd (cc)
not_begin false false false true h = absurd (cc)
not_begin false false false false h = absurd (cc)

begin_code : (code : ℕ) → is_begin (code_sign code) ≡ true → code ≡ 1
begin_code code e = elim (cases_Bool (code == 1)) [
  | inl t ↦ eqb-true code 1 t
  | inr f ↦ absurd (not_begin (code == 7) (code == 8) ((code == 9) || (code == 10)) ((code == 4) || (code == 5) || (code == 6)) (rw f at e))
]

module _ (s : Spec) (p : ℕ) (is : s.channel ≡ phase_channel p) (low : 1 ≤ p) (high : p ≤ 16) where
  stage_stays : (x : Row) (b : Option Bool) (c : ℕ) → letter_in s x.code x.param ≡ None → StageIs b c → StageIs (stage_after p x b) c
  stage_stays x b c none h = elim (cases_Bool (x.param == p)) [
    | inl t ↦
        let number : x.param ≡ p = eqb-true x.param p t in
        let e = in_phase p low high in
        elim (cases_Bool (is_yellow (code_sign x.code))) [
          | inl y ↦ absurd (no_code s p is low high x 8 3 e (rw e refl) number none (yellow_code x.code y))
          | inr ny ↦ elim (cases_Bool (is_begin (code_sign x.code))) [
            | inl g ↦ absurd (no_code s p is low high x 1 1 e (rw e refl) number none (begin_code x.code g))
            | inr ng ↦ rw (sign_own p x number, ny, ng) (stage_other (is_end (code_sign x.code)) b c h)
          ]
        ]
    | inr f ↦ rw (sign_other p x f) (stage_other false b c h)
  ]

  stage_tells : Tells (track s) (stage_after p) StageIs
  stage_tells = record {
    step = λ x b t v u l e step h.
        let (number, okay) = step_ok s p is low high yellow_ok yellow_lines x.code x.param l t v u e step in
        let (_, free) = step_ok s p is low high begin_ok begin_lines x.code x.param l t v u e step in
        rw (sign_own p x number) (stage_next (is_yellow (code_sign x.code)) (is_end (code_sign x.code)) (is_begin (code_sign x.code)) b u.colour v.colour okay free h);
    other = λ x b c e h. stage_stays x b c e h;
  }

-- ---- over rows

abbrev IsPast : Option Bool → Type 0
IsPast None = ⊥
IsPast (Some b) = Unit {0}

past_next : (y g : Bool) (o : Option Bool) → IsPast o → IsPast (stage_by y false g o)
past_next y g None h = absurd h
past_next true g (Some true) h = tt
past_next false true (Some true) h = tt
past_next false false (Some true) h = tt
past_next y g (Some false) h = tt

past_over : (p : ℕ) (xs : List Row) (o : Option Bool) → All (λ z. is_end (sign p z) ≡ false) xs → IsPast o → IsPast (told (stage_after p) o xs)
past_over p [] o none h = h
past_over p (x ∷ xs) o none h =
    let here = All-head (λ (z : Row). is_end (sign p z) ≡ false) x xs none in
    let next : IsPast (stage_after p x o) = rw here (past_next (is_yellow (sign p x)) (is_begin (sign p x)) o h) in
    past_over p xs (stage_after p x o) (All-tail (λ (z : Row). is_end (sign p z) ≡ false) x xs none) next

bad_over : (p : ℕ) (xs : List Row) → told (stage_after p) (Some false) xs ≡ Some false
bad_over p [] = refl
bad_over p (x ∷ xs) = bad_over p xs

yellow_past : (e g : Bool) (o : Option Bool) → IsPast (stage_by true e g o)
yellow_past e g None = tt
yellow_past e g (Some true) = tt
yellow_past e g (Some false) = tt

bad_here : (o : Option Bool) → IsPast o → stage_by false false true o ≡ Some false
bad_here None h = absurd h
bad_here (Some true) h = refl
bad_here (Some false) h = refl

begin_bad : (p : ℕ) (z : Row) (o : Option Bool) → is_begin (sign p z) ≡ true → IsPast o → stage_after p z o ≡ Some false
begin_bad p z o is h = let n = begin_only (sign p z) is in rw (n.0, n.1, is) (bad_here o h)

-- a row 8, and then a row 1 with no end of yellow between them
stage_shown : (p : ℕ) (us : List Row) (y : Row) (vs : List Row) (z : Row) (ws : List Row) → is_yellow (sign p y) ≡ true → All (λ x. is_end (sign p x) ≡ false) vs → is_begin (sign p z) ≡ true → told (stage_after p) None (us ++ y ∷ (vs ++ z ∷ ws)) ≡ Some false
stage_shown p us y vs z ws y_is none z_is =
    let after = stage_after p in
    let one = after y (told after None us) in
    let past : IsPast one = rw y_is (yellow_past (is_end (sign p y)) (is_begin (sign p y)) (told after None us)) in
    told_join after None us (y ∷ (vs ++ z ∷ ws))
    ∙ (told_join after one vs (z ∷ ws)
    ∙ (ap (λ (o : Option Bool). told after o ws) (begin_bad p z (told after one vs) z_is (past_over p vs one none past))
    ∙ bad_over p ws))

-- ---- in a history

never : (log : Log) (h : History) (agrees : AgreesWith log h) (i p low end : ℕ) → i < length log.specs → (get_or log.specs i no_spec).channel ≡ phase_channel p → 1 ≤ p → p ≤ 16 → AreOrdered low end log.rows → end ≤ window_end log
    → (us : List Row) (y : Row) (vs : List Row) (z : Row) (ws : List Row) → log.rows ≡ us ++ y ∷ (vs ++ z ∷ ws) → is_yellow (sign p y) ≡ true → All (λ x. is_end (sign p x) ≡ false) vs → is_begin (sign p z) ≡ true → AllKnown log.known y.at z.at → ⊥
never log h agrees i p low end lt channel few many order within us y vs z ws parts y_is none z_is all =
    let a = y.at in
    let t = z.at in
    let rows = log.rows in
    let order_by = subst (λ (zs : List Row). AreOrdered low end zs) parts order in
    let since : AreOrdered a end (vs ++ z ∷ ws) = (tail_ordered low end us y (vs ++ z ∷ ws) order_by).2 in
    let up : a ≤ t = row_late a end vs z ws since in
    let below : t < end = row_below a end vs z ws since in
    let (v, ends) = end_state log h t i agrees lt in
    let last = cut_at log h agrees i a (t + 1) v (omega (arith, up)) (omega (arith, below, within)) ends in
    let inner : rows_within a (t + 1) (vs ++ z ∷ ws) ≡ rows_within a (t + 1) vs ++ z ∷ rows_within a (t + 1) ws = within_split a (t + 1) vs z ws up (omega arith) in
    let seen : rows_within a (t + 1) rows ≡ rows_within a (t + 1) us ++ y ∷ (rows_within a (t + 1) vs ++ z ∷ rows_within a (t + 1) ws) =
    ap (λ zs. rows_within a (t + 1) zs) parts
    ∙ (within_split a (t + 1) us y (vs ++ z ∷ ws) (omega arith) (omega (arith, up))
    ∙ ap (λ zs. rows_within a (t + 1) us ++ y ∷ zs) inner) in
    let shown : told (stage_after p) None (rows_within a (t + 1) rows) ≡ Some false =
    ap (λ zs. told (stage_after p) None zs) seen
    ∙ stage_shown p (rows_within a (t + 1) us) y (rows_within a (t + 1) vs) z (rows_within a (t + 1) ws) y_is (All-filter (λ (x : Row). nat_le a x.at && nat_lt x.at (t + 1)) (λ x. is_end (sign p x) ≡ false) vs none) z_is in
    let is = told_since log h agrees i a (t + 1) low end (stage_after p) StageIs (stage_tells (get_or log.specs i no_spec) p channel few many) order (omega (arith, up)) (omega (arith, below, within)) (λ u lo hi. all u lo (omega (arith, hi))) None v last tt in
    subst (λ (o : Option Bool). StageIs o v.colour) shown is

-- ---- the rows of a cycle

all_at : {X : Type 0} (P : X → Type 0) (xs : List X) (y : X) (ys : List X) → All P (xs ++ y ∷ ys) → P y
all_at P [] y ys h = All-head P y ys h
all_at P (x ∷ xs) y ys h = all_at P xs y ys (All-tail P x (xs ++ y ∷ ys) h)

all_front : {X : Type 0} (P : X → Type 0) (xs : List X) (y : X) (ys : List X) → All P (xs ++ y ∷ ys) → All P xs
all_front P [] y ys h = All-nil P
all_front P (x ∷ xs) y ys h = All-cons P x xs (All-head P x (xs ++ y ∷ ys) h) (all_front P xs y ys (All-tail P x (xs ++ y ∷ ys) h))

-- a row 8 with no end of yellow after it stands after each end of yellow
record IsAfter (ys : List Row) (y : Row) (vs : List Row) : Type 0 where
  pub front : List Row
  pub joined : ys ≡ front ++ y ∷ vs

after_end : (p : ℕ) (xs : List Row) (f : Row) (ys us : List Row) (y : Row) (vs : List Row) → xs ++ f ∷ ys ≡ us ++ y ∷ vs → is_end (sign p f) ≡ true → is_yellow (sign p y) ≡ true → All (λ z. is_end (sign p z) ≡ false) vs → IsAfter ys y vs
after_end p [] f ys [] y vs e f_is y_is none =
    let same : f ≡ y = cc in
    absurd (clash (is_end (sign p y)) (subst (λ (z : Row). is_end (sign p z) ≡ true) same f_is) (yellow_only (sign p y) y_is).1)
after_end p [] f ys (u ∷ us) y vs e f_is y_is none = let more : ys ≡ us ++ y ∷ vs = cc in record { front = us; joined = more }
after_end p (x ∷ xs) f ys [] y vs e f_is y_is none =
    let more : vs ≡ xs ++ f ∷ ys = cc in
    absurd (clash (is_end (sign p f)) f_is (all_at (λ (z : Row). is_end (sign p z) ≡ false) xs f ys (subst (λ (zs : List Row). All (λ z. is_end (sign p z) ≡ false) zs) more none)))
after_end p (x ∷ xs) f ys (u ∷ us) y vs e f_is y_is none = let more : xs ++ f ∷ ys ≡ us ++ y ∷ vs = cc in after_end p xs f ys us y vs more f_is y_is none

-- no row passes, where each that passes is one too many
none_passes : (q : Row → Bool) (xs : List Row) → ((vs : List Row) (z : Row) (ws : List Row) → xs ≡ vs ++ z ∷ ws → q z ≡ true → ⊥) → All (λ z. q z ≡ false) xs
none_passes q [] h = All-nil (λ z. q z ≡ false)
none_passes q (x ∷ xs) h =
    let rest = none_passes q xs (λ vs z ws e t. h (x ∷ vs) z ws (ap (λ zs. x ∷ zs) e) t) in
    elim (cases_Bool (q x)) [
      | inl t ↦ absurd (h [] x xs refl t)
      | inr f ↦ All-cons (λ z. q z ≡ false) x xs f rest
    ]

late_in : (from : ℕ) (y : Row) (ys : List Row) (b : Bool) (o : Option (Row × List Row)) (more : Option Row) → b ≡ true → AllLast (λ z. y.at ≤ z.at) o → y.at - from ≤ offset_of from (option_or (option_map (λ f. f.0) (kept_last o b y ys)) more)
late_in from y ys true None more e h = omega arith
late_in from y ys b (Some f) more e h = let up : y.at ≤ f.0.at = h.0 in omega (arith, up)
late_in from y ys false None more e h = absurd (cc)

-- between two ends of yellow, with no row 1 after this row 8
green_first : (p from low end : ℕ) (us : List Row) (y : Row) (vs : List Row) → AreOrdered low end (us ++ y ∷ vs) → is_yellow (sign p y) ≡ true → All (λ z. is_begin (sign p z) ≡ false) vs
    → offset_of from (last (λ z. is_begin (sign p z)) (us ++ y ∷ vs)) ≤ offset_of from (last (λ z. is_yellow (sign p z)) (us ++ y ∷ vs))
green_first p from low end us y vs order y_is none =
    let begins = λ (z : Row). is_begin (sign p z) in
    let yellows = λ (z : Row). is_yellow (sign p z) in
    let no_begin : last_with begins (y ∷ vs) ≡ None = kept_none begins (y ∷ vs) (All-cons (λ (z : Row). is_begin (sign p z) ≡ false) y vs (yellow_only (sign p y) y_is).0 none) in
    let green : last begins (us ++ y ∷ vs) ≡ last begins us = last-append begins us (y ∷ vs) ∙ ap (λ (o : Option (Row × List Row)). option_or (option_map (λ f. f.0) o) (last begins us)) no_begin in
    let up = offset_in from y.at begins us (earlier_low low end us y vs order) in
    let since = (tail_ordered low end us y vs order).2 in
    let late = late_in from y vs (yellows y) (last_with yellows vs) (last yellows us) y_is (last_with_all (λ (z : Row). y.at ≤ z.at) yellows vs (from_first y.at end y.at vs (omega arith) since)) in
    rw (green, last-append yellows us (y ∷ vs)) (omega (arith, up, late))

-- ---- a cycle of a store

record IsPlace (c : Settings) (p : ℕ) : Type 0 where
  pub place : ℕ
  pub is : spec_place c.specs (phase_channel p) ≡ Some place

place_in : (c : Settings) (p : ℕ) (o : Option ℕ) → spec_place c.specs (phase_channel p) ≡ o → is_some o ≡ true → IsPlace c p
place_in c p None e h = absurd (cc)
place_in c p (Some i) e h = record { place = i; is = e }

place_of_phase : (c : Settings) (p : ℕ) → IsSound c → has_phase c.phases p ≡ true → IsPlace c p
place_of_phase c p sound has = place_in c p (spec_place c.specs (phase_channel p)) refl (sound.tracked (phase_channel p) ∙ has)

regroup : (us : List Row) (y : Row) (vs : List Row) (z : Row) (ws zs : List Row) → (us ++ y ∷ (vs ++ z ∷ ws)) ++ zs ≡ us ++ y ∷ (vs ++ z ∷ (ws ++ zs))
regroup us y vs z ws zs = simp append_assoc

-- the ordered known rows of a store in which a row ends a cycle
cycle_in_order : (c : Settings) (s : Store) (h : History) (i p : ℕ) (front : List Row) (r : Row) (rest : List Row) (x : Cycle) → IsSound c → AgreesWith (log_of c.specs s) h → AreOrdered 0 (point (length s.hours)) (known_rows s) → spec_place c.specs (phase_channel p) ≡ Some i → known_rows s ≡ front ++ r ∷ rest → IsCycle (is_known s) p front r x → x.green ≤ x.yellow
cycle_in_order c s h i p front r rest x sound agrees order at parts cycle =
    let log = log_of c.specs s in
    let end = point (length s.hours) in
    let specs = channels_are c sound in
    let lt = place_within c p i at in
    let channel = place_channel c p i at in
    let number = subst (λ (z : Channel). IsNumber z.kind z.number) channel (specs.numbered i no_spec lt) in
    let w = cycle.second in
    let from = cycle.from in
    let after = after_end p cycle.to_from from cycle.between w.to_y w.y w.from_y (sym cycle.joined ∙ w.joined) cycle.first.r_is w.y_is w.none in
    let order_by = subst (λ (zs : List Row). AreOrdered 0 end zs) parts order in
    let to_r = front_ordered 0 end front r rest order_by in
    let no_begin = none_passes (λ z. is_begin (sign p z)) w.from_y (λ vs z ws e z_is.
    let split : front ≡ w.to_y ++ w.y ∷ (vs ++ z ∷ ws) = w.joined ∙ ap (λ zs. w.to_y ++ w.y ∷ zs) e in
    let whole : known_rows s ≡ w.to_y ++ w.y ∷ (vs ++ z ∷ (ws ++ r ∷ rest)) = parts ∙ (ap (λ zs. zs ++ r ∷ rest) split ∙ regroup w.to_y w.y vs z ws (r ∷ rest)) in
    let none = all_front (λ (q : Row). is_end (sign p q) ≡ false) vs z ws (subst (λ (zs : List Row). All (λ q. is_end (sign p q) ≡ false) zs) e w.none) in
    let since : AreOrdered w.y.at end (vs ++ z ∷ (ws ++ r ∷ rest)) = (tail_ordered 0 end w.to_y w.y (vs ++ z ∷ (ws ++ r ∷ rest)) (subst (λ (zs : List Row). AreOrdered 0 end zs) whole order)).2 in
    let to_end : AreOrdered z.at end (ws ++ r ∷ rest) = (tail_ordered w.y.at end vs z (ws ++ r ∷ rest) since).2 in
    let up : z.at ≤ r.at = row_late z.at end ws r rest to_end in
    never log h agrees i p 0 end lt channel number.0 number.1 order (omega arith) w.to_y w.y vs z (ws ++ r ∷ rest) whole w.y_is none z_is (λ u lo hi. w.all_known u lo (omega (arith, hi, up)))) in
    let between_order : AreOrdered from.at end (after.front ++ w.y ∷ w.from_y) =
    subst (λ (zs : List Row). AreOrdered from.at end zs) after.joined (tail_ordered 0 end cycle.to_from from cycle.between (subst (λ (zs : List Row). AreOrdered 0 end zs) cycle.joined to_r)).2 in
    let first = green_first p from.at from.at end after.front w.y w.from_y between_order w.y_is no_begin in
    let here : offset_of from.at (last (λ z. is_begin (sign p z)) cycle.between) ≤ offset_of from.at (last (λ z. is_yellow (sign p z)) cycle.between) =
    subst (λ (zs : List Row). offset_of from.at (last (λ z. is_begin (sign p z)) zs) ≤ offset_of from.at (last (λ z. is_yellow (sign p z)) zs)) (sym after.joined) first in
    rw (cycle.c_is) here

pub green_before_yellow : (c : Settings) (s : Store) → IsSound c → IsStore s → HasHistory (log_of c.specs s) → All (λ x. x.green ≤ x.yellow) (cycles_from (is_known s) c.phases [] (known_rows s))
green_before_yellow c s sound store (h, agrees) n d some =
    let known = is_known s in
    let end = point (length s.hours) in
    let order : AreOrdered 0 end (known_rows s) = subst (λ (zs : List Row). AreOrdered 0 end zs) (all_rows s) (earlier_ordered s (length s.hours) store (omega arith)) in
    let x = get_or (cycles_from known c.phases [] (known_rows s)) n d in
    let g = given_by (λ p earlier r rest. cycle_at known p earlier r) (has_phase c.phases) [] (known_rows s) n d some in
    let is = if_true (has_phase c.phases g.row.param) (cycle_at known g.row.param g.front g.row) x g.gives in
    let at = place_of_phase c g.row.param sound is.0 in
    let seen = subst (λ (zs : List Row). Each (λ z. known z.at ≡ true) zs) g.joined (each_known known (rows_of s.hours)) in
    let order_by = subst (λ (zs : List Row). AreOrdered 0 end zs) g.joined order in
    let cycle : IsCycle known g.row.param g.front g.row x = cycle_is_whole known g.row.param 0 end g.front g.row x (front_ordered 0 end g.front g.row g.rest order_by) (each_all (λ (z : Row). known z.at ≡ true) g.front (each_front (λ (z : Row). known z.at ≡ true) g.front (g.row ∷ g.rest) seen)) (each_at (λ (z : Row). known z.at ≡ true) g.front g.row g.rest seen) is.1 in
    cycle_in_order c s h at.place g.row.param g.front g.row g.rest x sound agrees order at.is g.joined cycle

pub diagrams_in_order : (c : Settings) (s : Store) (p : ℕ) → IsSound c → IsStore s → HasHistory (log_of c.specs s) → All (λ d. d.cycle.green ≤ d.cycle.yellow) (diagrams_of (is_known s) c p (known_rows s))
diagrams_in_order c s p sound store has =
    let cycles = cycles_from (is_known s) c.phases [] (known_rows s) in
    let own = All-filter (λ (x : Cycle). x.phase == p) (λ (x : Cycle). x.green ≤ x.yellow) cycles (green_before_yellow c s sound store has) in
    All-map (λ (d : Diagram). d.cycle.green ≤ d.cycle.yellow) (diagram_of (points_from (is_known s) c p [] (known_rows s))) (filter (λ x. x.phase == p) cycles) own
