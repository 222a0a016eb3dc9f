-- What explains a line for one channel makes a history that explains it.
use Rattle.std.proofs.Common.{suc, zero, ◌≡◌, ◌≢◌, refl, ap, sym, ◌∙◌, subst, inl, inr, ℕ, ◌+◌, ◌-◌, ◌<◌, ◌≤◌, ℤ, pos, true, false, List, [], ◌∷◌, ◌++◌, length, length-append, length-drop, map, take, drop, get_or, take-append-drop, arith, Option, Some}
use Rattle.std.proofs.lemmas.Int.{ints}
use Rattle.std.proofs.lemmas.Bool.{cases_eq}
use Rattle.std.proofs.lemmas.List.{length-map, length-take-le, map-append, take-append-le, take_all, take_at, get_or_append_left, get_or_at, get_or-map, drop_more}
use Rattle.colour_machine.specs.Mask.{Has}
use Rattle.reach.specs.Runs.{State, state, Step, Steps, Run}
use Rattle.board.specs.declared.clause.Term.{Term}
use Rattle.board.specs.History.{Agree, Bounded, Event, History, Track, events_at, letters, put, start_of}
use Rattle.board.specs.Channels.{AreSpecs}
use Rattle.board.specs.Logs.{no_spec}
use Rattle.board.specs.Verdicts.{AreWithin, HoldOne, Keeps}
use Rattle.board.proofs.Bridge.{agree_join}
use Rattle.board.proofs.Joining.{letters_join}
use Rattle.board.proofs.Product.{choose}
use Rattle.board.proofs.Tracks.{tracks_are}
use Rattle.signal_log.specs.Log.{AgreesWith, IsBeforeWindow, Log, track_at, window_end}
use Rattle.signal_log.specs.States.{IsAfterEvents, IsAtEndOf}
use Rattle.signal_log.proofs.Runs.{run_once, steps_join}
use Rattle.lost_rows.specs.declared.asked.Asked.{Asked}
use Rattle.lost_rows.specs.Stills.{LostRows}
use Rattle.lost_rows.specs.Walks.{LostWalk, nothing_asked}
use Rattle.lost_rows.specs.Marked.{LosesRows, LostAreEvents, Marked, MarkedHistory, events_of, lost_of, plain, told}
use Rattle.lost_rows.specs.Lines.{ComesBefore, KeptAt, no_event, tenth_of}
use Rattle.lost_laws.specs.Tenths.{LosesOver, MayBeAtEndLosing, letters_in}
use Rattle.lost_laws.specs.Channels.{ChannelIsEnough, TermIsEnough, asked_of, row_of}
use Rattle.lost_laws.proofs.Places.{after_once, agree_at, length-events_of, put_join}
use Rattle.lost_laws.proofs.Reading.{AllSpared, KeptBy, Spared, all_spared_to, spared_to}
use Rattle.lost_laws.proofs.Making.{AreTenths, tenth_made, tenth_more, tenths_made}
use Rattle.lost_laws.proofs.Joins.{bounded_cut, events_of_join, lost_are_join, lost_of_join, tenths_join, told_join}
use Rattle.lost_laws.proofs.Sturdy.{ends_have}

abbrev no_state : State
no_state = state 0 (pos 0)

module _ (log : Log) (are : AreSpecs log.specs) (old : History) (agrees : AgreesWith log old) (i : ℕ) (small : i < length log.specs) where
  abbrev k : Track
  k = track_at log i

  abbrev given : ℕ → List Event
  given = events_at log.rows

  abbrev n : ℕ
  n = length log.specs

  abbrev Tenths : ℕ → List (List Event) → ℕ → State → State → List (List Marked) → Type 0
  Tenths x es j s u ts = AreTenths n (track_at log) (tracks_are log.specs no_spec are) i small log.known given x es j s u ts

  abbrev Seen : List Event → List Event → Type 0
  Seen es fs = (c : ℕ) → c < n → i ≢ c → letters (track_at log c) es ≡ letters (track_at log c) fs

  -- the old history's tenths up to one, and from it on
  old_cut : (y : ℕ) → y ≤ window_end log → (length (take y old.events) ≡ y) × (y + length (drop y old.events) ≡ window_end log) × Agree log.known given 0 (take y old.events) × Agree log.known given y (drop y old.events) × Bounded log.known 0 (take y old.events) × Bounded log.known y (drop y old.events)
  old_cut y le =
      let covers = agrees.covers in
      let es = old.events in
      let l1 : length (take y es) ≡ y = length-take-le y es (omega arith) in
      let l2 : length (drop y es) ≡ length es - y = length-drop y es in
      let whole = take-append-drop y es in
      let (a1, a2) = (agree_join log.known given 0 y (take y es) (drop y es) (omega arith)).0 (subst (λ (ws : List (List Event)). Agree log.known given 0 ws) (sym whole) agrees.agrees.agree) in
      let (b1, b2) = bounded_cut log.known 0 y (take y es) (drop y es) (omega arith) (subst (λ (ws : List (List Event)). Bounded log.known 0 ws) (sym whole) agrees.agrees.bounded) in
      (l1, omega arith, a1, a2, b1, b2)

  -- tenths that a walk of the channel makes, in place of the old history's
  made_over : (r : Asked) (x m : ℕ) (es : List (List Event)) (j : ℕ) (s u : State) → length es ≡ m → Agree log.known given x es → Bounded log.known x es → LosesOver k log.known given r x m j s u → (ts : List (List Marked)) × Tenths x es j s u ts × AllSpared k r x s ts
  made_over r x m es j s u size agree bounded walk = tenths_made n (track_at log) (tracks_are log.specs no_spec are) i small log.known given r x es j s u agree bounded (subst (λ (z : ℕ). LosesOver k log.known given r x z j s u) (sym size) walk)

  -- the other channels begin as in the old history
  history_made : (j : ℕ) (s u : State) (ts : List (List Marked)) → IsBeforeWindow k.rules s → Tenths 0 old.events j s u ts → (starts : List State) × (get_or starts i no_state ≡ s) × LosesRows log (record { starts = starts; tenths = ts }) j
  history_made j s u ts early (l, ag, bo, at, ev, co, ru, al) =
      let (starts, _, each) = choose no_state n (λ c z. (c ≡ i → z ≡ s) × (c ≢ i → z ≡ start_of old c)) (λ c lt. elim (cases_eq c i) [
        | inl e ↦ (s, ((λ _. refl), λ ne. absurd (ne e)))
        | inr ne ↦ (start_of old c, ((λ e. absurd (ne e)), λ _. refl))
      ]) in
      let own : get_or starts i no_state ≡ s = (each i small).0 refl in (
        starts,
        own,
        record {
          covers = l ∙ agrees.covers;
          starts = λ c lt. elim (cases_eq c i) [
            | inl e ↦ subst (λ (z : ℕ). IsBeforeWindow (track_at log z).rules (get_or starts z no_state)) (sym e) (subst (λ (z : State). IsBeforeWindow k.rules z) (sym own) early)
            | inr ne ↦ subst (λ (z : State). IsBeforeWindow (track_at log c).rules z) (sym ((each c lt).1 ne)) (agrees.starts c lt)
          ];
          legal = λ c lt. elim (cases_eq c i) [
            | inl e ↦ subst (λ (z : ℕ). (w : State) × Run (track_at log z).rules (pos 0) (get_or starts z no_state) (map (letters (track_at log z)) (map events_of ts)) w) (sym e) (u, subst (λ (z : State). Run k.rules (pos 0) z (map (letters k) (map events_of ts)) u) (sym own) ru)
            | inr ne ↦ let (w, r) = agrees.agrees.legal c lt in (w, subst (λ (z : State). Run (track_at log c).rules (pos 0) z (map (letters (track_at log c)) (map events_of ts)) w) (sym ((each c lt).1 ne)) (subst (λ (ls : List (List ℕ)). Run (track_at log c).rules (pos 0) (start_of old c) ls w) (sym (al c lt (λ e. ne (sym e)))) r))
          ];
          agree = ag;
          bounded = bo;
          at_known = at;
          events = ev;
          count = co;
        },
      )

  -- a history in which the channel ends the tenth in the state
  end_made : (x j : ℕ) (v : State) → x < window_end log → MayBeAtEndLosing log x j i v → (h : MarkedHistory) × LosesRows log h j × IsAtEndOf log (plain h) i x v
  end_made x j v lt (a, b, sum, (s, early, (m1, e1, w1)), (u, (m2, e2, w2))) =
      let (l1, l2, a1, a2, b1, b2) = old_cut (x + 1) (omega arith) in
      let (ts, all, _) = made_over nothing_asked 0 m1 (take (x + 1) old.events) a s v (omega arith) a1 b1 w1 in
      let (us, more, _) = made_over nothing_asked (x + 1) m2 (drop (x + 1) old.events) b v u (omega arith) a2 b2 w2 in
      let joined = tenths_join n (track_at log) (tracks_are log.specs no_spec are) i small log.known given 0 (x + 1) (take (x + 1) old.events) (drop (x + 1) old.events) a b j s v u ts us sum (omega arith) all more in
      let (starts, own, loses) = history_made j s u (ts ++ us) early (subst (λ (es : List (List Event)). Tenths 0 es j s u (ts ++ us)) (take-append-drop (x + 1) old.events) joined) in
      let size : length (map events_of ts) ≡ x + 1 = length-map ts events_of ∙ (all.0 ∙ l1) in
      let front : take (x + 1) (map events_of (ts ++ us)) ≡ map events_of ts = ap (λ ws. take (x + 1) ws) (map-append events_of ts us) ∙ take_at (map events_of ts) (map events_of us) (x + 1) size in (
        record { starts = starts; tenths = ts ++ us },
        loses,
        subst (λ (ws : List (List Event)). Run k.rules (pos 0) (get_or starts i no_state) (map (letters k) ws) v) (sym front) (subst (λ (z : State). Run k.rules (pos 0) z (map (letters k) (map events_of ts)) v) (sym own) all.6),
      )

  -- ---- the tenth of a line before a row

  -- no row is lost in no still
  no_rows : (r : Asked) (t : ℤ) (j : ℕ) (s u : State) → LostRows k.rules r t t j s u → (j ≡ 0) × (u ≡ s)
  no_rows r t zero s u same = (refl, same)
  no_rows r t (suc j) s u (y, ge, lt, _) = absurd (omega (arith, ints))

  -- marked events of the line's tenth: those before the line's row, the row, and those after it
  abbrev AreAbout : Asked → ℕ → Event → List Event → List Event → ℕ → State → State → State → List Marked → List Marked → Type 0
  AreAbout r x e before after j a v b es fs = (told (es ++ record { event = e; lost = false } ∷ fs) ≡ before ++ e ∷ after) × (lost_of (es ++ record { event = e; lost = false } ∷ fs) ≡ j) × LostAreEvents (es ++ record { event = e; lost = false } ∷ fs) × Steps k.rules (pos x) a (letters k (events_of es)) v × Steps k.rules (pos x) a (letters k (events_of (es ++ record { event = e; lost = false } ∷ fs))) b × Spared k r x a es × Seen (events_of (es ++ record { event = e; lost = false } ∷ fs)) (before ++ e ∷ after) × (told es ≡ before)

  about_made : (r : Asked) (x l : ℕ) (e : Event) (before after : List Event) (i1 i2 j : ℕ) (a v b : State) → i1 + i2 ≡ j → k.letter e.code e.param ≡ Some l → LostWalk k.rules r x (letters_in x (letters k before)) (x + 1) i1 a v → LostWalk k.rules nothing_asked (x + 1) (letters_in x (letters k (e ∷ after))) (x + 1) i2 v b → (es fs : List Marked) × AreAbout r x e before after j a v b es fs
  about_made r x l e before after i1 i2 j a v b sum is to from =
      let (es, tells, count, events, steps, spared, alike) = tenth_made n (track_at log) (tracks_are log.specs no_spec are) i small r x before i1 a v to in
      let own : letters k (e ∷ after) ≡ l ∷ letters k after = ap (λ (o : Option ℕ). put o (letters k after)) is in
      let (c, d, sum2, (z, w, rows, step, walk)) = (subst (λ (ls : List ℕ). LostWalk k.rules nothing_asked (x + 1) (letters_in x ls) (x + 1) i2 v b) own from) in
      let (none, same) = no_rows nothing_asked (pos (x + 1)) c v z rows in
      let one : Steps k.rules (pos x) v (put (k.letter e.code e.param) []) w = subst (λ (o : Option ℕ). Steps k.rules (pos x) v (put o []) w) (sym is) (w, subst (λ (y : State). Step k.rules (pos x) y l w) same step, refl) in
      let (fs, tells2, count2, events2, steps2, _, alike2) = tenth_made n (track_at log) (tracks_are log.specs no_spec are) i small nothing_asked x after d w b walk in
      let m : Marked = record { event = e; lost = false } in
      let both : events_of (es ++ m ∷ fs) ≡ events_of es ++ e ∷ events_of fs = events_of_join es (m ∷ fs) in
      let lost2 = lost_of_join es (m ∷ fs) in
      let parts : (c : Track) → letters c (events_of (es ++ m ∷ fs)) ≡ letters c (events_of es) ++ put (c.letter e.code e.param) (letters c (events_of fs)) = λ c. ap (λ zs. letters c zs) both ∙ letters_join c (events_of es) (e ∷ events_of fs) in
      let rest : Steps k.rules (pos x) v (put (k.letter e.code e.param) (letters k (events_of fs))) b = put_join k (pos x) (k.letter e.code e.param) (letters k (events_of fs)) v w b one steps2 in (
        es,
        fs,
        (
          told_join es (m ∷ fs) ∙ (ap (λ zs. zs ++ e ∷ told fs) tells ∙ ap (λ zs. before ++ e ∷ zs) tells2),
          omega arith,
          lost_are_join es (m ∷ fs) events ((λ bad. absurd (cc)), events2),
          steps,
          subst (λ (ls : List ℕ). Steps k.rules (pos x) a ls b) (sym (parts k)) ((steps_join k.rules (pos x) (letters k (events_of es)) (put (k.letter e.code e.param) (letters k (events_of fs))) a b).1 (v, steps, rest)),
          spared,
          (λ c lt other. parts (track_at log c) ∙ (ap (λ zs. zs ++ put ((track_at log c).letter e.code e.param) (letters (track_at log c) (events_of fs))) (alike c lt other) ∙ (ap (λ zs. letters (track_at log c) before ++ put ((track_at log c).letter e.code e.param) zs) (alike2 c lt other) ∙ sym (letters_join (track_at log c) before (e ∷ after))))),
          tells,
        ),
      )

  -- ---- a history about the line's tenth

  -- tenths before one, that one, of which so many events come before a place, and those after it
  abbrev about : List (List Marked) → List Marked → List Marked → List (List Marked) → List (List Marked)
  about ts es fs us = ts ++ (es ++ fs) ∷ us

  -- a channel's run over those before the place, in which each lost row keeps what is asked
  abbrev ComesUpTo : Asked → ℕ → State → State → List State → List (List Marked) → List Marked → Type 0
  ComesUpTo r x s a starts ts es = (length ts ≡ x) × (get_or starts i no_state ≡ s) × Run k.rules (pos 0) s (map (letters k) (map events_of ts)) a × AllSpared k r 0 s ts × Spared k r x a es

  abbrev history : List State → List (List Marked) → List Marked → List Marked → List (List Marked) → MarkedHistory
  history starts ts es fs us = record { starts = starts; tenths = about ts es fs us }

  events_front : (x y : ℕ) (ts : List (List Marked)) (es fs : List Marked) (us : List (List Marked)) → length ts ≡ x → y ≤ x → take y (map events_of (about ts es fs us)) ≡ take y (map events_of ts)
  events_front x y ts es fs us size le =
      let long : length (map events_of ts) ≡ length ts = length-map ts events_of in
      ap (λ ws. take y ws) (map-append events_of ts ((es ++ fs) ∷ us)) ∙ take-append-le y (map events_of ts) (events_of (es ++ fs) ∷ map events_of us) (omega arith)

  events_here : (x q : ℕ) (ts : List (List Marked)) (es fs : List Marked) (us : List (List Marked)) → length ts ≡ x → q ≤ length es → take q (get_or (map events_of (about ts es fs us)) x []) ≡ take q (events_of es)
  events_here x q ts es fs us size le =
      let long : length (map events_of ts) ≡ x = length-map ts events_of ∙ size in
      let many : length (events_of es) ≡ length es = length-events_of es in
      let here : get_or (map events_of (about ts es fs us)) x [] ≡ events_of es ++ events_of fs = ap (λ ws. get_or ws x []) (map-append events_of ts ((es ++ fs) ∷ us)) ∙ (get_or_at (map events_of ts) (events_of (es ++ fs)) (map events_of us) [] x long ∙ events_of_join es fs) in
      ap (λ zs. take q zs) here ∙ take-append-le q (events_of es) (events_of fs) (omega arith)

  run_front : (x : ℕ) (s a : State) (ts : List (List Marked)) (es fs : List Marked) (us : List (List Marked)) → length ts ≡ x → Run k.rules (pos 0) s (map (letters k) (map events_of ts)) a → Run k.rules (pos 0) s (map (letters k) (take x (map events_of (about ts es fs us)))) a
  run_front x s a ts es fs us size run =
      let long : length (map events_of ts) ≡ x = length-map ts events_of ∙ size in
      let front : take x (map events_of (about ts es fs us)) ≡ map events_of ts = ap (λ ws. take x ws) (map-append events_of ts ((es ++ fs) ∷ us)) ∙ take_at (map events_of ts) (events_of (es ++ fs) ∷ map events_of us) x long in
      subst (λ (ws : List (List Event)). Run k.rules (pos 0) s (map (letters k) ws) a) (sym front) run

  -- the channel comes to a state before the place
  comes_to : (r : Asked) (x q : ℕ) (s a v : State) (starts : List State) (ts : List (List Marked)) (es fs : List Marked) (us : List (List Marked)) → ComesUpTo r x s a starts ts es → q ≤ length es → Steps k.rules (pos x) a (letters k (take q (events_of es))) v → IsAfterEvents log (plain (history starts ts es fs us)) i x q v
  comes_to r x q s a v starts ts es fs us (size, own, run, _, _) le steps = (
    a,
    subst (λ (z : State). Run k.rules (pos 0) z (map (letters k) (take x (map events_of (about ts es fs us)))) a) (sym own) (run_front x s a ts es fs us size run),
    subst (λ (zs : List Event). Steps k.rules (pos x) a (letters k zs) v) (sym (events_here x q ts es fs us size le)) steps,
  )

  -- a lost row of an earlier tenth keeps what is asked
  kept_before : (r : Asked) (x y q : ℕ) (s a v : State) (starts : List State) (ts : List (List Marked)) (es fs : List Marked) (us : List (List Marked)) → ComesUpTo r x s a starts ts es → y < x → q < length (get_or (about ts es fs us) y []) → (get_or (get_or (about ts es fs us) y []) q no_event).lost ≡ true → IsAfterEvents log (plain (history starts ts es fs us)) i y q v → KeptBy k r y (get_or (get_or (about ts es fs us) y []) q no_event).event v
  kept_before r x y q s a v starts ts es fs us (size, own, _, spared, _) less lt lost (b, run, steps) =
      let here : get_or (about ts es fs us) y [] ≡ get_or ts y [] = get_or_append_left ts ((es ++ fs) ∷ us) [] y (omega arith) in
      let many : length (about ts es fs us) ≡ length ts + suc (length us) = length-append ts ((es ++ fs) ∷ us) in
      let at : get_or (map events_of (about ts es fs us)) y [] ≡ events_of (get_or ts y []) = get_or-map events_of (about ts es fs us) y [] [] (omega arith) ∙ ap events_of here in
      let run2 : Run k.rules (pos 0) s (map (letters k) (take y (map events_of ts))) b = subst (λ (ws : List (List Event)). Run k.rules (pos 0) s (map (letters k) ws) b) (events_front x y ts es fs us size (omega arith)) (subst (λ (z : State). Run k.rules (pos 0) z (map (letters k) (take y (map events_of (about ts es fs us)))) b) own run) in
      let steps2 : Steps k.rules (pos y) b (letters k (take q (events_of (get_or ts y [])))) v = subst (λ (zs : List Event). Steps k.rules (pos y) b (letters k (take q zs)) v) at steps in
      subst (λ (zs : List Marked). KeptBy k r y (get_or zs q no_event).event v) (sym here) (all_spared_to k r 0 ts s y q y b v spared (omega arith) (omega arith) (subst (λ (zs : List Marked). q < length zs) here lt) (subst (λ (zs : List Marked). (get_or zs q no_event).lost ≡ true) here lost) run2 steps2)

  -- and so does one of the same tenth before the place
  kept_here : (r : Asked) (x q : ℕ) (s a v : State) (starts : List State) (ts : List (List Marked)) (es fs : List Marked) (us : List (List Marked)) → ComesUpTo r x s a starts ts es → q < length es → (get_or (get_or (about ts es fs us) x []) q no_event).lost ≡ true → IsAfterEvents log (plain (history starts ts es fs us)) i x q v → KeptBy k r x (get_or (get_or (about ts es fs us) x []) q no_event).event v
  kept_here r x q s a v starts ts es fs us (size, own, run, _, spared) lt lost (b, run2, steps) =
      let here : get_or (get_or (about ts es fs us) x []) q no_event ≡ get_or es q no_event = ap (λ zs. get_or zs q no_event) (get_or_at ts (es ++ fs) us [] x size) ∙ get_or_append_left es fs no_event q lt in
      let ls = map (letters k) (take x (map events_of (about ts es fs us))) in
      let same : b ≡ a = run_once k.rules (pos 0) ls s b a (subst (λ (z : State). Run k.rules (pos 0) z ls b) own run2) (run_front x s a ts es fs us size run) in
      let steps2 : Steps k.rules (pos x) a (letters k (take q (events_of es))) v = subst (λ (zs : List Event). Steps k.rules (pos x) a (letters k zs) v) (events_here x q ts es fs us size (omega arith)) (subst (λ (z : State). Steps k.rules (pos x) z (letters k (take q (get_or (map events_of (about ts es fs us)) x []))) v) same steps) in
      subst (λ (e : Marked). KeptBy k r x e.event v) (sym here) (spared_to k r x es a q v spared lt (subst (λ (e : Marked). e.lost ≡ true) here lost) steps2)

  kept_earlier : (r : Asked) (x y q p : ℕ) (s a v : State) (starts : List State) (ts : List (List Marked)) (es fs : List Marked) (us : List (List Marked)) → ComesUpTo r x s a starts ts es → p ≡ length es → ComesBefore y q x p → q < length (get_or (about ts es fs us) y []) → (get_or (get_or (about ts es fs us) y []) q no_event).lost ≡ true → IsAfterEvents log (plain (history starts ts es fs us)) i y q v → KeptBy k r y (get_or (get_or (about ts es fs us) y []) q no_event).event v
  kept_earlier r x y q p s a v starts ts es fs us up place (inl less) lt lost after = kept_before r x y q s a v starts ts es fs us up less lt lost after
  kept_earlier r x y q p s a v starts ts es fs us up place (inr (same, less)) lt lost after = subst (λ (t : ℕ). (get_or (get_or (about ts es fs us) t []) q no_event).lost ≡ true → IsAfterEvents log (plain (history starts ts es fs us)) i t q v → KeptBy k r t (get_or (get_or (about ts es fs us) t []) q no_event).event v) (sym same) (λ l af. kept_here r x q s a v starts ts es fs us up (omega arith) l af) lost after

-- the old history's tenth of a known row has the rows
pub row_back : ChannelIsEnough
row_back log line j are (old, agrees) is (v, (ja, jb, sum, (j1, j2, sum1, (a, (s, early, (m1, e1, w1)), to)), (j3, j4, sum2, (b, from, (u, (m2, e2, w2))))), kept) =
    let i = line.rule.channel in
    let small = is.channel in
    let x = line.at in
    let k = track_at log i in
    let given = events_at log.rows in
    let tracks = tracks_are log.specs no_spec are in
    let n = length log.specs in
    let r = asked_of line.rule in
    let e = row_of log line in
    let within = is.row.within in
    let covers = agrees.covers in
    let es0 = old.events in
    let (l1, _, a1, _, b1, _) = old_cut log are old agrees i small x (omega arith) in
    let (l2, l3, _, a2, _, b2) = old_cut log are old agrees i small (x + 1) (omega arith) in
    let (ts, all, spared) = made_over log are old agrees i small r 0 m1 (take x es0) j1 s a (omega arith) a1 b1 w1 in
    let (us, more, _) = made_over log are old agrees i small nothing_asked (x + 1) m2 (drop (x + 1) es0) j4 b u (omega arith) a2 b2 w2 in
    let before = take line.before (given x) in
    let after = drop (line.before + 1) (given x) in
    let tail : drop line.before (given x) ≡ e ∷ after = drop_more (given x) line.before (record { code = 0; param = 0 }) is.row.row in
    let whole : before ++ e ∷ after ≡ given x = ap (λ zs. before ++ zs) (sym tail) ∙ take-append-drop line.before (given x) in
    let from2 : LostWalk k.rules nothing_asked (x + 1) (letters_in x (letters k (e ∷ after))) (x + 1) j3 v b = subst (λ (zs : List Event). LostWalk k.rules nothing_asked (x + 1) (letters_in x (letters k zs)) (x + 1) j3 v b) tail from in
    let (es, fs, (tells, count, events, steps, steps2, kept_there, alike, front)) = about_made log are old agrees i small r x is.letter e before after j2 j3 (j2 + j3) a v b refl is.is_letter to from2 in
    let m : Marked = record { event = e; lost = false } in
    let here : get_or es0 x [] ≡ given x = agree_at [] log.known given 0 x x es0 (omega arith) (omega arith) is.row.is_known agrees.agrees.agree in
    let known_is = is.row.is_known in
    let bad : log.known x ≡ false → ⊥ = λ not. (let no : true ≡ false = sym known_is ∙ not in cc) in
    let tenth = tenth_more n (track_at log) tracks i small log.known given x (get_or es0 x []) (drop (x + 1) es0) (j2 + j3) j4 (j2 + j3 + j4) a b u (es ++ m ∷ fs) us refl (λ _. tells ∙ whole) (λ not. absurd (bad not)) (λ not. absurd (bad not)) events count steps2 (λ c lt other. alike c lt other ∙ ap (λ zs. letters (track_at log c) zs) (whole ∙ sym here)) more in
    let joined = tenths_join n (track_at log) tracks i small log.known given 0 x (take x es0) (get_or es0 x [] ∷ drop (x + 1) es0) j1 (j2 + j3 + j4) j s a u ts ((es ++ m ∷ fs) ∷ us) (omega arith) (omega arith) all tenth in
    let is_old : take x es0 ++ get_or es0 x [] ∷ drop (x + 1) es0 ≡ es0 = ap (λ zs. take x es0 ++ zs) (sym (drop_more es0 x [] (omega arith))) ∙ take-append-drop x es0 in
    let (starts, own, loses) = history_made log are old agrees i small j s u (ts ++ (es ++ m ∷ fs) ∷ us) early (subst (λ (zs : List (List Event)). AreTenths n (track_at log) tracks i small log.known given 0 zs j s u (ts ++ (es ++ m ∷ fs) ∷ us)) is_old joined) in
    let size : length ts ≡ x = all.0 ∙ l1 in
    let up : ComesUpTo log are old agrees i small r x s a starts ts es = (size, own, all.6, spared, kept_there) in
    let at : get_or (ts ++ (es ++ m ∷ fs) ∷ us) x [] ≡ es ++ m ∷ fs = get_or_at ts (es ++ m ∷ fs) us [] x size in
    let p = length es in
    let long : length (es ++ m ∷ fs) ≡ length es + suc (length fs) = length-append es (m ∷ fs) in
    let event : get_or (get_or (ts ++ (es ++ m ∷ fs) ∷ us) x []) p no_event ≡ m = ap (λ zs. get_or zs p no_event) at ∙ get_or_at es m fs no_event p refl in
    let all_of : take p (events_of es) ≡ events_of es = take_all p (events_of es) (let q = length-events_of es in omega arith) in
    let comes = comes_to log are old agrees i small r x p s a v starts ts es (m ∷ fs) us up (omega arith) (subst (λ (zs : List Event). Steps k.rules (pos x) a (letters k zs) v) (sym all_of) steps) in
    let h : MarkedHistory = record { starts = starts; tenths = ts ++ (es ++ m ∷ fs) ∷ us } in (
      h,
      loses,
      (
        p,
        subst (λ (zs : List Marked). p < length zs) (sym at) (omega arith),
        ap (λ (z : Marked). z.lost) event,
        ap (λ zs. length (told (take p zs))) at ∙ (ap (λ zs. length (told zs)) (take_at es (m ∷ fs) p refl) ∙ (ap length front ∙ length-take-le line.before (given x) (let q = is.row.row in omega arith))),
        (λ z after_z. subst (λ (y : State). KeptAt log line.rule x (get_or (tenth_of h x) p no_event).event y) (after_once log (plain h) i x p v z comes after_z) (subst (λ (y : Marked). KeptAt log line.rule x y.event v) (sym event) kept)),
        λ y q order lt lost z after_z. kept_earlier log are old agrees i small r x y q p s a z starts ts es (m ∷ fs) us up refl order lt lost after_z,
      ),
    )

-- ---- clauses

-- a term of the clause whose channel may be in one of its colours
find_term : (n : ℕ) (A : ℕ → State → Type 0) (terms : List Term) → AreWithin n terms → HoldOne A terms → (i : ℕ) × (i < n) × ((z : State) × A i z × ((v : ℕ → State) → v i ≡ z → Keeps terms v))
find_term n A [] within none = absurd none
find_term n A (c ∷ cs) (small, within) (inl (z, may, has)) = (c.spec, small, (z, may, λ v same. inl (subst (λ (y : State). Has c.colours y.colour) (sym same) has)))
find_term n A (c ∷ cs) (small, within) (inr hold) = let (i, lt, (z, may, keeps)) = find_term n A cs within hold in (i, lt, (z, may, λ v same. inr (keeps v same)))

pub term_back : TermIsEnough
term_back log line j are (old, agrees) within lt hold =
    let (i, small, (z, may, keeps)) = find_term (length log.specs) (MayBeAtEndLosing log line.at j) line.terms within hold in
    let (h, loses, ends) = end_made log are old agrees i small line.at j z lt may in
    let (v, each) = ends_have log h line.at j lt loses in
    let k = track_at log i in
    let same : v i ≡ z = run_once k.rules (pos 0) (map (letters k) (take (line.at + 1) (plain h).events)) (start_of (plain h) i) (v i) z (each i small) ends in
    (h, loses, (v, each, keeps v same))
