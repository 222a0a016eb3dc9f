-- What is asked of a channel, and the strand that answers.
use Rattle.std.proofs.Common.{Option, ◌≡◌, refl, ap, sym, ◌∙◌, subst, ◌⊎◌, inl, inr, ◌↔◌, ℕ, zero, suc, ◌+◌, ◌*◌, ◌<◌, ℤ, Bool, true, List, [], ◌∷◌, ◌++◌, length, take, get_or, arith}
use Rattle.std.proofs.lemmas.Bool.{cases_eq}
use Rattle.std.proofs.lemmas.List.{take_more}
use Rattle.sig_base.specs.declared.values.Row.{Row}
use Rattle.channel_tables.specs.declared.spec.Spec.{Spec}
use Rattle.channel_tables.specs.Spec.{rules_of}
use Rattle.reach.specs.Runs.{State, state}
use Rattle.hour_store.specs.Store.{Store, is_known}
use Rattle.board.specs.Channels.{AreSpecs, track}
use Rattle.board.specs.History.{Track}
use Rattle.board.specs.Logs.{no_spec}
use Rattle.board.specs.Moves.{RowsIn}
use Rattle.board.proofs.Cases.{one_spec}
use Rattle.strand_search.specs.Fillings.{AreUnknown}
use Rattle.signal_log.specs.Log.{HasHistory, IsBeforeWindow, log_of}
use Rattle.signal_log.specs.States.{IsReached, MayBeAfter}
use Rattle.signal_log.proofs.Joined.{after_events, end_of_one, events_after, history_runs, one_end}
use Rattle.rule_audit.specs.declared.lines.AuditLine.{AuditLine}
use Rattle.rule_audit.specs.declared.lines.Place.{Place}
use Rattle.rule_audit.specs.declared.lines.Place.TheVariants.{BeforeRow, EndOfTenth}
use Rattle.strand_search.specs.declared.search.Asked.{Asked}
use Rattle.strand_search.specs.declared.search.Found.{Found}
use Rattle.strand_search.specs.Events.{AreLetters}
use Rattle.strand_search.specs.Points.{log_alone}
use Rattle.strand_search.specs.Runs.{Leads as AloneLeads}
use Rattle.strand_search.specs.Runs.{ComesTo, IsAsked, IsFound, IsPlaceAt, MayComeTo, NoneComes, rows_around}
use Rattle.filling_pair.specs.declared.asks.Ask.{Ask}
use Rattle.filling_pair.specs.declared.strands.Fill.{Fill}
use Rattle.filling_pair.specs.declared.strands.Strand.{Strand}
use Rattle.filling_pair.specs.Asks.{AscendTo, FitAsks, FitsAsk, HasAsk, IsAmong, MayStand, NoneStands, Replies, ReplyEach, ReplyUpTo, row_of_place}
use Rattle.filling_pair.specs.Kept.{IsPlaceOf, IsPlaced, StandsAt, line_rows}
use Rattle.signal_log.specs.Rows.{rows_before}
use Rattle.filling_pair.specs.Strands.{AreFills, Ascend, HasStrand, row_of, rows_of, start_of}

-- ---- rows as fills
rows_push : (fs : List Fill) (f : Fill) → rows_of (fs ++ f ∷ []) ≡ rows_of fs ++ row_of f ∷ []
rows_push [] f = refl
rows_push (x ∷ fs) f = ap (λ (rs : List Row). row_of x ∷ rs) (rows_push fs f)

pub fills_more : (rows : List Row) (i : ℕ) (d : Row) (old new : List Fill) (f : Fill) → i < length rows → row_of f ≡ get_or rows i d → new ≡ old ++ f ∷ [] → rows_of old ≡ take i rows → rows_of new ≡ take (i + 1) rows
fills_more rows i d old new f lt is e so_far = rw e (rows_push old f ∙ (ap (λ (rs : List Row). rs ++ row_of f ∷ []) so_far ∙ (ap (λ (r : Row). take i rows ++ r ∷ []) is ∙ sym (take_more rows i d lt))))

-- ---- lists of asks
pub ask_at : (asks : List Ask) (i : ℕ) (d : Ask) → i < length asks → IsAmong (get_or asks i d) asks
ask_at [] i d lt = absurd (omega arith)
ask_at (x ∷ xs) zero d lt = inl refl
ask_at (x ∷ xs) (suc i) d lt = inr (ask_at xs i d (omega arith))

pub none_before : (spec : ℕ) (asks : List Ask) → ((i : ℕ) (d : Ask) → i < length asks → (get_or asks i d).spec ≡ spec → ⊥) → HasAsk spec asks → ⊥
none_before spec [] none has = has
none_before spec (x ∷ xs) none has = elim has [ inl e ↦ none 0 x (omega arith) e | inr rest ↦ none_before spec xs (λ i d lt. none (suc i) d (omega arith)) rest ]

pub ask_fits : (specs : List Spec) (asks : List Ask) (a : Ask) → FitAsks specs asks → IsAmong a asks → FitsAsk specs a
ask_fits specs [] a fit among = absurd among
ask_fits specs (x ∷ xs) a (fits, fit) among = elim among [ inl e ↦ rw e fits | inr rest ↦ ask_fits specs xs a fit rest ]

has_ask : (asks : List Ask) (a : Ask) → IsAmong a asks → HasAsk a.spec asks
has_ask [] a among = among
has_ask (x ∷ xs) a among = elim among [ inl e ↦ inl (rw e refl) | inr rest ↦ inr (has_ask xs a rest) ]

-- ---- one channel of a history
pub one_alone : (specs : List Spec) (i : ℕ) → AreSpecs specs → i < length specs → AreSpecs (get_or specs i no_spec ∷ [])
one_alone specs i are lt = one_spec (get_or specs i no_spec) (are.fit i no_spec lt) (are.numbered i no_spec lt)

alone_history : (specs : List Spec) (s : Store) (i : ℕ) → AreSpecs specs → i < length specs → HasHistory (log_of specs s) → HasHistory (log_alone (get_or specs i no_spec) s)
alone_history specs s i are lt has = (history_runs (log_alone (get_or specs i no_spec) s) (one_alone specs i are lt)).1 (λ k small. first k small)
  where
    first : (k : ℕ) → k < 1 → (u : State) × IsReached (log_alone (get_or specs i no_spec) s) k (36000 * length s.hours) u
    first zero small = (history_runs (log_of specs s) are).0 has i lt
    first (suc k) small = absurd (omega arith)

-- what may come up of the channel may come up of it alone
may_come : (specs : List Spec) (s : Store) (i x : ℕ) (rows : List Row) (place : Place) (v : State) → AreSpecs specs → i < length specs → x < 36000 * length s.hours → is_known s x ≡ true → rows ≡ rows_around s x → MayStand (log_of specs s) rows i x place v → MayComeTo (get_or specs i no_spec) s x (row_of_place place) v
may_come specs s i x rows (BeforeRow n) v are lt within known same may =
    let d = get_or specs i no_spec in
    let has = alone_history specs s i are lt (may.0, may.1) in
    let may2 = subst (λ (rs : List Row). MayBeAfter (log_of specs s) i x (rows_before rs n) v) same may in
    let (r, c) = after_events (log_of specs s) i x (rows_before (rows_around s x) n) v lt within known may2 in
    events_after (log_alone d s) 0 x (rows_before (rows_around s x) n) v (one_alone specs i are lt) has (omega arith) within known r c
may_come specs s i x rows EndOfTenth v are lt within known same may =
    let d = get_or specs i no_spec in
    let has = alone_history specs s i are lt (may.0, may.1) in
    let (r, c) = one_end (log_of specs s) i x v lt within may in
    end_of_one (log_alone d s) 0 x v (one_alone specs i are lt) has (omega arith) within r c

-- ---- one ask
place_at : (rows : List Row) (x : ℕ) (place : Place) → IsPlaceOf rows x place → IsPlaceAt rows x (row_of_place place)
place_at rows x (BeforeRow n) p = p
place_at rows x EndOfTenth p = tt

module _ (specs : List Spec) (s : Store) (line : AuditLine) (ask : Ask) (before : Option ℕ) (same : before ≡ row_of_place line.place) (placed : IsPlaced s line) (fits : FitsAsk specs ask) where
  abbrev asked_from : Option ℕ → Asked
  asked_from b = record { at = line.at; before = b; colours = ask.colours; bound = ask.bound; met = ask.met }

  pub is_asked : IsAsked s (asked_from before)
  is_asked = rw same (record { within = placed.within; is_known = placed.is_known; place = place_at (line_rows s line) line.at line.place placed.place; bound = fits.1 })

  pub none_stands : AreSpecs specs → NoneComes (get_or specs ask.spec no_spec) s (asked_from before) → NoneStands specs s line ask
  none_stands are none v may answers = (subst (λ (b : Option ℕ). NoneComes (get_or specs ask.spec no_spec) s (asked_from b)) same none) v (may_come specs s ask.spec line.at (line_rows s line) line.place v are fits.0 placed.within placed.is_known refl may) answers

  are_fills : (k : Track) (known : ℕ → Bool) (low end : ℕ) (fs : List Fill) → RowsIn low end (rows_of fs) → AreUnknown known (rows_of fs) → AreLetters k (rows_of fs) → AreFills k known low end fs
  are_fills k known low end [] h u l = tt
  are_fills k known low end (f ∷ fs) (a, b, h) (n, u) (m, l) = (a, b, n, m, are_fills k known f.at end fs h u l)

  comes_stands : (place : Place) (z : Strand) (v : State) → z.spec ≡ ask.spec → ComesTo (get_or specs ask.spec no_spec) s (rows_of z.fills) line.at (row_of_place place) (start_of z) v → StandsAt (log_of specs s) (line_rows s line) line.at place z v
  comes_stands (BeforeRow n) z v e (b, first, last) = rw e (b, first, last)
  comes_stands EndOfTenth z v e run = rw e run

  pub found_replies : (found : Found) (z : Strand) → IsFound (get_or specs ask.spec no_spec) s (asked_from before) found → z.spec ≡ ask.spec → z.colour ≡ found.colour → z.entry ≡ found.entry → rows_of z.fills ≡ found.fills.items → Replies specs s line ask z
  found_replies found z is spec colour entry fills =
      let d = get_or specs ask.spec no_spec in
      let here = subst (λ (b : Option ℕ). IsFound d s (asked_from b) found) same is in
      let start : state z.colour z.entry ≡ state found.colour found.entry = ap (λ (c : ℕ). state c z.entry) colour ∙ ap (λ (e : ℤ). state found.colour e) entry in
      let (u, run) = here.legal in
      let (v, comes, answers) = here.answer in
      let run2 = subst (λ (rs : List Row). AloneLeads d s rs 0 (36000 * length s.hours) (state z.colour z.entry) u) (sym fills) (subst (λ (y : State). AloneLeads d s found.fills.items 0 (36000 * length s.hours) y u) (sym start) run) in
      let comes2 = subst (λ (rs : List Row). ComesTo d s rs line.at (row_of_place line.place) (state z.colour z.entry) v) (sym fills) (subst (λ (y : State). ComesTo d s found.fills.items line.at (row_of_place line.place) y v) (sym start) comes) in
      let own = are_fills (track d) (is_known s) 0 (36000 * length s.hours) z.fills (rw fills here.order) (rw fills here.unknown) (rw fills here.letters) in
      record {
        spec = spec;
        strand = record {
          spec = rw spec fits.0;
          start = rw spec (subst (λ (y : State). IsBeforeWindow (rules_of d) y) (sym start) here.start);
          fills = rw spec own;
          legal = (u, rw spec run2);
        };
        answer = (v, comes_stands line.place z v spec comes2, answers);
        few = rw fills here.few;
      }

-- ---- lists of strands
ascend_push : (low n : ℕ) (ss : List Strand) (z : Strand) → z.spec ≡ n → AscendTo low n ss → AscendTo low (n + 1) (ss ++ z ∷ [])
ascend_push low n [] z e h = (omega arith, omega arith, omega arith)
ascend_push low n (y ∷ ys) z e (a, b, h) = (a, omega arith, ascend_push (y.spec + 1) n ys z e h)

ascend_on : (low n : ℕ) (ss : List Strand) → AscendTo low n ss → AscendTo low (n + 1) ss
ascend_on low n [] h = omega arith
ascend_on low n (y ∷ ys) (a, b, h) = (a, omega arith, ascend_on (y.spec + 1) n ys h)

pub ascends : (low n : ℕ) (ss : List Strand) → AscendTo low n ss → Ascend low ss
ascends low n [] h = tt
ascends low n (y ∷ ys) (a, b, h) = (a, ascends (y.spec + 1) n ys h)

has_push : (i : ℕ) (ss : List Strand) (z : Strand) → HasStrand i (ss ++ z ∷ []) ↔ (HasStrand i ss ⊎ (z.spec ≡ i))
has_push i [] z = ((λ h. elim h [ inl e ↦ inr e | inr none ↦ absurd none ]), λ h. elim h [ inl none ↦ absurd none | inr e ↦ inl e ])
has_push i (y ∷ ys) z =
    let rest = has_push i ys z in (
      (λ h. elim h [ inl e ↦ inl (inl e) | inr more ↦ elim (rest.0 more) [ inl old ↦ inl (inr old) | inr new ↦ inr new ] ]),
      λ h. elim h [ inl old ↦ elim old [ inl e ↦ inl e | inr more ↦ inr (rest.1 (inl more)) ] | inr new ↦ inr (rest.1 (inr new)) ],
    )

module _ (specs : List Spec) (s : Store) (line : AuditLine) (asks : List Ask) where
  each_push : (ss : List Strand) (z : Strand) (a : Ask) → IsAmong a asks → Replies specs s line a z → ReplyEach specs s line asks ss → ReplyEach specs s line asks (ss ++ z ∷ [])
  each_push [] z a among r h = ((a, among, r), tt)
  each_push (y ∷ ys) z a among r (first, h) = (first, each_push ys z a among r h)

  pub none_yet : ReplyUpTo specs s line asks 0 []
  none_yet = record { ascend = omega arith; channels = λ i. ((λ none. absurd none), (λ (has, lt). absurd (omega arith))); each = tt }

  pub next_reply : (n : ℕ) (old new : List Strand) (z : Strand) (a : Ask) → new ≡ old ++ z ∷ [] → a.spec ≡ n → IsAmong a asks → Replies specs s line a z → ReplyUpTo specs s line asks n old → ReplyUpTo specs s line asks (n + 1) new
  next_reply n old new z a e spec among r so_far =
      let at : z.spec ≡ n = r.spec ∙ spec in
      let here : HasAsk n asks = subst (λ (i : ℕ). HasAsk i asks) spec (has_ask asks a among) in
      rw e (record {
        ascend = ascend_push 0 n old z at so_far.ascend;
        channels = λ i. (
          (λ has. elim ((has_push i old z).0 has) [
            | inl more ↦ let (asked, lt) = (so_far.channels i).0 more in (asked, omega arith)
            | inr is ↦ let same : n ≡ i = sym at ∙ is in (subst (λ (k : ℕ). HasAsk k asks) same here, omega arith)
          ]),
          λ (asked, lt). (has_push i old z).1 (elim (cases_eq i n) [
            | inl same ↦ inr (at ∙ sym same)
            | inr other ↦ inl ((so_far.channels i).1 (asked, omega arith))
          ]),
        );
        each = each_push old z a among r so_far.each;
      })

  pub no_reply : (n : ℕ) (ss : List Strand) → (HasAsk n asks → ⊥) → ReplyUpTo specs s line asks n ss → ReplyUpTo specs s line asks (n + 1) ss
  no_reply n ss none so_far = record {
    ascend = ascend_on 0 n ss so_far.ascend;
    channels = λ i. (
      (λ has. let (asked, lt) = (so_far.channels i).0 has in (asked, omega arith)),
      λ (asked, lt). elim (cases_eq i n) [
        | inl same ↦ absurd (none (subst (λ (k : ℕ). HasAsk k asks) same asked))
        | inr other ↦ (so_far.channels i).1 (asked, omega arith)
      ],
    );
    each = so_far.each;
  }
