-- Where some history agrees with a store, each obligation has one verdict.
use Rattle.std.proofs.Common.{◌≡◌, ◌∙◌, ℕ, ◌+◌, ◌<◌, pos, ◌+ℤ◌, List, [], ◌∷◌, ◌++◌, length, get_or, map, take, drop, take-append-drop, refl, sym, ap, subst}
use Rattle.std.proofs.lemmas.List.{map-append, same_lists}
use Rattle.reach.specs.Runs.{Run, State, state}
use Rattle.sig_base.specs.declared.values.Row.{Row}
use Rattle.sig_base.specs.declared.values.Verdict.{Verdict}
use Rattle.sig_base.specs.declared.values.Verdict.TheVariants.{Idle, Kept, Broken, Undecided}
use Rattle.hour_store.specs.Store.{Store, is_known}
use Rattle.board.specs.Logs.{first_tenth}
use Rattle.other_measures.proofs.Stores.{numbers_are_one}
use Rattle.board.specs.History.{Event, History, letters, start_of}
use Rattle.board.specs.Verdicts.{IsVerdict, Keeps}
use Rattle.board.proofs.Bridge.{run_join}
use Rattle.board.proofs.Product.{choose}
use Rattle.ring_config.specs.Settings.{Settings}
use Rattle.signal_log.specs.Log.{AgreesWith, HasHistory, Log, log_of, track_at}
use Rattle.signal_log.specs.States.{IsAtEndOf, MayBeAtEnd}
use Rattle.rule_audit.specs.declared.rules.Rule.{Rule}
use Rattle.rule_audit.specs.declared.rules.Rule.TheVariants.{Interval, Conflict, Companion, Parents}
use Rattle.rule_audit.specs.declared.lines.Place.{Place}
use Rattle.rule_audit.specs.declared.lines.Place.TheVariants.{BeforeRow, EndOfTenth}
use Rattle.rule_audit.specs.declared.lines.AuditLine.{AuditLine}
use Rattle.rule_audit.specs.Obligations.{Obligation}
use Rattle.rule_audit.specs.Judged.{IsIntervalVerdict, IsRuleVerdict}
use Rattle.rule_audit.specs.Lines.{AreLinesOf, lines_of}
use Rattle.rule_audit.specs.Rules.{rules_for}
use Rattle.hour_work.specs.Numbers.{Numbers}
use Rattle.hour_work.specs.Counts.{counts_of}
use Rattle.hour_work.specs.Verdicts.{AreAuditLines, HasStoreVerdict, obligations_in, states_in}
use Rattle.hour_work.specs.Rows.{earlier_rows, own_rows}
use Rattle.signal_log.specs.Rows.{hour_rows}
use Rattle.hour_work.specs.Measures.{MayBeIn, MeetsIn}
use Rattle.hour_work.specs.Reports.{IsHourPart, IsReport}
use Rattle.split_measures.proofs.Single.{sums_are_one}
use Rattle.arrival_measures.proofs.OneSum.{one_sums}

one_interval : (P C K : State → Type 0) → ((v : State) → (C v → ⊥) → K v) → (x y : Verdict) → IsIntervalVerdict x P C K → IsIntervalVerdict y P C K → x ≡ y
one_interval P C K free Idle Idle a b = refl
one_interval P C K free Idle Kept a ((v, p, c), _) = absurd (a v p c)
one_interval P C K free Idle Broken a ((v, p, c), _) = absurd (a v p c)
one_interval P C K free Idle Undecided a (_, (v, p, not_k)) = absurd (not_k (free v (a v p)))
one_interval P C K free Kept Idle ((v, p, c), _) b = absurd (b v p c)
one_interval P C K free Kept Kept a b = refl
one_interval P C K free Kept Broken ((v, p, c), all) (_, none) = absurd (none v p (all v p))
one_interval P C K free Kept Undecided (_, all) (_, (v, p, not_k)) = absurd (not_k (all v p))
one_interval P C K free Broken Idle ((v, p, c), _) b = absurd (b v p c)
one_interval P C K free Broken Kept (_, none) ((v, p, c), all) = absurd (none v p (all v p))
one_interval P C K free Broken Broken a b = refl
one_interval P C K free Broken Undecided (_, none) ((v, p, k), _) = absurd (none v p k)
one_interval P C K free Undecided Idle (_, (v, p, not_k)) b = absurd (not_k (free v (b v p)))
one_interval P C K free Undecided Kept (_, (v, p, not_k)) (_, all) = absurd (not_k (all v p))
one_interval P C K free Undecided Broken ((v, p, k), _) (_, none) = absurd (none v p k)
one_interval P C K free Undecided Undecided a b = refl

one_clause : (P K : (ℕ → State) → Type 0) → (w : ℕ → State) → P w → (x y : Verdict) → IsVerdict x P K → IsVerdict y P K → x ≡ y
one_clause P K w h Idle y a b = absurd a
one_clause P K w h Kept Idle a b = absurd b
one_clause P K w h Kept Kept a b = refl
one_clause P K w h Kept Broken a b = absurd (b w h (a w h))
one_clause P K w h Kept Undecided a (_, (v, p, not_k)) = absurd (not_k (a v p))
one_clause P K w h Broken Idle a b = absurd b
one_clause P K w h Broken Kept a b = absurd (a w h (b w h))
one_clause P K w h Broken Broken a b = refl
one_clause P K w h Broken Undecided a ((v, p, k), _) = absurd (a v p k)
one_clause P K w h Undecided Idle a b = absurd b
one_clause P K w h Undecided Kept (_, (v, p, not_k)) b = absurd (not_k (b v p))
one_clause P K w h Undecided Broken ((v, p, k), _) b = absurd (b v p k)
one_clause P K w h Undecided Undecided a b = refl

-- the channels of a history are in some states at the end of a tenth
pub end_state : (log : Log) (h : History) (x i : ℕ) → AgreesWith log h → i < length log.specs → (v : State) × IsAtEndOf log h i x v
end_state log h x i a lt =
    let k = track_at log i in
    let es = h.events in
    let first = map (letters k) (take (x + 1) es) in
    let rest = map (letters k) (drop (x + 1) es) in
    let (u, run) = a.agrees.legal i lt in
    let cut : map (letters k) es ≡ first ++ rest = ap (λ (ws : List (List Event)). map (letters k) ws) (sym (take-append-drop (x + 1) es)) ∙ map-append (letters k) (take (x + 1) es) (drop (x + 1) es) in
    let (v, r, _) = (run_join k.rules (pos 0) (pos 0 +ℤ pos (length first)) first rest (start_of h i) u refl).0 (subst (λ (ls : List (List ℕ)). Run k.rules (pos 0) (start_of h i) ls u) cut run) in
    (v, r)

ends_somewhere : (log : Log) (x : ℕ) → HasHistory log → (w : ℕ → State) × MayBeAtEnd log x w
ends_somewhere log x (h, a) =
    let (ws, _, all) = choose (state 0 (pos 0)) (length log.specs) (λ (i : ℕ) (v : State). IsAtEndOf log h i x v) (λ i lt. end_state log h x i a lt) in
    ((λ i. get_or ws i (state 0 (pos 0))), (h, a, all))

one_verdict : (c : Settings) (s : Store) (rows : List Row) (t : ℕ) (place : Place) (rule : Rule) (x y : Verdict) → HasHistory (log_of c.specs s) → IsRuleVerdict (states_in c s rows) c.specs rows t place rule x → IsRuleVerdict (states_in c s rows) c.specs rows t place rule y → x ≡ y
one_verdict c s rows t (BeforeRow n) (Interval item) x y has a b = one_interval _ _ _ (λ v not_c closes. absurd (not_c closes)) x y a b
one_verdict c s rows t (BeforeRow n) (Conflict p q terms) x y has a b = absurd a
one_verdict c s rows t (BeforeRow n) (Companion p terms) x y has a b = absurd a
one_verdict c s rows t (BeforeRow n) (Parents o terms) x y has a b = absurd a
one_verdict c s rows t EndOfTenth (Interval item) x y has a b = absurd a
one_verdict c s rows t EndOfTenth (Conflict p q terms) x y has a b = let (w, h) = ends_somewhere (log_of c.specs s) t has in one_clause (MayBeAtEnd (log_of c.specs s) t) (Keeps terms) w h x y a b
one_verdict c s rows t EndOfTenth (Companion p terms) x y has a b = let (w, h) = ends_somewhere (log_of c.specs s) t has in one_clause (MayBeAtEnd (log_of c.specs s) t) (Keeps terms) w h x y a b
one_verdict c s rows t EndOfTenth (Parents o terms) x y has a b = let (w, h) = ends_somewhere (log_of c.specs s) t has in one_clause (MayBeAtEnd (log_of c.specs s) t) (Keeps terms) w h x y a b

same_lines : (Has : Obligation → Verdict → Type 0) (os : List Obligation) (a b : List AuditLine) → ((o : Obligation) (x y : Verdict) → Has o x → Has o y → x ≡ y) → AreLinesOf Has os a → AreLinesOf Has os b → a ≡ b
same_lines Has [] a b one p q = p ∙ sym q
same_lines Has (o ∷ os) a b one (x, hx, (ra, are_a, ea)) (y, hy, (rb, are_b, eb)) =
    let e = one o x y hx hy in
    let rest = same_lines Has os ra rb one are_a are_b in
    ea ∙ (ap (λ z. lines_of o z ++ ra) e ∙ (ap (λ zs. lines_of o y ++ zs) rest ∙ sym eb))

pub one_lines : (c : Settings) (s : Store) (hour : ℕ) (a b : List AuditLine) → HasHistory (log_of c.specs s) → AreAuditLines c s hour a → AreAuditLines c s hour b → a ≡ b
one_lines c s hour a b has = same_lines (HasStoreVerdict c s hour) (obligations_in c s hour) a b (λ o x y. one_verdict c s (hour_rows s hour) o.at o.place o.rule x y has)

one_numbers : (p q : Numbers) → p.held_hours ≡ q.held_hours → p.held_rows ≡ q.held_rows → p.known_tenths ≡ q.known_tenths → p.rules ≡ q.rules → p.splits ≡ q.splits → p.failures ≡ q.failures → p.others ≡ q.others → p.arrivals ≡ q.arrivals → p ≡ q
one_numbers p q a b e r m f o v =
    let one : Numbers = record { held_hours = p.held_hours; held_rows = p.held_rows; known_tenths = p.known_tenths; rules = p.rules; splits = p.splits; failures = p.failures; others = p.others; arrivals = p.arrivals } in
    let other : Numbers = record { held_hours = q.held_hours; held_rows = q.held_rows; known_tenths = q.known_tenths; rules = q.rules; splits = q.splits; failures = q.failures; others = q.others; arrivals = q.arrivals } in
    let same : one ≡ other = rw (a, b, e, r, m, f, o, v) refl in
    same

one_part : (c : Settings) (s : Store) (hour : ℕ) (p q : Numbers) → HasHistory (log_of c.specs s) → IsHourPart c s hour p → IsHourPart c s hour q → p ≡ q
one_part c s hour p q has a b = one_numbers p q (a.held_hours ∙ sym b.held_hours) (a.held_rows ∙ sym b.held_rows) (a.known_tenths ∙ sym b.known_tenths)
    (a.rules ∙ (ap (λ ls. counts_of (length (rules_for c)) ls) (one_lines c s hour a.lines b.lines has a.are_lines b.are_lines) ∙ sym b.rules))
    (a.measures.phases ∙ sym b.measures.phases)
    (sums_are_one (log_of c.specs s) c hour (earlier_rows s hour ++ own_rows s hour) p.failures q.failures has a.measures.verdicts b.measures.verdicts)
    (numbers_are_one (is_known s) (MeetsIn c s) (first_tenth hour) c (earlier_rows s hour) (own_rows s hour) p.others q.others a.measures.numbers a.measures.states b.measures.numbers b.measures.states)
    (one_sums (MayBeIn c s) (is_known s) c (earlier_rows s hour) (own_rows s hour) hour (earlier_rows s hour) (own_rows s hour) p.arrivals q.arrivals a.measures.judged b.measures.judged a.measures.whole_cycles b.measures.whole_cycles)

pub one_report : (c : Settings) (s : Store) (a b : List Numbers) → HasHistory (log_of c.specs s) → IsReport c s a → IsReport c s b → a ≡ b
one_report c s a b has p q = same_lists a b (p.size ∙ sym q.size) (λ hour d lt.
    let within : hour < length s.hours = subst (λ (n : ℕ). hour < n) p.size lt in
    one_part c s hour (get_or a hour d) (get_or b hour d) has (p.each hour d within) (q.each hour d within))
