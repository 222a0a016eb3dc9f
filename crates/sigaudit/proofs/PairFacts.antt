-- How what a rule leaves undecided is written.
use Rattle.std.proofs.Common.{◌≡◌, ◌<◌, ◌≤◌, ◌*◌, ℕ, List, [], ◌∷◌, length, Bool, true, false, Option, Some, None, Result, Ok, Err, IfOk, refl, ap, sym, subst, inl, inr, arith}
use Rattle.std.specs.List.{All}
use Rattle.std.proofs.lemmas.List.Elements.{All-cons, All-nil}
use Rattle.outside.specs.Sink.{Stops, Taken}
use Rattle.outside.specs.Shelf.{Counts, Files}
use Rattle.outside.proofs.PutsFacts.{appends-nothing}
use Rattle.hour_store.specs.Store.{Store}
use Rattle.sig_base.specs.Window.{Span}
use Rattle.row_reader.specs.Stamp.{stamp_in}
use Rattle.ring_config.specs.Settings.{Settings}
use Rattle.board.specs.History.{Track}
use Rattle.signal_log.specs.Log.{HasHistory, Log, log_of, track_at, window_end}
use Rattle.rule_audit.specs.declared.lines.AuditLine.{AuditLine}
use Rattle.filling_pair.specs.declared.strands.Fill.{Fill}
use Rattle.filling_pair.specs.declared.strands.Strand.{Strand}
use Rattle.filling_pair.specs.declared.strands.Pair.{Pair}
use Rattle.filling_pair.specs.Strands.{AreAllStrands, AreFills}
use Rattle.session.specs.Pairs.{ArePairsAt, ArePairsOf}
use Rattle.session.specs.Sessions.{Drafted}
use Rattle.script_lines.specs.Lines.{lines_of}
use Rattle.report_text.specs.Pairs.{AreFillsIn, AreStrandsIn, IsPairIn, found_text, nothing_text}
use Rattle.sigaudit.specs.Aims.{for_rule}
use Rattle.sigaudit.specs.Pairs.{AreFound, place_of}
use Rattle.sigaudit.specs.Run.{CountsGrow, IsCarriedOut, NeverFall, PutsOne, RunsAs, ScriptCause, world}
use Rattle.sigaudit.specs.Status.{status_of_run}
use Rattle.sigaudit.specs.Transcript.{IsAimOutcome, ended_by, outcome}
use Rattle.sigaudit.specs.declared.status.Ended.{Ended}
use Rattle.sigaudit.specs.declared.status.Stopped.{Stopped}
use Rattle.sigaudit.specs.declared.status.Stopped.TheVariants as stopped

-- ---- the fills of pairs are in the window

fills_in : (w : Span) (k : Track) (known : ℕ → Bool) (low end : ℕ) (fs : List Fill) → end ≤ 36000 * w.hours → AreFills k known low end fs → AreFillsIn w fs
fills_in w k known low end [] le h = All-nil (λ (f : Fill). f.at < 36000 * w.hours)
fills_in w k known low end (f ∷ fs) le h =
    let lt = h.1 in
    All-cons (λ (x : Fill). x.at < 36000 * w.hours) f fs (omega arith) (fills_in w k known f.at end fs le h.4)

strands_in : (w : Span) (log : Log) (ss : List Strand) → window_end log ≤ 36000 * w.hours → AreAllStrands log ss → AreStrandsIn w ss
strands_in w log [] le h = All-nil (λ (s : Strand). AreFillsIn w s.fills)
strands_in w log (s ∷ ss) le h =
    All-cons (λ (x : Strand). AreFillsIn w x.fills) s ss (fills_in w (track_at log s.spec) log.known 0 (window_end log) s.fills le h.0.fills) (strands_in w log ss le h.1)

pairs_of_in : (c : Settings) (s : Store) (ls : List AuditLine) (ps : List Pair) → 36000 * length s.hours ≤ 36000 * c.window.hours → ArePairsOf c s ls ps → All (IsPairIn c.window) ps
pairs_of_in c s [] [] le h = All-nil (IsPairIn c.window)
pairs_of_in c s [] (p ∷ ps) le h = absurd h
pairs_of_in c s (l ∷ ls) [] le h = absurd h
pairs_of_in c s (l ∷ ls) (p ∷ ps) le h =
    All-cons (IsPairIn c.window) p ps
    (record {
      keeps = strands_in c.window (log_of c.specs s) p.keeps le h.0.keeps.strands.each;
      breaks = strands_in c.window (log_of c.specs s) p.breaks le h.0.breaks.strands.each;
    })
    (pairs_of_in c s ls ps le h.1)

pub pairs_in : (c : Settings) (s : Store) (rule at : ℕ) (ps : List Pair) → length s.hours ≡ c.window.hours → ArePairsAt c s rule at ps → All (IsPairIn c.window) ps
pairs_in c s rule at ps e h = pairs_of_in c s _ ps (rw e (omega arith)) h.2

-- ---- their texts

-- a rule and a tenth aren't there
pub nothing_stops : (c : Settings) (s : Store) (place : Option (ℕ × ℕ)) (w w' : Taken) → place ≡ None → Stops w w' nothing_text → PutsOne {T = Unit {0}} (AreFound c s place) w w' (Err stopped.Fault)
nothing_stops c s place w w' e h = (nothing_text, rw e refl, h)

pub is_none-of : {A : Type 0} (o : Option A) → ((x : A) → o ≡ Some x → ⊥) → o ≡ None
is_none-of None h = refl
is_none-of (Some x) h = absurd (h x refl)

-- they are there
pub found_there : {T : Type 0} (c : Settings) (s : Store) (place : Option (ℕ × ℕ)) (rule at : ℕ) (w w' : Taken) (r : Result T Stopped) → place ≡ Some (rule, at) → PutsOne (AreFound c s (Some (rule, at))) w w' r → PutsOne (AreFound c s place) w w' r
found_there c s place rule at w w' r e h = rw e h

pub found_stops : (c c' : Settings) (s : Store) (rule at : ℕ) (ps ps' : List Pair) (w w' : Taken) → c' ≡ c → ps' ≡ ps → HasHistory (log_of c.specs s) → ArePairsAt c s rule at ps → Stops w w' (found_text c' rule at ps')
    → PutsOne {T = Unit {0}} (AreFound c s (Some (rule, at))) w w' (Err stopped.Fault)
found_stops c c' s rule at ps ps' w w' ec ep history pairs h =
    (found_text c rule at ps, (ps, history, pairs, refl), rw (ec, ep) at h)

-- ---- the run of them

-- what is found, by other words for the configuration and the store
found_in : (c c' : Settings) (s s' : Store) (rule : ℕ) (at text : List ℕ) → c' ≡ c → s' ≡ s → AreFound c' s' (place_of c' rule (stamp_in c'.window at)) text → AreFound c s (place_of c rule (stamp_in c.window at)) text
found_in c c' s s' rule at text ec es h =
    subst (λ (k : Settings). AreFound k s (place_of k rule (stamp_in k.window at)) text) ec (subst (λ (x : Store). AreFound c' x (place_of c' rule (stamp_in c'.window at)) text) es h)

-- all was written
pub pairs_told : (files : Files) (c : Settings) (rule : ℕ) (at script : List ℕ) (session : Drafted) (refused : Bool) (k k' : Counts) (w w' : Taken) → k'.failed ≡ k.failed
    → IsCarriedOut files c (lines_of script) (Ok (session, refused))
    → PutsOne {T = Unit {0}} (AreFound session.config session.store (place_of session.config rule (stamp_in session.config.window at))) w w' (Ok tt)
    → RunsAs (IsAimOutcome files c (for_rule rule at) (Some script)) (world k w) (world k' w') (status_of_run (Ok (ended_by refused)))
pairs_told files c rule at script session true k k' w w' failed carried put =
    let found = found_in c session.config carried.0.store session.store rule at put.0 carried.2 carried.3 put.1 in
    (put.0, (carried.0, carried.1, (put.0, found, ap (λ (b : Bool). outcome put.0 (ended_by b)) carried.4)), (put.2.wrote, (failed, put.2.same)))
pairs_told files c rule at script session false k k' w w' failed carried put =
    let found = found_in c session.config carried.0.store session.store rule at put.0 carried.2 carried.3 put.1 in
    (put.0, (carried.0, carried.1, (put.0, found, ap (λ (b : Bool). outcome put.0 (ended_by b)) carried.4)), (put.2.wrote, (failed, put.2.same)))

-- it was cut off in it
pub pairs_cut : (files : Files) (c : Settings) (rule : ℕ) (at script : List ℕ) (session : Drafted) (refused : Bool) (k k' : Counts) (w w' : Taken) (s : Stopped)
    → IsCarriedOut files c (lines_of script) (Ok (session, refused))
    → PutsOne {T = Unit {0}} (AreFound session.config session.store (place_of session.config rule (stamp_in session.config.window at))) w w' (Err s)
    → RunsAs (IsAimOutcome files c (for_rule rule at) (Some script)) (world k w) (world k' w') (status_of_run (Err s))
pairs_cut files c rule at script session refused k k' w w' stopped.Fault carried put =
    let found = found_in c session.config carried.0.store session.store rule at put.0 carried.2 carried.3 put.1 in
    (inr put.2.rose, inr (0, outcome put.0 (ended_by carried.0.refused), (carried.0, carried.1, (put.0, found, refl)), put.2.front))
pairs_cut files c rule at script session refused k k' w w' stopped.Memory carried put = inl (rw put (appends-nothing w.written))

-- ---- why it ended so

pub told_cause : (Is : List ℕ → Type 0) (refused : Bool) (k k' : Counts) (w w' : Taken) → k'.failed ≡ k.failed → PutsOne {T = Unit {0}} Is w w' (Ok tt)
    → ScriptCause (world k w) (world k' w') (status_of_run (Ok (ended_by refused)))
told_cause Is true k k' w w' failed put = (failed, put.2.same)
told_cause Is false k k' w w' failed put = (failed, put.2.same)

-- how they are shown
pub pairs_shown : (files : Files) (c : Settings) (rule : ℕ) (at script : List ℕ) (session : Drafted) (refused : Bool) (k k' : Counts) (w w' : Taken) (r : Result Ended Stopped) → k'.failed ≡ k.failed
    → IsCarriedOut files c (lines_of script) (Ok (session, refused)) → IfOk r (λ e. e ≡ ended_by refused)
    → PutsOne (AreFound session.config session.store (place_of session.config rule (stamp_in session.config.window at))) w w' r
    → RunsAs (IsAimOutcome files c (for_rule rule at) (Some script)) (world k w) (world k' w') (status_of_run r)
pairs_shown files c rule at script session refused k k' w w' (Ok e) failed carried same put =
    subst (λ (x : Ended). RunsAs (IsAimOutcome files c (for_rule rule at) (Some script)) (world k w) (world k' w') (status_of_run (Ok x))) (sym same) (pairs_told files c rule at script session refused k k' w w' failed carried put)
pairs_shown files c rule at script session refused k k' w w' (Err s) failed carried same put = pairs_cut files c rule at script session refused k k' w w' s carried put

pub shown_cause : (Is : List ℕ → Type 0) (refused : Bool) (k k' : Counts) (w w' : Taken) (r : Result Ended Stopped) → k'.failed ≡ k.failed → IfOk r (λ e. e ≡ ended_by refused) → PutsOne Is w w' r
    → ScriptCause (world k w) (world k' w') (status_of_run r)
shown_cause Is refused k k' w w' (Ok e) failed same put = subst (λ (x : Ended). ScriptCause (world k w) (world k' w') (status_of_run (Ok x))) (sym same) (told_cause Is refused k k' w w' failed put)
shown_cause Is refused k k' w w' (Err stopped.Fault) failed same put = inr put.2.rose
shown_cause Is refused k k' w w' (Err stopped.Memory) failed same put = tt

-- no count falls
pub shown_never : (Is : List ℕ → Type 0) (k k' : Counts) (w w' : Taken) (r : Result Ended Stopped) → CountsGrow k k' → PutsOne Is w w' r → NeverFall (world k w) (world k' w')
shown_never Is k k' w w' (Ok e) grow put = record { missing = grow.missing; failed = grow.failed; long = grow.long; faults = let same = put.2.same in omega arith }
shown_never Is k k' w w' (Err stopped.Fault) grow put = record { missing = grow.missing; failed = grow.failed; long = grow.long; faults = put.2.grew }
shown_never Is k k' w w' (Err stopped.Memory) grow put =
    record { missing = grow.missing; failed = grow.failed; long = grow.long; faults = let same = ap (λ (t : Taken). t.faults) put in omega arith }

-- what cuts it off
pub cut_shown : (Is : List ℕ → Type 0) (w w' : Taken) (s : Stopped) → PutsOne {T = Unit {0}} Is w w' (Err s) → PutsOne {T = Ended} Is w w' (Err s)
cut_shown Is w w' stopped.Fault h = h
cut_shown Is w w' stopped.Memory h = h
