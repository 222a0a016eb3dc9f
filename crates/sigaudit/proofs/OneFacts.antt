-- A script has one transcript, which begins with what is written for its first lines.
use Rattle.std.proofs.Common.{◌≡◌, ◌++◌, ◌+◌, ◌∙◌, ℕ, zero, suc, List, [], ◌∷◌, length, take, Bool, true, false, Option, Some, None, Result, Ok, Err, refl, sym, ap, ap₂, inl, inr, append_assoc, append-nil, nat_lt}
use Rattle.outside.specs.Shelf.{Files}
use Rattle.sig_base.specs.HourRows.{Shown}
use Rattle.sig_base.specs.declared.values.Row.{Row}
use Rattle.sig_base.specs.declared.values.Applied.{Applied}
use Rattle.sig_base.specs.declared.values.EditError.{EditError}
use Rattle.sig_base.specs.declared.values.EditError.TheVariants.{Contradiction}
use Rattle.sigaudit.specs.declared.hour_file.Unread.{Unread}
use Rattle.sigaudit.specs.HourFile.{hour_said}
use Rattle.hour_store.specs.Store.{Store, known_rows, nothing_held}
use Rattle.ring_config.specs.Reading.{Read}
use Rattle.ring_config.specs.Settings.{Settings, config_of}
use Rattle.signal_log.specs.Log.{HasHistory, Log, log_of}
use Rattle.rule_audit.specs.declared.rules.Rule.{Rule}
use Rattle.decisive.specs.Laws.{WindowIsOne}
use Rattle.decisive.specs.Window.{obligation_of}
use Rattle.signal_log.specs.Rows.{hour_rows}
use Rattle.session.specs.Windows.{AreHourLines, AreWithWindows, HasWindow, with_window}
use Rattle.signal_log.specs.Laws.{ContradictionIsOne}
use Rattle.rule_audit.specs.declared.lines.AuditLine.{AuditLine}
use Rattle.rule_audit.specs.Rules.{rules_for}
use Rattle.hour_work.specs.Numbers.{Numbers}
use Rattle.hour_work.specs.Rows.{earlier_rows, own_rows}
use Rattle.hour_work.specs.Verdicts.{AreAuditLines}
use Rattle.measure_laws.specs.Plain.{PartsAreOne}
use Rattle.report_text.specs.declared.refusal.Refusal.{Refusal}
use Rattle.report_text.specs.declared.refusal.Refusal.TheVariants.{Edit}
use Rattle.report_text.specs.Measures.{hour_measures, window_measures}
use Rattle.session.specs.Edits.{Change, hour_change, step_of}
use Rattle.sigaudit.proofs.MovedFacts.{moved_once}
use Rattle.session.specs.Edits as change
use Rattle.command_line.specs.Words.{Asked, for_run, for_pairs, for_count, for_pack, for_demo}
use Rattle.demonstration.specs.Files.{config_name, demo_files, script_name}
use Rattle.script_lines.specs.Words.{Said, said}
use Rattle.script_lines.specs.Words as line
use Rattle.script_lines.specs.Lines.{lines_of}
use Rattle.sigaudit.specs.Aims.{for_lines}
use Rattle.sigaudit.specs.Asked.{asked_of}
use Rattle.sigaudit.specs.Turns.{Turn, refuses, writes}
use Rattle.report_text.specs.Audit.{audit_start, lines_text}
use Rattle.report_text.specs.Heads.{verdicts_head}
use Rattle.sigaudit.specs.Audit.{AreFailing, AreVerdicts, IsAudited}
use Rattle.sigaudit.specs.Script.{accepts, IsEdited, IsMade, IsFetched, IsMeasured, IsMeasuredOf, IsRead, IsTold, IsTurn, Told, followed, hour_bytes, wanted_for}
use Rattle.sigaudit.specs.Transcript.{BeginsWithFirstLines, HaveOneTranscript, IsAnswer, IsConfigOutcome, IsFileOutcome, IsScriptOutcome, Outcome, asks_pairs, first_lines, limited, outcome, told_outcome}

-- where some history agrees an hour has one list of lines
abbrev pub LinesAreOne : Type 0
LinesAreOne = (c : Settings) (s : Store) (hour : ℕ) (a b : List AuditLine) → HasHistory (log_of c.specs s) → AreAuditLines c s hour a → AreAuditLines c s hour b → a ≡ b

-- what the crates below say is one
pub record Laws : Type 0 where
  pub row : ContradictionIsOne
  pub lines : LinesAreOne
  pub parts : PartsAreOne
  pub window : WindowIsOne

-- ---- a line has one turn

both : {t t' x : Turn} → t ≡ x → t' ≡ x → t ≡ t'
both e e' = e ∙ sym e'

one_made : Laws → (c : Settings) (n : ℕ) (loaded : Option (ℕ × ℕ)) (s : Store) (ch : Change) (to : Result Store EditError) (t t' : Turn) → IsMade c n loaded s ch to t → IsMade c n loaded s ch to t' → t ≡ t'
one_made laws c n loaded s ch (Err e) t t' h k = both h k
one_made laws c n loaded s ch (Ok new) t t' (inl h) (inl k) =
    let same = moved_once c s new ch h.1 k.1 h.2 k.2 in
    h.3 ∙ ap (λ (moved : Applied). accepts n loaded moved new) same ∙ sym k.3
one_made laws c n loaded s ch (Ok new) t t' (inl h) (inr k) = absurd (k.2 h.0)
one_made laws c n loaded s ch (Ok new) t t' (inr h) (inl k) = absurd (h.2 k.0)
one_made laws c n loaded s ch (Ok new) t t' (inr h) (inr k) =
    let same = laws.row (log_of c.specs new) h.0 k.0 h.1 k.1 in
    h.3 ∙ ap (λ (row : Row). refuses c n (Edit (Contradiction row)) s) same ∙ sym k.3

one_edit : Laws → (c : Settings) (n : ℕ) (loaded : Option (ℕ × ℕ)) (s : Store) (ch : Change) (t t' : Turn) → IsEdited c n loaded s ch t → IsEdited c n loaded s ch t' → t ≡ t'
one_edit laws c n loaded s ch t t' h k = one_made laws c n loaded s ch (step_of s ch) t t' h k

one_read : Laws → (c : Settings) (n : ℕ) (make : Shown → Change) (s : Store) (want : Result Shown Unread) (t t' : Turn) → IsRead c n make s want t → IsRead c n make s want t' → t ≡ t'
one_read laws c n make s (Ok shown) t t' h k = one_edit laws c n (Some (length shown.rows, shown.repeats)) s (make shown) t t' h k
one_read laws c n make s (Err e) t t' h k = both h k

one_fetched : Laws → (c : Settings) (n hour : ℕ) (make : Shown → Change) (s : Store) (want : Result (List ℕ) Refusal) (t t' : Turn) → IsFetched c n hour make s want t → IsFetched c n hour make s want t' → t ≡ t'
one_fetched laws c n hour make s (Ok bytes) t t' h k = one_read laws c n make s (hour_said (wanted_for c hour) bytes) t t' h k
one_fetched laws c n hour make s (Err refusal) t t' h k = both h k

one_measured : Laws → (c : Settings) (n : ℕ) (s : Store) (t t' : Turn) → IsMeasured c n s t → IsMeasured c n s t' → t ≡ t'
one_measured laws c n s t t' h k =
    let same = laws.parts c s 0 c.window.hours [] (known_rows s) h.0 k.0 h.1 h.2 k.2 in
    h.3 ∙ ap (λ (total : Numbers). writes (window_measures n c total) s) same ∙ sym k.3

one_measured_of : Laws → (c : Settings) (n hour : ℕ) (s : Store) (b : Bool) (t t' : Turn) → IsMeasuredOf c n hour s b t → IsMeasuredOf c n hour s b t' → t ≡ t'
one_measured_of laws c n hour s true t t' h k =
    let same = laws.parts c s hour (hour + 1) (earlier_rows s hour) (own_rows s hour) h.0 k.0 h.1 h.2 k.2 in
    h.3 ∙ ap (λ (numbers : Numbers). writes (hour_measures n hour c numbers) s) same ∙ sym k.3
one_measured_of laws c n hour s false t t' h k = both h k

-- a broken line has one window, every other has none
one_window : Laws → (log : Log) (rules : List Rule) (rows : List Row) (l : AuditLine) (x y : Option (ℕ × ℕ)) → HasWindow log rules rows l x → HasWindow log rules rows l y → x ≡ y
one_window laws log rules rows l None None h k = refl
one_window laws log rules rows l None (Some y) h k = absurd (cc (h, k.0))
one_window laws log rules rows l (Some x) None h k = absurd (cc (h.0, k))
one_window laws log rules rows l (Some x) (Some y) h k =
    let same = laws.window log rows (obligation_of rules l) x.0 x.1 y.0 y.1 h.1 k.1 in
    ap₂ (λ (u v : ℕ). Some (u, v)) same.0 same.1

one_windowed : Laws → (log : Log) (rules : List Rule) (rows : List Row) (plain a b : List AuditLine) → AreWithWindows log rules rows plain a → AreWithWindows log rules rows plain b → a ≡ b
one_windowed laws log rules rows [] [] [] h k = refl
one_windowed laws log rules rows [] [] (y ∷ ys) h k = absurd k
one_windowed laws log rules rows [] (x ∷ xs) b h k = absurd h
one_windowed laws log rules rows (p ∷ ps) [] b h k = absurd h
one_windowed laws log rules rows (p ∷ ps) (x ∷ xs) [] h k = absurd k
one_windowed laws log rules rows (p ∷ ps) (x ∷ xs) (y ∷ ys) h k =
    let ends = one_window laws log rules rows p h.0.0 k.0.0 h.0.1 k.0.1 in
    let first : x ≡ y = h.0.2 ∙ ap (λ (w : Option (ℕ × ℕ)). with_window p w) ends ∙ sym k.0.2 in
    ap₂ (λ (l : AuditLine) (ls : List AuditLine). l ∷ ls) first (one_windowed laws log rules rows ps xs ys h.1 k.1)

one_hour : Laws → (c : Settings) (s : Store) (hour : ℕ) → HasHistory (log_of c.specs s) → (a b : List AuditLine) → AreHourLines c s hour true a → AreHourLines c s hour true b → a ≡ b
one_hour laws c s hour some a b h k =
    let plain = laws.lines c s hour h.0 k.0 some h.1 k.1 in
    one_windowed laws (log_of c.specs s) (rules_for c) (hour_rows s hour) k.0 a b (rw plain at h.2) k.2

one_failing : Laws → (c : Settings) (s : Store) → HasHistory (log_of c.specs s) → (hour n : ℕ) (a b : List AuditLine) → AreFailing c s hour n a → AreFailing c s hour n b → a ≡ b
unfolding AreFailing
one_failing laws c s some hour zero a b h k = h ∙ sym k
one_failing laws c s some hour (suc n) a b h k =
    let lines = one_hour laws c s hour some h.0 k.0 h.2 k.2 in
    let rest = one_failing laws c s some (hour + 1) n h.1 k.1 h.3 k.3 in
    h.4 ∙ (rw (lines, rest) refl) ∙ sym k.4

one_audit : Laws → (c : Settings) (n : ℕ) (s : Store) (t t' : Turn) → IsAudited c n s t → IsAudited c n s t' → t ≡ t'
one_audit laws c n s t t' h k =
    let totals = laws.parts c s 0 c.window.hours [] (known_rows s) h.0 k.0 h.2 h.3 k.3 in
    let lines = one_failing laws c s h.2 0 c.window.hours h.1 k.1 h.4 k.4 in
    h.5 ∙ ap (λ (total : Numbers). writes (audit_start n c.specs (rules_for c) total.rules ++ lines_text c.window h.1) s) totals
    ∙ ap (λ (ls : List AuditLine). writes (audit_start n c.specs (rules_for c) k.0.rules ++ lines_text c.window ls) s) lines ∙ sym k.5

one_verdicts : Laws → (c : Settings) (n hour : ℕ) (s : Store) (b : Bool) (t t' : Turn) → AreVerdicts c n hour s b t → AreVerdicts c n hour s b t' → t ≡ t'
one_verdicts laws c n hour s true t t' h k =
    let lines = one_hour laws c s hour h.1 h.0 k.0 h.2 k.2 in
    h.3 ∙ ap (λ (ls : List AuditLine). writes (verdicts_head n hour ++ lines_text c.window ls) s) lines ∙ sym k.3
one_verdicts laws c n hour s false t t' h k = both h k

one_turn : Laws → (files : Files) (c : Settings) (n : ℕ) (x : Said) (s : Store) (t t' : Turn) → IsTurn files c n x s t → IsTurn files c n x s t' → t ≡ t'
unfolding IsTurn
one_turn laws files c n line.skip s t t' h k = both h k
one_turn laws files c n line.bad s t t' h k = both h k
one_turn laws files c n (line.load hour name) s t t' h k = one_fetched laws c n hour (hour_change false) s (hour_bytes files c hour name) t t' h k
one_turn laws files c n (line.replace hour name) s t t' h k = one_fetched laws c n hour (hour_change true) s (hour_bytes files c hour name) t t' h k
one_turn laws files c n (line.withdraw hour) s t t' h k = one_edit laws c n None s (change.withdraw hour) t t' h k
one_turn laws files c n (line.blank from to) s t t' h k = one_edit laws c n None s (change.blank from to) t t' h k
one_turn laws files c n (line.unblank from to) s t t' h k = one_edit laws c n None s (change.unblank from to) t t' h k
one_turn laws files c n line.audit s t t' h k = one_audit laws c n s t t' h k
one_turn laws files c n (line.verdicts hour) s t t' h k = one_verdicts laws c n hour s (nat_lt hour c.window.hours) t t' h k
one_turn laws files c n line.measures s t t' h k = one_measured laws c n s t t' h k
one_turn laws files c n (line.measures_of hour) s t t' h k = one_measured_of laws c n hour s (nat_lt hour c.window.hours) t t' h k
one_turn laws files c n (line.points p) s t t' h k = both h k
one_turn laws files c n (line.offsets name) s t t' h k = both h k

-- ---- lines tell one text, which begins with that of the first of them

one_told : Laws → (files : Files) (c : Settings) (n : ℕ) (ls : List (List ℕ)) (s : Store) (a b : Told) → IsTold files c n ls s a → IsTold files c n ls s b → a ≡ b
unfolding IsTold
one_told laws files c n [] s a b h k = h ∙ sym k
one_told laws files c n (l ∷ ls) s a b h k =
    let turn = one_turn laws files c n (said c.window l) s h.0 k.0 h.2 k.2 in
    let k3 = rw (← turn) at k.3 in
    let rest = one_told laws files c (n + 1) ls h.0.store h.1 k.1 h.3 k3 in
    h.4 ∙ (rw (turn, rest) refl) ∙ sym k.4

step_text : (t t' : Turn) (a b whole first : Told) (rest : List ℕ) → whole ≡ followed t a → first ≡ followed t' b → t ≡ t' → a.text ≡ b.text ++ rest → whole.text ≡ first.text ++ rest
step_text t t' a b whole first rest ew ef et er = rw (ew, ef, et, er, append_assoc) refl

first_told : Laws → (files : Files) (c : Settings) (n k : ℕ) (ls : List (List ℕ)) (s : Store) (whole first : Told) → IsTold files c n ls s whole → IsTold files c n (take k ls) s first → (rest : List ℕ) × (whole.text ≡ first.text ++ rest)
unfolding IsTold
first_told laws files c n zero ls s whole first h q = (whole.text, rw q refl)
first_told laws files c n (suc k) [] s whole first h q = ([], rw (h, q) refl)
first_told laws files c n (suc k) (l ∷ ls) s whole first h q =
    let turn = one_turn laws files c n (said c.window l) s h.0 q.0 h.2 q.2 in
    let q3 = rw (← turn) at q.3 in
    let rest = first_told laws files c (n + 1) k ls h.0.store h.1 q.1 h.3 q3 in
    (rest.0, step_text h.0 q.0 h.1 q.1 whole first rest.0 h.4 q.4 turn rest.1)

-- ---- a transcript

one_script : Laws → (files : Files) (c : Settings) (script : Option (List ℕ)) (a b : Outcome) → IsScriptOutcome files c script lines_of a → IsScriptOutcome files c script lines_of b → a ≡ b
one_script laws files c None a b h k = h ∙ sym k
one_script laws files c (Some script) a b h k =
    h.2 ∙ ap told_outcome (one_told laws files c 1 (lines_of script) (nothing_held c.window.hours) h.0 k.0 h.1 k.1) ∙ sym k.2

one_config : Laws → (files : Files) (script : List ℕ) (said : Read Settings) (a b : Outcome) → IsConfigOutcome files for_lines script said lines_of a → IsConfigOutcome files for_lines script said lines_of b → a ≡ b
one_config laws files script (Err e) a b h k = h ∙ sym k
one_config laws files script (Ok c) a b h k = one_script laws files c (limited 4194304 (files script)) a b h k

one_file : Laws → (files : Files) (script : List ℕ) (bytes : Option (List ℕ)) (a b : Outcome) → IsFileOutcome files for_lines script bytes lines_of a → IsFileOutcome files for_lines script bytes lines_of b → a ≡ b
one_file laws files script None a b h k = h ∙ sym k
one_file laws files script (Some bytes) a b h k = one_config laws files script (config_of bytes) a b h k

one_answer : Laws → (asked : Option Asked) (files : Files) (a b : Outcome) → asks_pairs asked ≡ false → IsAnswer asked files lines_of a → IsAnswer asked files lines_of b → a ≡ b
unfolding IsAnswer
one_answer laws None files a b e h k = h ∙ sym k
one_answer laws (Some (for_run config script)) files a b e h k = one_file laws files script (limited 1048576 (files config)) a b h k
one_answer laws (Some (for_pairs config script rule at)) files a b e h k = absurd (cc)
one_answer laws (Some (for_count file signal day hour)) files a b e h k = h ∙ sym k
one_answer laws (Some (for_pack file signal day hour)) files a b e h k = h ∙ sym k
one_answer laws (Some (for_demo hours)) files a b e h k = one_file laws (demo_files hours) script_name (limited 1048576 (demo_files hours config_name)) a b h k

pub one_transcript : Laws → HaveOneTranscript
one_transcript laws words files bytes bytes' ended ended' e h k =
    let same = one_answer laws (asked_of words) files (outcome bytes ended) (outcome bytes' ended') e h k in
    (ap (λ (o : Outcome). o.bytes) same, ap (λ (o : Outcome). o.ended) same)

-- the bytes of a begin with those of b
abbrev Begins : Outcome → Outcome → Type 0
Begins a b = (rest : List ℕ) × (a.bytes ≡ b.bytes ++ rest)

same_begins : (a b x : Outcome) → a ≡ x → b ≡ x → Begins a b
same_begins a b x h k = ([], rw (h, k, append-nil) refl)

first_script : Laws → (files : Files) (c : Settings) (script : Option (List ℕ)) (k : ℕ) (a b : Outcome) → IsScriptOutcome files c script lines_of a → IsScriptOutcome files c script (first_lines k) b → Begins a b
first_script laws files c None k a b h q = same_begins a b _ h q
first_script laws files c (Some script) k a b h q =
    let r = first_told laws files c 1 k (lines_of script) (nothing_held c.window.hours) h.0 q.0 h.1 q.1 in
    (r.0, rw (h.2, q.2) r.1)

first_config : Laws → (files : Files) (script : List ℕ) (said : Read Settings) (k : ℕ) (a b : Outcome) → IsConfigOutcome files for_lines script said lines_of a → IsConfigOutcome files for_lines script said (first_lines k) b → Begins a b
first_config laws files script (Err e) k a b h q = same_begins a b _ h q
first_config laws files script (Ok c) k a b h q = first_script laws files c (limited 4194304 (files script)) k a b h q

first_file : Laws → (files : Files) (script : List ℕ) (bytes : Option (List ℕ)) (k : ℕ) (a b : Outcome) → IsFileOutcome files for_lines script bytes lines_of a → IsFileOutcome files for_lines script bytes (first_lines k) b → Begins a b
first_file laws files script None k a b h q = same_begins a b _ h q
first_file laws files script (Some bytes) k a b h q = first_config laws files script (config_of bytes) k a b h q

first_answer : Laws → (asked : Option Asked) (files : Files) (k : ℕ) (a b : Outcome) → asks_pairs asked ≡ false → IsAnswer asked files lines_of a → IsAnswer asked files (first_lines k) b → Begins a b
unfolding IsAnswer
first_answer laws None files k a b e h q = same_begins a b _ h q
first_answer laws (Some (for_run config script)) files k a b e h q = first_file laws files script (limited 1048576 (files config)) k a b h q
first_answer laws (Some (for_pairs config script rule at)) files k a b e h q = absurd (cc)
first_answer laws (Some (for_count file signal day hour)) files k a b e h q = same_begins a b _ h q
first_answer laws (Some (for_pack file signal day hour)) files k a b e h q = same_begins a b _ h q
first_answer laws (Some (for_demo hours)) files k a b e h q = first_file laws (demo_files hours) script_name (limited 1048576 (demo_files hours config_name)) k a b h q

pub begins_with_first : Laws → BeginsWithFirstLines
begins_with_first laws words files bytes front ended k e h q = first_answer laws (asked_of words) files k (outcome bytes ended) (outcome front q.0) e h q.1
