use Rattle.std.proofs.Common.{arith, refl, ap, sym, subst, ◌≡◌, ◌∙◌, ◌+◌, ◌-◌, ◌/◌, ◌<◌, ◌≤◌, List, length, get_or}
use Rattle.std.proofs.lemmas.List.{get_or_default}
use Rattle.sig_base.specs.declared.values.Row.{Row}
use Rattle.channel_tables.specs.declared.spec.Spec.{Spec}
use Rattle.hour_store.specs.Store.{known_rows, rows_at}
use Rattle.board.specs.History.{events_at}
use Rattle.board.specs.Logs.{first_tenth}
use Rattle.signal_log.specs.Log.{HasHistory, log_of}
use Rattle.signal_log.specs.Points.{ArePastsAt}
use Rattle.signal_log.proofs.Stored.{hour_events}
use Rattle.rule_audit.specs.Index.{no_rule}
use Rattle.rule_audit.specs.Pass.{FitsRule}
use Rattle.rule_audit.proofs.Fitting.{rules_fit}
use Rattle.rule_audit.proofs.Tracked.{channels_are}
use Rattle.decisive.specs.declared.judge.Start.TheVariants.{Kept}
use Rattle.decisive.specs.declared.parts.Part.{Part}
use Rattle.decisive.specs.Laws.{rows_to}
use Rattle.decisive.specs.Lines.{AreHourMoves, place_in}
use Rattle.decisive.specs.Parts.{parts_of}
use Rattle.decisive.specs.Searches.{AreFound, IsBeginAt, rank_in}
use Rattle.signal_log.specs.Rows.{hour_rows}
use Rattle.decisive.specs.Window.{IsPlaceIn}
use Rattle.board.specs.Places.{upto}
use Rattle.rule_audit.proofs.Walking.{if_ok}
use Rattle.decisive.proofs.Concluded.{concluded, concluded_own, rule_fits}
use Rattle.decisive.proofs.Finished.{place_is, rank_is}
use Rattle.decisive.proofs.GrowLaws.{grow_same}
use Rattle.decisive.proofs.window.window_in.Goals as goal

pub begin_in_hour-requires-clause-parts : goal.begin_in_hour-requires-clause-parts
begin_in_hour-requires-clause-parts g c =
    let settings = c.args.config.now in
    let sound = c.specs-specs.ensures.sound in
    let n = c.args.line.now.rule in
    let low = c.requires.line.some_rule in
    let high = c.requires.line.last_rule in
    let rule = get_or c.args.rules.now (n - 1) no_rule in
    let same : c.index-rules-line.result ≡ rule = c.index-rules-line.is ∙ get_or_default c.args.rules.now (n - 1) c.index-rules-line.result no_rule (omega arith) in
    let inside : n - 1 < length c.args.rules.now = omega arith in
    let fits : FitsRule settings.specs rule = rw c.requires.rules (rules_fit settings sound (n - 1) no_rule (rw c.requires.rules at inside)) in
    let parts : c.deref.result.now ≡ parts_of rule = c.deref.ensures.value ∙ (c.in_ok-parts.ensures ∙ ap parts_of same) in
    rw (c.specs-specs.ensures.value, parts) (rule_fits settings.specs rule (channels_are settings sound) fits)

pub begin_in_hour-requires-clause-moves : goal.begin_in_hour-requires-clause-moves
begin_in_hour-requires-clause-moves g c =
    let s = c.args.store.now in
    let x = c.args.line.now.at in
    let hour = x / 36000 in
    let e = sym c.specs-specs.ensures.value in
    (s, hour, subst (λ (specs : List Spec). AreHourMoves specs s hour c.args.moves.now) e c.requires.moves, subst (λ (specs : List Spec). HasHistory (log_of specs s)) e c.requires.history, c.requires.line.is_known, omega arith, omega arith)

pub begin_in_hour-requires-clause-place : goal.begin_in_hour-requires-clause-place
begin_in_hour-requires-clause-place g c = subst (λ (rows : List Row). IsPlaceIn rows c.args.line.now.at c.args.line.now.place) (sym c.requires.moves.of_hour) c.requires.line.place

pub search_window-requires-clause-parts : goal.search_window-requires-clause-parts
search_window-requires-clause-parts g c =
    let settings = c.args.config.now in
    let sound = c.specs-specs.ensures.sound in
    let n = c.args.line.now.rule in
    let low = c.requires.line.some_rule in
    let high = c.requires.line.last_rule in
    let rule = get_or c.args.rules.now (n - 1) no_rule in
    let same : c.index-rules-line.result ≡ rule = c.index-rules-line.is ∙ get_or_default c.args.rules.now (n - 1) c.index-rules-line.result no_rule (omega arith) in
    let inside : n - 1 < length c.args.rules.now = omega arith in
    let fits : FitsRule settings.specs rule = rw c.requires.rules (rules_fit settings sound (n - 1) no_rule (rw c.requires.rules at inside)) in
    let parts : c.deref.result.now ≡ parts_of rule = c.deref.ensures.value ∙ (c.in_ok-parts.ensures ∙ ap parts_of same) in
    rw (c.specs-specs.ensures.value, parts) (rule_fits settings.specs rule (channels_are settings sound) fits)

pub search_window-requires-clause-history : goal.search_window-requires-clause-history
search_window-requires-clause-history g c = subst (λ (specs : List Spec). HasHistory (log_of specs c.args.store.now)) (sym c.specs-specs.ensures.value) c.requires.history

pub search_window-requires-clause-before : goal.search_window-requires-clause-before
search_window-requires-clause-before g c = subst (λ (specs : List Spec). ArePastsAt (log_of specs c.args.store.now) (c.args.line.now.at / 36000) c.args.moves.now.before.now) (sym c.specs-specs.ensures.value) c.requires.moves.pasts

pub search_window-requires-clause-within : goal.search_window-requires-clause-within
search_window-requires-clause-within g c = c.requires.moves.within

pub search_window-requires-clause-is_known : goal.search_window-requires-clause-is_known
search_window-requires-clause-is_known g c = c.requires.line.is_known

pub search_window-requires-clause-place : goal.search_window-requires-clause-place
search_window-requires-clause-place g c = c.requires.line.place

pub returns-in_err-parts-clause-grow : goal.returns-in_err-parts-clause-grow
returns-in_err-parts-clause-grow g c = grow_same _

pub returns-in_err-begin-clause-grow : goal.returns-in_err-begin-clause-grow
returns-in_err-begin-clause-grow g c = grow_same _

pub returns-in-Some-clause-grow : goal.returns-in-Some-clause-grow
returns-in-Some-clause-grow g c = grow_same _

pub returns-in-Some-clause-window : goal.returns-in-Some-clause-window
returns-in-Some-clause-window g c =
    let settings = c.args.config.now in
    let sound = c.specs-specs.ensures.sound in
    let n = c.args.line.now.rule in
    let low = c.requires.line.some_rule in
    let high = c.requires.line.last_rule in
    let rule = get_or c.args.rules.now (n - 1) no_rule in
    let same : c.index-rules-line.result ≡ rule = c.index-rules-line.is ∙ get_or_default c.args.rules.now (n - 1) c.index-rules-line.result no_rule (omega arith) in
    let inside : n - 1 < length c.args.rules.now = omega arith in
    let fits : FitsRule settings.specs rule = rw c.requires.rules (rules_fit settings sound (n - 1) no_rule (rw c.requires.rules at inside)) in
    let parts : c.deref.result.now ≡ parts_of rule = c.deref.ensures.value ∙ (c.in_ok-parts.ensures ∙ ap parts_of same) in
    let s = c.args.store.now in
    let is_line = c.requires.line in
    let x = c.args.line.now.at in
    let hour = x / 36000 in
    let within = is_line.within in
    let rows = hour_rows s hour in
    let m = c.args.moves.now in
    let are = c.requires.moves in
    let of_hour = are.of_hour in
    let store = c.requires.moves.is_store in
    let same_rows : events_at rows x ≡ events_at (known_rows s) x = sym (hour_events s hour x (rows_at s hour) store (omega arith) refl (omega arith) (omega arith) is_line.is_known) in
    let f = first_tenth hour in
    let t = first_tenth (hour + 1) in
    let tells = are.tells settings.specs in
    let low_tenth : f ≤ x = omega arith in
    let high_tenth : x < t = omega arith in
    let in_moves = subst (λ (rs : List Row). IsPlaceIn rs x c.args.line.now.place) (sym of_hour) is_line.place in
    let place = place_is (log_of settings.specs s) m.rows.now m.stretches.items f t x c.args.line.now.place tells is_line.is_known low_tenth high_tenth in_moves in
    let rank = rank_is f t x m.rows.now c.args.line.now.place tells.rows_in low_tenth high_tenth ∙ ap (λ (rs : List Row). rank_in rs x c.args.line.now.place) of_hour in
    let begin = rw c.in-Some.is at c.in_ok-begin.ensures in
    let n0 = place_in m.rows.now x c.args.line.now.place in
    let u = c.in-Some.begin in
    let b1 = subst (λ (specs : List Spec). IsBeginAt specs c.deref.result.now x (rows_to x m.rows.now) (upto x m.stretches.items) n0 u) c.specs-specs.ensures.value begin in
    let b2 = subst (λ (ps : List Part). IsBeginAt settings.specs ps x (rows_to x m.rows.now) (upto x m.stretches.items) n0 u) parts b1 in
    concluded_own settings.specs s rows m.rows.now m.stretches.items n x f t n0 u c.args.line.now.place rule (channels_are settings sound) store c.requires.history fits within is_line.is_known same_rows is_line.place is_line.broken tells place rank b2

pub returns-clause-grow : goal.returns-clause-grow
returns-clause-grow g c = c.search_window.ensures.grow

pub returns-clause-window : goal.returns-clause-window
returns-clause-window g c =
    let settings = c.args.config.now in
    let sound = c.specs-specs.ensures.sound in
    let n = c.args.line.now.rule in
    let low = c.requires.line.some_rule in
    let high = c.requires.line.last_rule in
    let rule = get_or c.args.rules.now (n - 1) no_rule in
    let same : c.index-rules-line.result ≡ rule = c.index-rules-line.is ∙ get_or_default c.args.rules.now (n - 1) c.index-rules-line.result no_rule (omega arith) in
    let inside : n - 1 < length c.args.rules.now = omega arith in
    let fits : FitsRule settings.specs rule = rw c.requires.rules (rules_fit settings sound (n - 1) no_rule (rw c.requires.rules at inside)) in
    let parts : c.deref.result.now ≡ parts_of rule = c.deref.ensures.value ∙ (c.in_ok-parts.ensures ∙ ap parts_of same) in
    let s = c.args.store.now in
    let is_line = c.requires.line in
    let x = c.args.line.now.at in
    let hour = x / 36000 in
    let within = is_line.within in
    let rows = hour_rows s hour in
    let store = c.requires.moves.is_store in
    let same_rows : events_at rows x ≡ events_at (known_rows s) x = sym (hour_events s hour x (rows_at s hour) store (omega arith) refl (omega arith) (omega arith) is_line.is_known) in
    let start = Kept c.args.moves.now.before in
    let j = rank_in rows x c.args.line.now.place in
    if_ok c.search_window.result _ _ (λ w found.
    let f1 = subst (λ (specs : List Spec). AreFound start s specs c.deref.result.now hour x j w.0 w.1) c.specs-specs.ensures.value found in
    let f2 = subst (λ (ps : List Part). AreFound start s settings.specs ps hour x j w.0 w.1) parts f1 in
    concluded settings.specs s rows n x hour w.0 w.1 c.args.line.now.place rule start (channels_are settings sound) store c.requires.history fits within is_line.is_known same_rows is_line.place is_line.broken (refl, (hour, refl, c.requires.moves.pasts)) f2) c.search_window.ensures.found
