use Rattle.std.proofs.Common.{◌≡◌, ◌∙◌, ap, ◌/◌, ◌++◌, List, take, drop}
use Rattle.span_set.specs.declared.set.Span.{Span}
use Rattle.sig_base.specs.declared.values.Row.{Row}
use Rattle.signal_log.specs.Rows.{hour_rows}
use Rattle.filling_pair.specs.Walking.{count_to, own_of, track_of}
use Rattle.filling_pair.proofs.Overall.{all_passed, over_join, over_same, own_parts}
use Rattle.filling_pair.proofs.hours.pass_place.Goals as goal

pub returns-clause-there : goal.returns-clause-there
returns-clause-there g c =
    let k = track_of c.args.follower.now in
    let s = c.args.store.now in
    let rows = hour_rows s (c.args.line.now.at / 36000) in
    let n = count_to rows c.args.line.now.at c.args.line.now.place in
    let same = c.rows_of_hour-rows.ensures.rows in
    let count = rw same at c.count_to.ensures.count in
    let front : c.split_at.result.0.now ≡ take n rows = rw (count, same) at c.split_at.ensures.front in
    let own : own_of k c.blanked-blanked.result.now c.split_at.result.0.now ≡ own_of k s.blanks (take n rows) = ap (λ (b : List Span). own_of k b c.split_at.result.0.now) c.blanked-blanked.ensures.value ∙ ap (own_of k s.blanks) front in
    let over = over_same k (own_of k c.blanked-blanked.result.now c.split_at.result.0.now) (own_of k s.blanks (take n rows)) c.args.cursor.now.here c.pass_rows-before.result.here c.args.cursor.now.fills.now c.pass_rows-before.result.fills.now own c.pass_rows-before.ensures.passed in
    all_passed k (own_of k s.blanks (take n rows)) c.args.line.now.at c.args.cursor.now.here c.pass_rows-before.result.here c.pass_fills-place.result.here c.args.cursor.now.fills.now c.pass_rows-before.result.fills.now over c.pass_fills-place.ensures.walked

pub returns-clause-passed : goal.returns-clause-passed
returns-clause-passed g c =
    let k = track_of c.args.follower.now in
    let s = c.args.store.now in
    let rows = hour_rows s (c.args.line.now.at / 36000) in
    let n = count_to rows c.args.line.now.at c.args.line.now.place in
    let same = c.rows_of_hour-rows.ensures.rows in
    let count = rw same at c.count_to.ensures.count in
    let front : c.split_at.result.0.now ≡ take n rows = rw (count, same) at c.split_at.ensures.front in
    let back : c.split_at.result.1.now ≡ drop n rows = rw (count, same) at c.split_at.ensures.back in
    let blanks = c.blanked-blanked.result.now in
    let own : own_of k blanks c.split_at.result.0.now ++ own_of k blanks c.split_at.result.1.now ≡ own_of k s.blanks rows =
    ap (λ (xs : List Row). own_of k blanks xs ++ own_of k blanks c.split_at.result.1.now) front
    ∙ (ap (λ (xs : List Row). own_of k blanks (take n rows) ++ own_of k blanks xs) back
    ∙ (ap (λ (b : List Span). own_of k b (take n rows) ++ own_of k b (drop n rows)) c.blanked-blanked.ensures.value ∙ own_parts k s.blanks n rows)) in
    over_same k (own_of k blanks c.split_at.result.0.now ++ own_of k blanks c.split_at.result.1.now) (own_of k s.blanks rows) c.args.cursor.now.here c.pass_rows.result.here c.args.cursor.now.fills.now c.pass_rows.result.fills.now own
    (over_join k (own_of k blanks c.split_at.result.0.now) (own_of k blanks c.split_at.result.1.now) c.args.cursor.now.here c.pass_rows-before.result.here c.pass_rows.result.here c.args.cursor.now.fills.now c.pass_rows-before.result.fills.now c.pass_rows.result.fills.now c.pass_rows-before.ensures.passed c.pass_rows.ensures.passed)
