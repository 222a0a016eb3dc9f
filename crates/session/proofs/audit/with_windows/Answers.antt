use Rattle.std.proofs.Common.{◌≡◌, ◌∙◌, arith, sym, subst, ℕ}
use Rattle.std.specs.Prelude.{All}
use Rattle.std.proofs.lemmas.Result.{IfOk-weaker}
use Rattle.signal_log.specs.Log.{log_of}
use Rattle.signal_log.specs.Points.{ArePastsAt}
use Rattle.session.specs.HourLines.{IsLineIn}
use Rattle.session.proofs.GrowLaws.{grow_on, grow_same}
use Rattle.session.proofs.WindowLaws.{no_line}
use Rattle.session.proofs.audit.with_windows.Goals as goal

pub new-requires-clause-within : goal.new-requires-clause-within
new-requires-clause-within g c =
    let (hour, are) = c.requires.lines in
    let (i, lt, is) = c.in-Some.ensures in
    let mine = are.each i no_line lt in
    let broken = mine.broken (is no_line).0 in
    let within = broken.within in
    let same = (is no_line).1 in
    omega arith

pub new-requires-clause-before : goal.new-requires-clause-before
new-requires-clause-before g c =
    let (hour, are) = c.requires.lines in
    let (i, lt, is) = c.in-Some.ensures in
    let mine = are.each i no_line lt in
    let same : hour ≡ c.in-Some.hour = sym mine.in_hour ∙ (is no_line).1 in
    subst (λ (h : ℕ). ArePastsAt (log_of c.args.config.now.specs c.args.store.now) h c.args.before.now) same are.pasts

pub windowed-requires-clause-lines : goal.windowed-requires-clause-lines
windowed-requires-clause-lines g c =
    let (hour, are) = c.requires.lines in
    let (i, lt, is) = c.in-Some.ensures in
    let mine = are.each i no_line lt in
    let same : hour ≡ c.in-Some.hour = sym mine.in_hour ∙ (is no_line).1 in
    (c.in-Some.hour, c.in_ok-moves-in-Some.ensures.moves, subst (λ (h : ℕ). All (IsLineIn c.args.config.now c.args.store.now h) c.args.lines.now) same are.each)

pub returns-in-None : goal.returns-in-None
returns-in-None g c = record {
  windows = IfOk-weaker c.unbroken.result _ _ (λ v h. h c.args.config.now c.args.store.now c.args.before.now) c.unbroken.ensures;
  grow = grow_same c.args.reads.now;
}

pub returns-in_err-moves-in-Some-clause-grow : goal.returns-in_err-moves-in-Some-clause-grow
returns-in_err-moves-in-Some-clause-grow g c = c.new.ensures.grow

pub returns-in_ok-moves-in-Some-clause-grow : goal.returns-in_ok-moves-in-Some-clause-grow
returns-in_ok-moves-in-Some-clause-grow g c = grow_on _ _ _ c.new.ensures.grow c.windowed.ensures.grow

pub returns-in_ok-moves-in-Some-clause-windows : goal.returns-in_ok-moves-in-Some-clause-windows
returns-in_ok-moves-in-Some-clause-windows g c = IfOk-weaker c.windowed.result _ _ (λ v h. h c.args.before.now) c.windowed.ensures.windows
