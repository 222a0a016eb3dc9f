use Rattle.std.proofs.Common.{arith, ◌∙◌, ℕ, ◌≡◌, ◌||◌, length, take, get_or}
use Rattle.std.proofs.lemmas.List.{take_all}
use Rattle.sig_base.proofs.Common.{not_true}
use Rattle.reach.specs.Runs.{State}
use Rattle.reach.proofs.Seeing.{or_is}
use Rattle.board.specs.Verdicts.{MayPass, SomeNot}
use Rattle.board.proofs.Verdicts.{terms_below, are_terms, verdict_turn, histories_are, kept_by, all_fail, one_holds, none_holds, clash, not_false}
use Rattle.board.proofs.clause.clause_verdict_from.Goals as goal

pub term_seen-seen-requires : goal.term_seen-seen-requires
term_seen-seen-requires c =
    let terms = rw (← c.terms-terms.ensures.terms) at (are_terms (length c.args.view.now.specs) c.args.clause.now c.requires c.terms-terms.ensures.fit.2) in
    record { spec = rw c.index-terms-i.is (terms_below (length c.args.view.now.specs) c.loop-i.i c.index-terms-i.result c.terms-terms.result.now terms c.loop-i-test.true) }

pub returns-then-not-seen-clause-verdict : goal.returns-then-not-seen-clause-verdict
returns-then-not-seen-clause-verdict c = λ known w v hv.
    let log = c.args.view.now in
    let is = c.channels-channels.ensures.log in
    let terms = (are_terms (length c.args.view.now.specs) c.args.clause.now c.requires c.terms-terms.ensures.fit.2) in
    let here = rw c.terms-terms.ensures.terms at c.loop-i-test.true in
    let one = rw c.terms-terms.ensures.terms at c.index-terms-i.is in
    let seen = (c.term_seen-seen.ensures.sees known).1 in
    let no_other : SomeNot (MayPass log c.args.at) (get_or c.args.clause.now c.loop-i.i c.index-terms-i.result) → ⊥ = λ q. clash c.term_seen-seen.result.some_false (seen.1 (rw one q)) (not_true c.term_seen-seen.result.some_false c.if-not-seen.true) in
    kept_by (MayPass log c.args.at) (length log.specs) c.args.clause.now c.loop-i.i c.index-terms-i.result v ((histories_are log c.args.at is known v).0 hv) terms here no_other

pub loop-i-preserved : goal.loop-i-preserved
loop-i-preserved c =
    let inv = c.loop-i.invariant in
    let log = c.args.view.now in (
      c.term_seen-seen.ensures.count ∙ inv.0,
      λ known. let s = c.term_seen-seen.ensures.sees known in let v = inv.1 known in
          verdict_turn (MayPass log c.args.at) c.terms-terms.result.now c.loop-i.i c.index-terms-i.result c.loop-i.some c.term_seen-seen.result.some_true c.term_seen-seen.result.some_false (c.loop-i.some || c.term_seen-seen.result.some_true) c.index-terms-i.is c.loop-i-test.true v.0 v.1 s.0 s.1 (not_false c.term_seen-seen.result.some_false c.if-not-seen.false) (or_is c.loop-i.some c.term_seen-seen.result.some_true),
    )

pub returns-then-some-clause-verdict : goal.returns-then-some-clause-verdict
returns-then-some-clause-verdict c = λ known w.
    let log = c.args.view.now in
    let is = c.channels-channels.ensures.log in
    let inv = rw c.terms-terms.ensures.terms at c.loop-i.invariant.1 in
    let past = rw c.terms-terms.ensures.terms at c.loop-i-test.false in
    let all : take c.loop-i.i c.args.clause.now ≡ c.args.clause.now = take_all c.loop-i.i c.args.clause.now (omega arith) in
    let v = rw all at (inv known) in
    let terms = (are_terms (length c.args.view.now.specs) c.args.clause.now c.requires c.terms-terms.ensures.fit.2) in
    let h = λ (x : ℕ → State). histories_are log c.args.at is known x in
    let good = one_holds (MayPass log c.args.at) (length log.specs) c.args.clause.now w.0 ((h w.0).0 w.1) (v.1.0 c.if-some.true) in
    let bad = all_fail (MayPass log c.args.at) (length log.specs) c.args.clause.now w.0 ((h w.0).0 w.1) terms v.0 in
    ((good.0, (h good.0).1 good.1, good.2), (bad.0, (h bad.0).1 bad.1, bad.2))

pub returns-clause-verdict : goal.returns-clause-verdict
returns-clause-verdict c = λ known w v hv k.
    let log = c.args.view.now in
    let is = c.channels-channels.ensures.log in
    let inv = rw c.terms-terms.ensures.terms at c.loop-i.invariant.1 in
    let past = rw c.terms-terms.ensures.terms at c.loop-i-test.false in
    let all : take c.loop-i.i c.args.clause.now ≡ c.args.clause.now = take_all c.loop-i.i c.args.clause.now (omega arith) in
    let q = rw all at (inv known) in
    let terms = (are_terms (length c.args.view.now.specs) c.args.clause.now c.requires c.terms-terms.ensures.fit.2) in
    let is_true = q.1.1 (none_holds (MayPass log c.args.at) (length log.specs) c.args.clause.now v ((histories_are log c.args.at is known v).0 hv) terms k) in
    clash c.loop-i.some is_true c.if-some.false
