use Rattle.std.proofs.Common.{◌∙◌, sym, subst, get_or}
use Rattle.std.proofs.lemmas.Bool.{false≢true}
use Rattle.board.specs.Channels.{track}
use Rattle.board.specs.History.{Track}
use Rattle.board.specs.Logs.{no_spec}
use Rattle.signal_log.specs.Log.{IsBeforeWindow}
use Rattle.filling_pair.specs.Strands.{start_of}
use Rattle.filling_pair.proofs.Telling.{stands, whole}
use Rattle.filling_pair.proofs.stands.stand_of.Goals as goal

pub returns-then-not-are_fills-clause-strand : goal.returns-then-not-are_fills-clause-strand
returns-then-not-are_fills-clause-strand g c =
    let told = rw (c.follower_at-follower.ensures, c.list.ensures) at c.are_fills.ensures in (
      λ bad. absurd (false≢true bad),
      λ st. let yes = told.1 st.fills in absurd (false≢true (sym c.if-not-are_fills.true ∙ yes)),
    )

pub returns-clause-strand : goal.returns-clause-strand
returns-clause-strand g c =
    let s = c.args.store.now in
    let strand = c.args.strand.now in
    let same = c.follower_at-follower.ensures in
    let k = track (get_or c.args.specs.now strand.spec no_spec) in
    let fills = (rw (same, c.list.ensures) at c.are_fills.ensures).0 c.if-not-are_fills.false in
    let start = subst (λ (x : Track). IsBeforeWindow x.rules (start_of strand)) same (c.is_start.ensures.0 c.if-not-is_start.false) in
    let legal = rw same at c.follow-followed.ensures.legal in
    let run = whole k s c.follow-followed.ensures.store c.args.specs.now strand.fills fills in (
      λ is. let (u, w) = legal.0 is in record {
        spec = c.if-strand-specs.false;
        start = start;
        fills = fills;
        legal = (u, (run _ u).0 w);
      },
      λ st. let (u, w) = st.legal in legal.1 (u, (run _ u).1 w),
    )

pub returns-clause-there : goal.returns-clause-there
returns-clause-there g c = λ is v.
    let s = c.args.store.now in
    let strand = c.args.strand.now in
    let same = c.follower_at-follower.ensures in
    let fills = (rw (same, c.list.ensures) at c.are_fills.ensures).0 c.if-not-are_fills.false in
    let there = rw same at (c.follow-followed.ensures.there v) in
    let at_place = stands s c.follow-followed.ensures.store c.args.specs.now strand c.args.line.now.at c.requires.line.within c.requires.line.is_known c.args.line.now.place fills c.requires.line.place v in
    ((λ p. there.0 (at_place.1 p)), (λ p. at_place.0 (there.1 p)))
