use Rattle.std.proofs.Common.{arith, sym, ◌∙◌, subst, ◌≡◌, ◌<◌, ℕ, List, [], true, false, length, get_or}
use Rattle.std.proofs.lemmas.List.{get_or_default, with_items_is}
use Rattle.board.specs.Logs.{no_spec}
use Rattle.rule_audit.specs.Index.{is_picked, IsSkips, IsWritten}
use Rattle.rule_audit.proofs.Owning.{moves_of, own_done, own_kept, own_written, row_channel, AreOwnUpTo}
use Rattle.rule_audit.proofs.owners.own_places.Goals as goal
use Rattle.rule_audit.proofs.owners.own_places.Goals.{then-is_ruled, else-is_ruled}

pub write_place-requires : goal.write_place-requires
write_place-requires c = record { within = λ n has. let (lt, here) = row_channel c.args.view.now c.loop-place.place n (rw (c.moves.ensures.moves no_spec) at has) in let size = c.loop-place.invariant.0 in rw c.deref_mut.ensures.value (omega arith) }

pub loop-place-preserved : goal.loop-place-preserved
loop-place-preserved c =
    let log = c.args.view.now in
    let rules = c.args.rules.now in
    let timed = c.args.timed.now in
    let clauses = c.args.clauses.now in
    let i = c.loop-place.place in
    let few : i < length log.specs = omega arith in
    let size = c.requires.timed.0 in
    let size2 = c.requires.clauses.0 in
    elim c.if-is_ruled.branch [
      | then-is_ruled w ↦
          let own = c.loop-place.own in
          let written : IsWritten (moves_of log i) i own.items w.write_place.new.own = rw (w.moves.ensures.moves no_spec, w.deref_mut.ensures.value) at w.write_place.ensures in
          rw (w.own-is, with_items_is own w.write_place.new.own (written.0 ∙ sym own.ok.0)) (own_written log rules i own.items w.write_place.new.own written c.loop-place.invariant)
      | else-is_ruled w ↦
          let channel = (get_or log.specs i no_spec).channel in
          let n = length rules in
          let first : i < length timed = omega arith in
          let second : i < length clauses = omega arith in
          let one = subst (λ (xs : List ℕ). IsSkips (is_picked log.specs rules false channel) n xs) (get_or_default timed i [] c.index-timed-index.result first ∙ sym c.index-timed-index.is) (c.requires.timed.1 i few) in
          let two = subst (λ (xs : List ℕ). IsSkips (is_picked log.specs rules true channel) n xs) (get_or_default clauses i [] c.index-clauses-index.result second ∙ sym c.index-clauses-index.is) (c.requires.clauses.1 i few) in
          rw w.own-is (own_kept log rules i c.loop-place.own.items (c.is_ruled.ensures (is_picked log.specs rules false channel) (is_picked log.specs rules true channel) one two w.if-is_ruled.false) c.loop-place.invariant)
    ]

pub returns : goal.returns
returns c =
    let log = c.args.view.now in
    let low = c.loop-place.auto.place-end in
    let high = c.loop-place-test.false in
    let all : c.loop-place.place ≡ length log.specs = omega arith in
    let own = own_done log c.args.rules.now c.loop-place.own.items c.channels-count.ensures.log c.requires.fit (subst (λ (p : ℕ). AreOwnUpTo log c.args.rules.now p c.loop-place.own.items) all c.loop-place.invariant) in
    rw (← c.requires.rows) own
