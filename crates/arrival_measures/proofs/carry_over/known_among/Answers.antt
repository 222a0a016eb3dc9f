use Rattle.std.proofs.Common.{◌≡◌, ◌∙◌, ◌&&◌, ◌++◌, ◌∷◌, [], cond, ap, sym, get_or, take}
use Rattle.std.proofs.lemmas.Bool.{lt-ltb}
use Rattle.std.proofs.lemmas.List.{append-nil, take_all}
use Rattle.std.proofs.lemmas.List.Elements.{filter_more}
use Rattle.board.specs.Logs.{no_row}
use Rattle.sig_base.specs.declared.values.Row.{Row}
use Rattle.hour_sweep.specs.Rows.{known_rows}
use Rattle.hour_sweep.proofs.Orders.{below_end}
use Rattle.arrival_measures.proofs.Between.{at_least}
use Rattle.arrival_measures.proofs.Counts.{and_true}
use Rattle.arrival_measures.proofs.carry_over.known_among.Goals as goal
use Rattle.arrival_measures.proofs.carry_over.known_among.Goals.{then-is_known+in_ok-push, else-is_known}

pub loop-row-init : goal.loop-row-init
loop-row-init c = λ known a b are or. c.new-own.ensures.items

pub loop-row-preserved : goal.loop-row-preserved
loop-row-preserved c = λ known a b are or.
    let rows = c.args.rows.now in
    let i = c.loop-row.row-index in
    let lt = c.loop-row-test.true in
    let x = get_or rows i no_row in
    let before = known_rows known (take i rows) in
    let is : c.is_known.result ≡ known x.at =
    c.is_known.ensures known a b are (at_least a b rows i no_row or lt) ∙ ap (λ v. known x.at && v) (lt-ltb x.at b (below_end a b rows or i no_row lt)) ∙ and_true (known x.at) in
    let more = filter_more (λ (z : Row). known z.at) rows i no_row lt in
    elim c.if-is_known.branch [
      | then-is_known+in_ok-push w ↦
          ap (λ v. v.items) w.own-is ∙ w.in_ok-push.ensures.items
          ∙ ap (λ zs. zs ++ x ∷ []) (c.loop-row.invariant known a b are or)
          ∙ ap (λ v. before ++ cond v (x ∷ []) []) (sym w.if-is_known.true ∙ is)
          ∙ sym more
      | else-is_known w ↦
          ap (λ v. v.items) w.own-is ∙ c.loop-row.invariant known a b are or
          ∙ sym (append-nil before)
          ∙ ap (λ v. before ++ cond v (x ∷ []) []) (sym w.if-is_known.false ∙ is)
          ∙ sym more
    ]

pub returns : goal.returns
returns c = λ known a b are or. c.loop-row.invariant known a b are or ∙ ap (λ zs. known_rows known zs) (take_all c.loop-row.row-index c.args.rows.now c.loop-row-test.false)
