use Rattle.std.proofs.Common.{[], rules, arith, subst, sym, ◌≡◌, ◌+◌, ◌≤◌, length, ℕ}
use Rattle.board.specs.Logs.{first_tenth}
use Rattle.decisive.specs.Searches.{ArePlaced, rank}
use Rattle.decisive.proofs.Placed.{placed_back, rank_back}
use Rattle.decisive.proofs.hours.hour_before.Goals as goal

pub returns-clause-placed : goal.returns-clause-placed
returns-clause-placed g c t k x p =
    let hour = c.args.hour in
    let size : c.len.result ≡ length c.in_ok-first.first.rows.items = search rules in
    let up : first_tenth hour ≤ first_tenth (hour + 1) = omega arith in
    subst (λ (m : ℕ). ArePlaced c.args.store.now c.append.new.told (first_tenth hour) t (k + 1) x (m + c.args.placed.now.place)) (sym size) (placed_back c.args.store.now c.in_ok-first.first c.args.placed.now.told c.append.new.told (first_tenth hour) (first_tenth (hour + 1)) t k x c.args.placed.now.place up c.in_ok-first.ensures.tells c.in_ok-first.ensures.few c.in_ok-append.ensures.rows c.in_ok-append.ensures.stretches p)

pub returns-clause-rank : goal.returns-clause-rank
returns-clause-rank g c t k x p =
    let hour = c.args.hour in
    let size : c.len.result ≡ length c.in_ok-first.first.rows.items = search rules in
    let any = c.in_ok-first.ensures.tells [] in
    subst (λ (m : ℕ). rank c.append.new.told x (m + c.args.placed.now.place) ≡ rank c.args.placed.now.told x c.args.placed.now.place) (sym size) (rank_back c.in_ok-first.first c.args.placed.now.told c.append.new.told (first_tenth hour) (first_tenth (hour + 1)) x c.args.placed.now.place any.rows_in p.place.first c.in_ok-append.ensures.rows)
