-- What is told of hours, with a place.
use Rattle.std.proofs.Common.{◌≡◌, ap, ◌∙◌, ℕ, ◌+◌, ◌≤◌, List, [], ◌++◌, take, length, length-append, arith}
use Rattle.channel_tables.specs.declared.spec.Spec.{Spec}
use Rattle.hour_store.specs.Store.{Store}
use Rattle.board.specs.Places.{IsPlace}
use Rattle.board.specs.History.{events_at}
use Rattle.board.specs.Moves.{RowsIn}
use Rattle.board.proofs.Bridge.{late_end}
use Rattle.board.proofs.Cutting.{events_join, none_after, take_more_of}
use Rattle.signal_log.specs.Log.{log_of}
use Rattle.decisive.specs.declared.hours.HoursTold.{HoursTold}
use Rattle.decisive.specs.Laws.{TellsOf}
use Rattle.decisive.specs.Searches.{ArePlaced, rank}
use Rattle.decisive.proofs.Telling.{place_back, place_on, take_front, tells_join}

pub placed_on : (s : Store) (old more new : HoursTold) (f m t k x n : ℕ) → ((specs : List Spec) → TellsOf (log_of specs s) more.rows.items more.stretches.items m t) → length more.rows.items ≤ 400000 → new.rows.items ≡ old.rows.items ++ more.rows.items → new.stretches.items ≡ old.stretches.items ++ more.stretches.items → ArePlaced s old f m k x n → ArePlaced s new f t (k + 1) x n
placed_on s old more new f m t k x n tells few rows ss p =
    let any = tells [] in
    let le : m ≤ t = late_end m t more.stretches.items any.follow in
    let low = p.place.first in
    let last = p.place.last in
    let size = length-append old.rows.items more.rows.items in
    let small = p.are.few in
    record {
      are = record {
        tells = λ specs. rw (rows, ss) (tells_join (log_of specs s) old.rows.items more.rows.items old.stretches.items more.stretches.items f m t (omega arith) le (p.are.tells specs) (tells specs));
        few = rw rows (omega arith);
      };
      place = rw (rows, ss) (place_on f m t x n old.rows.items more.rows.items old.stretches.items more.stretches.items p.place le any.follow any.rows_in);
    }

pub placed_back : (s : Store) (more old new : HoursTold) (f m t k x n : ℕ) → f ≤ m → ((specs : List Spec) → TellsOf (log_of specs s) more.rows.items more.stretches.items f m) → length more.rows.items ≤ 400000 → new.rows.items ≡ more.rows.items ++ old.rows.items → new.stretches.items ≡ more.stretches.items ++ old.stretches.items → ArePlaced s old m t k x n → ArePlaced s new f t (k + 1) x (length more.rows.items + n)
placed_back s more old new f m t k x n le tells few rows ss p =
    let any = tells [] in
    let low = p.place.first in
    let last = p.place.last in
    let size = length-append more.rows.items old.rows.items in
    let small = p.are.few in
    record {
      are = record {
        tells = λ specs. rw (rows, ss) (tells_join (log_of specs s) more.rows.items old.rows.items more.stretches.items old.stretches.items f m t le (omega arith) (tells specs) (p.are.tells specs));
        few = rw rows (omega arith);
      };
      place = rw (rows, ss) (place_back f m t x n more.rows.items old.rows.items more.stretches.items old.stretches.items p.place le any.follow any.rows_in);
    }

pub rank_on : (old more new : HoursTold) (f m x n : ℕ) → new.rows.items ≡ old.rows.items ++ more.rows.items → IsPlace f m old.rows.items old.stretches.items x n → rank new x n ≡ rank old x n
rank_on old more new f m x n rows p = rw rows (ap (λ rs. length (events_at rs x)) (take_front n old.rows.items more.rows.items p.count))

pub rank_back : (more old new : HoursTold) (f m x n : ℕ) → RowsIn f m more.rows.items → m ≤ x → new.rows.items ≡ more.rows.items ++ old.rows.items → rank new x (length more.rows.items + n) ≡ rank old x n
rank_back more old new f m x n in_rows le rows = rw rows (ap (λ rs. length (events_at rs x)) (take_more_of more.rows.items old.rows.items n) ∙ ap (λ es. length es) (events_join more.rows.items (take n old.rows.items) x ∙ ap (λ es. es ++ events_at (take n old.rows.items) x) (none_after more.rows.items f m x in_rows le)))
