use Rattle.std.proofs.Common.{arith, ap, ◌≡◌, ◌∙◌, ◌+◌, List, []}
use Rattle.sig_base.specs.declared.values.Row.{Row}
use Rattle.board.specs.Logs.{first_tenth}
use Rattle.signal_log.specs.Log.{log_of}
use Rattle.decisive.specs.Lines.{place_in}
use Rattle.decisive.specs.Searches.{rank_in}
use Rattle.decisive.specs.Window.{IsPlaceIn}
use Rattle.decisive.proofs.Finished.{place_is, rank_is}
use Rattle.decisive.proofs.window.placed_in.Goals as goal

pub place_in-place-requires : goal.place_in-place-requires
place_in-place-requires g c = rw (c.deref.ensures.value, c.in_ok-told.ensures.rows) c.requires.place

pub returns-clause-placed : goal.returns-clause-placed
returns-clause-placed g c =
    let told = c.in_ok-told.told in
    let s = c.args.store.now in
    let rows = told.rows.items in
    let x = c.args.at in
    let f = first_tenth c.args.hour in
    let t = first_tenth (c.args.hour + 1) in
    let tells = c.in_ok-told.ensures.tells in
    let few = c.in_ok-told.ensures.few in
    let here : IsPlaceIn rows x c.args.place = rw c.in_ok-told.ensures.rows c.requires.place in
    let place : c.place_in-place.result ≡ place_in rows x c.args.place = rw c.deref.ensures.value at (c.place_in-place.ensures f t (rw c.deref.ensures.value (tells []).rows_in)) in
    record {
      are = record { tells = tells; few = omega arith };
      place = rw place (place_is (log_of [] s) rows told.stretches.items f t x c.args.place (tells []) c.requires.is_known c.requires.low c.requires.high here);
    }

pub returns-clause-rank : goal.returns-clause-rank
returns-clause-rank g c =
    let rows = c.in_ok-told.told.rows.items in
    let x = c.args.at in
    let f = first_tenth c.args.hour in
    let t = first_tenth (c.args.hour + 1) in
    let in_rows = (c.in_ok-told.ensures.tells []).rows_in in
    let place : c.place_in-place.result ≡ place_in rows x c.args.place = rw c.deref.ensures.value at (c.place_in-place.ensures f t (rw c.deref.ensures.value in_rows)) in
    rw place (rank_is f t x rows c.args.place in_rows c.requires.low c.requires.high ∙ ap (λ (rs : List Row). rank_in rs x c.args.place) c.in_ok-told.ensures.rows)
