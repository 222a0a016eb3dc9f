use Rattle.std.proofs.Common.{◌≡◌, ◌∙◌, ap, arith, map, [], ◌∷◌, ◌++◌, sym}
use Rattle.std.specs.List.{range_with_len}
use Rattle.std.proofs.lemmas.List.Elements.{All-nil}
use Rattle.std.proofs.lemmas.List.FromFn.{map-range_with_len_more}
use Rattle.service_cut.specs.Parts.{room}
use Rattle.service_cut.specs.Steps.{no_part}
use Rattle.service_cut.proofs.Rooms.{parts_at_start}
use Rattle.service_cut.proofs.carry.CutCarry.start.Goals as goal

pub loop-number-preserved : goal.loop-number-preserved
loop-number-preserved c = rw c.in_ok-push.ensures.items (ap (λ zs. zs ++ c.empty_part.result ∷ []) c.loop-number.invariant ∙ ap (λ z. map (no_part c.args.phases.now) (range_with_len 0 c.loop-number.number) ++ z ∷ []) c.empty_part.ensures ∙ sym (map-range_with_len_more (no_part c.args.phases.now) 0 c.loop-number.number c.loop-number.number (omega arith)))

pub returns : goal.returns
returns c known =
    let all : c.loop-number.number ≡ room c.args.phases.now = omega (arith, c.room_for-room.ensures.room) in
    record {
      earlier = All-nil _;
      parts_are = c.loop-number.invariant ∙ ap (λ n. map (no_part c.args.phases.now) (range_with_len 0 n)) all ∙ parts_at_start known c.args.phases.now;
    }
