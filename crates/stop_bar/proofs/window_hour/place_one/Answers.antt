use Rattle.std.proofs.Common.{refl, arith}
use Rattle.stop_bar.specs.Windows.{over, waits}
use Rattle.stop_bar.proofs.Waiting.{red_over}
use Rattle.stop_bar.proofs.window_hour.place_one.Goals as goal

pub returns-then-over-hour : goal.returns-then-over-hour
returns-then-over-hour c =
    let sum = c.saturating_add-over.ensures in
    let le = c.if-over-hour.true in
    let low = c.requires in
    over (omega arith) refl _ c.in_ok-push.ensures.items refl (λ log i told (bg, ge, fr, re, was).
    let red = c.on-red.ensures log i c.args.hour.first c.args.hour.end c.args.service.now.r told.0 (fr, omega arith, le) (c.none.ensures log i c.args.service.now.r) in
    record { green = c.green_on-green.ensures log i told (bg, ge, was); red = red_over log i c.args.hour.end c.args.service.now.r c.saturating_add-over.result _ (omega arith) (omega arith) sum red })

pub returns : goal.returns
returns c =
    let sum = c.saturating_add-over.ensures in
    let gt = c.if-over-hour.false in
    let low = c.requires in
    waits (omega arith) refl _ c.in_ok-push-2.ensures.items refl (λ log i told (bg, ge, fr, re, was). record { green = c.green_on-green.ensures log i told (bg, ge, was); red = c.on-red-2.ensures log i c.args.hour.first c.args.hour.end c.args.service.now.r told.0 (fr, omega arith, omega arith) (c.none-2.ensures log i c.args.service.now.r) })
