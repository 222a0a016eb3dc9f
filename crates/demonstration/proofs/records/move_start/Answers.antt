use Rattle.std.proofs.Common.{◌≡◌, ◌+◌, ◌*◌, ◌/◌, ◌%◌, ℕ, slice_set, arith}
use Rattle.sig_base.specs.Stamp.{stamp_at}
use Rattle.demonstration.specs.Texts.{record_start, spaced_stamp}
use Rattle.demonstration.proofs.records.move_start.Goals as goal

-- of two tenths of one minute all is the same but the seconds and the tenth
moved : (from to : ℕ) → from / 600 ≡ to / 600
    → slice_set (slice_set (slice_set (record_start from) 22 (48 + to / 100 % 6)) 23 (48 + to / 10 % 10)) 25 (48 + to % 10) ≡ record_start to
unfolding spaced_stamp stamp_at
moved from to h =
    let day : (36000 * 0 + from) / 864000 ≡ (36000 * 0 + to) / 864000 = omega arith in
    let hours : (36000 * 0 + from) % 864000 / 360000 ≡ (36000 * 0 + to) % 864000 / 360000 = omega arith in
    let hour : (36000 * 0 + from) % 864000 / 36000 ≡ (36000 * 0 + to) % 864000 / 36000 = omega arith in
    let minute : (36000 * 0 + from) % 864000 / 600 ≡ (36000 * 0 + to) % 864000 / 600 = omega arith in
    let seconds : (36000 * 0 + to) % 864000 / 10 % 60 / 10 % 10 ≡ to / 100 % 6 = omega arith in
    let second : (36000 * 0 + to) % 864000 / 10 % 60 % 10 ≡ to / 10 % 10 = omega arith in
    let tenth : (36000 * 0 + to) % 864000 % 10 ≡ to % 10 = omega arith in
    rw (day, hours, hour, minute, seconds, second, tenth)

pub returns-then-from-to : goal.returns-then-from-to
returns-then-from-to c = rw c.requires.start (moved c.args.from c.args.to c.if-from-to.true)
