use Rattle.std.proofs.Common.{rules, ◌≡◌, ◌+◌, length, drop, refl, sym, to_z, of_z, w64}
use Rattle.std.proofs.lemmas.List.{take-append-drop}
use Rattle.row_reader.proofs.MinuteFacts.{HasMinute, is-minute}
use Rattle.row_reader.proofs.minute.minute_of.Goals as goal

pub new-requires-clause-begins : goal.new-requires-clause-begins
new-requires-clause-begins c =
    let p : HasMinute c.args.stamp.now c.in_ok-date.date.now c.in_ok-hour.hour.now c.in_ok-minute.minute.now c.in_ok-minute.field-0-1.now
    c.in-Some-Some-Some.day c.in-Some-Some-Some.hour c.in-Some-Some-Some.minute = record {
      time = c.in_ok-date.time.now;
      rest = c.in_ok-hour.rest.now;
      at_gap = sym c.in_ok-date.ensures;
      at_hour = sym c.in_ok-hour.ensures;
      at_minute = sym c.in_ok-minute.ensures;
      day_is = sym c.in-Some-Some-Some.ensures.value;
      hour_is = sym c.in-Some-Some-Some.ensures'.value;
      minute_is = sym c.in-Some-Some-Some.ensures''.value;
    } in
    let d : to_z w64 (of_z w64 c.in-Some-Some-Some.day) ≡ c.in-Some-Some-Some.day = search rules in
    rw d (is-minute _ _ _ _ _ _ _ _ _ p refl)

pub returns-in-Some-Some-Some : goal.returns-in-Some-Some-Some
returns-in-Some-Some-Some c =
    let n = length c.in_ok-date.date.now + length c.in_ok-hour.hour.now + length c.in_ok-minute.minute.now + 3 in
    let stamp = c.args.stamp.now in
    (drop n stamp, rw c.new.ensures.text (sym (take-append-drop n stamp)))
