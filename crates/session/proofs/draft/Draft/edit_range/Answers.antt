use Rattle.std.proofs.Common.{◌≡◌, ◌∙◌, ◌-ℤ◌, ◌<ℤ◌, arith, length, pos, refl, sym}
use Rattle.std.proofs.lemmas.Int.{ints, to_z-of_z}
use Rattle.hour_store.specs.Store.{with_blanks}
use Rattle.session.specs.Edits.{range_change, step_of}
use Rattle.session.specs.Moved.{IsIn, KeepLines, KeepParts}
use Rattle.session.specs.Ranges.{IsEdited}
use Rattle.session.proofs.EditLaws.{few_blanks, in_order, inside, many_blanks, steps_done}
use Rattle.session.proofs.MaskLaws.{fits_before, hours_in_order, hours_within, same_but_range}
use Rattle.session.proofs.MovedLaws.{keep_to, moves_by}
use Rattle.session.proofs.RangeEditLaws.{never_edited, range_left, range_same, range_step, range_touches, range_within}
use Rattle.session.proofs.draft.Draft.edit_range.Goals as goal

pub returns-then-ranges-gt-MOST_BLANKS-clause-step : goal.returns-then-ranges-gt-MOST_BLANKS-clause-step
returns-then-ranges-gt-MOST_BLANKS-clause-step g c =
    let s = c.self.inside.store in
    let rf = c.ranges.from in
    let rt = c.ranges.to in
    let out = simp to_z-of_z at (sym c.reaches_out.ensures ∙ c.if-reaches_out.false) in
    let some : c.args.from <ℤ c.args.to = in_order c.args.to c.args.from (simp to_z-of_z at c.if-to-from.false) in
    let made : IsEdited c.args.edit s.blanks c.args.from c.args.to c.in-Ok.blanks = simp to_z-of_z at (rw c.blanked.ensures.value at c.in-Ok.ensures) in
    let n : c.hours.result ≡ length s.hours = c.hours.ensures.value ∙ sym c.self.invariant.hours in
    let step = range_step c.args.edit s c.hours.result c.args.from c.args.to c.in-Ok.blanks n c.hours.ensures.few c.blanked.ensures.within out some c.ranges-2.ensures.ordered made in
    let more = rw c.ranges-2.ensures.value at c.if-ranges-gt-MOST_BLANKS.true in
    rw (← c.self.view_is) (refl, step ∙ many_blanks s c.in-Ok.blanks more)

pub returns-clause-step : goal.returns-clause-step
returns-clause-step g c =
    let s = c.self.inside.store in
    let rf = c.ranges.from in
    let rt = c.ranges.to in
    let out = simp to_z-of_z at (sym c.reaches_out.ensures ∙ c.if-reaches_out.false) in
    let some : c.args.from <ℤ c.args.to = in_order c.args.to c.args.from (simp to_z-of_z at c.if-to-from.false) in
    let made : IsEdited c.args.edit s.blanks c.args.from c.args.to c.in-Ok.blanks = simp to_z-of_z at (rw c.blanked.ensures.value at c.in-Ok.ensures) in
    let n : c.hours.result ≡ length s.hours = c.hours.ensures.value ∙ sym c.self.invariant.hours in
    let step = range_step c.args.edit s c.hours.result c.args.from c.args.to c.in-Ok.blanks n c.hours.ensures.few c.blanked.ensures.within out some c.ranges-2.ensures.ordered made in
    let few = rw c.ranges-2.ensures.value at c.if-ranges-gt-MOST_BLANKS.false in
    let done = rw (← c.self.view_is) at c.make.ensures.done in
    let back = rw (← c.self.view_is) at c.make.ensures.back in
    let stop = rw (← c.self.view_is) at c.make.ensures.stop in
    rw (← c.self.view_is) (steps_done c.self.inside.config (step_of s (range_change c.args.edit c.args.from c.args.to)) s (with_blanks s c.in-Ok.blanks) c.make.new.self.store c.make.result (step ∙ few_blanks s c.in-Ok.blanks few) done back stop)

pub hour_at-first-requires-clause-low : goal.hour_at-first-requires-clause-low
hour_at-first-requires-clause-low g c =
    let rf = c.ranges.from in
    let rt = c.ranges.to in
    let out = simp to_z-of_z at (sym c.reaches_out.ensures ∙ c.if-reaches_out.false) in
    let p = inside c.hours.result c.args.from c.args.to out in
    simp to_z-of_z p.0

pub hour_at-first-requires-clause-high : goal.hour_at-first-requires-clause-high
hour_at-first-requires-clause-high g c =
    let rf = c.ranges.from in
    let rt = c.ranges.to in
    let out = simp to_z-of_z at (sym c.reaches_out.ensures ∙ c.if-reaches_out.false) in
    let p = inside c.hours.result c.args.from c.args.to out in
    let few = c.hours.ensures.few in
    let some : c.args.from <ℤ c.args.to = in_order c.args.to c.args.from (simp to_z-of_z at c.if-to-from.false) in
    let high = p.1 in
    simp to_z-of_z (omega (arith, ints))

pub hour_at-last-requires-clause-low : goal.hour_at-last-requires-clause-low
hour_at-last-requires-clause-low g c =
    let rf = c.ranges.from in
    let rt = c.ranges.to in
    let out = simp to_z-of_z at (sym c.reaches_out.ensures ∙ c.if-reaches_out.false) in
    let p = inside c.hours.result c.args.from c.args.to out in
    let low = p.0 in
    let some : c.args.from <ℤ c.args.to = in_order c.args.to c.args.from (simp to_z-of_z at c.if-to-from.false) in
    simp to_z-of_z (omega (arith, ints))

pub hour_at-last-requires-clause-high : goal.hour_at-last-requires-clause-high
hour_at-last-requires-clause-high g c =
    let rf = c.ranges.from in
    let rt = c.ranges.to in
    let out = simp to_z-of_z at (sym c.reaches_out.ensures ∙ c.if-reaches_out.false) in
    let p = inside c.hours.result c.args.from c.args.to out in
    let few = c.hours.ensures.few in
    let high = p.1 in
    simp to_z-of_z (omega (arith, ints))

pub make-requires-clause-placed : goal.make-requires-clause-placed
make-requires-clause-placed g c =
    let s = c.self.inside.store in
    let rf = c.ranges.from in
    let rt = c.ranges.to in
    let out = simp to_z-of_z at (sym c.reaches_out.ensures ∙ c.if-reaches_out.false) in
    let made : IsEdited c.args.edit s.blanks c.args.from c.args.to c.in-Ok.blanks = simp to_z-of_z at (rw c.blanked.ensures.value at c.in-Ok.ensures) in
    let n : c.hours.result ≡ length s.hours = c.hours.ensures.value ∙ sym c.self.invariant.hours in
    let p = rw n at (inside c.hours.result c.args.from c.args.to out) in
    rw (← c.self.view_is) (range_within c.args.edit (length s.hours) s.blanks c.in-Ok.blanks c.args.from c.args.to c.blanked.ensures.within p.0 p.1 made)

pub make-requires-clause-order : goal.make-requires-clause-order
make-requires-clause-order g c =
    let rf = c.ranges.from in
    let rt = c.ranges.to in
    let some : c.args.from <ℤ c.args.to = in_order c.args.to c.args.from (simp to_z-of_z at c.if-to-from.false) in
    let begin : IsIn c.args.from c.hour_at-first.result = simp to_z-of_z at c.hour_at-first.ensures in
    let fits = fits_before c.args.from c.args.to rf rt some in
    let end : IsIn (c.args.to -ℤ pos 1) c.hour_at-last.result = simp to_z-of_z at c.hour_at-last.ensures in
    hours_in_order c.args.from c.args.to c.hour_at-first.result c.hour_at-last.result some begin end

pub make-requires-clause-last : goal.make-requires-clause-last
make-requires-clause-last g c =
    let s = c.self.inside.store in
    let rf = c.ranges.from in
    let rt = c.ranges.to in
    let some : c.args.from <ℤ c.args.to = in_order c.args.to c.args.from (simp to_z-of_z at c.if-to-from.false) in
    let out = simp to_z-of_z at (sym c.reaches_out.ensures ∙ c.if-reaches_out.false) in
    let n : c.hours.result ≡ length s.hours = c.hours.ensures.value ∙ sym c.self.invariant.hours in
    let p = rw n at (inside c.hours.result c.args.from c.args.to out) in
    let fits = fits_before c.args.from c.args.to rf rt some in
    let end : IsIn (c.args.to -ℤ pos 1) c.hour_at-last.result = simp to_z-of_z at c.hour_at-last.ensures in
    rw (← c.self.view_is) (hours_within c.args.to c.hour_at-last.result (length s.hours) p.1 end)

pub make-requires-clause-same : goal.make-requires-clause-same
make-requires-clause-same g c =
    let s = c.self.inside.store in
    let rf = c.ranges.from in
    let rt = c.ranges.to in
    let some : c.args.from <ℤ c.args.to = in_order c.args.to c.args.from (simp to_z-of_z at c.if-to-from.false) in
    let made : IsEdited c.args.edit s.blanks c.args.from c.args.to c.in-Ok.blanks = simp to_z-of_z at (rw c.blanked.ensures.value at c.in-Ok.ensures) in
    let begin : IsIn c.args.from c.hour_at-first.result = simp to_z-of_z at c.hour_at-first.ensures in
    let fits = fits_before c.args.from c.args.to rf rt some in
    let end : IsIn (c.args.to -ℤ pos 1) c.hour_at-last.result = simp to_z-of_z at c.hour_at-last.ensures in
    rw (← c.self.view_is) (same_but_range s c.in-Ok.blanks c.args.from c.args.to c.hour_at-first.result c.hour_at-last.result (range_same c.args.edit s.blanks c.in-Ok.blanks c.args.from c.args.to made) begin end)

pub make-requires-clause-as_were : goal.make-requires-clause-as_were
make-requires-clause-as_were g c =
    let s = c.self.inside.store in
    let rf = c.ranges.from in
    let rt = c.ranges.to in
    let made : IsEdited c.args.edit s.blanks c.args.from c.args.to c.in-Ok.blanks = simp to_z-of_z at (rw c.blanked.ensures.value at c.in-Ok.ensures) in
    let left = rw c.blanked-2.ensures.value at c.in-Ok-hours_as_were.ensures in
    rw (← c.self.view_is) (λ k told. range_left c.args.edit s c.in-Ok.blanks c.args.from c.args.to k made (left k told))

pub returns-clause-never : goal.returns-clause-never
returns-clause-never g c =
    let s = c.self.inside.store in
    let rf = c.ranges.from in
    let rt = c.ranges.to in
    let made : IsEdited c.args.edit s.blanks c.args.from c.args.to c.in-Ok.blanks = simp to_z-of_z at (rw c.blanked.ensures.value at c.in-Ok.ensures) in
    let stop = rw (← c.self.view_is) at c.make.ensures.stop in
    let less = rw (← c.self.view_is) at c.make.ensures.store in
    never_edited c.args.edit c.self.inside.config s c.in-Ok.blanks c.args.from c.args.to c.make.result c.self.invariant.sound c.self.invariant.is_store less c.self.invariant.history made stop

pub returns-clause-moved : goal.returns-clause-moved
returns-clause-moved g c =
    let s = c.self.inside.store in
    let rf = c.ranges.from in
    let rt = c.ranges.to in
    let some : c.args.from <ℤ c.args.to = in_order c.args.to c.args.from (simp to_z-of_z at c.if-to-from.false) in
    let begin : IsIn c.args.from c.hour_at-first.result = simp to_z-of_z at c.hour_at-first.ensures in
    let fits = fits_before c.args.from c.args.to rf rt some in
    let end : IsIn (c.args.to -ℤ pos 1) c.hour_at-last.result = simp to_z-of_z at c.hour_at-last.ensures in
    let touched = range_touches c.args.edit c.args.from c.args.to c.hour_at-first.result c.hour_at-last.result begin end in
    let done = rw (← c.self.view_is) at c.make.ensures.done in
    let moved = rw (← c.self.view_is) at c.make.ensures.moved in
    rw (← c.self.view_is) (moves_by c.self.inside.config s (with_blanks s c.in-Ok.blanks) c.make.new.self.store c.hour_at-first.result c.hour_at-last.result (range_change c.args.edit c.args.from c.args.to) c.make.result touched done moved)

pub returns-clause-stays : goal.returns-clause-stays
returns-clause-stays g c =
    let s = c.self.inside.store in
    let done = rw (← c.self.view_is) at c.make.ensures.done in
    let stays = rw (← c.self.view_is) at c.make.ensures.stays in
    rw (← c.self.view_is) (λ plain. keep_to c.self.inside.config (KeepParts c.self.inside.config s) (with_blanks s c.in-Ok.blanks) c.make.new.self.store c.make.result done (stays plain))

pub returns-clause-lines : goal.returns-clause-lines
returns-clause-lines g c =
    let s = c.self.inside.store in
    let done = rw (← c.self.view_is) at c.make.ensures.done in
    let lines = rw (← c.self.view_is) at c.make.ensures.lines in
    rw (← c.self.view_is) (keep_to c.self.inside.config (KeepLines c.self.inside.config s) (with_blanks s c.in-Ok.blanks) c.make.new.self.store c.make.result done lines)

pub returns-clause-opens : goal.returns-clause-opens
returns-clause-opens g c =
    let rf = c.ranges.from in
    let rt = c.ranges.to in
    let some : c.args.from <ℤ c.args.to = in_order c.args.to c.args.from (simp to_z-of_z at c.if-to-from.false) in
    let begin : IsIn c.args.from c.hour_at-first.result = simp to_z-of_z at c.hour_at-first.ensures in
    let fits = fits_before c.args.from c.args.to rf rt some in
    let end : IsIn (c.args.to -ℤ pos 1) c.hour_at-last.result = simp to_z-of_z at c.hour_at-last.ensures in
    c.make.ensures.opens (range_change c.args.edit c.args.from c.args.to) (range_touches c.args.edit c.args.from c.args.to c.hour_at-first.result c.hour_at-last.result begin end)
