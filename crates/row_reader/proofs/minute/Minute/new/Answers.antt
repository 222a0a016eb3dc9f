use Rattle.std.proofs.Common.{rules, ◌≡◌, length, to_z, of_z, w64}
use Rattle.std.proofs.lemmas.List.{take_at}
use Rattle.row_reader.proofs.minute.Minute.new.Goals as goal

pub invariant_of-result : goal.invariant_of-result
invariant_of-result c =
    let copied = c.copy_from_slice.ensures.after in
    record {
      fits = c.requires.fits;
      some = c.requires.some;
      in_years = search rules;
      in_day = c.requires.start;
      begins = let d : to_z w64 (of_z w64 c.args.day) ≡ c.args.day = search rules in
          rw (copied, take_at c.args.text.now _ (length c.args.text.now), d) c.requires.begins;
    }
