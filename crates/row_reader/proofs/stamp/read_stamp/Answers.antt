use Rattle.std.proofs.Common.{rules, ◌≡◌, Some, None, to_z, of_z, w64}
use Rattle.row_reader.specs.Stamp.{stamp_in}
use Rattle.row_reader.proofs.FormFacts.{forms_of_stamp}
use Rattle.row_reader.proofs.stamp.read_stamp.Goals as goal

pub returns-in-Some-clause-forms : goal.returns-in-Some-clause-forms
returns-in-Some-clause-forms c =
    let e : Some (to_z w64 (of_z w64 c.tenth_of.result)) ≡ stamp_in c.args.window.now c.args.text.now = search rules in
    forms_of_stamp c.args.window.now c.args.text.now _ e

pub returns-in-None-clause-forms : goal.returns-in-None-clause-forms
returns-in-None-clause-forms c =
    let e : None ≡ stamp_in c.args.window.now c.args.text.now = search rules in
    forms_of_stamp c.args.window.now c.args.text.now _ e
