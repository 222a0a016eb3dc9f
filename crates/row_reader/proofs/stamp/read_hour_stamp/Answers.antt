use Rattle.std.proofs.Common.{rules, ◌≡◌, Some, None, to_z, of_z, w64}
use Rattle.row_reader.specs.Stamp.{hour_stamp_of}
use Rattle.row_reader.proofs.FormFacts.{forms_of_hour}
use Rattle.row_reader.proofs.stamp.read_hour_stamp.Goals as goal

pub returns-in_err-date-clause-forms : goal.returns-in_err-date-clause-forms
returns-in_err-date-clause-forms c =
    let e : c.from_residual.result ≡ hour_stamp_of c.args.text.now = search rules in
    forms_of_hour c.args.text.now _ e

pub returns-in-Some-Some-clause-forms : goal.returns-in-Some-Some-clause-forms
returns-in-Some-Some-clause-forms c =
    let e : Some (to_z w64 (of_z w64 c.in-Some-Some.day), c.in-Some-Some.hour) ≡ hour_stamp_of c.args.text.now = search rules in
    forms_of_hour c.args.text.now _ e

pub returns-in_default-clause-forms : goal.returns-in_default-clause-forms
returns-in_default-clause-forms c =
    let e : None ≡ hour_stamp_of c.args.text.now = search rules in
    forms_of_hour c.args.text.now _ e

pub returns-in_default-2-clause-forms : goal.returns-in_default-2-clause-forms
returns-in_default-2-clause-forms c =
    let e : None ≡ hour_stamp_of c.args.text.now = search rules in
    forms_of_hour c.args.text.now _ e
