use Rattle.report_text.proofs.packed.put_row_refusal.Goals as goal

pub returns : goal.returns
returns g c =
    let number = c.format.ensures.text in
    let bytes = c.as_bytes.ensures.value in
    let h = rw (bytes, number) at c.put_refused.ensures in
    h
