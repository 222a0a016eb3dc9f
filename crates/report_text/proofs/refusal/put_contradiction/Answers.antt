use Rattle.report_text.proofs.refusal.put_contradiction.Goals as goal

pub returns : goal.returns
returns g c =
    let code = c.format.ensures.text in
    let code_bytes = c.as_bytes.ensures.value in
    let param = c.format-2.ensures.text in
    let param_bytes = c.as_bytes-2.ensures.value in
    let stamp = c.stamp-stamp.ensures.value in
    let h = rw (stamp, code_bytes, code, param_bytes, param) at c.put_refused.ensures in
    h
