use Rattle.std.proofs.Common.{◌≡◌, ◌<◌, ◌≤◌, ◌+◌, ◌-◌, ◌++◌, ◌∷◌, [], ℕ, List, suc, zero, refl, ap, arith, codes, decimal, length}
use Rattle.sig_base.specs.declared.values.Row.{Row}
use Rattle.outside.proofs.PutsFacts.{front-stopped, going-end, going-on, going-stopped}
use Rattle.report_text.specs.Line.{line_of}
use Rattle.report_text.specs.Counts.{code_count_line, code_line, code_lines, count_text}
use Rattle.report_text.proofs.counts.put_counts.Goals as goal

lines-step : (rows : List Row) (c : ℕ) → c < 256 → code_lines rows (256 - c) c ≡ code_line rows c ++ code_lines rows (256 - (c + 1)) (c + 1)
unfolding code_lines
lines-step rows c h = let e : 256 - c ≡ suc (256 - (c + 1)) = omega arith in rw e refl

lines-end : (rows : List Row) (c : ℕ) → 256 ≤ c → code_lines rows (256 - c) c ≡ []
unfolding code_lines
lines-end rows c h = let e : 256 - c ≡ zero = omega arith in rw e refl

pub returns-in_err-put_head : goal.returns-in_err-put_head
returns-in_err-put_head g c =
    front-stopped _ _ (line_of (codes "rows " ∷ decimal (length c.args.rows.now) ∷ codes " repeats " ∷ decimal c.args.repeats ∷ [])) (code_lines c.args.rows.now 256 0) _ c.from_residual.ensures.0 c.in_err-put_head.ensures

pub returns-in_err-put_code : goal.returns-in_err-put_code
returns-in_err-put_code g c =
    let h = rw (lines-step c.args.rows.now c.loop-code.code c.loop-code-test.true) at c.loop-code.invariant in
    let line = ap (code_count_line c.loop-code.code) (c.tally-counts.ensures c.loop-code.code c.loop-code-test.true) in
    let put = rw line at c.in_err-put_code.ensures in
    going-stopped _ _ _ (count_text c.args.rows.now c.args.repeats) (code_line c.args.rows.now c.loop-code.code) _ _ c.from_residual-in_err-put_code.ensures.0 h put

pub loop-code-preserved : goal.loop-code-preserved
loop-code-preserved g c =
    let h = rw (lines-step c.args.rows.now c.loop-code.code c.loop-code-test.true) at c.loop-code.invariant in
    let line = ap (code_count_line c.loop-code.code) (c.tally-counts.ensures c.loop-code.code c.loop-code-test.true) in
    let put = rw line at c.in_ok-put_code.ensures in
    going-on _ _ _ (count_text c.args.rows.now c.args.repeats) (code_line c.args.rows.now c.loop-code.code) _ h put

pub returns : goal.returns
returns g c =
    let h = rw (lines-end c.args.rows.now c.loop-code.code c.loop-code-test.false) at c.loop-code.invariant in
    going-end _ _ (count_text c.args.rows.now c.args.repeats) h
