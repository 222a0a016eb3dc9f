use Rattle.std.proofs.Common.{arith, refl, sym, inl, inr, ◌≡◌, ◌<◌, ◌≤◌, length, get_or}
use Rattle.std.proofs.lemmas.Bool.{cases_lt}
use Rattle.rule_audit.proofs.next.lone_channel.Goals as goal

pub returns-then-are_of : goal.returns-then-are_of
returns-then-are_of c =
    let h = c.args.hour.now in
    let row = c.ruled_row-row.result in
    let n = length h.specs.now in
    let channel = get_or h.own.now row 0 in
    let from : c.args.first ≤ row = c.ruled_row-row.ensures.from in
    let less : row < c.args.end = c.if-row-end.true in
    let few : channel < n = c.ruled_row-row.ensures.ruled less in
    record {
      within = λ k lt. let first : k ≡ 0 = omega arith in rw first few;
      rows = λ k lt. let first : k ≡ 0 = omega arith in rw first (row, from, less, refl);
      all = λ j a b own. elim (cases_lt j row) [
        | inl before ↦ let none = c.ruled_row-row.ensures.none j a before in absurd (omega arith)
        | inr ge ↦ (0, omega arith, sym (c.are_of.ensures.0 c.if-are_of.true j ge b own))
      ];
    }
