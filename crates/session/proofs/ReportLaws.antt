-- What a session keeps beside its store.
use Rattle.std.proofs.Common.{◌≡◌, ℕ, ◌<◌, Bool, List, length, get_or, subst, arith}
use Rattle.hour_store.specs.Store.{Store}
use Rattle.ring_config.specs.Settings.{Settings}
use Rattle.rule_audit.specs.declared.rules.Rule.{Rule}
use Rattle.rule_audit.specs.Rules.{rules_for}
use Rattle.hour_work.specs.Numbers.{Numbers}
use Rattle.hour_work.specs.Points.{Carried}
use Rattle.hour_work.specs.Reports.{IsReport}
use Rattle.hour_work.proofs.ReportLaws.{part_counted, total_counted}
use Rattle.session.specs.Links.{Ahead, AllSettled}
use Rattle.session.specs.Sessions.{AreCounted, Belong}
use Rattle.session.proofs.KeptLaws.{report_kept}

pub report_is : (c : Settings) (s : Store) (own : List Rule) (waiting : List Bool) (xs : List Carried) (ys : List Ahead) (all : List Numbers) → AllSettled waiting → Belong c s own waiting xs ys all → IsReport c s all
report_is c s own waiting xs ys all settled b = report_kept c s waiting xs ys all b.is_store b.kept settled b.history

-- there is one count for each rule in the numbers of each hour, and in their sums
pub counted : (c : Settings) (s : Store) (own : List Rule) (waiting : List Bool) (xs : List Carried) (ys : List Ahead) (all : List Numbers) → AllSettled waiting → Belong c s own waiting xs ys all → AreCounted (length (rules_for c)) all
counted c s own waiting xs ys all settled b =
    let report = report_is c s own waiting xs ys all settled b in
    let size : length all ≡ length s.hours = report.size in
    let each : (k : ℕ) (d : Numbers) → k < length all → length (get_or all k d).rules ≡ length (rules_for c) = λ k d lt. part_counted c s k (get_or all k d) (report.each k d (subst (λ (n : ℕ). k < n) size lt)) in
    let some = b.is_store.some in
    record { hours = each; total = total_counted (length (rules_for c)) all (omega arith) each }
