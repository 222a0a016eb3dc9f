use Rattle.std.proofs.Common.{List, ap, subst, sym}
use Rattle.rule_audit.specs.declared.rules.Rule.{Rule}
use Rattle.decisive.specs.Lines.{IsBrokenIn}
use Rattle.hour_work.specs.Counts.{is_broken}
use Rattle.example_hours.proofs.audit.window_of.Goals as goal

pub decisive_window-requires-clause-line : goal.decisive_window-requires-clause-line
decisive_window-requires-clause-line c = subst (λ (rs : List Rule). IsBrokenIn c.args.config.now c.args.store.now rs c.args.line.now) (sym c.requires.rules) (c.requires.line.broken (ap is_broken c.in-Broken.is))
