-- How many rows a line needs.
use Rattle.std.proofs.Common.{◌≡◌, subst, inl, inr, ◌↔◌, ℕ, ◌≤◌, arith}
use Rattle.std.proofs.lemmas.Bool.{cases_lt}
use Rattle.board.specs.Verdicts.{HoldOne}
use Rattle.lost_rows.specs.Lines.{ExplainsClause, ExplainsInterval, Needs}
use Rattle.lost_laws.specs.Tenths.{MayBeAtEndLosing}
use Rattle.lost_laws.specs.Channels.{ChannelExplains, NeedsOfChannel, NeedsOfTerms}
use Rattle.lost_laws.proofs.Channels.{clause_to, row_to}
use Rattle.lost_laws.proofs.Histories.{row_back, term_back}

-- where each says that so many explain, or fewer, of the other, both have one least number
pub same_least : (P Q : ℕ → Type 0) (n : ℕ) → ((k : ℕ) → P k → (j : ℕ) × (j ≤ k) × Q j) → ((j : ℕ) → Q j → P j) → Needs P n ↔ Needs Q n
same_least P Q n to back = (
  λ (p, none).
      let (j, le, q) = to n p in
      elim (cases_lt j n) [
        | inl less ↦ absurd (none j less (back j q))
        | inr ge ↦ (let same : j ≡ n = omega arith in subst Q same q, λ k lt other. none k lt (back k other))
      ],
  λ (q, none). (back n q, λ k lt p. let (j, le, other) = to k p in none j (omega arith) other),
)

pub needs_channel : NeedsOfChannel
needs_channel log line n are has is = same_least (ExplainsInterval log line) (ChannelExplains log line) n (λ k explains. row_to log line k is explains) (λ j may. row_back log line j are has is may)

pub needs_terms : NeedsOfTerms
needs_terms log line n are has within lt = same_least (ExplainsClause log line) (λ j. HoldOne (MayBeAtEndLosing log line.at j) line.terms) n (λ k explains. clause_to log line k within lt (k, omega arith, explains)) (λ j hold. term_back log line j are has within lt hold)
