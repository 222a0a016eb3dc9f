-- Gaps between two letters as the holes of a run.
use Rattle.std.proofs.Common.{sym, subst, ◌↔◌, ℤ, pos, List, [], ◌∷◌}
use Rattle.colour_machine.specs.Rules.{Rules}
use Rattle.span_set.specs.declared.set.Span.{Span}
use Rattle.reach.specs.Runs.{State, Fills}
use Rattle.reach.specs.Holes.{Gaps}
use Rattle.channel_path.specs.declared.moves.Move.{Move}
use Rattle.channel_path.specs.declared.moves.Move.TheVariants.{Letter, Gap}
use Rattle.channel_path.specs.Walks.{Walk}
use Rattle.channel_path.specs.Runs.{AreGapsOf, RunsAreMoves}

gaps_walk : (m : Rules) (hs : List Span) (xs : List Move) (s u : State) → AreGapsOf hs xs → Gaps m hs s u ↔ Walk m xs s u
gaps_walk m [] [] s u g = (λ e. e, λ e. e)
gaps_walk m [] (x ∷ xs) s u g = absurd g
gaps_walk m (h ∷ hs) [] s u g = absurd g
gaps_walk m (h ∷ hs) (Letter at l r ∷ xs) s u g = absurd g
gaps_walk m (h ∷ hs) (Gap f t ∷ xs) s u (a, b, g) = (
  λ (v, k, r). (v, subst (λ (y : ℤ). Fills m (pos f) y s v) b (subst (λ (y : ℤ). Fills m y h.to s v) a k), (gaps_walk m hs xs v u g).0 r),
  λ (v, k, r). (v, subst (λ (y : ℤ). Fills m y h.to s v) (sym a) (subst (λ (y : ℤ). Fills m (pos f) y s v) (sym b) k), (gaps_walk m hs xs v u g).1 r),
)

pub runs_moves : RunsAreMoves
runs_moves m sets latest hs xs g = (
  λ u. (λ (s, h, k). (s, h, (gaps_walk m hs xs s u g).0 k), λ (s, h, k). (s, h, (gaps_walk m hs xs s u g).1 k)),
  λ s. (λ (u, k, a). (u, (gaps_walk m hs xs s u g).0 k, a), λ (u, k, a). (u, (gaps_walk m hs xs s u g).1 k, a)),
)
