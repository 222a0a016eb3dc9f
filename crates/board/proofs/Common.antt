-- Lemmas that several crates use.
use Rattle.std.proofs.Common.{◌≡◌, refl, ℕ, List, ◌∷◌}
use Rattle.std.proofs.lemmas.Bool.{eq-eqb}
use Rattle.sig_base.specs.declared.values.Row.{Row}
use Rattle.gap_map.specs.declared.stretch.Stretch.{Stretch}
use Rattle.gap_map.specs.Stretches.{FollowOn, known_at}
use Rattle.reach.specs.Runs.{State}
use Rattle.channel_path.specs.Walks.{Walk}
use Rattle.board.specs.History.{event_of, events_at, Track}
use Rattle.board.specs.Moves.{RowsIn, own}
use Rattle.board.proofs.Bridge.{own_walk}

pub event_here : (r : Row) (rs : List Row) (w : ℕ) → r.at ≡ w → events_at (r ∷ rs) w ≡ event_of r ∷ events_at rs w
event_here r rs w e = rw (eq-eqb r.at w e) refl

-- the numbers of the rows don't matter to a walk
pub renumbered : (k : Track) (f t i j : ℕ) (rows : List Row) (ss : List Stretch) (s u : State) → FollowOn f t ss → RowsIn f t rows → Walk k.rules (own k i rows ss) s u → Walk k.rules (own k j rows ss) s u
renumbered k f t i j rows ss s u follow in_rows w =
    (own_walk k (known_at ss) (events_at rows) f t j rows ss s u follow in_rows (λ x l1 l2. refl) (λ x l1 l2. refl)).0 ((own_walk k (known_at ss) (events_at rows) f t i rows ss s u follow in_rows (λ x l1 l2. refl) (λ x l1 l2. refl)).1 w)
