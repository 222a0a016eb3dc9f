-- The first draws and the first rows, written out.
use Rattle.std.proofs.Common.{◌≡◌, [], ◌∷◌, refl}
use Rattle.demonstration.specs.Draws.{draw, next, number_at}
use Rattle.demonstration.specs.Rows.{row, services, pulses}
use Rattle.demonstration.specs.Order.{ordered, placed}

first_draws : draw 1 1 ∷ draw 1 2 ∷ draw 1 3 ∷ draw 1 4 ∷ [] ≡ 16838 ∷ 5758 ∷ 10113 ∷ 17515 ∷ []
unfolding number_at next
first_draws = refl

draws_of_seven : draw 7 1 ∷ draw 7 2 ∷ draw 7 3 ∷ draw 7 4 ∷ [] ≡ 19564 ∷ 9806 ∷ 10868 ∷ 22674 ∷ []
unfolding number_at next
draws_of_seven = refl

-- the services that begin in the first 38 seconds; the next begins with the last rows of the first
first_rows : ordered (services 380 380 1 0 2)
    ≡ row 0 0 2 ∷ row 0 1 2 ∷ row 138 5 2 ∷ row 138 7 2 ∷ row 138 8 2 ∷ row 173 9 2 ∷ row 173 10 2
    ∷ row 188 0 4 ∷ row 188 1 4 ∷ row 188 11 2 ∷ row 188 12 2 ∷ row 401 5 4 ∷ row 401 7 4 ∷ row 401 8 4
    ∷ row 436 9 4 ∷ row 436 10 4 ∷ row 451 11 4 ∷ row 451 12 4 ∷ []
unfolding services next ordered placed
first_rows = refl

first_pulses : pulses 100 100 7 0 ≡ row 84 82 5 ∷ row 95 81 5 ∷ row 183 82 5 ∷ row 222 81 5 ∷ []
unfolding pulses next
first_pulses = refl
