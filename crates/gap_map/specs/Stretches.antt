-- Tenths cut by what is known.
use Rattle.std.specs.Prelude.{◌≡◌, ◌≢◌, ℕ, pos, ◌<◌, ◌≤◌, Bool, false, ◌&&◌, ◌||◌, not, nat_le, nat_lt, List, [], ◌∷◌}
use Rattle.span_set.specs.declared.set.Span.{Span}
use Rattle.span_set.specs.Spans.{is_member}
use Rattle.gap_map.specs.declared.stretch.Stretch.{Stretch}

-- a tenth is known where its hour is held and it isn't blanked
abbrev pub known_in : Bool → List Span → ℕ → Bool
known_in held blanked t = held && not (is_member blanked (pos t))

-- the stretches follow one another from tenth a up to b, none is empty, and each of their tenths is known exactly as they say
abbrev pub AreStretches : (ℕ → Bool) → ℕ → ℕ → List Stretch → Type 0
AreStretches known a b [] = a ≡ b
AreStretches known a b (s ∷ ss) = (s.from ≡ a) × (a < s.to) × ((t : ℕ) → a ≤ t → t < s.to → known t ≡ s.known) × AreStretches known s.to b ss

-- the first of the stretches, where there is one, differs
abbrev pub BeginsOther : Bool → List Stretch → Type 0
BeginsOther known [] = Unit {0}
BeginsOther known (s ∷ ss) = s.known ≢ known

-- known and unknown stretches by turns
abbrev pub Alternate : List Stretch → Type 0
Alternate [] = Unit {0}
Alternate (s ∷ ss) = BeginsOther s.known ss × Alternate ss

-- the one cut of the tenths from a up to b by what is known
pub record IsCut (known : ℕ → Bool) (a b : ℕ) (ss : List Stretch) : Type 0 where
  pub stretches : AreStretches known a b ss
  pub alternate : Alternate ss

-- the stretches follow one another from tenth a up to b, and none is empty
abbrev pub FollowOn : ℕ → ℕ → List Stretch → Type 0
FollowOn a b [] = a ≡ b
FollowOn a b (s ∷ ss) = (s.from ≡ a) × (a < s.to) × FollowOn s.to b ss

-- a known stretch has the tenth
abbrev pub known_at : List Stretch → ℕ → Bool
known_at [] t = false
known_at (s ∷ ss) t = (s.known && (nat_le s.from t && nat_lt t s.to)) || known_at ss t
