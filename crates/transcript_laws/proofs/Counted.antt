-- Counts, and lists by places and by numbers, that it can't be that there are none of.
use Rattle.std.proofs.Common.{◌≡◌, ◌∙◌, inl, inr, ℕ, zero, suc, ◌+◌, ◌-◌, ◌<◌, ◌≤◌, Bool, true, Some, List, [], ◌∷◌, ◌++◌, length, get_or, arith, refl}
use Rattle.std.proofs.lemmas.Bool.{cases_Bool}
use Rattle.event_codes.specs.declared.channels.Channel.{Channel}
use Rattle.ring_config.specs.Settings.{Settings, is_tracked, spec_place}
use Rattle.ring_config.specs.Sound.{IsSound}
use Rattle.detector_state.specs.Ranges.{Counts}
use Rattle.detector_state.specs.States.{IsCount}
use Rattle.stop_bar.specs.Lists.{Each}
use Rattle.split_measures.proofs.Approaches.{some_there}
use Rattle.other_measures.specs.States.{EachOf}
use Rattle.arrival_measures.specs.Judged.{CountOf}
use Rattle.transcript_laws.specs.Exists.{NotNone}
use Rattle.transcript_laws.proofs.Chance.{decided, some, then, with}

-- ---- counts

-- of the n tenths from a on
pub counted : (P : ℕ → Type 0) (n a : ℕ) → NotNone ((k : ℕ) × IsCount P a n k)
unfolding IsCount
counted P zero a = some (0, refl)
counted P (suc n) a = then (decided (P a)) (λ d. elim d [
  | inl p ↦ with (counted P n (a + 1)) (λ (k, is). (suc k, inl (p, (k, refl, is))))
  | inr none ↦ with (counted P n (a + 1)) (λ (k, is). (k, inr (none, is)))
])

-- of the tenths from a up to b
pub counted_to : (P : ℕ → Type 0) (a b : ℕ) → a ≤ b → NotNone ((k : ℕ) × Counts P a b k)
counted_to P a b le = with (counted P (b - a) a) (λ (k, is). (k, (b - a, omega arith, is)))

-- of the elements of a list
pub count_of : {X : Type 0} (P : X → Type 0) (xs : List X) → NotNone ((n : ℕ) × CountOf P xs n)
unfolding CountOf
count_of P [] = some (0, refl)
count_of P (x ∷ xs) = then (decided (P x)) (λ d. elim d [
  | inl p ↦ with (count_of P xs) (λ (n, is). (suc n, inl (p, (n, refl, is))))
  | inr none ↦ with (count_of P xs) (λ (n, is). (n, inr (none, is)))
])

-- ---- lists

-- one for each place of a list
pub each_listed : {X Y : Type 0} (R : X → Y → Type 0) (xs : List X) → ((i : ℕ) (d : X) → i < length xs → NotNone ((y : Y) × R (get_or xs i d) y)) → NotNone ((ys : List Y) × Each R xs ys)
each_listed R [] all = some ([], tt)
each_listed R (x ∷ xs) all = then (all 0 x (omega arith)) (λ (y, r). with (each_listed R xs (λ i d lt. all (suc i) d (omega arith))) (λ (ys, rs). (y ∷ ys, (r, rs))))

-- what stands at a place of both
pub each_there : {X Y : Type 0} (R : X → Y → Type 0) (xs : List X) (ys : List Y) (i : ℕ) (d : X) (e : Y) → Each R xs ys → i < length xs → R (get_or xs i d) (get_or ys i e)
each_there R [] ys i d e h lt = absurd (omega arith)
each_there R (x ∷ xs) [] i d e h lt = absurd h
each_there R (x ∷ xs) (y ∷ ys) zero d e h lt = h.0
each_there R (x ∷ xs) (y ∷ ys) (suc i) d e h lt = each_there R xs ys i d e h.1 (omega arith)

-- one for each number that is kept
pub each_numbered : {A : Type 0} (has : ℕ → Bool) (Is : ℕ → A → Type 0) → ((p : ℕ) → has p ≡ true → NotNone ((y : A) × Is p y)) → (n : ℕ) → NotNone ((xs : List A) × EachOf has Is n xs)
unfolding EachOf
each_numbered has Is all zero = some ([], refl)
each_numbered has Is all (suc n) = then (each_numbered has Is all n) (λ (xs, is). elim (cases_Bool (has n)) [
  | inl t ↦ with (all n t) (λ (y, own). (xs ++ y ∷ [], inl (t, (xs, y, is, own, refl))))
  | inr f ↦ some (xs, inr (f, is))
])

-- where what is its own is less
pub each_weaker : {A : Type 0} (has : ℕ → Bool) (Is As : ℕ → A → Type 0) → ((p : ℕ) (y : A) → Is p y → As p y) → (n : ℕ) (xs : List A) → EachOf has Is n xs → EachOf has As n xs
unfolding EachOf
each_weaker has Is As f zero xs h = h
each_weaker has Is As f (suc n) xs (inl (t, (ys, y, is, own, e))) = inl (t, (ys, y, each_weaker has Is As f n ys is, f n y own, e))
each_weaker has Is As f (suc n) xs (inr (none, is)) = inr (none, each_weaker has Is As f n xs is)

-- ---- places of channels

-- a tracked channel has its place
pub place_of : (c : Settings) (channel : Channel) → IsSound c → is_tracked c channel ≡ true → (i : ℕ) × (spec_place c.specs channel ≡ Some i)
place_of c channel sound has = some_there (spec_place c.specs channel) (sound.tracked channel ∙ has)
