-- The run whose unknown tenths have one letter alone, and how it stands to the others.
use Rattle.std.proofs.Common.{suc, zero, ◌≡◌, refl, ap, subst, inl, inr, ℕ, ◌+◌, ◌<◌, ◌≤◌, ℤ, pos, Bool, IsTrue, if◌then◌else◌, Option, Some, None, List, [], ◌∷◌, length, take, arith}
use Rattle.std.proofs.lemmas.Bool.{cases_Bool}
use Rattle.colour_machine.specs.Rules.{Goes}
use Rattle.reach.specs.Runs.{State, Steps, Run}
use Rattle.reach.proofs.Alone.{goes_once}
use Rattle.board.specs.History.{Agree, Event, Track, letters, put}
use Rattle.board.proofs.Joining.{Small, AllSmall}
use Rattle.board.proofs.Tracks.{Lettered}
use Rattle.detector_state.specs.Free.{IsOrdered, Order}

-- the lists of a run that agrees and whose unknown tenths have the letters d
pub fill : Track → (ℕ → Bool) → (ℕ → List Event) → List ℕ → ℕ → ℕ → List (List ℕ)
fill k known given d zero t = []
fill k known given d (suc n) t = (if known t then letters k (given t) else d) ∷ fill k known given d n (t + 1)

pub fill-length : (k : Track) (known : ℕ → Bool) (given : ℕ → List Event) (d : List ℕ) (n t : ℕ) → length (fill k known given d n t) ≡ n
unfolding fill
fill-length k known given d zero t = refl
fill-length k known given d (suc n) t = ap suc (fill-length k known given d n (t + 1))

pub fill-agrees : (k : Track) (known : ℕ → Bool) (given : ℕ → List Event) (d : List ℕ) (n t : ℕ) → Agree known (λ x. letters k (given x)) t (fill k known given d n t)
unfolding fill
fill-agrees k known given d zero t = tt
fill-agrees k known given d (suc n) t = ((λ is. rw is refl), fill-agrees k known given d n (t + 1))

pub fill-take : (k : Track) (known : ℕ → Bool) (given : ℕ → List Event) (d : List ℕ) (n m t : ℕ) → m ≤ n → take m (fill k known given d n t) ≡ fill k known given d m t
unfolding fill
fill-take k known given d n zero t le = refl
fill-take k known given d zero (suc m) t le = absurd (omega arith)
fill-take k known given d (suc n) (suc m) t le = ap (λ ls. (if known t then letters k (given t) else d) ∷ ls) (fill-take k known given d n m (t + 1) (omega arith))

put_small : (n : ℕ) (o : Option ℕ) (ls : List ℕ) → ((l : ℕ) → o ≡ Some l → l < n) → Small n ls → Small n (put o ls)
put_small n None ls few small = small
put_small n (Some l) ls few small = (few l refl, small)

pub letters_small : (k : Track) → Lettered k → (acts : List Event) → Small k.rules.letters (letters k acts)
letters_small k few [] = tt
letters_small k few (a ∷ acts) = put_small k.rules.letters (k.letter a.code a.param) (letters k acts) (λ j e. few a.code a.param j e) (letters_small k few acts)

-- its letters are the machine's
pub fill_small : (k : Track) (known : ℕ → Bool) (given : ℕ → List Event) → Lettered k → (d : List ℕ) (n t : ℕ) → Small k.rules.letters d → AllSmall k.rules.letters (fill k known given d n t)
unfolding fill
fill_small k known given l d zero t lt = tt
fill_small k known given l d (suc n) t lt = (
  elim (cases_Bool (known t)) [ inl held ↦ rw held (letters_small k l (given t)) | inr open_tenth ↦ rw open_tenth lt ],
  fill_small k known given l d n (t + 1) lt,
)

pub agree_take : (known : ℕ → Bool) (given : ℕ → List ℕ) (n t : ℕ) (lists : List (List ℕ)) → Agree known given t lists → Agree known given t (take n lists)
agree_take known given zero t lists ag = tt
agree_take known given (suc n) t [] ag = tt
agree_take known given (suc n) t (ls ∷ rest) (a, ag) = (a, agree_take known given n (t + 1) rest ag)

module _ (k : Track) (o : Order) (is : IsOrdered k.rules o) where
  -- letters that come to both turn no two round
  steps_keep : (t : ℤ) (ls : List ℕ) (s r u v : State) → o.rank s.colour ≤ o.rank r.colour → Steps k.rules t s ls u → Steps k.rules t r ls v → o.rank u.colour ≤ o.rank v.colour
  steps_keep t [] s r u v le a b = rw (a, b) le
  steps_keep t (l ∷ ls) s r u v le (x, sx, rx) (y, sy, ry) = steps_keep t ls x y u v (is.keeps l s.colour r.colour x.colour y.colour sx.0 sy.0 le) rx ry

  steps_few : (t : ℤ) (ls : List ℕ) (s u : State) → s.colour < k.rules.colours → Steps k.rules t s ls u → u.colour < k.rules.colours
  steps_few t [] s u few e = rw e few
  steps_few t (l ∷ ls) s u few (x, sx, rx) =
      let g = sx.0 in
      let (d, gd, small) = is.free.legal s.colour l g.0 g.1 in
      let same : x.colour ≡ d = goes_once k.rules s.colour l x.colour d g gd in
      steps_few t ls x u (rw same small) rx

  -- one letter leads to its colour
  one_letter : (t : ℤ) (l d : ℕ) (s u : State) → Goes k.rules s.colour l d → Steps k.rules t s (l ∷ []) u → u.colour ≡ d
  one_letter t l d s u go (x, sx, e) =
      let same : x.colour ≡ d = goes_once k.rules s.colour l x.colour d sx.0 go in
      rw e same

  module _ (known : ℕ → Bool) (given : ℕ → List Event) where
    tenth_below : (t : ℕ) (ls : List ℕ) (s r u v : State) → s.colour < k.rules.colours → r.colour < k.rules.colours → o.rank r.colour ≤ o.rank s.colour → (IsTrue (known t) → ls ≡ letters k (given t)) → Steps k.rules (pos t) s ls u → Steps k.rules (pos t) r (if known t then letters k (given t) else o.fall ∷ []) v → o.rank v.colour ≤ o.rank u.colour
    tenth_below t ls s r u v few few2 le agree a b = elim (cases_Bool (known t)) [
      | inl held ↦ steps_keep (pos t) (letters k (given t)) r s v u le (rw held at b) (subst (λ (xs : List ℕ). Steps k.rules (pos t) s xs u) (agree held) a)
      | inr open_tenth ↦
          let same : v.colour ≡ o.least = one_letter (pos t) o.fall o.least r v (is.falls r.colour few2) (rw open_tenth at b) in
          rw same (is.lowest u.colour (steps_few (pos t) ls s u few a))
    ]

    -- where it falls in unknown tenths, it is nowhere above another run that agrees
    pub fill_below : (lists : List (List ℕ)) (t : ℕ) (s r u v : State) → s.colour < k.rules.colours → r.colour < k.rules.colours → o.rank r.colour ≤ o.rank s.colour → Agree known (λ x. letters k (given x)) t lists → Run k.rules (pos t) s lists u → Run k.rules (pos t) r (fill k known given (o.fall ∷ []) (length lists) t) v → (u.colour < k.rules.colours) × (o.rank v.colour ≤ o.rank u.colour)
    unfolding fill
    fill_below [] t s r u v few few2 le ag a b = rw (a, b) (few, le)
    fill_below (ls ∷ rest) t s r u v few few2 le (agree, ag) (x, sx, rx) (y, sy, ry) =
        fill_below rest (t + 1) x y u v (steps_few (pos t) ls s x few sx) (steps_few (pos t) (if known t then letters k (given t) else o.fall ∷ []) r y few2 sy) (tenth_below t ls s r x y few few2 le agree sx sy) ag rx ry

    tenth_above : (t : ℕ) (ls : List ℕ) (s r u v : State) → s.colour < k.rules.colours → r.colour < k.rules.colours → o.rank s.colour ≤ o.rank r.colour → (IsTrue (known t) → ls ≡ letters k (given t)) → Steps k.rules (pos t) s ls u → Steps k.rules (pos t) r (if known t then letters k (given t) else o.rise ∷ []) v → o.rank u.colour ≤ o.rank v.colour
    tenth_above t ls s r u v few few2 le agree a b = elim (cases_Bool (known t)) [
      | inl held ↦ steps_keep (pos t) (letters k (given t)) s r u v le (subst (λ (xs : List ℕ). Steps k.rules (pos t) s xs u) (agree held) a) (rw held at b)
      | inr open_tenth ↦
          let same : v.colour ≡ o.on = one_letter (pos t) o.rise o.on r v (is.rises r.colour few2) (rw open_tenth at b) in
          rw same (is.greatest u.colour (steps_few (pos t) ls s u few a))
    ]

    -- where it rises, nowhere below one
    pub fill_above : (lists : List (List ℕ)) (t : ℕ) (s r u v : State) → s.colour < k.rules.colours → r.colour < k.rules.colours → o.rank s.colour ≤ o.rank r.colour → Agree known (λ x. letters k (given x)) t lists → Run k.rules (pos t) s lists u → Run k.rules (pos t) r (fill k known given (o.rise ∷ []) (length lists) t) v → (v.colour < k.rules.colours) × (o.rank u.colour ≤ o.rank v.colour)
    unfolding fill
    fill_above [] t s r u v few few2 le ag a b = rw (a, b) (few2, le)
    fill_above (ls ∷ rest) t s r u v few few2 le (agree, ag) (x, sx, rx) (y, sy, ry) =
        fill_above rest (t + 1) x y u v (steps_few (pos t) ls s x few sx) (steps_few (pos t) (if known t then letters k (given t) else o.rise ∷ []) r y few2 sy) (tenth_above t ls s r x y few few2 le agree sx sy) ag rx ry
