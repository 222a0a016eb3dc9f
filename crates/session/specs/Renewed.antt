-- What an edit puts in the place of what is kept.
use Rattle.std.specs.Prelude.{◌≡◌, ◌+◌, ◌≤◌, ◌<◌, ℕ, Bool, true, false, List, [], Option, Some, None, length, map, slice_index_or, All}
use Rattle.channel_tables.specs.declared.spec.Spec.{Spec}
use Rattle.hour_store.specs.Store.{Store, rows_at}
use Rattle.board.specs.Places.{AreAheadsOf, AreSameFor, AreSamePasts}
use Rattle.board.specs.Stops.{AreBefore}
use Rattle.ring_config.specs.Settings.{Settings}
use Rattle.hour_work.specs.Moved.{SaySame}
use Rattle.hour_work.specs.Numbers.{AreNewSums, FitHours, Numbers, patched}
use Rattle.hour_work.specs.Points.{Carried, IsCarryAt}
use Rattle.session.specs.Links.{Ahead, AllSettled, AreCarries, AreFutures, AreKept, Counts, States, StatesLeadAt, Stays, waits}
use Rattle.session.specs.declared.renew.Numbered.{Numbered}

-- the states that are kept at each point, but new ones at the points after the hour `first`
abbrev pub states_with : List Carried → ℕ → List States → List States
states_with carries first fresh = patched (map (λ x. x.pasts) carries) (first + 1) fresh

-- the states at the points after the hour `first`, up to the first one after the hour `last` at which they are those that are kept, or up to the window's end
pub record AreNewPasts (c : Settings) (s : Store) (first last : ℕ) (carries : List Carried) (fresh : List States) : Type 0 where
  pub some : last < first + length fresh
  pub within : first + length fresh ≤ length s.hours
  pub leads : (k : ℕ) → k < length s.hours → StatesLeadAt c s (states_with carries first fresh) k
  pub same : (k : ℕ) (d : Carried) → first + length fresh ≤ k → k < length s.hours → slice_index_or (states_with carries first fresh) k [] ≡ (slice_index_or carries k d).pasts
  pub differ : (k : ℕ) (d : Carried) → last < k → k < first + length fresh → AreSamePasts (slice_index_or (states_with carries first fresh) k []) (slice_index_or carries k d).pasts → ⊥

-- what is kept at the points up to the point `n` is what the store says there
abbrev pub AreCarriesTo : Settings → Store → ℕ → List Carried → Type 0
AreCarriesTo c s n carries = (k : ℕ) (d : Carried) → k ≤ n → IsCarryAt c s k (slice_index_or carries k d)

-- what is kept at the points after the hour `first`, up to the first one after the hour `last` at which nothing changes, or up to the window's end
pub record AreNewCarries (c : Settings) (s : Store) (first last : ℕ) (carries fresh : List Carried) : Type 0 where
  pub some : last < first + length fresh
  pub within : first + length fresh ≤ length s.hours
  pub forth : AreCarries c s (patched carries (first + 1) fresh)
  pub same : (k : ℕ) (d : Carried) → first + length fresh ≤ k → k < length s.hours → slice_index_or (patched carries (first + 1) fresh) k d ≡ slice_index_or carries k d
  pub differ : (k : ℕ) (d : Carried) → last < k → k < first + length fresh → SaySame (slice_index_or (patched carries (first + 1) fresh) k d) (slice_index_or carries k d) → ⊥

-- what is kept at the points up to the hour `last`, from the last one before the hour `first` at which nothing changes, or from the window's start
pub record AreNewFutures (c : Settings) (s : Store) (first last : ℕ) (futures : List Ahead) (from : ℕ) (fresh : List Ahead) : Type 0 where
  pub size : from + length fresh ≡ last + 1
  pub low : from ≤ first
  pub back : AreFutures c s (patched futures from fresh)
  pub same : (k : ℕ) (d : Ahead) → k < from → slice_index_or (patched futures from fresh) (k + 1) d ≡ slice_index_or futures (k + 1) d
  pub differ : (k : ℕ) (d : Ahead) → from < k → k ≤ first → slice_index_or (patched futures from fresh) k d ≡ slice_index_or futures k d → ⊥

-- at the points after the hours from `from` up to `start`, what is new admits the same as what is kept of the states that come up there
abbrev pub AreSameUpTo : List Carried → List Ahead → ℕ → List Ahead → ℕ → Type 0
AreSameUpTo carries futures from fresh start = (k : ℕ) (d : Carried) (e : Ahead) → from ≤ k → k < start → AreSameFor (slice_index_or carries (k + 1) d).pasts (slice_index_or futures (k + 1) e) (slice_index_or (patched futures from fresh) (k + 1) e)

-- the states at the points after the hours before `first`, and which of them can be completed by what is kept and by what is new, are of the same specs
abbrev pub HaveShapes : List Carried → List Ahead → ℕ → List Ahead → ℕ → Type 0
HaveShapes carries futures from fresh first = (k : ℕ) (d : Carried) (e : Ahead) → k < first → (specs : List Spec) × AreBefore specs (slice_index_or carries (k + 1) d).pasts × AreAheadsOf specs (slice_index_or futures (k + 1) e) × AreAheadsOf specs (slice_index_or (patched futures from fresh) (k + 1) e)

-- the numbers of the hours from `from` up to `to`, between what is kept at the points about them
pub record AreNewParts (c : Settings) (s : Store) (carries : List Carried) (futures : List Ahead) (from to : ℕ) (fresh : List Numbers) : Type 0 where
  pub size : from + length fresh ≡ to
  pub counts : (i k : ℕ) (d : Carried) (e : Ahead) (f : Numbers) → i < length fresh → k ≡ from + i → Counts c k (rows_at s k) s.blanks (slice_index_or carries k d) (slice_index_or futures (k + 1) e) (slice_index_or fresh i f)
  pub small : All (FitHours 1) fresh

-- the numbers of each hour, with these from one on in the place of what was there, where they are worked out
abbrev pub put_numbers : List Numbers → ℕ → Option Numbered → List Numbers
put_numbers parts start (Some w) = patched parts start w.parts.items
put_numbers parts start None = parts

-- about the hour, once these stand in the place of what is kept from a point on, the states after it and which of them can be completed by what is kept and by what is new are of the same specs
abbrev pub FitAfter : List Carried → ℕ → List Carried → List Ahead → ℕ → List Ahead → ℕ → Type 0
FitAfter carries first new_carries futures from new_futures k = (d : Carried) (e : Ahead) → (specs : List Spec) × AreBefore specs (slice_index_or (patched carries (first + 1) new_carries) (k + 1) d).pasts × AreAheadsOf specs (slice_index_or futures (k + 1) e) × AreAheadsOf specs (slice_index_or (patched futures from new_futures) (k + 1) e)

-- the hour's numbers didn't wait, the edit of the hours from `first` to `last` left it as it was, the same is kept at the point before it, and what is new at the one after it admits the same as what is kept of the states that come up there
pub record IsUnchanged (first last : ℕ) (same waiting : List Bool) (carries : List Carried) (at : ℕ) (new_carries : List Carried) (futures : List Ahead) (from : ℕ) (new_futures : List Ahead) (k : ℕ) : Type 0 where
  pub settled : waits waiting k ≡ false
  pub stays : Stays first last same k
  pub before : (d : Carried) → slice_index_or (patched carries (at + 1) new_carries) k d ≡ slice_index_or carries k d
  pub after : (d : Carried) (e : Ahead) → AreSameFor (slice_index_or (patched carries (at + 1) new_carries) (k + 1) d).pasts (slice_index_or futures (k + 1) e) (slice_index_or (patched futures from new_futures) (k + 1) e)

-- each hour from `from` on that isn't marked is so
abbrev pub AreMarks : ℕ → List Bool → (ℕ → Type 0) → Type 0
AreMarks from marks Is = (i : ℕ) → i < length marks → waits marks i ≡ false → Is (from + i)

-- whether the numbers of an edit wait
abbrev pub do_wait : Option Numbered → Bool
do_wait (Some w) = false
do_wait None = true

-- those of the hours from `start` up to `end` are these, with the sums that they change, where they don't wait
abbrev pub AreNumbered : List Numbers → ℕ → ℕ → Option Numbered → Type 0
AreNumbered parts start end (Some w) = (start + length w.parts.items ≡ end) × All (FitHours 1) w.parts.items × AreNewSums parts (patched parts start w.parts.items) w.sums
AreNumbered parts start end None = Unit {0}

-- all that is new of an edit: once it stands in the place of what was kept, this is what is kept of the store. Where numbers are worked out, none of their hours waits
pub record IsRenewed (c : Settings) (s : Store) (waiting : List Bool) (carries : List Carried) (first : ℕ) (new_carries : List Carried) (futures : List Ahead) (from : ℕ) (new_futures : List Ahead) (parts : List Numbers) (start : ℕ) (marks : List Bool) (numbers : Option Numbered) : Type 0 where
  pub carry_room : first + 1 + length new_carries ≤ length carries
  pub future_room : from + length new_futures ≤ length futures
  pub room : first + length new_carries ≤ length waiting
  pub part_room : first + length new_carries ≤ length parts
  pub low : from ≤ start
  pub high : start ≤ first
  pub numbered : AreNumbered parts start (first + length new_carries) numbers
  pub marked : start + length marks ≡ first + length new_carries
  pub settled : do_wait numbers ≡ false → AllSettled marks
  pub kept : AreKept c s (patched waiting start marks) (patched carries (first + 1) new_carries) (patched futures from new_futures) (put_numbers parts start numbers)
