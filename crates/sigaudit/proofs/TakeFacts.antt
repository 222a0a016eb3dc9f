-- How a line's turn follows from what it wrote.
use Rattle.std.proofs.Common.{◌≡◌, ◌≤◌, ℕ, List, Bool, Option, Result, Ok, Err, refl, ap, subst, inl, inr, arith}
use Rattle.outside.specs.Sink.{Taken}
use Rattle.outside.specs.Shelf.{Counts}
use Rattle.outside.proofs.PutsFacts.{appends-nothing}
use Rattle.hour_store.specs.Store.{Store}
use Rattle.ring_config.specs.Settings.{Settings}
use Rattle.report_text.specs.declared.refusal.Refusal.{Refusal}
use Rattle.sigaudit.specs.Turns.{Turn, refuses}
use Rattle.sigaudit.specs.Run.{World, world, BeginsTurn, IsCaused, NeverFall, Takes, TakesBy, TakesPut}
use Rattle.sigaudit.specs.declared.status.Stopped.{Stopped}
use Rattle.sigaudit.proofs.RunFacts.{still}
use Rattle.sigaudit.specs.declared.status.Stopped.TheVariants as stopped

-- nothing was done of a line
pub by_nothing : (Is : Turn → Type 0) (w : Taken) (s : Store) → TakesBy Is w w s (Err stopped.Memory)
by_nothing Is w s = (refl, inl (appends-nothing w.written))

-- a line whose turn is known
pub by_put : (Is : Turn → Type 0) (t : Turn) (w w' : Taken) (s : Store) (r : Result Bool Stopped) → Is t → TakesPut t w w' s r → TakesBy Is w w' s r
by_put Is t w w' s (Ok b) i h = (t, i, h.0, h.1, h.2)
by_put Is t w w' s (Err stopped.Fault) i h = (t, i, h)
by_put Is t w w' s (Err stopped.Memory) i h = (ap (λ (x : Taken). x.faults) h, inl (still w w' h))

-- a line that is refused, told in the words of the configuration before it
pub by_refusal : (Is : Turn → Type 0) (c c' : Settings) (n : ℕ) (refusal : Refusal) (s : Store) (w w' : Taken) (r : Result Bool Stopped)
    → c' ≡ c → Is (refuses c n refusal s) → ((x : Store) → TakesPut (refuses c' n refusal x) w w' x r) → TakesBy Is w w' s r
by_refusal Is c c' n refusal s w w' r ec i h =
    let h' = rw ec at (h s) in
    by_put Is (refuses c n refusal s) w w' s r i h'

-- a line of a draft whose numbers were worked out first, told in the words of the draft before it
pub by_settled : (Is : Settings → Store → Turn → Type 0) (c c' : Settings) (s s' : Store) (w w' : Taken) (r : Result Bool Stopped)
    → c' ≡ c → s' ≡ s → TakesBy (Is c' s') w w' s' r → TakesBy (Is c s) w w' s' r
by_settled Is c c' s s' w w' r ec es h =
    subst (λ (k : Settings). TakesBy (Is k s) w w' s' r) ec (subst (λ (x : Store). TakesBy (Is c' x) w w' s' r) es h)

begins_as : (Is Is' : Turn → Type 0) (w w' : Option (List ℕ)) → ((t : Turn) → Is t → Is' t) → BeginsTurn Is w w' → BeginsTurn Is' w w'
begins_as Is Is' w w' k (inl h) = inl h
begins_as Is Is' w w' k (inr h) = inr (h.0, k h.0 h.1, h.2)

pub takes_as : (Is Is' : Turn → Type 0) (old new : World) (s : Store) (r : Result Bool Stopped) → ((t : Turn) → Is t → Is' t) → Takes Is old new s r → Takes Is' old new s r
takes_as Is Is' old new s (Ok b) k h = (h.0, k h.0 h.1, h.2, h.3, h.4, h.5)
takes_as Is Is' old new s (Err stopped.Fault) k h = (h.0, begins_as Is Is' old.written new.written k h.1)
takes_as Is Is' old new s (Err stopped.Memory) k h = begins_as Is Is' old.written new.written k h

-- a line that used the sink alone, while no fetch failed
pub takes_of_by : (Is : Turn → Type 0) (k k' : Counts) (w w' : Taken) (s : Store) (r : Result Bool Stopped)
    → k'.failed ≡ k.failed → TakesBy Is w w' s r → Takes Is (world k w) (world k' w') s r
takes_of_by Is k k' w w' s (Ok b) e h = (h.0, h.1, h.2.wrote, (e, h.2.same), h.3, h.4)
takes_of_by Is k k' w w' s (Err stopped.Fault) e h = (inr h.2.rose, inr (h.0, h.1, h.2.front))
takes_of_by Is k k' w w' s (Err stopped.Memory) e h = h.1

pub caused_of_by : (Is : Turn → Type 0) (k k' : Counts) (w w' : Taken) (s : Store) (r : Result Bool Stopped)
    → k'.failed ≡ k.failed → TakesBy Is w w' s r → IsCaused (world k w) (world k' w') r
caused_of_by Is k k' w w' s (Ok b) e h = (e, h.2.same)
caused_of_by Is k k' w w' s (Err stopped.Fault) e h = inr h.2.rose
caused_of_by Is k k' w w' s (Err stopped.Memory) e h = tt

pub never_of_by : (Is : Turn → Type 0) (k k' : Counts) (w w' : Taken) (s : Store) (r : Result Bool Stopped)
    → k.missing ≤ k'.missing → k.failed ≤ k'.failed → k.long ≤ k'.long → TakesBy Is w w' s r → NeverFall (world k w) (world k' w')
never_of_by Is k k' w w' s (Ok b) a b' c h = record { missing = a; failed = b'; long = c; faults = let e = h.2.same in omega arith }
never_of_by Is k k' w w' s (Err stopped.Fault) a b' c h = record { missing = a; failed = b'; long = c; faults = h.2.grew }
never_of_by Is k k' w w' s (Err stopped.Memory) a b' c h = record { missing = a; failed = b'; long = c; faults = let e = h.0 in omega arith }

-- a call that changed nothing
pub never_still : (k : Counts) (w : Taken) → NeverFall (world k w) (world k w)
never_still k w = record { missing = omega arith; failed = omega arith; long = omega arith; faults = omega arith }

pub never_on : (a b c : World) → NeverFall a b → NeverFall b c → NeverFall a c
never_on a b c h k = record {
  missing = let x = h.missing in let y = k.missing in omega arith;
  failed = let x = h.failed in let y = k.failed in omega arith;
  long = let x = h.long in let y = k.long in omega arith;
  faults = let x = h.faults in let y = k.faults in omega arith;
}
