-- How the lines of a script follow one another.
use Rattle.std.proofs.Common.{◌≡◌, ◌<◌, ◌++◌, ◌||◌, ◌+◌, ◌∙◌, ℕ, List, [], ◌∷◌, length, take, Bool, true, false, Ok, Err, refl, ap, inl, inr, arith, append_assoc, append-nil}
use Rattle.std.proofs.Math.Seq.{take-append_seam}
use Rattle.std.proofs.lemmas.List.{length-append}
use Rattle.std.specs.Io.KnownBytes.{Appends}
use Rattle.outside.specs.Shelf.{Files}
use Rattle.outside.proofs.PutsFacts.{appends-nothing, appends-then}
use Rattle.hour_store.specs.Store.{Store}
use Rattle.ring_config.specs.Settings.{Settings}
use Rattle.decisive.proofs.Decided.{or_false}
use Rattle.script_lines.specs.Words.{said}
use Rattle.script_lines.specs.Lines.{first_line, after_line, lines_of}
use Rattle.script_lines.proofs.LineLaws.{lines_step}
use Rattle.sigaudit.specs.Turns.{Turn}
use Rattle.sigaudit.specs.Script.{Told, followed, nothing_told, IsTold, IsTurn}
use Rattle.sigaudit.specs.Run.{World, BeginsTurn, IsCaused, Takes, TellsAll, TellsFirst}
use Rattle.sigaudit.specs.declared.status.Stopped.{Stopped}
use Rattle.sigaudit.specs.declared.status.Stopped.TheVariants as stopped

or_assoc : (a b c : Bool) → ((a || b) || c) ≡ (a || (b || c))
or_assoc true b c = refl
or_assoc false b c = refl

-- what is told, and then a line
abbrev with_turn : Told → Turn → Told
with_turn told t = record { text = told.text ++ t.text; store = t.store; refused = told.refused || t.refused }

-- one more line at the end
pub told_more : (files : Files) (c : Settings) (n m : ℕ) (ls : List (List ℕ)) (l : List ℕ) (s : Store) (told : Told) (t : Turn) → m ≡ n + length ls
    → IsTold files c n ls s told → IsTurn files c m (said c.window l) told.store t → IsTold files c n (ls ++ l ∷ []) s (with_turn told t)
unfolding IsTold
told_more files c n m [] l s told t e h k =
    let same : m ≡ n = omega arith in
    let k' = rw (same, h) at k in
    let last : with_turn told t ≡ followed t (nothing_told t.store) = rw (h, append-nil, or_false) refl in
    (t, nothing_told t.store, k', refl, last)
told_more files c n m (x ∷ xs) l s told t e h k =
    let told_store : told.store ≡ h.1.store = ap (λ (y : Told). y.store) h.4 in
    let k' = rw told_store at k in
    let rest = told_more files c (n + 1) m xs l h.0.store h.1 t (omega arith) h.3 k' in
    let all : with_turn told t ≡ followed h.0 (with_turn h.1 t) = rw (h.4, append_assoc, or_assoc) refl in
    (h.0, with_turn h.1 t, h.2, rest, all)

pub told_nothing : (files : Files) (c : Settings) (n : ℕ) (s : Store) → IsTold files c n [] s (nothing_told s)
unfolding IsTold
told_nothing files c n s = refl

-- the lines before line n were taken, and these are left
pub record IsOn (files : Files) (c : Settings) (lines : List (List ℕ)) (s0 : Store) (old mid : World) (n : ℕ) (rest : List (List ℕ)) (s : Store) (refused : Bool) : Type 0 where
  pub done : List (List ℕ)
  pub told : Told
  pub all : lines ≡ done ++ rest
  pub number : n ≡ 1 + length done
  pub is_told : IsTold files c 1 done s0 told
  pub wrote : Appends old.written mid.written told.text
  pub same : mid.faults ≡ old.faults
  pub store : s ≡ told.store
  pub answer : refused ≡ told.refused

pub is_on_start : (files : Files) (c : Settings) (lines : List (List ℕ)) (s : Store) (old : World) (n : ℕ) → n ≡ 1 → IsOn files c lines s old old n lines s false
is_on_start files c lines s old n e = record {
  done = [];
  told = nothing_told s;
  all = refl;
  number = e;
  is_told = told_nothing files c 1 s;
  wrote = appends-nothing old.written;
  same = refl;
  store = refl;
  answer = refl;
}

pub lines_next : (text : List ℕ) → 0 < length text → lines_of text ≡ first_line text ∷ lines_of (after_line text)
lines_next [] h = absurd (omega arith)
lines_next (b ∷ bs) h = lines_step b bs

pub lines_over : (text : List ℕ) → length text ≡ 0 → lines_of text ≡ []
unfolding lines_of
lines_over [] h = refl
lines_over (b ∷ bs) h = absurd (omega arith)

-- one more line was taken whole
pub line_more : (files : Files) (c : Settings) (lines : List (List ℕ)) (s0 : Store) (n m : ℕ) (text line after : List ℕ) (old mid new : World) (s s' : Store) (refused r : Bool)
    → 0 < length text → line ≡ first_line text → after ≡ after_line text → m ≡ n + 1
    → IsOn files c lines s0 old mid n (lines_of text) s refused
    → Takes (IsTurn files c n (said c.window line) s) mid new s' (Ok r)
    → IsOn files c lines s0 old new m (lines_of after) s' (refused || r)
line_more files c lines s0 n m text line after old mid new s s' refused r some l a em on k =
    let turn = rw on.store at k.1 in
    record {
      done = on.done ++ line ∷ [];
      told = with_turn on.told k.0;
      all = on.all ∙ (rw (lines_next text some, ← l, ← a, append_assoc) refl);
      number = let e = on.number in rw length-append (omega arith);
      is_told = told_more files c 1 n on.done line s0 on.told k.0 on.number on.is_told turn;
      wrote = appends-then old.written mid.written new.written on.told.text k.0.text on.wrote k.2;
      same = k.3.1 ∙ on.same;
      store = k.4;
      answer = rw (on.answer, k.5) refl;
    }

-- so many of the first lines are those that were taken
front_lines : (lines done rest : List (List ℕ)) → lines ≡ done ++ rest → take (length done) lines ≡ done
front_lines lines done rest e = rw e (take-append_seam done rest)

-- the run was cut off in a line
cut_first : (files : Files) (c : Settings) (lines : List (List ℕ)) (s0 : Store) (n : ℕ) (text line : List ℕ) (old mid new : World) (s : Store) (refused : Bool)
    → 0 < length text → line ≡ first_line text → IsOn files c lines s0 old mid n (lines_of text) s refused
    → BeginsTurn (IsTurn files c n (said c.window line) s) mid.written new.written → TellsFirst files c lines s0 old new
cut_first files c lines s0 n text line old mid new s refused some l on (inl k) =
    let first = front_lines lines on.done (lines_of text) on.all in
    (length on.done, on.told, rw first on.is_told, (on.told.text, [], rw append-nil refl, rw append-nil at (appends-then old.written mid.written new.written on.told.text [] on.wrote k)))
cut_first files c lines s0 n text line old mid new s refused some l on (inr k) =
    let turn = rw on.store at k.1 in
    let all : lines ≡ (on.done ++ line ∷ []) ++ lines_of (after_line text) = on.all ∙ (rw (lines_next text some, ← l, append_assoc) refl) in
    let first = front_lines lines (on.done ++ line ∷ []) (lines_of (after_line text)) all in (
      length (on.done ++ line ∷ []),
      with_turn on.told k.0,
      rw first (told_more files c 1 n on.done line s0 on.told k.0 on.number on.is_told turn),
      (on.told.text ++ k.2.0, k.2.1, rw (k.2.2, append_assoc) refl, appends-then old.written mid.written new.written on.told.text k.2.0 on.wrote k.2.3),
    )

pub line_cut : (files : Files) (c : Settings) (lines : List (List ℕ)) (s0 : Store) (n : ℕ) (text line : List ℕ) (old mid new : World) (s s' : Store) (refused : Bool) (e : Stopped)
    → 0 < length text → line ≡ first_line text → mid.counts.failed ≡ old.counts.failed
    → IsOn files c lines s0 old mid n (lines_of text) s refused
    → Takes (IsTurn files c n (said c.window line) s) mid new s' (Err e) → TellsAll files c lines s0 s' old new (Err e)
line_cut files c lines s0 n text line old mid new s s' refused stopped.Fault some l ef on k =
    (rw (← ef, ← on.same) k.0, cut_first files c lines s0 n text line old mid new s refused some l on k.1)
line_cut files c lines s0 n text line old mid new s s' refused stopped.Memory some l ef on k =
    cut_first files c lines s0 n text line old mid new s refused some l on k

pub cut_caused : (old mid new : World) (e : Stopped) → mid.counts.failed ≡ old.counts.failed → mid.faults ≡ old.faults → IsCaused {T = Bool} mid new (Err e) → IsCaused {T = Bool} old new (Err e)
cut_caused old mid new stopped.Fault ef eg h = rw (← ef, ← eg) h
cut_caused old mid new stopped.Memory ef eg h = tt

-- no line is left
pub lines_done : (files : Files) (c : Settings) (lines : List (List ℕ)) (s0 : Store) (n : ℕ) (text : List ℕ) (old new : World) (s : Store) (refused : Bool)
    → length text ≡ 0 → new.counts.failed ≡ old.counts.failed → IsOn files c lines s0 old new n (lines_of text) s refused → TellsAll files c lines s0 s old new (Ok refused)
lines_done files c lines s0 n text old new s refused none ef on =
    let all : lines ≡ on.done = on.all ∙ (rw (lines_over text none, append-nil) refl) in
    (on.told, rw all on.is_told, on.wrote, (ef, on.same), on.answer, on.store)
