-- A try over moves that are cut is the judgement of the rows and the stretches that are left.
use Rattle.std.proofs.Common.{◌≡◌, ap, sym, ◌∙◌, subst, inl, inr, ◌↔◌, ℕ, ◌+◌, ◌<◌, ◌≤◌, pos, Bool, List, [], ◌++◌, length, take, drop, get_or, arith}
use Rattle.std.proofs.lemmas.List.{get_or_default}
use Rattle.sig_base.specs.declared.values.Row.{Row}
use Rattle.colour_machine.specs.Rules.{Rules}
use Rattle.reach.specs.Runs.{State}
use Rattle.span_set.specs.declared.set.Span.{Span}
use Rattle.gap_map.specs.declared.stretch.Stretch.{Stretch}
use Rattle.channel_tables.specs.declared.spec.Spec.{Spec}
use Rattle.channel_path.specs.declared.moves.Move.{Move}
use Rattle.channel_path.specs.Walks.{InOrder, Walk}
use Rattle.gap_map.specs.Stretches.{FollowOn}
use Rattle.board.specs.Courses.{AreCourses}
use Rattle.board.specs.Logs.{no_spec}
use Rattle.board.specs.History.{Track}
use Rattle.board.specs.Moves.{RowsIn, count_before, own}
use Rattle.board.specs.Places.{IsPlace, since, upto}
use Rattle.board.proofs.Cutting.{since_in, upto_in, upto_known}
use Rattle.board.proofs.Ordering.{own_order}
use Rattle.board.proofs.Tracks.{spec_lettered}
use Rattle.decisive.specs.Moves.{KeepsBy, NoneKeeps}
use Rattle.board.proofs.Common.{renumbered}
use Rattle.decisive.specs.declared.judge.Start.{Start}
use Rattle.decisive.specs.declared.judge.Start.TheVariants.{Free, Kept}
use Rattle.decisive.specs.declared.parts.Part.{Part}
use Rattle.decisive.specs.Breaks.{Breaks, PartBreaks, track_of}
use Rattle.decisive.specs.Candidates.{rows_from}
use Rattle.decisive.specs.Cuts.{IsCutAfter, IsCutBefore, IsCutBy, begins_before, stands_before}
use Rattle.decisive.specs.Laws.{rows_to}
use Rattle.decisive.proofs.Numbers.{none_from}
use Rattle.decisive.proofs.Sliced.{cut_after, cut_before, cut_place}

abbrev Leads : Rules → List Move → List Move → Type 0
Leads m xs ys = (s u : State) → Walk m xs s u → Walk m ys s u

none_kept : (m : Rules) (sets : List (List Span)) (xs xs2 : List Move) (K : State → Type 0) (ys ys2 : List Move) → Leads m xs2 xs → Leads m ys2 ys → NoneKeeps m sets xs K ys → NoneKeeps m sets xs2 K ys2
none_kept m sets xs xs2 K ys ys2 one two none v u (s, held, w) k r = none v u (s, held, one s v w) k (two v u r)

breaks_led : (start : Start) (specs : List Spec) (x : ℕ) (p : Part) (xs xs2 ys ys2 : List Move) → Leads (track_of specs p.spec).rules xs2 xs → Leads (track_of specs p.spec).rules ys2 ys → Breaks start specs x p xs ys → Breaks start specs x p xs2 ys2
breaks_led (Free f) specs x p xs xs2 ys ys2 one two = none_from (track_of specs p.spec).rules f xs xs2 (KeepsBy p.keep (pos x)) ys ys2 one two
breaks_led (Kept pasts) specs x p xs xs2 ys ys2 one two = none_kept (track_of specs p.spec).rules _ xs xs2 (KeepsBy p.keep (pos x)) ys ys2 one two

-- ---- the cuts that the code makes

abbrev TakesFirst : (Move → Bool) → List Move → List Move → Type 0
TakesFirst test ms first = (xs ys : List Move) → IsCutBy test ms xs ys → first ≡ xs

abbrev TakesRest : (Move → Bool) → List Move → List Move → Type 0
TakesRest test ms rest = (xs ys : List Move) → IsCutBy test ms xs ys → rest ≡ ys

abbrev TakesBoth : (Move → Bool) → List Move → List Move → List Move → Type 0
TakesBoth test ms first rest = (xs ys : List Move) → IsCutBy test ms xs ys → (first ≡ xs) × (rest ≡ ys)

pub course_is : (specs : List Spec) (rows : List Row) (ss : List Stretch) (courses : List (List Move)) (i : ℕ) (d ms : List Move) → AreCourses specs rows ss courses → i < length specs → ms ≡ get_or courses i d → ms ≡ own (track_of specs i) 0 rows ss
course_is specs rows ss courses i d ms are lt e = let size = are.0 in e ∙ (get_or_default courses i d [] (omega arith) ∙ are.1 i no_spec lt)

pub up_to : (k : Track) (f t w : ℕ) (rows : List Row) (ss : List Stretch) (ms first : List Move) → FollowOn f t ss → RowsIn f t rows → f ≤ w → IsCutAfter t ss w → ms ≡ own k 0 rows ss → TakesFirst (begins_before (w + 1)) ms first → first ≡ own k 0 (rows_to w rows) (upto w ss)
up_to k f t w rows ss ms first follow in_rows le at e takes =
    let (ys, cut) = cut_after k f t 0 rows ss follow in_rows w le at in
    takes (own k 0 (rows_to w rows) (upto w ss)) ys (subst (λ (zs : List Move). IsCutBy (begins_before (w + 1)) zs (own k 0 (rows_to w rows) (upto w ss)) ys) (sym e) cut)

pub on_from : (k : Track) (f t u : ℕ) (rows : List Row) (ss : List Stretch) (ms rest : List Move) → FollowOn f t ss → RowsIn f t rows → IsCutBefore f ss u → u < t → ms ≡ own k 0 rows ss → TakesRest (begins_before u) ms rest → rest ≡ own k (count_before u rows) (rows_from u rows) (since u ss)
on_from k f t u rows ss ms rest follow in_rows at lt e takes =
    let c = count_before u rows in
    let (xs, cut) = cut_before k f t 0 rows ss follow in_rows u at lt in
    let number : 0 + c ≡ c = omega arith in
    takes xs (own k (0 + c) (rows_from u rows) (since u ss)) (subst (λ (zs : List Move). IsCutBy (begins_before u) zs xs (own k (0 + c) (rows_from u rows) (since u ss))) (sym e) cut) ∙ ap (λ (n : ℕ). own k n (rows_from u rows) (since u ss)) number

pub before_upto : (f t u v : ℕ) (ss : List Stretch) → FollowOn f t ss → IsCutBefore f ss u → u ≤ v → v < t → IsCutBefore f (upto v ss) u
before_upto f t u v ss follow (low, at) le lt = (low, elim at [ inl known ↦ inl (sym (upto_known f t v u ss follow (omega arith) lt low (omega arith)) ∙ known) | inr first ↦ inr first ])

module _ (specs : List Spec) (p : Part) (f t x n i m : ℕ) (rows : List Row) (ss : List Stretch) (place : IsPlace f t rows ss x n) (e : i + n ≡ m) where
  abbrev k : Track
  k = track_of specs p.spec

  abbrev to : List Move
  to = own k i (take n rows) (upto x ss)

  abbrev on : List Move
  on = own k m (drop n rows) (since x ss)

  cut_here : IsCutBy (stands_before m x) (own k i rows ss) to on
  cut_here = subst (λ (q : ℕ). IsCutBy (stands_before q x) (own k i rows ss) to (own k q (drop n rows) (since x ss))) e (cut_place k f t x n i rows ss place)

  order_here : InOrder k.rules f (to ++ on)
  order_here =
      let order = own_order k f t i rows ss (spec_lettered (get_or specs p.spec no_spec)) place.stretches place.rows_in in
      subst (λ (ms : List Move). InOrder k.rules f ms) cut_here.whole order.0

  breaks_here : (start : Start) → Breaks start specs x p to on ↔ PartBreaks start specs x rows ss n p
  breaks_here start =
      let first = upto_in f t x ss place.stretches place.first place.last in
      let rest = since_in f t x ss place.stretches place.first place.last in
      let a = λ (i j : ℕ) (s u : State). renumbered k f (x + 1) i j (take n rows) (upto x ss) s u first place.before in
      let b = λ (i j : ℕ) (s u : State). renumbered k x t i j (drop n rows) (since x ss) s u rest place.after in (
        breaks_led start specs x p to (own k 0 (take n rows) (upto x ss)) on (own k 0 (drop n rows) (since x ss)) (a 0 i) (b 0 m),
        breaks_led start specs x p (own k 0 (take n rows) (upto x ss)) to (own k 0 (drop n rows) (since x ss)) on (a i 0) (b m 0),
      )

  pub tried : (ms first rest : List Move) → ms ≡ own k i rows ss → TakesBoth (stands_before m x) ms first rest → InOrder k.rules f (first ++ rest) × ((start : Start) → Breaks start specs x p first rest ↔ PartBreaks start specs x rows ss n p)
  tried ms first rest is takes =
      let (e1, e2) = takes to on (subst (λ (zs : List Move). IsCutBy (stands_before m x) zs to on) (sym is) cut_here) in
      rw (e1, e2) (order_here, breaks_here)
