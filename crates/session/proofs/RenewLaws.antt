-- The numbers between what is kept, and all that is new in its place.
use Rattle.std.proofs.Common.{◌≡◌, ◌∙◌, inl, inr, ℕ, zero, suc, ◌+◌, ◌*◌, ◌-◌, ◌<◌, ◌≤◌, ◌≢◌, ◌⊎◌, Bool, false, not, ◌&&◌, is_some, List, [], ◌∷◌, ◌++◌, length, length-append, length-set, set, get_or, get_or-set_other, option_map, Option, Some, None, refl, sym, ap, subst, arith}
use Rattle.std.specs.List.{All}
use Rattle.std.proofs.lemmas.Bool.{cases_lt}
use Rattle.std.proofs.lemmas.List.{get_or-append_right, get_or_append_left}
use Rattle.std.proofs.lemmas.List.Elements.{All-append}
use Rattle.std.proofs.Math.Seq.{get_or-append_seam}
use Rattle.sig_base.specs.HourRows.{Shown}
use Rattle.sig_base.specs.declared.values.Row.{Row}
use Rattle.hour_store.specs.Store.{IsStore, Store, rows_at, with_hour}
use Rattle.gap_map.specs.declared.stretch.Stretch.{Stretch}
use Rattle.gap_map.specs.Stretches.{known_in}
use Rattle.gap_map.proofs.Cutting.{cut_same}
use Rattle.board.specs.Hours.{AreClampedPasts, AreHourAheads, IsHourStop}
use Rattle.board.specs.Logs.{end_tenth, first_tenth}
use Rattle.board.specs.Places.{AreAheadsOf, AreSameFor}
use Rattle.ring_config.specs.Settings.{Settings}
use Rattle.signal_log.specs.Log.{log_of}
use Rattle.signal_log.specs.Over.{IsCutOf}
use Rattle.signal_log.specs.Points.{HasHour, rows_or_none}
use Rattle.signal_log.proofs.Suiting.{same_count}
use Rattle.hour_work.specs.Numbers.{AreNewSums, FitHours, Numbers, patched}
use Rattle.hour_work.specs.Points.{Carried, ComesBack, GoesOver, IsFutureAt}
use Rattle.session.specs.Links.{Ahead, AllSettled, AreKept, AreKeptAt, AreKeptBut, BacksAt, Counts, CountsAt, LeadsAt, waits}
use Rattle.session.specs.declared.renew.Numbered.{Numbered}
use Rattle.session.specs.declared.hours.Put.{Put}
use Rattle.session.specs.declared.hours.Put.TheVariants as code
use Rattle.session.specs.Puts.{AreSameAt, AreSameBut, SameHour, put_into}
use Rattle.session.specs.Renewed.{AreMarks, AreNewCarries, AreNewFutures, AreNewParts, AreSameUpTo, FitAfter, HaveShapes, IsRenewed, IsUnchanged}
use Rattle.session.proofs.KeptLaws.{carry_kept, future_kept}
use Rattle.session.proofs.StatesLaws.{carries_to}
use Rattle.hour_work.proofs.PatchLaws.{length-patched, patched-at, patched-below, patched-first, patched-past}

-- ---- the numbers

pub no_parts : (c : Settings) (s : Store) (carries : List Carried) (futures : List Ahead) (from : ℕ) (ps : List Numbers) → ps ≡ [] → AreNewParts c s carries futures from from ps
no_parts c s carries futures from ps e = rw e (record { size = omega arith; counts = λ i k d x f lt at. absurd (omega arith); small = λ k d lt. absurd (omega arith) })

one_small : (p : Numbers) → FitHours 1 p → All (FitHours 1) (p ∷ [])
one_small p f zero d lt = f
one_small p f (suc i) d lt = absurd (omega arith)

pub parts_more : (c : Settings) (s : Store) (carries : List Carried) (futures : List Ahead) (from hour : ℕ) (ps items : List Numbers) (before : Carried) (after : Ahead) (p : Numbers) → AreNewParts c s carries futures from hour ps → ((d : Carried) → before ≡ get_or carries hour d) → ((d : Ahead) → after ≡ get_or futures (hour + 1) d)
    → Counts c hour (rows_at s hour) s.blanks before after p → FitHours 1 p → items ≡ ps ++ p ∷ [] → AreNewParts c s carries futures from (hour + 1) items
parts_more c s carries futures from hour ps items before after p are b a is fit e =
    let size = are.size in
    rw e (record {
      size = rw length-append (omega arith);
      counts = λ i k d x f lt at.
          let l : i < length ps + 1 = rw length-append at lt in
          elim (cases_lt i (length ps)) [
            | inl below ↦ subst (λ (v : Numbers). Counts c k (rows_at s k) s.blanks (get_or carries k d) (get_or futures (k + 1) x) v) (sym (get_or_append_left ps (p ∷ []) f i below)) (are.counts i k d x f below at)
            | inr last ↦
                let q : i ≡ length ps = omega arith in
                let here : hour ≡ k = omega arith in
                let v : get_or (ps ++ p ∷ []) i f ≡ p = ap (λ (j : ℕ). get_or (ps ++ p ∷ []) j f) q ∙ get_or-append_seam ps p [] f in
                let one : Counts c hour (rows_at s hour) s.blanks (get_or carries hour d) (get_or futures (hour + 1) x) p = subst (λ (w : Ahead). Counts c hour (rows_at s hour) s.blanks (get_or carries hour d) w p) (a x) (subst (λ (w : Carried). Counts c hour (rows_at s hour) s.blanks w after p) (b d) is) in
                subst (λ (w : Numbers). Counts c k (rows_at s k) s.blanks (get_or carries k d) (get_or futures (k + 1) x) w) (sym v) (subst (λ (j : ℕ). Counts c j (rows_at s j) s.blanks (get_or carries j d) (get_or futures (j + 1) x) p) here one)
          ];
      small = All-append (FitHours 1) ps (p ∷ []) are.small (one_small p fit);
    })

-- the same between lists that have the same at the points before these hours
pub parts_same : (c : Settings) (s : Store) (xs xs2 : List Carried) (futures : List Ahead) (from to : ℕ) (ps : List Numbers) → ((k : ℕ) (d : Carried) → k < to → get_or xs2 k d ≡ get_or xs k d) → AreNewParts c s xs futures from to ps → AreNewParts c s xs2 futures from to ps
parts_same c s xs xs2 futures from to ps same are =
    let size = are.size in
    record {
      size = size;
      counts = λ i k d x f lt at. subst (λ (v : Carried). Counts c k (rows_at s k) s.blanks v (get_or futures (k + 1) x) (get_or ps i f)) (sym (same k d (omega arith))) (are.counts i k d x f lt at);
      small = are.small;
    }

-- the numbers of the hours up to `at`, and of those from there on
pub parts_join : (c : Settings) (s : Store) (carries : List Carried) (futures : List Ahead) (from at to : ℕ) (ps qs items : List Numbers) → items ≡ ps ++ qs → AreNewParts c s carries futures from at ps → AreNewParts c s carries futures at to qs → AreNewParts c s carries futures from to items
parts_join c s carries futures from at to ps qs items e are more =
    let size = are.size in
    let size2 = more.size in
    rw e (record {
      size = rw length-append (omega arith);
      counts = λ i k d x f lt here.
          let l : i < length ps + length qs = rw length-append at lt in
          elim (cases_lt i (length ps)) [
            | inl below ↦ subst (λ (v : Numbers). Counts c k (rows_at s k) s.blanks (get_or carries k d) (get_or futures (k + 1) x) v) (sym (get_or_append_left ps qs f i below)) (are.counts i k d x f below here)
            | inr past ↦
                let v : get_or (ps ++ qs) i f ≡ get_or qs (i - length ps) f = get_or-append_right ps qs (length ps) i f refl past in
                subst (λ (w : Numbers). Counts c k (rows_at s k) s.blanks (get_or carries k d) (get_or futures (k + 1) x) w) (sym v) (more.counts (i - length ps) k d x f (omega arith) (omega arith))
          ];
      small = All-append (FitHours 1) ps qs are.small more.small;
    })

-- ---- all that is new

-- the same of three lists
counts_same : (c : Settings) (s : Store) (xs xs2 : List Carried) (ys ys2 : List Ahead) (ps ps2 : List Numbers) (k : ℕ) → ((d : Carried) → get_or xs2 k d ≡ get_or xs k d) → ((d : Ahead) → get_or ys2 (k + 1) d ≡ get_or ys (k + 1) d) → ((d : Numbers) → get_or ps2 k d ≡ get_or ps k d) → CountsAt c s xs ys ps k → CountsAt c s xs2 ys2 ps2 k
counts_same c s xs xs2 ys ys2 ps ps2 k a b n p d x f =
    subst (λ (v : Numbers). Counts c k (rows_at s k) s.blanks (get_or xs2 k d) (get_or ys2 (k + 1) x) v) (sym (n f))
    (subst (λ (v : Ahead). Counts c k (rows_at s k) s.blanks (get_or xs2 k d) v (get_or ps k f)) (sym (b x))
    (subst (λ (v : Carried). Counts c k (rows_at s k) s.blanks v (get_or ys (k + 1) x) (get_or ps k f)) (sym (a d)) (p d x f)))

-- the numbers of an hour stay where what is new after it admits the same of the states that come up
counts_suit : (c : Settings) (s : Store) (xs : List Carried) (ys new : List Ahead) (ps : List Numbers) (k : ℕ) → LeadsAt c s xs k → ((e : Ahead) → AreAheadsOf c.specs (get_or ys (k + 1) e)) → ((d : Carried) (e : Ahead) → AreSameFor (get_or xs (k + 1) d).pasts (get_or ys (k + 1) e) (get_or new (k + 1) e)) → CountsAt c s xs ys ps k → CountsAt c s xs new ps k
counts_suit c s xs ys new ps k leads shape same p d e f r b =
    let carry = (leads d).stays r b.has_hour b.is_before in
    let old = get_or ys (k + 1) e in
    let fresh = get_or new (k + 1) e in
    let pasts = (get_or xs (k + 1) d).pasts in
    let width = (shape e).0 in
    let width2 = b.is_after.shape.0 in
    let back : AreSameFor pasts fresh old = λ i lt v u h colour le. (let both = same d e i (omega arith) v u h colour le in (both.1, both.0)) in
    p d e f r (record { has_hour = b.has_hour; is_before = b.is_before; is_after = same_count (log_of c.specs r) (k + 1) pasts fresh old carry.pasts back (shape e) b.is_after; history = b.history })

-- these numbers of all hours, which are those that were kept but for the hours from `start` up to `to`
pub kept_by : (c : Settings) (s : Store) (first last : ℕ) (waiting marked : List Bool) (carries new_carries : List Carried) (futures : List Ahead) (from start to : ℕ) (new_futures : List Ahead) (parts all : List Numbers) → to ≡ first + length new_carries → from ≤ start → start ≤ first
    → AreKeptBut c s first last waiting carries futures parts → AreNewCarries c s first last carries new_carries → AreNewFutures c s first last futures from new_futures → AreSameUpTo carries futures from new_futures start → length marked ≡ length waiting → ((k : ℕ) → (k < start) ⊎ (to ≤ k) → waits marked k ≡ waits waiting k)
    → length all ≡ length parts → ((k : ℕ) (d : Numbers) → (k < start) ⊎ (to ≤ k) → get_or all k d ≡ get_or parts k d)
    → ((k : ℕ) → start ≤ k → k < to → waits marked k ≡ false → CountsAt c s (patched carries (first + 1) new_carries) (patched futures from new_futures) all k)
    → AreKept c s marked (patched carries (first + 1) new_carries) (patched futures from new_futures) all
kept_by c s first last waiting marked carries new_carries futures from start to new_futures parts all te after_from before_first but x y stays same_room outside same_size stay fresh =
    let within = x.within in
    let some = x.some in
    let low = y.low in
    let nf = but.back.size in
    let m = y.size in
    let last_in = but.within in
    let order = but.order in
    let new_xs = patched carries (first + 1) new_carries in
    let new_ys = patched futures from new_futures in
    record {
      forth = x.forth;
      back = y.back;
      size = same_size ∙ but.size;
      room = same_room ∙ but.room;
      counts = λ k lt wait. elim (cases_lt k from) [
        | inl below ↦ counts_same c s carries new_xs futures new_ys parts all k
            (λ d. let nc = but.forth.size in patched-below carries (first + 1) new_carries k d (omega arith) (omega arith))
            (λ d. y.same k d below)
            (λ d. stay k d (inl (omega arith)))
            (but.counts k lt (inl (omega arith)) (sym (outside k (inl (omega arith))) ∙ wait))
        | inr above ↦ elim (cases_lt k start) [
          | inl before ↦ counts_same c s carries new_xs new_ys new_ys parts all k
              (λ d. let nc = but.forth.size in patched-below carries (first + 1) new_carries k d (omega arith) (omega arith))
              (λ d. refl)
              (λ d. stay k d (inl before))
              (counts_suit c s carries futures new_ys parts k (but.forth.leads k lt (inl (omega arith))) (λ e. but.shapes (k + 1) e (omega arith)) (λ d e. stays k d e above before) (but.counts k lt (inl (omega arith)) (sym (outside k (inl before)) ∙ wait)))
          | inr from_start ↦ elim (cases_lt k to) [
            | inl in_it ↦ fresh k from_start in_it wait
            | inr past ↦ counts_same c s carries new_xs futures new_ys parts all k
                (λ d. x.same k d (omega arith) lt)
                (λ d. patched-past futures from new_futures (k + 1) d (omega arith) (omega arith))
                (λ d. stay k d (inr past))
                (but.counts k lt (inr (omega arith)) (sym (outside k (inr past)) ∙ wait))
          ]
        ]
      ];
    }

module _ (c : Settings) (s : Store) (first last : ℕ) (waiting : List Bool) (carries new_carries : List Carried) (futures : List Ahead) (from start : ℕ) (new_futures : List Ahead) (parts : List Numbers) (after_from : from ≤ start) (before_first : start ≤ first)
    (but : AreKeptBut c s first last waiting carries futures parts) (x : AreNewCarries c s first last carries new_carries) (y : AreNewFutures c s first last futures from new_futures) (stays : AreSameUpTo carries futures from new_futures start) where
  -- with the numbers of the hours that change
  pub renewed : (w : Numbered) (marks : List Bool) → length marks ≡ length w.parts.items → AllSettled marks → AreNewParts c s (patched carries (first + 1) new_carries) (patched futures from new_futures) start (first + length new_carries) w.parts.items → AreNewSums parts (patched parts start w.parts.items) w.sums
      → IsRenewed c s waiting carries first new_carries futures from new_futures parts start marks (Some w)
  renewed w marks count none z new =
      let within = x.within in
      let nc = but.forth.size in
      let nf = but.back.size in
      let n = but.size in
      let nw = but.room in
      let m = y.size in
      let size = z.size in
      let last_in = but.within in
      let room : start + length w.parts.items ≤ length parts = omega arith in
      record {
        carry_room = omega arith;
        future_room = omega arith;
        room = omega arith;
        part_room = omega arith;
        low = after_from;
        high = before_first;
        numbered = (size, z.small, new);
        marked = omega arith;
        settled = λ e. none;
        kept = kept_by c s first last waiting (patched waiting start marks) carries new_carries futures from start (first + length new_carries) new_futures parts (patched parts start w.parts.items) refl after_from before_first but x y stays
            (length-patched waiting start marks (omega arith))
            (λ k out. elim out [
              | inl below ↦ patched-below waiting start marks k false (omega arith) below
              | inr past ↦ patched-past waiting start marks k false (omega arith) (omega arith)
            ])
            (length-patched parts start w.parts.items room)
            (λ k d out. elim out [
              | inl below ↦ patched-below parts start w.parts.items k d (omega arith) below
              | inr past ↦ patched-past parts start w.parts.items k d (omega arith) (omega arith)
            ])
            (λ k low high wait d e f.
            let i : k ≡ start + (k - start) = omega arith in
            let l : k - start < length w.parts.items = omega arith in
            subst (λ (v : Numbers). Counts c k (rows_at s k) s.blanks (get_or (patched carries (first + 1) new_carries) k d) (get_or (patched futures from new_futures) (k + 1) e) v) (sym (patched-at parts start w.parts.items k (k - start) f (omega arith) i l)) (z.counts (k - start) k d e f l i));
      }

-- where the numbers wait of the hours that aren't unchanged
pub renewed_later : (c : Settings) (s : Store) (first last : ℕ) (same waiting : List Bool) (carries new_carries : List Carried) (futures : List Ahead) (from : ℕ) (new_futures : List Ahead) (parts : List Numbers) (marks : List Bool) → AreKeptBut c s first last waiting carries futures parts → AreKeptAt c s same waiting carries futures parts → AreNewCarries c s first last carries new_carries → AreNewFutures c s first last futures from new_futures
    → from + length marks ≡ first + length new_carries → AreMarks from marks (IsUnchanged first last same waiting carries first new_carries futures from new_futures) → IsRenewed c s waiting carries first new_carries futures from new_futures parts from marks None
renewed_later c s first last same waiting carries new_carries futures from new_futures parts marks but at x y size are =
    let within = x.within in
    let some = x.some in
    let low = y.low in
    let nc = but.forth.size in
    let nf = but.back.size in
    let n = but.size in
    let nw = but.room in
    let m = y.size in
    let last_in = but.within in
    let order = but.order in
    let new_xs = patched carries (first + 1) new_carries in
    let new_ys = patched futures from new_futures in
    record {
      carry_room = omega arith;
      future_room = omega arith;
      room = omega arith;
      part_room = omega arith;
      low = omega arith;
      high = low;
      numbered = tt;
      marked = size;
      settled = λ e. absurd (cc);
      kept = record {
        forth = x.forth;
        back = y.back;
        size = n;
        room = length-patched waiting from marks (omega arith) ∙ nw;
        counts = λ k lt wait. elim (cases_lt k from) [
          | inl below ↦ counts_same c s carries new_xs futures new_ys parts parts k
              (λ d. patched-below carries (first + 1) new_carries k d (omega arith) (omega arith))
              (λ d. y.same k d below)
              (λ d. refl)
              (but.counts k lt (inl (omega arith)) (sym (patched-below waiting from marks k false (omega arith) below) ∙ wait))
          | inr above ↦ elim (cases_lt k (first + length new_carries)) [
            | inl in_it ↦
                let e : k ≡ from + (k - from) = omega arith in
                let l : k - from < length marks = omega arith in
                let one = subst (IsUnchanged first last same waiting carries first new_carries futures from new_futures) (sym e) (are (k - from) l (sym (patched-at waiting from marks k (k - from) false (omega arith) e l) ∙ wait)) in
                let old : CountsAt c s carries futures parts k = elim one.stays [ inl out ↦ but.counts k lt out one.settled | inr told ↦ at.counts k lt told one.settled ] in
                counts_suit c s new_xs futures new_ys parts k (x.forth.leads k lt) (λ f. but.shapes (k + 1) f (omega arith)) one.after (counts_same c s carries new_xs futures futures parts parts k one.before (λ d. refl) (λ d. refl) old)
            | inr past ↦ counts_same c s carries new_xs futures new_ys parts parts k
                (λ d. x.same k d (omega arith) lt)
                (λ d. patched-past futures from new_futures (k + 1) d (omega arith) (omega arith))
                (λ d. refl)
                (but.counts k lt (inr (omega arith)) (sym (patched-past waiting from marks k false (omega arith) (omega arith)) ∙ wait))
          ]
        ];
      };
    }

-- the numbers of one hour that waited
pub kept_settled : (c : Settings) (s : Store) (waiting : List Bool) (carries : List Carried) (futures : List Ahead) (parts : List Numbers) (hour : ℕ) (before : Carried) (after : Ahead) (part : Numbers) → hour < length s.hours → AreKept c s waiting carries futures parts → Counts c hour (rows_at s hour) s.blanks before after part
    → ((d : Carried) → before ≡ get_or carries hour d) → ((d : Ahead) → after ≡ get_or futures (hour + 1) d) → AreKept c s (set waiting hour false) carries futures (patched parts hour (part ∷ []))
kept_settled c s waiting carries futures parts hour before after part lt kept counts b a =
    let n = kept.size in
    let room : hour + length (part ∷ []) ≤ length parts = omega arith in
    record {
      forth = kept.forth;
      back = kept.back;
      size = length-patched parts hour (part ∷ []) room ∙ n;
      room = length-set waiting hour false ∙ kept.room;
      counts = λ k l wait.
          let old : k ≢ hour → waits waiting k ≡ false = λ other. sym (get_or-set_other waiting hour k false false other) ∙ wait in
          elim (cases_lt k hour) [
            | inl below ↦ counts_same c s carries carries futures futures parts (patched parts hour (part ∷ [])) k (λ d. refl) (λ d. refl) (λ d. patched-below parts hour (part ∷ []) k d (omega arith) below) (kept.counts k l (old (λ same. omega arith)))
            | inr from ↦ elim (cases_lt hour k) [
              | inl past ↦ counts_same c s carries carries futures futures parts (patched parts hour (part ∷ [])) k (λ d. refl) (λ d. refl) (λ d. patched-past parts hour (part ∷ []) k d (omega arith) (omega arith)) (kept.counts k l (old (λ same. omega arith)))
              | inr no_more ↦
                  let here : hour ≡ k = omega arith in
                  let one : CountsAt c s carries futures (patched parts hour (part ∷ [])) hour = λ d e f. subst (λ (v : Numbers). Counts c hour (rows_at s hour) s.blanks (get_or carries hour d) (get_or futures (hour + 1) e) v) (sym (patched-first parts hour [] part f (omega arith)))
                  (subst (λ (w : Ahead). Counts c hour (rows_at s hour) s.blanks (get_or carries hour d) w part) (a e) (subst (λ (w : Carried). Counts c hour (rows_at s hour) s.blanks w after part) (b d) counts)) in
                  subst (λ (j : ℕ). CountsAt c s carries futures (patched parts hour (part ∷ [])) j) here one
            ]
          ];
    }

-- at the points before the first hour that is changed everything has the shape of the configuration's channels
pub shapes_new : (c : Settings) (s : Store) (first last : ℕ) (waiting : List Bool) (carries : List Carried) (futures : List Ahead) (from : ℕ) (new_futures : List Ahead) (parts : List Numbers) → IsStore s → AreKeptBut c s first last waiting carries futures parts → AreNewFutures c s first last futures from new_futures → HaveShapes carries futures from new_futures first
shapes_new c s first last waiting carries futures from new_futures parts is but y k d e lt =
    let order = but.order in
    let within = but.within in
    let carry = carries_to c s first last carries is order within but.forth (k + 1) d (omega arith) in
    let future = future_kept c s (patched futures from new_futures) is y.back (k + 1) e (omega arith) in
    (c.specs, carry.pasts.shape, but.shapes (k + 1) e (omega arith), future.shape)

-- and at the points up to the last one at which something is new
pub fit_after : (c : Settings) (s : Store) (first last : ℕ) (waiting : List Bool) (carries new_carries : List Carried) (futures : List Ahead) (from : ℕ) (new_futures : List Ahead) (parts : List Numbers) → IsStore s → AreKeptBut c s first last waiting carries futures parts → AreNewCarries c s first last carries new_carries → AreNewFutures c s first last futures from new_futures → (k : ℕ) → k < first + length new_carries → FitAfter carries first new_carries futures from new_futures k
fit_after c s first last waiting carries new_carries futures from new_futures parts is but x y k lt d e =
    let within = x.within in
    let carry = carry_kept c s (patched carries (first + 1) new_carries) is x.forth (k + 1) d (omega arith) in
    let future = future_kept c s (patched futures from new_futures) is y.back (k + 1) e (omega arith) in
    (c.specs, carry.pasts.shape, but.shapes (k + 1) e (omega arith), future.shape)

-- ---- what still fits once the store is changed

same_known : (s t : Store) (k : ℕ) → SameHour s t k → (x : ℕ) → first_tenth k ≤ x → x < first_tenth (k + 1) → known_in (is_some (rows_at s k)) s.blanks x ≡ known_in (is_some (rows_at t k)) t.blanks x
same_known s t k same x low high = rw same.rows (ap (λ (b : Bool). is_some (rows_at s k) && not b) (same.blanks x low high))

pub same_has : (s t r : Store) (k : ℕ) → SameHour s t k → HasHour r k (rows_at t k) t.blanks → HasHour r k (rows_at s k) s.blanks
same_has s t r k same has = record {
  is_store = has.is_store;
  within = has.within;
  held = has.held ∙ same.rows;
  known = λ x low high. same_known s t k same x low high ∙ has.known x low high;
}

same_cut : (s t : Store) (k : ℕ) (ss : List Stretch) → SameHour s t k → IsCutOf k (rows_at t k) t.blanks ss → IsCutOf k (rows_at s k) s.blanks ss
same_cut s t k ss same = cut_same (known_in (is_some (rows_at t k)) t.blanks) (known_in (is_some (rows_at s k)) s.blanks) (36000 * k) (36000 * k + 36000) ss (λ x low high. sym (same_known s t k same x low (omega arith)))

same_rows : (s t : Store) (k : ℕ) → SameHour s t k → rows_or_none (rows_at s k) ≡ rows_or_none (rows_at t k)
same_rows s t k same = ap (λ (o : Option (List Row)). rows_or_none o) (sym same.rows)

goes_same : (c : Settings) (s t : Store) (k : ℕ) (before after : Carried) → SameHour s t k → GoesOver c k (rows_at s k) s.blanks before after → GoesOver c k (rows_at t k) t.blanks before after
goes_same c s t k before after same p = record {
  fit = p.fit;
  over = (
    λ ss cut. subst (λ (rows : List Row). IsHourStop c.specs rows ss (first_tenth k) (end_tenth k) before.pasts None) (same_rows s t k same) (p.over.0 ss (same_cut s t k ss same cut)),
    λ ss cut. subst (λ (rows : List Row). AreClampedPasts c.specs rows ss (first_tenth k) (end_tenth k) before.pasts after.pasts) (same_rows s t k same) (p.over.1 ss (same_cut s t k ss same cut)),
  );
}

comes_same : (c : Settings) (s t : Store) (k : ℕ) (after before : Ahead) → SameHour s t k → ComesBack c k (rows_at s k) s.blanks after before → ComesBack c k (rows_at t k) t.blanks after before
comes_same c s t k after before same p = record {
  fit = p.fit;
  was = p.was;
  over = λ ss cut. subst (λ (rows : List Row). AreHourAheads c.specs rows ss (first_tenth k) (end_tenth k) after (length c.specs) before) (same_rows s t k same) (p.over ss (same_cut s t k ss same cut));
}

leads_stay : (c : Settings) (s t : Store) (k : ℕ) (xs : List Carried) → SameHour s t k → LeadsAt c s xs k → LeadsAt c t xs k
leads_stay c s t k xs same p d = record {
  stays = λ r has. (p d).stays r (same_has s t r k same has);
  over = goes_same c s t k (get_or xs k d) (get_or xs (k + 1) d) same (p d).over;
}

backs_stay : (c : Settings) (s t : Store) (k : ℕ) (ys : List Ahead) → SameHour s t k → BacksAt c s ys k → BacksAt c t ys k
backs_stay c s t k ys same p d = record {
  stays = λ r has. (p d).stays r (same_has s t r k same has);
  over = comes_same c s t k (get_or ys (k + 1) d) (get_or ys k d) same (p d).over;
}

counts_stay : (c : Settings) (s t : Store) (k : ℕ) (xs : List Carried) (ys : List Ahead) (ps : List Numbers) → SameHour s t k → CountsAt c s xs ys ps k → CountsAt c t xs ys ps k
counts_stay c s t k xs ys ps same p d e f r b = p d e f r (record { has_hour = same_has s t r k same b.has_hour; is_before = b.is_before; is_after = b.is_after; history = b.history })

-- what is kept of a store, of another one that has all hours alike but those from `first` to `last`
pub kept_but : (c : Settings) (s t : Store) (first last : ℕ) (waiting : List Bool) (xs : List Carried) (ys : List Ahead) (ps : List Numbers) → first ≤ last → last < length s.hours → length t.hours ≡ length s.hours → AreSameBut first last s t → IsStore s → AreKept c s waiting xs ys ps → AreKeptBut c t first last waiting xs ys ps
kept_but c s t first last waiting xs ys ps order within size same is kept = record {
  order = order;
  within = rw size within;
  forth = record {
    size = rw size kept.forth.size;
    start = kept.forth.start;
    leads = λ k lt out. leads_stay c s t k xs (same k out) (kept.forth.leads k (omega arith));
  };
  back = record {
    size = rw size kept.back.size;
    end = λ d r e. subst (λ (n : ℕ). IsFutureAt c r n (get_or ys n d)) (sym size) (kept.back.end d r (e ∙ size));
    backs = λ k lt out. backs_stay c s t k ys (same k out) (kept.back.backs k (omega arith));
  };
  shapes = λ k d le. (future_kept c s ys is kept.back k d (omega arith)).shape;
  size = kept.size ∙ sym size;
  room = kept.room ∙ sym size;
  counts = λ k lt out wait. counts_stay c s t k xs ys ps (same k out) (kept.counts k (omega arith) wait);
}

-- and at those that are told to be as they were
pub kept_at : (c : Settings) (s t : Store) (same waiting : List Bool) (xs : List Carried) (ys : List Ahead) (ps : List Numbers) → length t.hours ≡ length s.hours → AreSameAt same s t → AreKept c s waiting xs ys ps → AreKeptAt c t same waiting xs ys ps
kept_at c s t same waiting xs ys ps size told kept = record {
  forth = λ k lt is. leads_stay c s t k xs (told k is) (kept.forth.leads k (omega arith));
  back = λ k lt is. backs_stay c s t k ys (told k is) (kept.back.backs k (omega arith));
  counts = λ k lt is wait. counts_stay c s t k xs ys ps (told k is) (kept.counts k (omega arith) wait);
}

-- nothing is told of no hour
pub none_at : (c : Settings) (s : Store) (waiting : List Bool) (xs : List Carried) (ys : List Ahead) (ps : List Numbers) → AreKeptAt c s [] waiting xs ys ps
none_at c s waiting xs ys ps = record { forth = λ k lt told. absurd (cc); back = λ k lt told. absurd (cc); counts = λ k lt told wait. absurd (cc) }

pub none_same : (s t : Store) → AreSameAt [] s t
none_same s t k told = absurd (cc)

-- one that holds another hour, or blanks other tenths
pub put_length : {L : Type 0} (s : Store) (put : Put L) → length (put_into s put).hours ≡ length s.hours
put_length s (code.Hour hour entry) = length-set s.hours hour entry
put_length s (code.Blanks blanks) = refl

pub same_but_hour : (s : Store) (h : ℕ) (x : Option Shown) → AreSameBut h h s (with_hour s h x)
same_but_hour s h x k out =
    let other : k ≢ h = elim out [ inl a ↦ λ e. omega arith | inr b ↦ λ e. omega arith ] in
    let rows : rows_at (with_hour s h x) k ≡ rows_at s k = ap (λ (o : Option Shown). option_map (λ v. v.rows) o) (get_or-set_other s.hours h k x None other) in
    record { rows = rows; blanks = λ x low high. refl }
