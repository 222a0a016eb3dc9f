-- Hours whose numbers wait, and how often they are opened.
use Rattle.std.proofs.Common.{◌≡◌, ◌∙◌, inl, inr, ℕ, ◌+◌, ◌-◌, ◌<◌, ◌≤◌, Bool, true, false, List, [], ◌∷◌, ◌++◌, length, length-append, get_or, refl, sym, ap, subst, arith, Ok, Err, Result}
use Rattle.std.proofs.lemmas.Bool.{cases_lt}
use Rattle.std.proofs.lemmas.List.{get_or_append_left, get_or_past}
use Rattle.std.proofs.Math.Seq.{get_or-append_seam}
use Rattle.sig_base.specs.Reads.{Grow}
use Rattle.sig_base.specs.declared.values.Applied.{Applied}
use Rattle.sig_base.specs.declared.values.EditError.{EditError}
use Rattle.sig_base.specs.declared.values.EditError.TheVariants.{OutOfWindow, AlreadyHeld, NotHeld, EmptyRange, TooManyRows, TooManyBlanks, Contradiction, Memory}
use Rattle.hour_work.specs.Numbers.{patched}
use Rattle.hour_work.proofs.PatchLaws.{patched-at, patched-below, patched-past}
use Rattle.hour_work.specs.declared.steps.ForwardError.{ForwardError}
use Rattle.hour_work.specs.declared.steps.ForwardError.TheVariants as forward
use Rattle.session.specs.Edits.{Change}
use Rattle.session.specs.Links.{AllSettled, AreMarked, is_as_was, waits}
use Rattle.session.specs.Moved.{Touches}
use Rattle.session.specs.Opens.{AreOpened, AreOpenedFor, AreOpenedOnce, OpensBy, OpensFor, OpensToRow, count_after, most_opens, still}
use Rattle.hour_sweep.specs.Sums.{one_if}
use Rattle.session.specs.Renewed.{AreMarks}
use Rattle.session.specs.Sessions.{refusal_for}
use Rattle.session.proofs.OpenLaws.{after_both, after_grows, opened_not}

-- ---- marks

pub settled_patched : (start : ℕ) (old marks : List Bool) → start + length marks ≤ length old → AllSettled old → AllSettled marks → AllSettled (patched old start marks)
settled_patched start old marks room settled none hour = elim (cases_lt hour start) [
  | inl below ↦ patched-below old start marks hour false (omega arith) below ∙ settled hour
  | inr above ↦ elim (cases_lt hour (start + length marks)) [
    | inl in_it ↦ patched-at old start marks hour (hour - start) false (omega arith) (omega arith) (omega arith) ∙ none (hour - start)
    | inr past ↦ patched-past old start marks hour false (omega arith) past ∙ settled hour
  ]
]

-- the marks of one hour more
pub marks_more : (P : ℕ → Type 0) (from : ℕ) (xs items : List Bool) (b : Bool) → AreMarks from xs P → (b ≡ false → P (from + length xs)) → items ≡ xs ++ b ∷ [] → AreMarks from items P
marks_more P from xs items b are one e = rw e (λ i lt wait. elim (cases_lt i (length xs)) [
  | inl below ↦ are i below (sym (get_or_append_left xs (b ∷ []) false i below) ∙ wait)
  | inr above ↦
      let size : length (xs ++ b ∷ []) ≡ length xs + 1 = rw length-append (omega arith) in
      let here : i ≡ length xs = omega arith in
      let last : get_or (xs ++ b ∷ []) i false ≡ b = ap (λ (j : ℕ). get_or (xs ++ b ∷ []) j false) here ∙ get_or-append_seam xs b [] false in
      subst (λ (j : ℕ). P (from + j)) (sym here) (one (sym last ∙ wait))
])

-- what is told of one hour more
pub as_were_more : (P : ℕ → Type 0) (xs items : List Bool) (b : Bool) → ((k : ℕ) → is_as_was xs k ≡ true → P k) → (b ≡ true → P (length xs)) → items ≡ xs ++ b ∷ [] → (k : ℕ) → is_as_was items k ≡ true → P k
as_were_more P xs items b are one e = rw e (λ k told. elim (cases_lt k (length xs)) [
  | inl below ↦ are k (sym (get_or_append_left xs (b ∷ []) false k below) ∙ told)
  | inr from ↦ elim (cases_lt (length xs) k) [
    | inl past ↦ let none : get_or (xs ++ b ∷ []) k false ≡ false = get_or_past (xs ++ b ∷ []) k false (rw length-append (omega arith)) in absurd (cc)
    | inr no_more ↦
        let here : k ≡ length xs = omega arith in
        let last : get_or (xs ++ b ∷ []) k false ≡ b = ap (λ (j : ℕ). get_or (xs ++ b ∷ []) j false) here ∙ get_or-append_seam xs b [] false in
        subst P (sym here) (one (sym last ∙ told))
  ]
])

-- ---- openings

-- an edit whose numbers are worked out, or wait
pub opened_for : (may_wait : Bool) (from start to : ℕ) (w marks : List Bool) (a b : List ℕ) → from ≤ start → start + length marks ≡ to → to ≤ length w → (may_wait ≡ false → AllSettled marks) → AreOpened from to 1 (most_opens may_wait) a b → AreOpenedFor from to w (patched w start marks) a b
opened_for may_wait from start to w marks a b le size room plain p = record {
  size = p.size;
  opened = λ h lt low high.
      let o = p.within h lt low high in
      let most = o.most in
      let three = most_three may_wait in
      record { times = o.times; least = o.least; most = omega arith; count = o.count };
  within = λ h lt low high. elim (cases_lt h start) [
    | inl before ↦
        let same : still (patched w start marks) h ≡ still w h = rw (patched-below w start marks h false (omega arith) before) refl in
        let o = p.within h lt low high in
        let least = o.least in
        let most = o.most in
        let three = most_three may_wait in
        record { times = o.times; least = least; most = omega arith; count = o.count }
    | inr after ↦
        let o = p.within h lt low high in
        let least = o.least in
        let most = o.most in
        let at = patched-at w start marks h (h - start) false (omega arith) (omega arith) (omega arith) in
        let three = most_more may_wait (waits (patched w start marks) h) (λ e. at ∙ plain e (h - start)) in
        record { times = o.times; least = least; most = omega arith; count = o.count }
  ];
  outside = λ h out. (
    p.outside h out,
    elim out [
      | inl below ↦ patched-below w start marks h false (omega arith) (omega arith)
      | inr past ↦ patched-past w start marks h false (omega arith) (omega arith)
    ],
  );
}
  where
    most_three : (b : Bool) → most_opens b ≤ 3
    most_three true = omega arith
    most_three false = omega arith

    most_more : (b x : Bool) → (b ≡ false → x ≡ false) → most_opens b + one_if x ≤ 3
    most_more true true f = omega arith
    most_more true false f = omega arith
    most_more false x f = rw (f refl) (omega arith)

pub opens_for : (change : Change) (f t : ℕ) (moved : Applied) (w v : List Bool) (a b : List ℕ) → moved.from ≡ f → moved.to ≡ t → AreOpenedFor f t w v a b → OpensFor change w v a b (Ok moved)
unfolding OpensFor
opens_for change f t moved w v a b fe te p = subst (λ (i : ℕ). AreOpenedFor i moved.to w v a b) (sym fe) (subst (λ (i : ℕ). AreOpenedFor f i w v a b) (sym te) p)

pub opens_not : (change : Change) (first last : ℕ) (w : List Bool) (a b : List ℕ) (e : ForwardError) (refusal : EditError) → refusal ≡ refusal_for e → Touches change first last → OpensToRow first a b e → OpensFor change w w a b (Err refusal)
unfolding OpensFor
opens_not change first last w a b (forward.Contradiction row) refusal is touched p = rw is (refl, (first, last, touched, p))
opens_not change first last w a b forward.Memory refusal is touched p = rw is tt

-- an edit of a draft, without a word on numbers that wait
pub opens_plain : (change : Change) (w v : List Bool) (a b : List ℕ) (result : Result Applied EditError) → OpensFor change w v a b result → OpensBy change a b result
unfolding OpensFor OpensBy
opens_plain change w v a b (Ok moved) p = record { size = p.size; within = p.opened; outside = λ h out. (p.outside h out).0 }
opens_plain change w v a b (Err (Contradiction row)) p = p.1
opens_plain change w v a b (Err Memory) p = tt
opens_plain change w v a b (Err OutOfWindow) p = p.1
opens_plain change w v a b (Err AlreadyHeld) p = p.1
opens_plain change w v a b (Err NotHeld) p = p.1
opens_plain change w v a b (Err EmptyRange) p = p.1
opens_plain change w v a b (Err TooManyRows) p = p.1
opens_plain change w v a b (Err TooManyBlanks) p = p.1

-- ---- hours that are settled one after another

pub once_none : (w : List Bool) (a : List ℕ) → AreOpenedOnce w w a a
once_none w a = record { size = refl; each = λ h lt. let o = opened_not (get_or a h 0) (get_or a h 0) refl in let most = o.most in record { times = o.times; each = omega arith; count = o.count } }

pub once_on : (w x v : List Bool) (a b d : List ℕ) (hour : ℕ) → waits x hour ≡ true → AreOpenedOnce w x a b → AreMarked hour (hour + 1) false x v → AreOpened hour (hour + 1) 1 1 b d → AreOpenedOnce w v a d
once_on w x v a b d hour waiting p mark q = record {
  size = q.size ∙ p.size;
  each = λ h lt.
      let n = p.size in
      let there : h < length b = omega arith in
      let o = p.each h lt in
      let all = o.each in
      elim (cases_lt h hour) [
        | inl below ↦
            let same : still v h ≡ still x h = rw (mark.outside h (inl below)) refl in
            record { times = o.times; each = omega arith; count = q.outside h (inl below) ∙ o.count }
        | inr from ↦ elim (cases_lt hour h) [
          | inl past ↦
              let same : still v h ≡ still x h = rw (mark.outside h (inr (omega arith))) refl in
              record { times = o.times; each = omega arith; count = q.outside h (inr (omega arith)) ∙ o.count }
          | inr no_more ↦
              let here : hour ≡ h = omega arith in
              let before : still x h ≡ 1 = rw (← here, waiting) refl in
              let after : still v h ≡ 0 = rw (mark.within h from (omega arith)) refl in
              let one = q.within h there from (omega arith) in
              let least = one.least in
              let high = one.most in
              record {
                times = o.times + one.times;
                each = omega arith;
                count = one.count ∙ (ap (λ (k : ℕ). count_after k one.times) o.count ∙ after_both (get_or a h 0) o.times one.times);
              }
        ]
      ];
}

-- and hours that are settled then
pub once_join : (w x v : List Bool) (a b d : List ℕ) → AreOpenedOnce w x a b → AreOpenedOnce x v b d → AreOpenedOnce w v a d
once_join w x v a b d p q = record {
  size = q.size ∙ p.size;
  each = λ h lt.
      let n = p.size in
      let there : h < length b = omega arith in
      let o = p.each h lt in
      let r = q.each h there in
      let all = o.each in
      let more = r.each in
      record {
        times = o.times + r.times;
        each = omega arith;
        count = r.count ∙ (ap (λ (k : ℕ). count_after k r.times) o.count ∙ after_both (get_or a h 0) o.times r.times);
      };
}

-- an hour that doesn't wait
pub marked_still : (hour : ℕ) (w : List Bool) → waits w hour ≡ false → AreMarked hour (hour + 1) false w w
marked_still hour w settled = record {
  size = refl;
  within = λ h low high. let here : hour ≡ h = omega arith in subst (λ (i : ℕ). waits w i ≡ false) here settled;
  outside = λ h out. refl;
}

-- none waits past the last hour
pub settled_all : (w : List Bool) (n : ℕ) → length w ≡ n → ((h : ℕ) → h < n → waits w h ≡ false) → AllSettled w
settled_all w n size below h = elim (cases_lt h n) [ inl lt ↦ below h lt | inr past ↦ get_or_past w h false (omega arith) ]

pub settled_more : (xs items : List Bool) → AllSettled xs → items ≡ xs ++ false ∷ [] → AllSettled items
settled_more xs items settled e h = rw e (elim (cases_lt h (length xs)) [
  | inl below ↦ get_or_append_left xs (false ∷ []) false h below ∙ settled h
  | inr from ↦ elim (cases_lt (length xs) h) [
    | inl past ↦ get_or_past (xs ++ false ∷ []) h false (rw length-append (omega arith))
    | inr no_more ↦
        let here : h ≡ length xs = omega arith in
        ap (λ (i : ℕ). get_or (xs ++ false ∷ []) i false) here ∙ get_or-append_seam xs false [] false
  ]
])

pub grow_once : (w v : List Bool) (a b : List ℕ) → AreOpenedOnce w v a b → Grow a b
unfolding Grow
grow_once w v a b p h = elim (cases_lt h (length a)) [
  | inl lt ↦
      let o = p.each h lt in
      let e = o.count in
      let more = after_grows (get_or a h 0) o.times in
      omega arith
  | inr past ↦ let none : get_or a h 0 ≡ 0 = get_or_past a h 0 past in omega arith
]
