-- How often hours are opened, call after call.
use Rattle.std.proofs.Common.{◌≡◌, ◌∙◌, inl, inr, ℕ, zero, suc, ◌+◌, ◌-◌, ◌^◌, ◌<◌, ◌≤◌, ◌≢◌, min, List, length, length-set, get_or, get_or-set_same, get_or-set_other, Option, refl, sym, ap, subst, arith}
use Rattle.std.proofs.lemmas.Bool.{cases_lt}
use Rattle.std.proofs.lemmas.List.{get_or_past}
use Rattle.sig_base.specs.Reads.{Grow, one_more, raised}
use Rattle.sig_base.specs.declared.values.Row.{Row}
use Rattle.span_set.specs.declared.set.Span.{Span}
use Rattle.channel_tables.specs.declared.spec.Spec.{Spec}
use Rattle.hour_work.specs.declared.steps.ForwardError.{ForwardError}
use Rattle.hour_work.specs.declared.steps.ForwardError.TheVariants.{Contradiction, Memory}
use Rattle.hour_work.specs.Points.{NamesStop}
use Rattle.session.specs.Opens.{AreOpened, IsOpened, NamesRowOf, OpensToRow, count_after}

-- ---- the count of one hour

pub after_both : (n j k : ℕ) → count_after (count_after n j) k ≡ count_after n (j + k)
unfolding count_after
after_both n zero k = let e : k ≡ 0 + k = omega arith in ap (λ (i : ℕ). count_after n i) e
after_both n (suc j) zero = let e : suc j ≡ suc j + 0 = omega arith in ap (λ (i : ℕ). count_after n i) e
after_both n (suc j) (suc k) =
    let e : suc (j + suc k) ≡ suc j + suc k = omega arith in
    let one : min (min (n + suc j) (2 ^ 64 - 1) + suc k) (2 ^ 64 - 1) ≡ min (n + suc (j + suc k)) (2 ^ 64 - 1) = omega arith in
    one ∙ ap (λ (i : ℕ). count_after n i) e

pub after_grows : (n k : ℕ) → min n (2 ^ 64 - 1) ≤ count_after n k
unfolding count_after
after_grows n zero = omega arith
after_grows n (suc k) = omega arith

pub opened_on : (a b c d x y z : ℕ) → IsOpened a b x y → IsOpened c d y z → IsOpened (a + c) (b + d) x z
opened_on a b c d x y z p q =
    let low = p.least in
    let high = p.most in
    let low2 = q.least in
    let high2 = q.most in
    record {
      times = p.times + q.times;
      least = omega arith;
      most = omega arith;
      count = q.count ∙ (ap (λ (n : ℕ). count_after n q.times) p.count ∙ after_both x p.times q.times);
    }

pub opened_not : (x y : ℕ) → y ≡ x → IsOpened 0 0 x y
unfolding count_after
opened_not x y e = record { times = 0; least = omega arith; most = omega arith; count = e }

opened_once : (x y : ℕ) → y ≡ one_more x → IsOpened 1 1 x y
unfolding count_after
opened_once x y e = record { times = 1; least = omega arith; most = omega arith; count = e }

pub opened_wider : (a b c d x y : ℕ) → c ≤ a → b ≤ d → IsOpened a b x y → IsOpened c d x y
opened_wider a b c d x y low high p =
    let least = p.least in
    let most = p.most in
    record { times = p.times; least = omega arith; most = omega arith; count = p.count }

-- ---- the counts of all hours

-- whatever the hour is, it was opened at most so often
opened_most : (f t l u h : ℕ) (a b : List ℕ) → h < length a → AreOpened f t l u a b → IsOpened 0 u (get_or a h 0) (get_or b h 0)
opened_most f t l u h a b lt p = elim (cases_lt h f) [
  | inl below ↦ opened_wider 0 0 0 u (get_or a h 0) (get_or b h 0) (omega arith) (omega arith) (opened_not (get_or a h 0) (get_or b h 0) (p.outside h (inl below)))
  | inr from ↦ elim (cases_lt h t) [
    | inl inside ↦ opened_wider l u 0 u (get_or a h 0) (get_or b h 0) (omega arith) (omega arith) (p.within h lt from inside)
    | inr past ↦ opened_wider 0 0 0 u (get_or a h 0) (get_or b h 0) (omega arith) (omega arith) (opened_not (get_or a h 0) (get_or b h 0) (p.outside h (inr past)))
  ]
]

pub grow_opened : (f t l u : ℕ) (a b : List ℕ) → AreOpened f t l u a b → Grow a b
unfolding Grow
grow_opened f t l u a b p h = elim (cases_lt h (length a)) [
  | inl lt ↦
      let o = opened_most f t l u h a b lt p in
      let e = o.count in
      let more = after_grows (get_or a h 0) o.times in
      omega arith
  | inr past ↦ let none : get_or a h 0 ≡ 0 = get_or_past a h 0 past in omega arith
]

pub opened_none : (f : ℕ) (a : List ℕ) → AreOpened f f 1 1 a a
opened_none f a = record { size = refl; within = λ h lt low high. absurd (omega arith); outside = λ h out. refl }

pub opened_raised : (counts new : List ℕ) (hour : ℕ) → new ≡ raised counts hour → AreOpened hour (hour + 1) 1 1 counts new
opened_raised counts new hour e = rw e (record {
  size = length-set counts hour (one_more (get_or counts hour 0));
  within = λ h lt low high.
      let here : hour ≡ h = omega arith in
      let there : hour < length counts = omega arith in
      subst (λ (i : ℕ). IsOpened 1 1 (get_or counts i 0) (get_or (raised counts hour) i 0)) here
      (opened_once (get_or counts hour 0) (get_or (raised counts hour) hour 0) (get_or-set_same counts hour (one_more (get_or counts hour 0)) 0 there));
  outside = λ h out.
      let other : h ≢ hour = elim out [ inl a ↦ λ same. omega arith | inr b ↦ λ same. omega arith ] in
      get_or-set_other counts hour h (one_more (get_or counts hour 0)) 0 other;
})

-- the hour after those that were opened
pub opened_next : (f t : ℕ) (a b c : List ℕ) → f ≤ t → AreOpened f t 1 1 a b → AreOpened t (t + 1) 1 1 b c → AreOpened f (t + 1) 1 1 a c
opened_next f t a b c le p q = record {
  size = q.size ∙ p.size;
  within = λ h lt low high.
      let there : h < length b = (let n = p.size in omega arith) in
      elim (cases_lt h t) [
        | inl before ↦ subst (λ (n : ℕ). IsOpened 1 1 (get_or a h 0) n) (sym (q.outside h (inl before))) (p.within h lt low before)
        | inr from ↦ subst (λ (n : ℕ). IsOpened 1 1 n (get_or c h 0)) (p.outside h (inr from)) (q.within h there from high)
      ];
  outside = λ h out. elim out [
    | inl below ↦ q.outside h (inl (omega arith)) ∙ p.outside h (inl below)
    | inr past ↦ q.outside h (inr past) ∙ p.outside h (inr (omega arith))
  ];
}

-- the hour before them
pub opened_before : (f t : ℕ) (a b c : List ℕ) → f + 1 ≤ t → AreOpened (f + 1) t 1 1 a b → AreOpened f (f + 1) 1 1 b c → AreOpened f t 1 1 a c
opened_before f t a b c le p q = record {
  size = q.size ∙ p.size;
  within = λ h lt low high.
      let there : h < length b = (let n = p.size in omega arith) in
      elim (cases_lt h (f + 1)) [
        | inl before ↦ subst (λ (n : ℕ). IsOpened 1 1 n (get_or c h 0)) (p.outside h (inl before)) (q.within h there low before)
        | inr from ↦ subst (λ (n : ℕ). IsOpened 1 1 (get_or a h 0) n) (sym (q.outside h (inr from))) (p.within h lt from high)
      ];
  outside = λ h out. elim out [
    | inl below ↦ q.outside h (inl below) ∙ p.outside h (inl (omega arith))
    | inr past ↦ q.outside h (inr (omega arith)) ∙ p.outside h (inr past)
  ];
}

-- hours that reach back over the first of those that were opened
pub opened_across : (f m n t : ℕ) (a b c : List ℕ) → f ≤ m → m ≤ n → n ≤ t → AreOpened m t 1 1 a b → AreOpened f n 1 1 b c → AreOpened f t 1 2 a c
opened_across f m n t a b c fm mn nt p q = record {
  size = q.size ∙ p.size;
  within = λ h lt low high.
      let there : h < length b = (let k = p.size in omega arith) in
      let x = get_or a h 0 in
      let y = get_or b h 0 in
      let z = get_or c h 0 in
      elim (cases_lt h n) [
        | inl back ↦ opened_wider (0 + 1) (1 + 1) 1 2 x z (omega arith) (omega arith) (opened_on 0 1 1 1 x y z (opened_most m t 1 1 h a b lt p) (q.within h there low back))
        | inr from ↦ opened_wider (1 + 0) (1 + 0) 1 2 x z (omega arith) (omega arith) (opened_on 1 1 0 0 x y z (p.within h lt (omega arith) high) (opened_not y z (q.outside h (inr from))))
      ];
  outside = λ h out. elim out [
    | inl below ↦ q.outside h (inl below) ∙ p.outside h (inl (omega arith))
    | inr past ↦ q.outside h (inr (omega arith)) ∙ p.outside h (inr past)
  ];
}

-- hours, and then those from there on
pub opened_join : (f m t : ℕ) (a b c : List ℕ) → f ≤ m → m ≤ t → AreOpened f m 1 1 a b → AreOpened m t 1 1 b c → AreOpened f t 1 1 a c
opened_join f m t a b c fm mt p q = record {
  size = q.size ∙ p.size;
  within = λ h lt low high.
      let there : h < length b = (let n = p.size in omega arith) in
      elim (cases_lt h m) [
        | inl before ↦ subst (λ (n : ℕ). IsOpened 1 1 (get_or a h 0) n) (sym (q.outside h (inl before))) (p.within h lt low before)
        | inr from ↦ subst (λ (n : ℕ). IsOpened 1 1 n (get_or c h 0)) (p.outside h (inr from)) (q.within h there from high)
      ];
  outside = λ h out. elim out [
    | inl below ↦ q.outside h (inl (omega arith)) ∙ p.outside h (inl below)
    | inr past ↦ q.outside h (inr past) ∙ p.outside h (inr (omega arith))
  ];
}

-- hours from one of those that were opened on, and as far at least
pub opened_onto : (f g n t : ℕ) (a b c : List ℕ) → f ≤ g → g ≤ n → n ≤ t → AreOpened f n 1 2 a b → AreOpened g t 1 1 b c → AreOpened f t 1 3 a c
opened_onto f g n t a b c fg gn nt p q = record {
  size = q.size ∙ p.size;
  within = λ h lt low high.
      let there : h < length b = (let k = p.size in omega arith) in
      let x = get_or a h 0 in
      let y = get_or b h 0 in
      let z = get_or c h 0 in
      elim (cases_lt h n) [
        | inl in_it ↦ opened_wider (1 + 0) (2 + 1) 1 3 x z (omega arith) (omega arith) (opened_on 1 2 0 1 x y z (p.within h lt low in_it) (opened_most g t 1 1 h b c there q))
        | inr past ↦ opened_wider (0 + 1) (0 + 1) 1 3 x z (omega arith) (omega arith) (opened_on 0 0 1 1 x y z (opened_not x y (p.outside h (inr past))) (q.within h there (omega arith) high))
      ];
  outside = λ h out. elim out [
    | inl below ↦ q.outside h (inl (omega arith)) ∙ p.outside h (inl below)
    | inr past ↦ q.outside h (inr past) ∙ p.outside h (inr (omega arith))
  ];
}

-- the same hours, by other numbers
pub opened_as : (f g t n l u : ℕ) (a b : List ℕ) → f ≡ g → t ≡ n → AreOpened f t l u a b → AreOpened g n l u a b
opened_as f g t n l u a b fe te p = subst (λ (i : ℕ). AreOpened i n l u a b) fe (subst (λ (i : ℕ). AreOpened f i l u a b) te p)

-- ---- up to a row at which the log contradicts itself

pub row_of : (specs : List Spec) (hour : ℕ) (rows : Option (List Row)) (blanks : List Span) (before : List (List (List Span))) (e : ForwardError) → NamesStop specs hour rows blanks before e → NamesRowOf hour e
row_of specs hour rows blanks before (Contradiction row) stop = let low = stop.low in let high = stop.high in omega arith
row_of specs hour rows blanks before Memory stop = tt

pub opens_to : (first hour : ℕ) (a b : List ℕ) (e : ForwardError) → NamesRowOf hour e → AreOpened first (hour + 1) 1 1 a b → OpensToRow first a b e
opens_to first hour a b (Contradiction row) is p = subst (λ (h : ℕ). AreOpened first (h + 1) 1 1 a b) (sym is) p
opens_to first hour a b Memory is p = tt

-- ---- an edit
