-- Windows that are over, and those that wait.
use Rattle.std.proofs.Common.{suc, zero, ◌≡◌, refl, ap, sym, ◌∙◌, subst, inl, inr, ℕ, ◌+◌, ◌<◌, ◌≤◌, true, false, not, nat_le, Option, Some, List, [], ◌∷◌, ◌++◌, length, take, get_or, arith}
use Rattle.std.specs.Prelude.{min}
use Rattle.std.proofs.lemmas.Bool.{cases_Bool, cases_lt, leb-true, le-leb}
use Rattle.std.proofs.lemmas.List.{append-nil, append_assoc, take_more}
use Rattle.std.proofs.lemmas.List.Elements.{filter_more}
use Rattle.board.proofs.Bridge.{leb_no}
use Rattle.signal_log.specs.Log.{Log}
use Rattle.service_cut.specs.declared.items.Service.{Service}
use Rattle.detector_state.specs.declared.part.Part.{Part}
use Rattle.detector_state.specs.Hours.{AreTenths}
use Rattle.detector_state.specs.declared.tenths.OnTenths.{OnTenths}
use Rattle.stop_bar.specs.declared.windows.OpenGreen.{OpenGreen}
use Rattle.stop_bar.specs.declared.windows.Windows.{Windows}
use Rattle.stop_bar.specs.Windows.{AreEnded, ArePending, AreServicesOf, EndIn, EndsIn, IsEnded, IsOpen, IsOpened, IsPending, IsServiceOf, IsTaken, IsTold, due, left, over, services_of, waits}

pub end_at : (first end : ℕ) (ws : List Windows) (i : ℕ) (d : Windows) → EndIn first end ws → i < length ws → EndsIn first end (get_or ws i d)
end_at first end [] i d h lt = absurd (omega arith)
end_at first end (w ∷ ws) zero d h lt = h.0
end_at first end (w ∷ ws) (suc i) d h lt = end_at first end ws i d h.1 (omega arith)

pub service_at : (first end : ℕ) (o : Option OpenGreen) (ss : List Service) (i : ℕ) (d : Service) → AreServicesOf first end o ss → i < length ss → IsServiceOf first end o (get_or ss i d)
service_at first end o [] i d h lt = absurd (omega arith)
service_at first end o (s ∷ ss) zero d h lt = h.0
service_at first end o (s ∷ ss) (suc i) d h lt = service_at first end o ss i d h.1 (omega arith)

pub pending_at : (log : Log) (n t : ℕ) (ws : List Windows) (i : ℕ) (d : Windows) → ArePending log n t ws → i < length ws → IsPending log n t (get_or ws i d)
pending_at log n t [] i d h lt = absurd (omega arith)
pending_at log n t (w ∷ ws) zero d h lt = h.0
pending_at log n t (w ∷ ws) (suc i) d h lt = pending_at log n t ws i d h.1 (omega arith)

pub services_more : (ws : List Windows) (w : Windows) → services_of (ws ++ w ∷ []) ≡ services_of ws ++ w.service ∷ []
services_more [] w = refl
services_more (v ∷ ws) w = ap (λ (ss : List Service). v.service ∷ ss) (services_more ws w)

pub pending_more : (log : Log) (n t : ℕ) (ws : List Windows) (w : Windows) → ArePending log n t ws → IsPending log n t w → ArePending log n t (ws ++ w ∷ [])
pending_more log n t [] w h one = (one, tt)
pending_more log n t (v ∷ ws) w h one = (h.0, pending_more log n t ws w h.1 one)

pub ended_more : (log : Log) (n : ℕ) (ws : List Windows) (w : Windows) → AreEnded log n ws → IsEnded log n w → AreEnded log n (ws ++ w ∷ [])
ended_more log n [] w h one = (one, tt)
ended_more log n (v ∷ ws) w h one = (h.0, ended_more log n ws w h.1 one)

-- a red window's end fits
pub red_over : (log : Log) (n end r last : ℕ) (t : OnTenths) → r + 50 ≤ end → end < 4294967296 → last ≡ min (r + 50) 4294967295 → AreTenths log n r last t → AreTenths log n r (r + 50) t
red_over log n end r last t le fits e h =
    let same : last ≡ r + 50 = omega arith in
    subst (λ (x : ℕ). AreTenths log n r x t) same h

-- the services of the first i and of one more
pub taken_more : (ps : List Windows) (i : ℕ) (d : Windows) (ws : List Windows) (w : Windows) → i < length ps → services_of ws ≡ services_of (take i ps) → w.service ≡ (get_or ps i d).service → services_of (ws ++ w ∷ []) ≡ services_of (take (i + 1) ps)
taken_more ps i d ws w lt same own =
    services_more ws w
    ∙ (ap (λ (ss : List Service). ss ++ w.service ∷ []) same
    ∙ (ap (λ (s : Service). services_of (take i ps) ++ s ∷ []) own
    ∙ (sym (services_more (take i ps) (get_or ps i d)) ∙ ap (λ (x : List Windows). services_of x) (sym (take_more ps i d lt)))))

-- what is so after the first of all services
pub record AreTaken (first end : ℕ) (o : Option OpenGreen) (parts : List Part) (all ss : List Service) (start vs ps : List Windows) : Type 0 where
  pub ended : services_of vs ≡ services_of start ++ due end ss
  pub waiting : services_of ps ≡ left end ss
  pub numbers : (log : Log) (n : ℕ) → IsTold log n first end parts o → AreServicesOf first end o all → AreEnded log n start → AreEnded log n vs
  pub pending : (log : Log) (n : ℕ) → IsTold log n first end parts o → AreServicesOf first end o all → ArePending log n end ps

pub taken_none : (first end : ℕ) (o : Option OpenGreen) (parts : List Part) (all : List Service) (vs ps : List Windows) → ps ≡ [] → AreTaken first end o parts all [] vs vs ps
taken_none first end o parts all vs ps e = rw e (record {
  ended = sym (append-nil (services_of vs));
  waiting = refl;
  numbers = λ log n told fit h. h;
  pending = λ log n told fit. tt;
})

module _ (first end : ℕ) (o : Option OpenGreen) (parts : List Part) (ss : List Service) (i : ℕ) (d : Service) (lt : i < length ss) (start vs ps : List Windows) (before : AreTaken first end o parts ss (take i ss) start vs ps) where
  abbrev s : Service
  s = get_or ss i d

  due_more : nat_le (s.r + 50) end ≡ true → due end (take (i + 1) ss) ≡ due end (take i ss) ++ s ∷ []
  due_more t = filter_more (λ (x : Service). nat_le (x.r + 50) end) ss i d lt ∙ rw t refl

  due_same : nat_le (s.r + 50) end ≡ false → due end (take (i + 1) ss) ≡ due end (take i ss)
  due_same t = filter_more (λ (x : Service). nat_le (x.r + 50) end) ss i d lt ∙ rw t (append-nil (due end (take i ss)))

  left_more : nat_le (s.r + 50) end ≡ false → left end (take (i + 1) ss) ≡ left end (take i ss) ++ s ∷ []
  left_more t = filter_more (λ (x : Service). not (nat_le (x.r + 50) end)) ss i d lt ∙ rw t refl

  left_same : nat_le (s.r + 50) end ≡ true → left end (take (i + 1) ss) ≡ left end (take i ss)
  left_same t = filter_more (λ (x : Service). not (nat_le (x.r + 50) end)) ss i d lt ∙ rw t (append-nil (left end (take i ss)))

  late : end < s.r + 50 → nat_le (s.r + 50) end ≡ false
  late l = elim (cases_Bool (nat_le (s.r + 50) end)) [ inl t ↦ (let le = leb-true (s.r + 50) end t in absurd (omega arith)) | inr f ↦ f ]

  ended_one : (w : Windows) → w.service ≡ s → nat_le (s.r + 50) end ≡ true → services_of (vs ++ w ∷ []) ≡ services_of start ++ due end (take (i + 1) ss)
  ended_one w own t =
      services_more vs w
      ∙ (ap (λ (x : Service). services_of vs ++ x ∷ []) own
      ∙ (ap (λ (x : List Service). x ++ s ∷ []) before.ended
      ∙ (append_assoc (services_of start) (due end (take i ss)) (s ∷ []) ∙ ap (λ (x : List Service). services_of start ++ x) (sym (due_more t)))))

  waiting_one : (w : Windows) → w.service ≡ s → nat_le (s.r + 50) end ≡ false → services_of (ps ++ w ∷ []) ≡ left end (take (i + 1) ss)
  waiting_one w own t =
      services_more ps w
      ∙ (ap (λ (x : Service). services_of ps ++ x ∷ []) own
      ∙ (ap (λ (x : List Service). x ++ s ∷ []) before.waiting ∙ sym (left_more t)))

  pub taken_next : (ws qs : List Windows) → IsTaken first end o parts s vs ws ps qs → AreTaken first end o parts ss (take (i + 1) ss) start ws qs
  taken_next ws qs (over le same w new own has) =
      let t = le-leb (s.r + 50) end le in
      record {
        ended = ap (λ (x : List Windows). services_of x) new ∙ ended_one w own t;
        waiting = ap (λ (x : List Windows). services_of x) same ∙ (before.waiting ∙ sym (left_same t));
        numbers = λ log n told fit h. rw new (ended_more log n vs w (before.numbers log n told fit h) (has log n told (service_at first end o ss i d fit lt)));
        pending = λ log n told fit. rw same (before.pending log n told fit);
      }
  taken_next ws qs (waits l same w new own has) =
      let t = late l in
      record {
        ended = ap (λ (x : List Windows). services_of x) same ∙ (before.ended ∙ ap (λ (x : List Service). services_of start ++ x) (sym (due_same t)));
        waiting = ap (λ (x : List Windows). services_of x) new ∙ waiting_one w own t;
        numbers = λ log n told fit h. rw same (before.numbers log n told fit h);
        pending = λ log n told fit. rw new (pending_more log n end ps w (before.pending log n told fit) (has log n told (service_at first end o ss i d fit lt)));
      }

-- an open green that was over before the hour
pub green_over : (log : Log) (n first b g : ℕ) (o : OpenGreen) → IsOpened first b g (Some o) → g ≤ first → IsOpen log n (Some o) → AreTenths log n b g o.tenths
green_over log n first b g o (eb, et) le h =
    let to : o.to ≡ g = omega arith in
    subst (λ (x : ℕ). AreTenths log n x g o.tenths) eb (subst (λ (x : ℕ). AreTenths log n o.b x o.tenths) to h)

-- one that goes on
pub green_on : (log : Log) (n first b g : ℕ) (o : OpenGreen) → IsOpened first b g (Some o) → first < g → IsOpen log n (Some o) → AreTenths log n b first o.tenths
green_on log n first b g o (eb, et) lt h =
    let to : o.to ≡ first = omega arith in
    subst (λ (x : ℕ). AreTenths log n x first o.tenths) eb (subst (λ (x : ℕ). AreTenths log n o.b x o.tenths) to h)

-- the red windows of services end between two tenths
abbrev RedEndsIn : ℕ → ℕ → List Service → Type 0
RedEndsIn n m [] = Unit {0}
RedEndsIn n m (s ∷ ss) = ((n ≤ s.r + 50) × (s.r + 50 ≤ m)) × RedEndsIn n m ss

left_ends : (first end n m : ℕ) (o : Option OpenGreen) (ss : List Service) → n ≡ end → end + 49 ≤ m → AreServicesOf first end o ss → RedEndsIn n m (left end ss)
left_ends first end n m o [] e le h = tt
left_ends first end n m o (s ∷ ss) e le h =
    let (bg, ge, fr, re, was) = h.0 in
    let rest = left_ends first end n m o ss e le h.1 in
    elim (cases_lt end (s.r + 50)) [
      | inl l ↦ rw (leb_no (s.r + 50) end l) ((omega arith, omega arith), rest)
      | inr l ↦ rw (le-leb (s.r + 50) end l) rest
    ]

pending_ends : (n m : ℕ) (ws : List Windows) → RedEndsIn n m (services_of ws) → EndIn n m ws
pending_ends n m [] h = tt
pending_ends n m (w ∷ ws) h = (h.0, pending_ends n m ws h.1)

-- those that wait end in the next hour
pub waiting_ends : (first end n m : ℕ) (o : Option OpenGreen) (ss : List Service) (ws : List Windows) → n ≡ end → end + 49 ≤ m → AreServicesOf first end o ss → services_of ws ≡ left end ss → EndIn n m ws
waiting_ends first end n m o ss ws e le h is = pending_ends n m ws (subst (λ (x : List Service). RedEndsIn n m x) (sym is) (left_ends first end n m o ss e le h))
