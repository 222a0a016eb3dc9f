-- The numbers of ranges in logs that tell the same, and in one log.
use Rattle.std.proofs.Common.{◌≡◌, refl, sym, subst, ◌↔◌, ℕ, ◌+◌, ◌<◌, ◌≤◌, Bool, true, false, IsTrue, List, [], ◌∷◌, arith}
use Rattle.signal_log.specs.Log.{Log}
use Rattle.service_cut.specs.declared.items.Service.{Service}
use Rattle.detector_state.specs.Tells.{IsSure, TellSameUpto}
use Rattle.detector_state.proofs.Bounds.{numbers_are_one, numbers_stay, sooner}
use Rattle.detector_state.proofs.FreeColours.{colours_stay}
use Rattle.detector_state.specs.declared.tenths.OnTenths.{OnTenths}
use Rattle.detector_state.specs.Hours.{AreTenths}
use Rattle.stop_bar.specs.declared.windows.Windows.{Windows}
use Rattle.stop_bar.specs.Windows.{services_of}
use Rattle.stop_bar.specs.Staying.{PendingAreOne, TenthsAreOne, TenthsStay}

sure_same : (a b : Log) (i c t x : ℕ) → x < t → TellSameUpto a b t → IsSure a i c x ↔ IsSure b i c x
sure_same a b i c t x lt same =
    let one = λ (d : ℕ). colours_stay a b i d x (sooner a b t (x + 1) (omega arith) same) in
    ((λ sure d r. sure d ((one d).1 r)), λ sure d r. sure d ((one d).0 r))

pub tenths_stay : TenthsStay
tenths_stay a b i t low high n same le are =
    let numbers = numbers_stay a b i 1 t low high n.least same le in
    let greatest = numbers_stay a b i 1 t low high n.greatest same le in record {
      least = numbers.0 are.least;
      greatest = greatest.1 are.greatest;
      fault = (
        (λ is. let (x, l, u, sure) = are.fault.0 is in (x, l, u, (sure_same a b i 2 t x (omega arith) same).0 sure)),
        λ (x, l, u, sure). are.fault.1 (x, l, u, (sure_same a b i 2 t x (omega arith) same).1 sure),
      );
    }

both_true : (P : Type 0) (b c : Bool) → IsTrue b ↔ P → IsTrue c ↔ P → b ≡ c
both_true P true true x y = refl
both_true P true false x y = absurd (let is = y.1 (x.0 refl) in cc)
both_true P false true x y = absurd (let is = x.1 (y.0 refl) in cc)
both_true P false false x y = refl

same_tenths : (a b c d : ℕ) (e f : Bool) → a ≡ b → c ≡ d → e ≡ f → let first : OnTenths = record { least = a; greatest = c; fault = e } in let second : OnTenths = record { least = b; greatest = d; fault = f } in first ≡ second
same_tenths a b c d e f x y z = rw (x, y, z) refl

same_windows : (s u : Service) (a b c d : OnTenths) → s ≡ u → a ≡ b → c ≡ d → let first : Windows = record { service = s; green = a; red = c } in let second : Windows = record { service = u; green = b; red = d } in first ≡ second
same_windows s u a b c d x y z = rw (x, y, z) refl

pub tenths_are_one : TenthsAreOne
tenths_are_one log i low high n m x y =
    let least = (numbers_are_one log i 1 low high n.least m.least).0 x.least y.least in
    let greatest = (numbers_are_one log i 1 low high n.greatest m.greatest).1 x.greatest y.greatest in
    let fault = both_true ((z : ℕ) × (low ≤ z) × (z < high) × IsSure log i 2 z) n.fault m.fault x.fault y.fault in
    same_tenths n.least m.least n.greatest m.greatest n.fault m.fault least greatest fault

pub head_same : (s u : Service) (ss us : List Service) → s ∷ ss ≡ u ∷ us → s ≡ u
head_same s u ss us e = cc

pub tail_same : (s u : Service) (ss us : List Service) → s ∷ ss ≡ u ∷ us → ss ≡ us
tail_same s u ss us e = cc

one_same : (log : Log) (i t : ℕ) (v w : Windows) → AreTenths log i v.service.b v.service.g v.green → AreTenths log i v.service.r t v.red → AreTenths log i w.service.b w.service.g w.green → AreTenths log i w.service.r t w.red → v.service ≡ w.service → v ≡ w
one_same log i t v w vg vr wg wr e =
    let green = tenths_are_one log i v.service.b v.service.g v.green w.green vg (subst (λ (s : Service). AreTenths log i s.b s.g w.green) (sym e) wg) in
    let red = tenths_are_one log i v.service.r t v.red w.red vr (subst (λ (s : Service). AreTenths log i s.r t w.red) (sym e) wr) in
    same_windows v.service w.service v.green w.green v.red w.red e green red

pub pending_are_one : PendingAreOne
pending_are_one log i t [] [] x y e = refl
pending_are_one log i t [] (w ∷ ws) x y e = absurd (cc)
pending_are_one log i t (v ∷ vs) [] x y e = absurd (cc)
pending_are_one log i t (v ∷ vs) (w ∷ ws) x y e =
    let here = one_same log i t v w x.0.green x.0.red y.0.green y.0.red (head_same v.service w.service (services_of vs) (services_of ws) e) in
    let rest = pending_are_one log i t vs ws x.1 y.1 (tail_same v.service w.service (services_of vs) (services_of ws) e) in
    cc
