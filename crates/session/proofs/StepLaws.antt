-- What an hour leads to, by what was opened of it.
use Rattle.std.proofs.Common.{◌≡◌, ℕ, ◌+◌, List, Option, Some, None, Result, Ok, Err, arith, subst, sym}
use Rattle.std.specs.Prelude.{IfErr, IfOk, IfSome, OnOk}
use Rattle.sig_base.specs.declared.values.Row.{Row}
use Rattle.span_set.specs.declared.set.Span.{Span}
use Rattle.hour_store.specs.Store.{Store, rows_at}
use Rattle.board.specs.Logs.{end_tenth, first_tenth}
use Rattle.board.specs.Places.{AllEarly, AreAheadsOf}
use Rattle.board.specs.Stops.{AreBefore}
use Rattle.ring_config.specs.Settings.{Settings}
use Rattle.signal_log.specs.Over.{AreAheadsOver, ArePastsOver}
use Rattle.signal_log.specs.Points.{HasHour}
use Rattle.hour_work.specs.Points.{Carried, FitPoint, IsCarryAt, IsFutureAt}
use Rattle.hour_work.specs.declared.work.Worked.{Worked}
use Rattle.session.specs.Links.{Ahead, Backs, Leads, States, StatesLead}

-- to the states at the point after it
pub states_of : (c : Settings) (s : Store) (hour : ℕ) (rows : Option (List Row)) (blanks : List Span) (before after : States) → rows ≡ rows_at s hour → blanks ≡ s.blanks → AreBefore c.specs after → AllEarly (end_tenth hour) after → ArePastsOver c.specs hour rows blanks before after → StatesLead c s hour before after
states_of c s hour rows blanks before after e q shape early over =
    let end : end_tenth hour ≡ first_tenth (hour + 1) = omega arith in
    let held = subst (λ (bs : List Span). ArePastsOver c.specs hour (rows_at s hour) bs before after) q (subst (λ (o : Option (List Row)). ArePastsOver c.specs hour o blanks before after) e over) in
    record { over = held; shape = shape; early = subst (λ (t : ℕ). AllEarly t after) end early }

-- to what is kept at the point after it
pub lead_on : (c : Settings) (hour : ℕ) (rows held : Option (List Row)) (blanks own : List Span) (before : Carried) (pasts : States) (carry : Carried) → rows ≡ held → blanks ≡ own → ArePastsOver c.specs hour rows blanks before.pasts pasts → carry.pasts ≡ pasts → FitPoint c (hour + 1) carry
    → ((s : Store) → HasHour s hour rows blanks → IsCarryAt c s hour before → IsCarryAt c s (hour + 1) carry) → Leads c hour held own before carry
lead_on c hour rows held blanks own before pasts carry e q over same fit stays =
    let goes = subst (λ (v : States). ArePastsOver c.specs hour rows blanks before.pasts v) (sym same) over in
    subst (λ (o : Option (List Row)). Leads c hour o own before carry) e (subst (λ (bs : List Span). Leads c hour rows bs before carry) q (record { stays = stays; over = record { fit = fit; over = goes } }))

pub leads_of : {E : Type 0} (c : Settings) (hour : ℕ) (rows held : Option (List Row)) (blanks own : List Span) (before : Carried) (pasts : States) (r : Result Worked E) → rows ≡ held → blanks ≡ own → ArePastsOver c.specs hour rows blanks before.pasts pasts → IfOk r (λ w. w.carry.pasts ≡ pasts) → IfOk r (λ w. FitPoint c (hour + 1) w.carry)
    → IfOk r (λ w. (s : Store) → HasHour s hour rows blanks → IsCarryAt c s hour before → IsCarryAt c s (hour + 1) w.carry) → IfOk r (λ w. Leads c hour held own before w.carry)
leads_of c hour rows held blanks own before pasts (Ok w) e q over same fit stays = lead_on c hour rows held blanks own before pasts w.carry e q over same fit stays
leads_of c hour rows held blanks own before pasts (Err x) e q over same fit stays = tt

-- back to what is kept at the point before it
pub backs_of : {E : Type 0} (c : Settings) (hour : ℕ) (rows held : Option (List Row)) (blanks own : List Span) (after : Ahead) (r : Result Ahead E) → rows ≡ held → blanks ≡ own → AreAheadsOf c.specs after → IfOk r (AreAheadsOf c.specs) → IfOk r (λ v. (s : Store) → HasHour s hour rows blanks → IsFutureAt c s (hour + 1) after → IsFutureAt c s hour v) → IfOk r (AreAheadsOver c.specs hour rows blanks after)
    → IfOk r (Backs c hour held own after)
backs_of c hour rows held blanks own after (Ok v) e q was fit stays over =
    subst (λ (o : Option (List Row)). Backs c hour o own after v) e (subst (λ (bs : List Span). Backs c hour rows bs after v) q (record { stays = stays; over = record { fit = fit; was = was; over = over } }))
backs_of c hour rows held blanks own after (Err x) e q was fit stays over = tt

-- ---- the cases of an answer

pub ok_to : {T E : Type 0} (r : Result T E) (P Q : T → Type 0) → ((x : T) → P x → Q x) → IfOk r P → IfOk r Q
ok_to (Ok x) P Q f p = f x p
ok_to (Err e) P Q f p = tt

pub ok_both : {T E : Type 0} (r : Result T E) (P Q R : T → Type 0) → ((x : T) → P x → Q x → R x) → IfOk r P → IfOk r Q → IfOk r R
ok_both (Ok x) P Q R f p q = f x p q
ok_both (Err e) P Q R f p q = tt

pub err_to : {T E : Type 0} (r : Result T E) (P Q : E → Type 0) → ((e : E) → P e → Q e) → IfErr r P → IfErr r Q
err_to (Ok x) P Q f p = tt
err_to (Err e) P Q f p = f e p

pub some_to : {T : Type 0} (o : Option T) (P Q : T → Type 0) → ((x : T) → P x → Q x) → IfSome o P → IfSome o Q
some_to (Some x) P Q f p = f x p
some_to None P Q f p = tt

pub on_ok_to : {T E : Type 0} (r : Result T E) (P Q : Type 0) → (P → Q) → OnOk r P → OnOk r Q
on_ok_to (Ok x) P Q f p = f p
on_ok_to (Err e) P Q f p = tt
