-- What the rows of an hour tell gives its services and cycles.
use Rattle.std.proofs.Common.{◌≡◌, ◌≢◌, ℕ, ◌+◌, ◌<◌, ◌≤◌, Bool, true, false, ◌&&◌, cond, subst, drop, reverse, List, [], ◌∷◌, ◌++◌, Option, Some, None, length, get_or, replicate, refl, ap, ap₂, sym, ◌∙◌, arith, inl, inr, ◌⊎◌}
use Rattle.std.specs.Prelude.{All, is_some, nat_le, option_and_then, option_to_list}
use Rattle.std.specs.List.{cons_option}
use Rattle.std.specs.Option.{option_or}
use Rattle.std.proofs.lemmas.List.{get_or-set_same, get_or-set_other, get_or-replicate, length-set, length-replicate, reverse-append, append-nil, drop_more, drop_all}
use Rattle.std.proofs.lemmas.List.Elements.{All-push, All-weaker}
use Rattle.std.proofs.lemmas.Bool.{cases_eq, cases_lt, le-leb, lt-leb}
use Rattle.sig_base.specs.declared.values.Row.{Row}
use Rattle.sig_base.proofs.Common.{or_none}
use Rattle.hour_sweep.specs.Hours.{AreOrdered}
use Rattle.hour_sweep.specs.Numbers.{given, outs_from}
use Rattle.hour_sweep.proofs.Places.{last-cons}
use Rattle.service_cut.specs.declared.items.Service.{Service}
use Rattle.service_cut.specs.declared.items.Cycle.{Cycle}
use Rattle.service_cut.specs.declared.services.ServiceBegun.{ServiceBegun}
use Rattle.service_cut.specs.declared.services.ServiceOver.{ServiceOver}
use Rattle.service_cut.specs.declared.cycles.CycleBegun.{CycleBegun}
use Rattle.service_cut.specs.declared.parts.Part.{Part}
use Rattle.service_cut.specs.declared.parts.Told.{Told}
use Rattle.service_cut.specs.declared.parts.Told.TheVariants.{Ends, Says}
use Rattle.service_cut.specs.declared.signs.Sign.{Sign}
use Rattle.service_cut.specs.declared.signs.Sign.TheVariants.{Begin, Change, Yellow, End, Cause, Other}
use Rattle.service_cut.specs.Signs.{sign, is_end, is_cause}
use Rattle.service_cut.specs.Services.{cause_in, service_of, whole_service, service_at, served_of, whole_served, served_at}
use Rattle.service_cut.specs.Cycles.{cycle_begun_of, cycle_of, cycle_at}
use Rattle.service_cut.specs.Parts.{part_of}
use Rattle.service_cut.specs.Steps.{is_yellow_over, service_whole, service_over, cycle_over_in, ends_with, told_by_sign, told_by, cycle_told, over_served, served_told, kept, within, lates_after, lates, service_closed, service_told, services_told}
use Rattle.service_cut.proofs.Push.{yellow_end_is, none_ahead, EarlyRow, EarlyBegun, service_begun_early}
use Rattle.service_cut.proofs.PartLaws.{told_at, other_sign}

-- the cycle that a row ends

cycle_of_ends : (s : Option ServiceOver) (c : Option Cycle) → option_and_then cycle_told (ends_with s c) ≡ c
cycle_of_ends None None = refl
cycle_of_ends None (Some c) = refl
cycle_of_ends (Some s) c = refl

cycle_if_yellow : (p : ℕ) (y : Option Row) (s : Option CycleBegun) (x : Row) → cycle_over_in p y s x ≡ cond (is_some y) (cycle_of p s x) None
cycle_if_yellow p None s x = refl
cycle_if_yellow p (Some y) s x = refl

cycle_by_sign : (s : Sign) (x : Row) (a : Part) → option_and_then cycle_told (told_by_sign s x a) ≡ cond (is_yellow_over s a.yellow) (cycle_of a.phase a.cycle x) None
cycle_by_sign Begin x a = refl
cycle_by_sign Change x a = refl
cycle_by_sign Yellow x a = refl
cycle_by_sign End x a = cycle_of_ends (service_over a.phase a.service x) (cycle_over_in a.phase a.yellow a.cycle x) ∙ cycle_if_yellow a.phase a.yellow a.cycle x
cycle_by_sign Cause x a = refl
cycle_by_sign Other x a = refl

pub cycle_now : (known : ℕ → Bool) (p : ℕ) (before : List Row) (x : Row) (rest : List Row) → option_and_then cycle_told (told_at known p before x rest) ≡ cycle_at known p before x
unfolding cycle_at
cycle_now known p before x rest = cycle_by_sign (sign p x) x (part_of known x.at before p) ∙ ap (λ v. cond v (cycle_of p (cycle_begun_of known x.at p before) x) None) (sym (yellow_end_is known p before x))

-- the rows of the service that a row ends

served_of_ends : (s : Option ServiceOver) (c : Option Cycle) → option_and_then served_told (ends_with s c) ≡ over_served s
served_of_ends None None = refl
served_of_ends None (Some c) = refl
served_of_ends (Some s) c = refl

served_whole : (p : ℕ) (s : ServiceBegun) (x : Row) (g y : Option Row) → over_served (service_whole p s x g y) ≡ served_of p s x g y
served_whole p s x (Some g) (Some y) = refl
served_whole p s x (Some g) None = refl
served_whole p s x None y = refl

served_over : (p : ℕ) (o : Option ServiceBegun) (x : Row) → over_served (service_over p o x) ≡ whole_served p o x
served_over p None x = refl
served_over p (Some s) x = served_whole p s x s.g s.y

served_by_sign : (s : Sign) (x : Row) (a : Part) → option_and_then served_told (told_by_sign s x a) ≡ cond (is_end s) (whole_served a.phase a.service x) None
served_by_sign Begin x a = refl
served_by_sign Change x a = refl
served_by_sign Yellow x a = refl
served_by_sign End x a = served_of_ends (service_over a.phase a.service x) (cycle_over_in a.phase a.yellow a.cycle x) ∙ served_over a.phase a.service x
served_by_sign Cause x a = refl
served_by_sign Other x a = refl

pub served_now : (known : ℕ → Bool) (p : ℕ) (before : List Row) (x : Row) (rest : List Row) → option_and_then served_told (told_at known p before x rest) ≡ served_at known p before x
unfolding served_at
served_now known p before x rest = served_by_sign (sign p x) x (part_of known x.at before p)

-- what was found of a phase

abbrev late_at : ℕ → List Told → ℕ → Option Row
late_at n os p = get_or (lates n os) p None

lates_next : (n : ℕ) (o : Told) (os : List Told) → lates n (o ∷ os) ≡ lates_after o (lates n os)
unfolding lates
lates_next n o os = refl

lates_none : (n : ℕ) → lates n [] ≡ replicate n None
unfolding lates
lates_none n = refl

length_after : (o : Told) (ls : List (Option Row)) → length (lates_after o ls) ≡ length ls
length_after (Ends e) ls = refl
length_after (Says x) ls = length-set ls x.param (Some (kept x (get_or ls x.param None)))

pub lates_length : (n : ℕ) (os : List Told) → length (lates n os) ≡ n
lates_length n [] = ap (λ ls. length ls) (lates_none n) ∙ length-replicate n None
lates_length n (o ∷ os) = ap (λ ls. length ls) (lates_next n o os) ∙ length_after o (lates n os) ∙ lates_length n os

late_here : (n : ℕ) (x : Row) (os : List Told) → x.param < n → late_at n (Says x ∷ os) x.param ≡ Some (kept x (late_at n os x.param))
late_here n x os lt =
    ap (λ ls. get_or ls x.param None) (lates_next n (Says x) os)
    ∙ get_or-set_same (lates n os) x.param (Some (kept x (late_at n os x.param))) None (let len = lates_length n os in omega arith)

late_same : (n p : ℕ) (x : Row) (os : List Told) → x.param ≡ p → p < n → late_at n (Says x ∷ os) p ≡ Some (kept x (late_at n os p))
late_same n p x os e lt = subst (λ (q : ℕ). late_at n (Says x ∷ os) q ≡ Some (kept x (late_at n os q))) e (late_here n x os (omega arith))

late_other : (n p : ℕ) (x : Row) (os : List Told) → x.param ≢ p → late_at n (Says x ∷ os) p ≡ late_at n os p
late_other n p x os ne =
    ap (λ ls. get_or ls p None) (lates_next n (Says x) os)
    ∙ get_or-set_other (lates n os) x.param p (Some (kept x (get_or (lates n os) x.param None))) None (λ e. ne (sym e))

late_ends : (n p : ℕ) (s : Option ServiceOver) (c : Option Cycle) (os : List Told) → late_at n (cons_option (ends_with s c) os) p ≡ late_at n os p
late_ends n p None None os = refl
late_ends n p None (Some c) os = ap (λ ls. get_or ls p None) (lates_next n (Ends (record { service = None; cycle = Some c })) os)
late_ends n p (Some s) c os = ap (λ ls. get_or ls p None) (lates_next n (Ends (record { service = Some s; cycle = c })) os)

late_passed : (n p : ℕ) (s : Sign) (x : Row) (a : Part) (os : List Told) → (s ≡ Cause → x.param ≢ p) → late_at n (cons_option (told_by_sign s x a) os) p ≡ late_at n os p
late_passed n p Begin x a os h = refl
late_passed n p Change x a os h = refl
late_passed n p Yellow x a os h = refl
late_passed n p End x a os h = late_ends n p (service_over a.phase a.service x) (cycle_over_in a.phase a.yellow a.cycle x) os
late_passed n p Cause x a os h = late_other n p x os (h refl)
late_passed n p Other x a os h = refl

late_given : (n p : ℕ) (v : Bool) (s : Sign) (x : Row) (a : Part) (os : List Told) → (s ≡ Cause → x.param ≢ p) → late_at n (cons_option (cond v (told_by_sign s x a) None) os) p ≡ late_at n os p
late_given n p true s x a os h = late_passed n p s x a os h
late_given n p false s x a os h = refl

-- what is kept of a row and one that was found after it

within_if : (g : ℕ) (v : Bool) (z x : Row) → within g (Some z) ≡ None → within g (Some x) ≡ None → within g (Some (cond v z x)) ≡ None
within_if g true z x a b = a
within_if g false z x a b = b

kept_past : (g : ℕ) (x : Row) (l : Option Row) → g < x.at → within g l ≡ None → within g (Some (kept x l)) ≡ None
kept_past g x None lt h = ap (λ v. cond v (Some x) None) (lt-leb x.at g lt)
kept_past g x (Some z) lt h = within_if g (nat_le z.at x.at) z x h (ap (λ v. cond v (Some x) None) (lt-leb x.at g lt))

kept_within_if : (g : ℕ) (v : Bool) (z x : Row) → x.at ≡ g → nat_le z.at g ≡ v → within g (Some (cond v z x)) ≡ option_or (cond v (Some z) None) (Some x)
kept_within_if g true z x e h = ap (λ v. cond v (Some z) None) h
kept_within_if g false z x e h = ap (λ v. cond v (Some x) None) (le-leb x.at g (omega arith))

kept_within : (g : ℕ) (x : Row) (l : Option Row) → x.at ≡ g → within g (Some (kept x l)) ≡ option_or (within g l) (Some x)
kept_within g x None e = ap (λ v. cond v (Some x) None) (le-leb x.at g (omega arith))
kept_within g x (Some z) e = ap (λ t. within g (Some (cond (nat_le z.at t) z x))) e ∙ kept_within_if g (nat_le z.at g) z x e refl

is_cause_cases : (s : Sign) → ((is_cause s ≡ true) × (s ≡ Cause)) ⊎ ((is_cause s ≡ false) × (s ≢ Cause))
is_cause_cases Begin = inr (refl, λ e. cc)
is_cause_cases Change = inr (refl, λ e. cc)
is_cause_cases Yellow = inr (refl, λ e. cc)
is_cause_cases End = inr (refl, λ e. cc)
is_cause_cases Cause = inl (refl, refl)
is_cause_cases Other = inr (refl, λ e. cc)

module _ (known : ℕ → Bool) (has : ℕ → Bool) (n : ℕ) (room : (p : ℕ) → has p ≡ true → p < n) where
  abbrev told_from : List Row → List Row → List Told
  told_from before xs = outs_from (told_at known) has before xs

  -- a row that says nothing of the phase's green
  cause_passed : (p : ℕ) (g x : Row) (before xs : List Row) → is_cause (sign p x) ≡ false → (sign x.param x ≡ Cause → x.param ≢ p) → within g.at (late_at n (told_from (before ++ x ∷ []) xs) p) ≡ cause_in p (Some g) xs → within g.at (late_at n (told_from before (x ∷ xs)) p) ≡ cause_in p (Some g) (x ∷ xs)
  cause_passed p g x before xs silent h ih =
      ap (λ l. within g.at l) (late_given n p (has x.param) (sign x.param x) x (part_of known x.at before x.param) (told_from (before ++ x ∷ []) xs) h)
      ∙ ih
      ∙ sym (last-cons (λ z. is_cause (sign p z) && nat_le z.at g.at) x xs ∙ ap (λ v. option_or (cause_in p (Some g) xs) (cond (v && nat_le x.at g.at) (Some x) None)) silent ∙ or_none (cause_in p (Some g) xs))

  cause_found : (p a b : ℕ) (g x : Row) (before xs : List Row) → has p ≡ true → x.param ≡ p → sign p x ≡ Cause → g.at ≤ x.at → AreOrdered x.at b xs → within g.at (late_at n (told_from (before ++ x ∷ []) xs) p) ≡ cause_in p (Some g) xs → within g.at (late_at n (told_from before (x ∷ xs)) p) ≡ cause_in p (Some g) (x ∷ xs)
  cause_found p a b g x before xs hp e s le or ih =
      let os = told_from (before ++ x ∷ []) xs in
      let here : has x.param ≡ true = ap (λ q. has q) e ∙ hp in
      let same : sign x.param x ≡ Cause = ap (λ q. sign q x) e ∙ s in
      let given_is : given (told_at known) has before x xs ≡ Some (Says x) = ap (λ v. cond v (told_by x (part_of known x.at before x.param)) None) here ∙ ap (λ s. told_by_sign s x (part_of known x.at before x.param)) same in
      let found : late_at n (told_from before (x ∷ xs)) p ≡ Some (kept x (late_at n os p)) = ap (λ o. late_at n (cons_option o os) p) given_is ∙ late_same n p x os e (room p hp) in
      let all : cause_in p (Some g) (x ∷ xs) ≡ option_or (cause_in p (Some g) xs) (cond (nat_le x.at g.at) (Some x) None) =
      last-cons (λ z. is_cause (sign p z) && nat_le z.at g.at) x xs ∙ ap (λ s. option_or (cause_in p (Some g) xs) (cond (is_cause s && nat_le x.at g.at) (Some x) None)) s in
      ap (λ l. within g.at l) found ∙ elim (cases_lt g.at x.at) [
        | inl lt ↦
            let none = none_ahead p g x.at b xs lt or in
            kept_past g.at x (late_at n os p) lt (ih ∙ none) ∙ sym (all ∙ ap₂ (λ o v. option_or o (cond v (Some x) None)) none (lt-leb x.at g.at lt))
        | inr up ↦
            let eq : x.at ≡ g.at = omega arith in
            kept_within g.at x (late_at n os p) eq ∙ sym (all ∙ ap₂ (λ o v. option_or o (cond v (Some x) None)) (sym ih) (le-leb x.at g.at up))
      ]

  late_is : (p a b : ℕ) (g : Row) (before xs : List Row) → has p ≡ true → g.at ≤ a → AreOrdered a b xs → within g.at (late_at n (told_from before xs) p) ≡ cause_in p (Some g) xs
  late_is p a b g before [] hp le or = ap (λ l. within g.at l) (ap (λ ls. get_or ls p None) (lates_none n) ∙ get_or-replicate n p None None (room p hp))
  late_is p a b g before (x ∷ xs) hp le or =
      let lo = or.0 in
      let ih = late_is p x.at b g (before ++ x ∷ []) xs hp (omega arith) or.2 in
      elim (cases_eq x.param p) [
        | inl e ↦ elim (is_cause_cases (sign p x)) [
          | inl c ↦ cause_found p a b g x before xs hp e c.1 (omega arith) or.2 ih
          | inr c ↦ cause_passed p g x before xs c.0 (λ s. absurd (c.1 (ap (λ q. sign q x) (sym e) ∙ s))) ih
        ]
        | inr ne ↦ cause_passed p g x before xs (ap (λ s. is_cause s) (other_sign p x ne)) (λ s. ne) ih
      ]

  -- the services

  told_next : (o : Option Told) (os : List Told) → services_told n (cons_option o os) ≡ cons_option (option_and_then (service_told (lates n os)) o) (services_told n os)
  unfolding services_told
  told_next None os = refl
  told_next (Some o) os = refl

  told_none : services_told n [] ≡ []
  unfolding services_told
  told_none = refl

  closed_of_ends : (ls : List (Option Row)) (s : Option ServiceOver) (c : Option Cycle) → option_and_then (service_told ls) (ends_with s c) ≡ service_closed ls s
  closed_of_ends ls None None = refl
  closed_of_ends ls None (Some c) = refl
  closed_of_ends ls (Some s) c = refl

  closed_whole : (p b : ℕ) (x : Row) (before xs : List Row) (s : ServiceBegun) (g y : Option Row) → has p ≡ true → EarlyRow (x.at + 1) g → AreOrdered x.at b xs → service_closed (lates n (told_from (before ++ x ∷ []) xs)) (service_whole p s x g y) ≡ service_of p s x xs g y
  closed_whole p b x before xs s None y hp early or = refl
  closed_whole p b x before xs s (Some g) None hp early or = refl
  closed_whole p b x before xs s (Some g) (Some y) hp early or = rw (late_is p x.at b g (before ++ x ∷ []) xs hp (omega arith) or) refl

  closed_service : (p b : ℕ) (x : Row) (before xs : List Row) (o : Option ServiceBegun) → has p ≡ true → EarlyBegun (x.at + 1) o → AreOrdered x.at b xs → service_closed (lates n (told_from (before ++ x ∷ []) xs)) (service_over p o x) ≡ whole_service p o x xs
  closed_service p b x before xs None hp early or = refl
  closed_service p b x before xs (Some s) hp early or = closed_whole p b x before xs s s.g s.y hp early or

  service_by_sign : (s : Sign) (b : ℕ) (x : Row) (before xs : List Row) (a : Part) → has a.phase ≡ true → EarlyBegun (x.at + 1) a.service → AreOrdered x.at b xs → option_and_then (service_told (lates n (told_from (before ++ x ∷ []) xs))) (told_by_sign s x a) ≡ cond (is_end s) (whole_service a.phase a.service x xs) None
  service_by_sign Begin b x before xs a hp early or = refl
  service_by_sign Change b x before xs a hp early or = refl
  service_by_sign Yellow b x before xs a hp early or = refl
  service_by_sign End b x before xs a hp early or = closed_of_ends (lates n (told_from (before ++ x ∷ []) xs)) (service_over a.phase a.service x) (cycle_over_in a.phase a.yellow a.cycle x) ∙ closed_service a.phase b x before xs a.service hp early or
  service_by_sign Cause b x before xs a hp early or = refl
  service_by_sign Other b x before xs a hp early or = refl

  service_now : (p b : ℕ) (x : Row) (before xs : List Row) → has p ≡ true → All (λ z. z.at ≤ x.at) before → AreOrdered x.at b xs → option_and_then (service_told (lates n (told_from (before ++ x ∷ []) xs))) (told_at known p before x xs) ≡ service_at known p before x xs
  unfolding service_at
  service_now p b x before xs hp low or =
      service_by_sign (sign p x) b x before xs (part_of known x.at before p) hp (service_begun_early known (x.at + 1) x.at p before (All-weaker (λ (z : Row). z.at ≤ x.at) (λ z. z.at < x.at + 1) (λ z l. omega arith) before low)) or

  service_given : (v : Bool) (b : ℕ) (x : Row) (before xs : List Row) → (v ≡ true → has x.param ≡ true) → All (λ z. z.at ≤ x.at) before → AreOrdered x.at b xs → option_and_then (service_told (lates n (told_from (before ++ x ∷ []) xs))) (cond v (told_at known x.param before x xs) None) ≡ cond v (service_at known x.param before x xs) None
  service_given true b x before xs hp low or = service_now x.param b x before xs (hp refl) low or
  service_given false b x before xs hp low or = refl

  pub services_are : (a b : ℕ) (before xs : List Row) → AreOrdered a b xs → All (λ z. z.at ≤ a) before → services_told n (told_from before xs) ≡ outs_from (service_at known) has before xs
  services_are a b before [] or low = told_none
  services_are a b before (x ∷ xs) or low =
      let lo = or.0 in
      let lower = All-weaker (λ (z : Row). z.at ≤ a) (λ z. z.at ≤ x.at) (λ z l. omega arith) before low in
      told_next (given (told_at known) has before x xs) (told_from (before ++ x ∷ []) xs)
      ∙ ap₂ (λ o zs. cons_option o zs) (service_given (has x.param) b x before xs (λ h. h) lower or.2) (services_are x.at b (before ++ x ∷ []) xs or.2 (All-push (λ (z : Row). z.at ≤ x.at) before x lower (omega arith)))

-- the loop from the last row that tells something

told_first : (n : ℕ) (o : Told) (os : List Told) → services_told n (o ∷ os) ≡ cons_option (service_told (lates n os) o) (services_told n os)
unfolding services_told
told_first n o os = refl

told_empty : (n : ℕ) → services_told n [] ≡ []
unfolding services_told
told_empty n = refl

reverse_option : (o : Option Service) (ss : List Service) → reverse (cons_option o ss) ≡ reverse ss ++ option_to_list o
reverse_option None ss = sym (append-nil (reverse ss))
reverse_option (Some s) ss = reverse-append (s ∷ []) ss

pub lates_more : (told : List Told) (d : Told) (n i j : ℕ) (old new : List (Option Row)) → i < length told → j ≡ i + 1 → new ≡ lates_after (get_or told i d) old → old ≡ lates n (drop j told) → new ≡ lates n (drop i told)
lates_more told d n i j old new lt e m inv = rw (m, inv, e) (sym (ap (λ os. lates n os) (drop_more told i d lt) ∙ lates_next n (get_or told i d) (drop (i + 1) told)))

pub closed_more : (told : List Told) (d : Told) (n i j : ℕ) (ls : List (Option Row)) (old new : List Service) → i < length told → j ≡ i + 1 → ls ≡ lates n (drop j told) → new ≡ old ++ option_to_list (service_told ls (get_or told i d)) → old ≡ reverse (services_told n (drop j told)) → new ≡ reverse (services_told n (drop i told))
closed_more told d n i j ls old new lt e l m inv =
    rw (m, l, inv, e) (sym (ap (λ os. reverse (services_told n os)) (drop_more told i d lt) ∙ ap (λ zs. reverse zs) (told_first n (get_or told i d) (drop (i + 1) told)) ∙ reverse_option (service_told (lates n (drop (i + 1) told)) (get_or told i d)) (services_told n (drop (i + 1) told))))

pub lates_start : (told : List Told) (n : ℕ) (ls : List (Option Row)) → ls ≡ replicate n None → ls ≡ lates n (drop (length told) told)
lates_start told n ls e = e ∙ sym (ap (λ os. lates n os) (drop_all (length told) told (omega arith)) ∙ lates_none n)

pub closed_start : (told : List Told) (n : ℕ) (ss : List Service) → ss ≡ [] → ss ≡ reverse (services_told n (drop (length told) told))
closed_start told n ss e = e ∙ sym (ap (λ os. reverse (services_told n os)) (drop_all (length told) told (omega arith)) ∙ ap (λ zs. reverse zs) (told_empty n))
