-- Strands that keep a clause, and strands that break it.
use Rattle.std.proofs.Common.{◌≡◌, refl, sym, ◌∙◌, subst, ap, inl, inr, ◌↔◌, ℕ, zero, suc, ◌+◌, ◌<◌, pos, Bool, true, false, List, [], ◌∷◌, length, map, get_or, Option, Some, None, Result, Ok, Err, arith}
use Rattle.std.specs.Prelude.{IfOk, MatchOption}
use Rattle.std.proofs.lemmas.Bool.{cases_eq}
use Rattle.std.proofs.lemmas.List.{get_or_default}
use Rattle.sig_base.specs.declared.values.Row.{Row}
use Rattle.channel_tables.specs.declared.spec.Spec.{Spec}
use Rattle.channel_tables.proofs.Machines.{spec_machine}
use Rattle.colour_machine.specs.Mask.{Has}
use Rattle.reach.specs.Runs.{State}
use Rattle.reach.specs.Tests.{InBound}
use Rattle.reach.specs.declared.seen.AgeBound.{AgeBound}
use Rattle.hour_store.specs.Store.{Store}
use Rattle.board.specs.declared.clause.Term.{Term}
use Rattle.board.specs.History.{events_at}
use Rattle.board.specs.Logs.{no_spec}
use Rattle.board.specs.Verdicts.{AreApart, AreWithin, HasSpec, Keeps, NotOf}
use Rattle.gap_ways.specs.Choices.{Answers}
use Rattle.signal_log.specs.Log.{Log, log_of, track_at}
use Rattle.signal_log.specs.States.{MayBeAtEndOf}
use Rattle.signal_log.proofs.Joined.{one_end}
use Rattle.signal_log.proofs.Runs.{agreeing_colour}
use Rattle.rule_audit.specs.declared.lines.AuditLine.{AuditLine}
use Rattle.rule_audit.specs.declared.lines.Place.{Place}
use Rattle.rule_audit.specs.declared.lines.Place.TheVariants.{EndOfTenth}
use Rattle.rule_audit.specs.declared.rules.Rule.{Rule}
use Rattle.rule_audit.specs.declared.rules.Rule.TheVariants.{Interval, Conflict, Companion, Parents}
use Rattle.strand_search.specs.Runs.{TellsWithinHour}
use Rattle.filling_pair.specs.declared.asks.Ask.{Ask}
use Rattle.filling_pair.specs.declared.strands.Pair.{Pair}
use Rattle.filling_pair.specs.declared.strands.Strand.{Strand}
use Rattle.filling_pair.specs.Asks.{AreHolding, FitAsks, HasAsk, IsAmong, IsClauseOf, IsOpenClause, IsTermOf, LacksReply, MayStand, NoneHolds, NoneStands, Replies, ReplyAll, Shows, ShowsBoth, failing, test_of}
use Rattle.filling_pair.specs.Kept.{HoldsIn, KeepsAt, KeepsBy, StandsAt, StandsAtLine, line_rows}
use Rattle.filling_pair.specs.Strands.{IsAbout}
use Rattle.filling_pair.proofs.Showing.{KeepsHere, are_strands, have_few, kept_never, kept_with, stands_once}

-- ---- clauses
same_type : (P : List Term → Type 0) (xs ys : List Term) → xs ≡ ys → P ys ↔ P xs
same_type P xs ys e = ((λ p. subst P (sym e) p), λ p. subst P e p)

clause_about : (rule : Rule) (terms : List Term) (i : ℕ) → IsClauseOf rule terms → HasSpec i terms ↔ IsAbout rule i
clause_about (Interval item) terms i (is, e) = absurd (let bad : false ≡ true = is in cc)
clause_about (Conflict a b ts) terms i (is, e) = same_type (λ xs. HasSpec i xs) ts terms e
clause_about (Companion p ts) terms i (is, e) = same_type (λ xs. HasSpec i xs) ts terms e
clause_about (Parents o ts) terms i (is, e) = same_type (λ xs. HasSpec i xs) ts terms e

clause_by : (rule : Rule) (terms : List Term) (specs : List Spec) (rows : List Row) (i : ℕ) (v : State) → IsClauseOf rule terms → HoldsIn terms i v.colour ↔ KeepsBy specs rows EndOfTenth rule i v
clause_by (Interval item) terms specs rows i v (is, e) = absurd (let bad : false ≡ true = is in cc)
clause_by (Conflict a b ts) terms specs rows i v (is, e) = same_type (λ xs. HoldsIn xs i v.colour) ts terms e
clause_by (Companion p ts) terms specs rows i v (is, e) = same_type (λ xs. HoldsIn xs i v.colour) ts terms e
clause_by (Parents o ts) terms specs rows i v (is, e) = same_type (λ xs. HoldsIn xs i v.colour) ts terms e

-- ---- terms
pub term_at : (terms : List Term) (k : ℕ) (d : Term) → k < length terms → IsTermOf (get_or terms k d) terms
term_at [] k d lt = absurd (omega arith)
term_at (x ∷ xs) zero d lt = inl refl
term_at (x ∷ xs) (suc k) d lt = inr (term_at xs k d (omega arith))

term_place : (terms : List Term) (c d : Term) → IsTermOf c terms → (k : ℕ) × (k < length terms) × (get_or terms k d ≡ c)
term_place [] c d is = absurd is
term_place (x ∷ xs) c d is = elim is [ inl e ↦ (0, omega arith, sym e) | inr rest ↦ let (k, lt, at) = term_place xs c d rest in (suc k, omega arith, at) ]

term_keeps : (terms : List Term) (c : Term) (v : ℕ → State) → IsTermOf c terms → Has c.colours (v c.spec).colour → Keeps terms v
term_keeps [] c v is has = is
term_keeps (x ∷ xs) c v is has = elim is [ inl e ↦ inl (subst (λ (y : Term). Has y.colours (v y.spec).colour) e has) | inr rest ↦ inr (term_keeps xs c v rest has) ]

keeps_term : (terms : List Term) (v : ℕ → State) → Keeps terms v → (c : Term) × IsTermOf c terms × Has c.colours (v c.spec).colour
keeps_term [] v keeps = absurd keeps
keeps_term (x ∷ xs) v keeps = elim keeps [ inl has ↦ (x, inl refl, has) | inr rest ↦ let (c, is, has) = keeps_term xs v rest in (c, inr is, has) ]

term_spec : (terms : List Term) (c : Term) → IsTermOf c terms → HasSpec c.spec terms
term_spec [] c is = is
term_spec (x ∷ xs) c is = elim is [ inl e ↦ inl (ap (λ (y : Term). y.spec) (sym e)) | inr rest ↦ inr (term_spec xs c rest) ]

term_within : (n : ℕ) (terms : List Term) (c : Term) → AreWithin n terms → IsTermOf c terms → c.spec < n
term_within n [] c within is = absurd is
term_within n (x ∷ xs) c (lt, within) is = elim is [ inl e ↦ subst (λ (y : Term). y.spec < n) (sym e) lt | inr rest ↦ term_within n xs c within rest ]

term_holds : (terms : List Term) (c : Term) (colour : ℕ) → IsTermOf c terms → Has c.colours colour → HoldsIn terms c.spec colour
term_holds [] c colour is has = is
term_holds (x ∷ xs) c colour is has = elim is [ inl e ↦ inl (ap (λ (y : Term). y.spec) (sym e), subst (λ (y : Term). Has y.colours colour) e has) | inr rest ↦ inr (term_holds xs c colour rest has) ]

holds_term : (terms : List Term) (i colour : ℕ) → HoldsIn terms i colour → (c : Term) × IsTermOf c terms × (c.spec ≡ i) × Has c.colours colour
holds_term [] i colour holds = absurd holds
holds_term (x ∷ xs) i colour holds = elim holds [ inl (e, has) ↦ (x, inl refl, e, has) | inr rest ↦ let (c, is, e, has) = holds_term xs i colour rest in (c, inr is, e, has) ]

not_of : (terms : List Term) (c : Term) (i : ℕ) → NotOf i terms → IsTermOf c terms → c.spec ≡ i → ⊥
not_of [] c i not is e = is
not_of (x ∷ xs) c i (ne, not) is e = elim is [ inl same ↦ ne (ap (λ (y : Term). y.spec) (sym same) ∙ e) | inr rest ↦ not_of xs c i not rest e ]

-- a channel has one term
one_term : (terms : List Term) (c d : Term) → AreApart terms → IsTermOf c terms → IsTermOf d terms → c.spec ≡ d.spec → c ≡ d
one_term [] c d apart is other e = absurd is
one_term (x ∷ xs) c d (not, apart) is other e = elim is [
  | inl a ↦ elim other [
    | inl b ↦ a ∙ sym b
    | inr b ↦ absurd (not_of xs d x.spec not b (sym e ∙ ap (λ (y : Term). y.spec) a))
  ]
  | inr a ↦ elim other [
    | inl b ↦ absurd (not_of xs c x.spec not a (e ∙ ap (λ (y : Term). y.spec) b))
    | inr b ↦ one_term xs c d apart a b e
  ]
]

-- ---- asks of terms
failing_has : (terms : List Term) (i : ℕ) → HasAsk i (map failing terms) ↔ HasSpec i terms
failing_has [] i = ((λ h. h), λ h. h)
failing_has (x ∷ xs) i =
    let rest = failing_has xs i in
    ((λ h. elim h [ inl e ↦ inl e | inr more ↦ inr (rest.0 more) ]), λ h. elim h [ inl e ↦ inl e | inr more ↦ inr (rest.1 more) ])

pub failing_fit : (specs : List Spec) (terms : List Term) → AreWithin (length specs) terms → FitAsks specs (map failing terms)
failing_fit specs [] within = tt
failing_fit specs (x ∷ xs) (lt, within) = ((lt, tt), failing_fit specs xs within)

failing_term : (terms : List Term) (a : Ask) → IsAmong a (map failing terms) → (c : Term) × IsTermOf c terms × (a ≡ failing c)
failing_term [] a among = absurd among
failing_term (x ∷ xs) a among = elim among [ inl e ↦ (x, inl refl, e) | inr rest ↦ let (c, is, e) = failing_term xs a rest in (c, inr is, e) ]

holding_has : (n : ℕ) (terms : List Term) (asks : List Ask) (i : ℕ) → AreHolding n terms asks → HasAsk i asks ↔ HasSpec i terms
holding_has n [] [] i are = ((λ h. h), λ h. h)
holding_has n [] (a ∷ asks) i are = absurd are
holding_has n (x ∷ xs) [] i are = absurd are
holding_has n (x ∷ xs) (a ∷ asks) i ((spec, bound, met, own, other), are) =
    let rest = holding_has n xs asks i are in
    ((λ h. elim h [ inl e ↦ inl (sym spec ∙ e) | inr later ↦ inr (rest.0 later) ]), λ h. elim h [ inl e ↦ inl (spec ∙ e) | inr later ↦ inr (rest.1 later) ])

pub holding_fit : (specs : List Spec) (n : ℕ) (terms : List Term) (asks : List Ask) → AreWithin (length specs) terms → AreHolding n terms asks → FitAsks specs asks
holding_fit specs n [] [] within are = tt
holding_fit specs n [] (a ∷ asks) within are = absurd are
holding_fit specs n (x ∷ xs) [] within are = absurd are
holding_fit specs n (x ∷ xs) (a ∷ asks) (lt, within) ((spec, bound, met, own, other), are) =
    ((subst (λ (k : ℕ). k < length specs) (sym spec) lt, subst TellsWithinHour (sym bound) tt), holding_fit specs n xs asks within are)

holding_term : (n : ℕ) (terms : List Term) (asks : List Ask) (a : Ask) → AreHolding n terms asks → IsAmong a asks → (c : Term) × IsTermOf c terms × AreHolding n (c ∷ []) (a ∷ [])
holding_term n terms [] a are among = absurd among
holding_term n [] (y ∷ ys) a are among = absurd are
holding_term n (x ∷ xs) (y ∷ ys) a (first, are) among = elim among [
  | inl e ↦ (x, inl refl, subst (λ (b : Ask). AreHolding n (x ∷ []) (b ∷ [])) (sym e) (first, tt))
  | inr rest ↦ let (c, is, holding) = holding_term n xs ys a are rest in (c, inr is, holding)
]

-- an ask of a term's channel is met in its colours
met_has : (n : ℕ) (c : Term) (a : Ask) (at : ℕ) (v : State) → AreHolding n (c ∷ []) (a ∷ []) → Answers a.met (test_of a at) v ↔ Has a.colours v.colour
met_has n c a at v ((spec, bound, met, own, other), _) = (
  (λ answers. (subst (λ (b : Bool). Answers b (test_of a at) v) met answers).0),
  λ has. subst (λ (b : Bool). Answers b (test_of a at) v) (sym met) (has, subst (λ (b : AgeBound). InBound b (pos at) v.entry) (sym bound) tt),
)

-- ---- the clause at the end of the line's tenth
module _ (specs : List Spec) (s : Store) (line : AuditLine) (terms : List Term) (given : IsOpenClause specs s line terms) where
  abbrev Of : Log
  Of = log_of specs s

  abbrev Rows : List Row
  Rows = line_rows s line

  may_stand : (i : ℕ) (v : State) → MayBeAtEndOf Of i line.at v → MayStand Of Rows i line.at line.place v
  may_stand i v may = subst (λ (p : Place). MayStand Of Rows i line.at p v) (sym given.at_end) may

  holds_there : (rule : Rule) (z : Strand) → IsClauseOf rule terms → KeepsHere specs s line rule z ↔ ((v : State) × StandsAtLine specs s line z v × HoldsIn terms z.spec v.colour)
  holds_there rule z clause = (
    (λ kept.
        let (v, stands, keeps) = subst (λ (p : Place). KeepsAt Of Rows line.at p rule z) given.at_end kept in
        (v, subst (λ (p : Place). StandsAt Of Rows line.at p z v) (sym given.at_end) stands, (clause_by rule terms specs Rows z.spec v clause).1 keeps)),
    λ (v, stands, holds).
        let stands2 = subst (λ (p : Place). StandsAt Of Rows line.at p z v) given.at_end stands in
        subst (λ (p : Place). KeepsAt Of Rows line.at p rule z) (sym given.at_end) (v, stands2, (clause_by rule terms specs Rows z.spec v clause).0 holds),
  )

  -- ---- no term holds
  pub breaks_lacks : LacksReply specs s line (map failing terms) → ⊥
  breaks_lacks (a, among, none) =
      let (c, is, e) = failing_term terms a among in
      let (v, (h, agrees, ends), broken) = given.verdict.1 in
      let none2 = subst (λ (b : Ask). NoneStands specs s line b) e none in
      none2 (v c.spec) (may_stand c.spec (v c.spec) (h, agrees, ends c.spec (term_within (length specs) terms c given.within is))) (λ meets. broken (term_keeps terms c v is meets.0))

  broken_there : (rule : Rule) (z : Strand) (a : Ask) → IsClauseOf rule terms → IsAmong a (map failing terms) → Replies specs s line a z → KeepsHere specs s line rule z → ⊥
  broken_there rule z a clause among reply kept =
      let (c, is, e) = failing_term terms a among in
      let mine = subst (λ (b : Ask). Replies specs s line b z) e reply in
      let (v, stands, none) = mine.answer in
      let (u, there, holds) = (holds_there rule z clause).0 kept in
      let one : u ≡ v = stands_once Of Rows line.at line.place z u v there stands in
      let (d, other, spec, has) = holds_term terms z.spec u.colour holds in
      let same : d ≡ c = one_term terms d c given.apart other is (spec ∙ mine.spec) in
      none (subst (λ (y : Term). Has y.colours v.colour) same (subst (λ (x : State). Has d.colours x.colour) one has), tt)

  pub breaks_shows : (ss : List Strand) → ReplyAll specs s line (map failing terms) ss → (rule : Rule) → IsClauseOf rule terms → Shows specs s line rule false ss
  breaks_shows ss r rule clause = record {
    strands = are_strands specs s line (map failing terms) rule ss (failing_fit specs terms given.within) (λ i. let here = failing_has terms i in let there = clause_about rule terms i clause in ((λ h. there.0 (here.0 h)), λ h. here.1 (there.1 h))) r;
    said = kept_never specs s line (map failing terms) rule ss r.each (λ z a among reply kept. broken_there rule z a clause among reply kept);
    few = have_few specs s line (map failing terms) ss r.each;
  }

  -- ---- one term holds
  some_colour : (i : ℕ) → i < length specs → (v : State) × MayBeAtEndOf Of i line.at v × (v.colour < 16)
  some_colour i lt =
      let (v, (h, agrees, ends), keeps) = given.verdict.0 in
      let may : MayBeAtEndOf Of i line.at (v i) = (h, agrees, ends i lt) in
      let ((u, before, run), rest) = one_end Of i line.at (v i) lt given.placed.within may in
      let machine = spec_machine (get_or specs i no_spec) (given.channels.fit i no_spec lt) in
      let colour = (agreeing_colour (track_at Of i) Of.known (events_at Of.rows) 0 (line.at + 1) u (v i) machine run).0 before.0 in
      let few = machine.few_colours in
      (v i, may, omega arith)

  keeps_lacks : (one : Term) (asks : List Ask) → IsTermOf one terms → AreHolding one.spec terms asks → LacksReply specs s line asks → NoneHolds specs s line one
  keeps_lacks one asks is holding (a, among, none) v may has =
      let (c, is_term, fits) = holding_term one.spec terms asks a holding among in
      let spec : a.spec ≡ c.spec = fits.0.0 in
      elim (cases_eq c.spec one.spec) [
        | inl same ↦
            let colours : a.colours ≡ c.colours = fits.0.3 same in
            let term : c ≡ one = one_term terms c one given.apart is_term is same in
            let has2 : Has a.colours v.colour = subst (λ (m : ℕ). Has m v.colour) (sym colours) (subst (λ (y : Term). Has y.colours v.colour) (sym term) has) in
            none v (may_stand a.spec v (subst (λ (i : ℕ). MayBeAtEndOf Of i line.at v) (sym (spec ∙ same)) may)) ((met_has one.spec c a line.at v fits).1 has2)
        | inr other ↦
            let lt : a.spec < length specs = subst (λ (i : ℕ). i < length specs) (sym spec) (term_within (length specs) terms c given.within is_term) in
            let (w, may2, small) = some_colour a.spec lt in
            none w (may_stand a.spec w may2) ((met_has one.spec c a line.at w fits).1 (fits.0.4 other w.colour small))
      ]

  kept_there : (rule : Rule) (one : Term) (asks : List Ask) (z : Strand) (a : Ask) → IsClauseOf rule terms → AreHolding one.spec terms asks → z.spec ≡ one.spec → IsAmong a asks → Replies specs s line a z → KeepsHere specs s line rule z
  kept_there rule one asks z a clause holding at among reply =
      let (c, is_term, fits) = holding_term one.spec terms asks a holding among in
      let (v, stands, answers) = reply.answer in
      let has = (met_has one.spec c a line.at v fits).0 answers in
      let spec : z.spec ≡ c.spec = reply.spec ∙ fits.0.0 in
      let colours : a.colours ≡ c.colours = fits.0.3 (sym spec ∙ at) in
      let holds : HoldsIn terms c.spec v.colour = term_holds terms c v.colour is_term (subst (λ (m : ℕ). Has m v.colour) colours has) in
      (holds_there rule z clause).1 (v, stands, subst (λ (i : ℕ). HoldsIn terms i v.colour) (sym spec) holds)

  keeps_shows : (one : Term) (asks : List Ask) → IsTermOf one terms → AreHolding one.spec terms asks → (ss : List Strand) → ReplyAll specs s line asks ss → (rule : Rule) → IsClauseOf rule terms → Shows specs s line rule true ss
  keeps_shows one asks is holding ss r rule clause =
      let here = λ (i : ℕ). holding_has one.spec terms asks i holding in
      let has : HasAsk one.spec asks = (here one.spec).1 (term_spec terms one is) in
      record {
        strands = are_strands specs s line asks rule ss (holding_fit specs one.spec terms asks given.within holding) (λ i. let there = clause_about rule terms i clause in ((λ h. there.0 ((here i).0 h)), λ h. (here i).1 (there.1 h))) r;
        said = kept_with specs s line asks rule one.spec ss r.each ((r.channels one.spec).1 (has, term_within (length specs) terms one given.within is)) (λ z a at among reply. kept_there rule one asks z a clause holding at among reply);
        few = have_few specs s line asks ss r.each;
      }

  pub keeps_told : {E : Type 0} → (one : Term) (asks : List Ask) → IsTermOf one terms → AreHolding one.spec terms asks → (r : Result (Option (List Strand)) E) → IfOk r (λ o. MatchOption o (LacksReply specs s line asks) (ReplyAll specs s line asks)) → IfOk r (λ o. MatchOption o (NoneHolds specs s line one) (λ ss. (rule : Rule) → IsClauseOf rule terms → Shows specs s line rule true ss))
  keeps_told one asks is holding (Ok None) h = keeps_lacks one asks is holding h
  keeps_told one asks is holding (Ok (Some ss)) h = keeps_shows one asks is holding ss h
  keeps_told one asks is holding (Err e) h = tt

  pub none_more : (i : ℕ) (d c : Term) → i < length terms → c ≡ get_or terms i d → NoneHolds specs s line c → ((k : ℕ) (e : Term) → k < i → NoneHolds specs s line (get_or terms k e)) → (k : ℕ) (e : Term) → k < i + 1 → NoneHolds specs s line (get_or terms k e)
  none_more i d c lt is here none k e small = elim (cases_eq k i) [
    | inl same ↦
        let one : c ≡ get_or terms k e = is ∙ (get_or_default terms i d e lt ∙ ap (λ (j : ℕ). get_or terms j e) (sym same)) in
        subst (λ (y : Term). NoneHolds specs s line y) one here
    | inr other ↦ none k e (omega arith)
  ]

  pub some_holds : ((k : ℕ) (d : Term) → k < length terms → NoneHolds specs s line (get_or terms k d)) → ⊥
  some_holds none =
      let (v, (h, agrees, ends), keeps) = given.verdict.0 in
      let (c, is, has) = keeps_term terms v keeps in
      let (k, lt, at) = term_place terms c c is in
      let mine = subst (λ (y : Term). NoneHolds specs s line y) at (none k c lt) in
      mine (v c.spec) (h, agrees, ends c.spec (term_within (length specs) terms c given.within is)) has

-- the pair of the clause's terms is one of the rule
pub both_told : {E : Type 0} → (specs : List Spec) (s : Store) (line : AuditLine) (terms : List Term) (rule : Rule) → IsClauseOf rule terms → (r : Result Pair E) → IfOk r (λ p. (x : Rule) → IsClauseOf x terms → ShowsBoth specs s line x p) → IfOk r (ShowsBoth specs s line rule)
both_told specs s line terms rule clause (Ok p) h = h rule clause
both_told specs s line terms rule clause (Err e) h = tt
