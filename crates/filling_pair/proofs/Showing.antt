-- The strands that answer asks are strands of a rule.
use Rattle.std.proofs.Common.{◌≡◌, refl, sym, ◌∙◌, subst, ap, inl, inr, ◌↔◌, ℕ, ◌+◌, ◌<◌, true, List, [], ◌∷◌, length, take, pos, arith}
use Rattle.sig_base.specs.declared.values.Row.{Row}
use Rattle.channel_tables.specs.declared.spec.Spec.{Spec}
use Rattle.reach.specs.Runs.{Run, State, Steps}
use Rattle.hour_store.specs.Store.{Store}
use Rattle.board.specs.History.{Agree, Agreeing, Event, Track, letters}
use Rattle.signal_log.specs.Log.{Log, log_of, track_at}
use Rattle.signal_log.proofs.Runs.{run_once, steps_once}
use Rattle.rule_audit.specs.declared.lines.AuditLine.{AuditLine}
use Rattle.rule_audit.specs.declared.lines.Place.{Place}
use Rattle.rule_audit.specs.declared.lines.Place.TheVariants.{BeforeRow, EndOfTenth}
use Rattle.rule_audit.specs.declared.rules.Rule.{Rule}
use Rattle.filling_pair.specs.declared.asks.Ask.{Ask}
use Rattle.filling_pair.specs.declared.strands.Strand.{Strand}
use Rattle.filling_pair.specs.Asks.{FitAsks, HasAsk, HaveFew, IsAmong, Replies, ReplyAll, ReplyEach}
use Rattle.filling_pair.specs.Kept.{KeepsLine, KeepLine, StandsAt, line_rows}
use Rattle.signal_log.specs.Rows.{rows_before}
use Rattle.filling_pair.specs.Strands.{AreAllStrands, AreStrands, HasStrand, IsAbout, Leads, events_with, start_of}
use Rattle.filling_pair.proofs.Replying.{ascends}

-- what stands at each tenth leads to one state
agree_once : (given : ℕ → List ℕ) (t : ℕ) (xs ys : List (List ℕ)) → length xs ≡ length ys → Agree (λ x. true) given t xs → Agree (λ x. true) given t ys → xs ≡ ys
agree_once given t [] [] e a b = refl
agree_once given t [] (y ∷ ys) e a b = absurd (omega arith)
agree_once given t (x ∷ xs) [] e a b = absurd (omega arith)
agree_once given t (x ∷ xs) (y ∷ ys) e (a, p) (b, q) =
    let same : x ≡ y = a refl ∙ sym (b refl) in
    let rest : xs ≡ ys = agree_once given (t + 1) xs ys (omega arith) p q in
    ap (λ (l : List ℕ). l ∷ xs) same ∙ ap (λ (ls : List (List ℕ)). y ∷ ls) rest

agreeing_once : (k : Track) (given : ℕ → List Event) (f t : ℕ) (s u v : State) → Agreeing k (λ x. true) given f t s u → Agreeing k (λ x. true) given f t s v → u ≡ v
agreeing_once k given f t s u v (xs, e, (a, p)) (ys, d, (b, q)) =
    let same : ys ≡ xs = agree_once (λ x. letters k (given x)) f ys xs (omega arith) b a in
    run_once k.rules (pos f) xs s u v p (subst (λ (ls : List (List ℕ)). Run k.rules (pos f) s ls v) same q)

leads_once : (log : Log) (z : Strand) (t : ℕ) (u v : State) → Leads log z t u → Leads log z t v → u ≡ v
leads_once log z t u v a b = agreeing_once (track_at log z.spec) (events_with log z.fills) 0 t (start_of z) u v a b

pub stands_once : (log : Log) (rows : List Row) (t : ℕ) (place : Place) (z : Strand) (u v : State) → StandsAt log rows t place z u → StandsAt log rows t place z v → u ≡ v
stands_once log rows t EndOfTenth z u v a b = leads_once log z (t + 1) u v a b
stands_once log rows t (BeforeRow n) z u v (x, p, s) (y, q, r) =
    let same : y ≡ x = leads_once log z t y x q p in
    steps_once (track_at log z.spec).rules (pos t) (letters (track_at log z.spec) (take (rows_before rows n) (events_with log z.fills t))) x u v s (subst (λ (a : State). Steps (track_at log z.spec).rules (pos t) a (letters (track_at log z.spec) (take (rows_before rows n) (events_with log z.fills t))) v) same r)

has_lt : (specs : List Spec) (i : ℕ) (asks : List Ask) → FitAsks specs asks → HasAsk i asks → i < length specs
has_lt specs i [] fit has = absurd has
has_lt specs i (a ∷ asks) ((lt, _), fit) has = elim has [ inl e ↦ subst (λ (k : ℕ). k < length specs) e lt | inr rest ↦ has_lt specs i asks fit rest ]

-- with the strand, and with one of the strands, the rule is kept at the line's place
abbrev pub KeepsHere : List Spec → Store → AuditLine → Rule → Strand → Type 0
KeepsHere specs s line rule z = KeepsLine specs s (line_rows s line) line rule z

abbrev pub KeepHere : List Spec → Store → AuditLine → Rule → List Strand → Type 0
KeepHere specs s line rule ss = KeepLine specs s (line_rows s line) line rule ss

module _ (specs : List Spec) (s : Store) (line : AuditLine) (asks : List Ask) where
  each_strand : (ss : List Strand) → ReplyEach specs s line asks ss → AreAllStrands (log_of specs s) ss
  each_strand [] h = tt
  each_strand (z ∷ zs) ((a, among, r), h) = (r.strand, each_strand zs h)

  pub have_few : (ss : List Strand) → ReplyEach specs s line asks ss → HaveFew s ss
  have_few [] h = tt
  have_few (z ∷ zs) ((a, among, r), h) = (r.few, have_few zs h)

  pub are_strands : (rule : Rule) (ss : List Strand) → FitAsks specs asks → ((i : ℕ) → HasAsk i asks ↔ IsAbout rule i) → ReplyAll specs s line asks ss → AreStrands (log_of specs s) rule ss
  are_strands rule ss fit about r = record {
    ascend = ascends 0 (length specs) ss r.ascend;
    channels = λ i. ((λ has. (about i).0 ((r.channels i).0 has).0), λ is. let has = (about i).1 is in (r.channels i).1 (has, has_lt specs i asks fit has));
    each = each_strand ss r.each;
  }

  pub kept_with : (rule : Rule) (i : ℕ) (ss : List Strand) → ReplyEach specs s line asks ss → HasStrand i ss → ((z : Strand) (a : Ask) → z.spec ≡ i → IsAmong a asks → Replies specs s line a z → KeepsHere specs s line rule z) → KeepHere specs s line rule ss
  kept_with rule i [] h has keeps = absurd has
  kept_with rule i (z ∷ zs) ((a, among, r), h) has keeps = elim has [ inl e ↦ inl (keeps z a e among r) | inr rest ↦ inr (kept_with rule i zs h rest keeps) ]

  pub kept_never : (rule : Rule) (ss : List Strand) → ReplyEach specs s line asks ss → ((z : Strand) (a : Ask) → IsAmong a asks → Replies specs s line a z → KeepsHere specs s line rule z → ⊥) → KeepHere specs s line rule ss → ⊥
  kept_never rule [] h never kept = kept
  kept_never rule (z ∷ zs) ((a, among, r), h) never kept = elim kept [ inl here ↦ never z a among r here | inr rest ↦ kept_never rule zs h never rest ]
