-- The words that the code reads off a line, and the commands that it makes of them.
use Rattle.std.proofs.Common.{◌≡◌, ◌≢◌, ◌∙◌, ◌⊎◌, ℕ, ℤ, Bool, true, false, if◌then◌else◌, ◌&&◌, nat_le, List, [], ◌∷◌, length, codes, Option, Some, None, inl, inr, refl, sym, ap, subst, arith}
use Rattle.std.specs.Str.{bytes_eq}
use Rattle.std.proofs.lemmas.Bool.{and_parts, cases_Bool, eqb-true, false≢true, ne_eqb}
use Rattle.std.proofs.lemmas.Bool.Decides.{nat_tests}
use Rattle.std.proofs.lemmas.List.{nil_from_length}
use Rattle.std.proofs.lemmas.List.Elements.{All-nil}
use Rattle.std.proofs.lemmas.Slice.Eq.{bytes_eq-Decides}
use Rattle.sig_base.specs.Window.{Span}
use Rattle.row_reader.specs.Stamp.{stamp_in}
use Rattle.script_lines.specs.Words.{Said, skip, bad, load, replace, withdraw, blank, unblank, audit, verdicts, measures, measures_of, points, offsets, after_word, by_hour, by_name, by_range, by_text, hour_at, is_over, name_at, of_words, phase_at, report_words, skip_spaces, word, worded}
use Rattle.line_laws.specs.Lines.{AreCommand, HasWords, IsName}
use Rattle.line_laws.proofs.Words.{is_first, not_nothing, spaces_skipped, word_none}

-- the first of some words, the others, and whether there are none
abbrev first_of : List (List ℕ) → List ℕ
first_of [] = []
first_of (v ∷ ws) = v

abbrev others_of : List (List ℕ) → List (List ℕ)
others_of [] = []
others_of (v ∷ ws) = ws

abbrev none : List (List ℕ) → Bool
none [] = true
none (v ∷ ws) = false

-- what follows the first word of a line
abbrev next : List ℕ → List ℕ
next line = after_word (skip_spaces line)

first_is : (line : List ℕ) (ws : List (List ℕ)) → HasWords line ws → word (skip_spaces line) ≡ first_of ws
first_is line [] h = ap word (spaces_skipped line h) ∙ word_none.0
first_is line (v ∷ ws) h = (is_first line v ws h).first

next_has : (line : List ℕ) (ws : List (List ℕ)) → HasWords line ws → HasWords (next line) (others_of ws)
next_has line [] h = subst (λ (t : List ℕ). HasWords t []) (sym (ap after_word (spaces_skipped line h) ∙ word_none.1)) (All-nil (λ x. x ≡ 32))
next_has line (v ∷ ws) h = subst (λ (t : List ℕ). HasWords t ws) (sym (is_first line v ws h).after) h.6

not_over : (x : List ℕ) → x ≢ [] → is_over x ≡ false
not_over x ne = ne_eqb (length x) 0 (λ z. ne (nil_from_length x z))

-- nothing is left of a line exactly where it has no words more, and so it is with its first word
left_over : (line : List ℕ) (ws : List (List ℕ)) → HasWords line ws → is_over (skip_spaces line) ≡ none ws
left_over line [] h = ap is_over (spaces_skipped line h)
left_over line (v ∷ ws) h = not_over (skip_spaces line) (λ e. not_nothing v h.1 h.4 (sym (is_first line v ws h).starts ∙ e))

first_over : (line : List ℕ) (ws : List (List ℕ)) → HasWords line ws → is_over (first_of ws) ≡ none ws
first_over line [] h = refl
first_over line (v ∷ ws) h = not_over v (h.4).0

-- these are all words behind the first, where the next is empty
one_other : (us : List (List ℕ)) → none (others_of us) ≡ true → first_of us ≢ [] → us ≡ first_of us ∷ []
one_other [] e ne = absurd (ne refl)
one_other (a ∷ []) e ne = refl
one_other (a ∷ b ∷ us) e ne = absurd (false≢true e)

two_others : (us : List (List ℕ)) → none (others_of (others_of us)) ≡ true → first_of (others_of us) ≢ [] → us ≡ first_of us ∷ first_of (others_of us) ∷ []
two_others [] e ne = absurd (ne refl)
two_others (a ∷ us) e ne = ap (λ (x : List (List ℕ)). a ∷ x) (one_other us e ne)

no_other : (us : List (List ℕ)) → none us ≡ true → us ≡ []
no_other [] e = refl
no_other (a ∷ us) e = absurd (false≢true e)

-- a word of which something is read isn't empty
is_there : {A : Type 0} (read : List ℕ → Option A) (x : List ℕ) (a : A) → read [] ≡ None → read x ≡ Some a → x ≢ []
is_there read x a nothing e z = cc (ap read z)

name_is : (x n : List ℕ) → name_at x ≡ Some n → (x ≡ n) × IsName x
name_is x n e = elim (cases_Bool (nat_le 1 (length x) && nat_le (length x) 255)) [
  | inl t ↦ (let is : Some x ≡ Some n = sym (named x t) ∙ e in cc, let p = and_parts (nat_le 1 (length x)) (nat_le (length x) 255) t in grind (arith, nat_tests))
  | inr f ↦ absurd (let no : name_at x ≡ None = rw f refl in cc)
]
  where
    named : (y : List ℕ) → (nat_le 1 (length y) && nat_le (length y) 255) ≡ true → name_at y ≡ Some y
    named y t = rw t refl

name_there : (x : List ℕ) → IsName x → name_at x ≡ Some x
name_there x h = let t : (nat_le 1 (length x) && nat_le (length x) 255) ≡ true = grind (arith, nat_tests) in rw t refl

-- what is read of some words is a command that they are, or it's bad
record Makes (w : Span) (ws : List (List ℕ)) (x : Said) : Type 0 where
  pub made : (x ≡ bad) ⊎ AreCommand w ws x

module _ (w : Span) (ws : List (List ℕ)) where
  fails : Makes w ws bad
  fails = record { made = inl refl }

  makes : (x : Said) → AreCommand w ws x → Makes w ws x
  makes x k = record { made = inr k }

  by_test : {x y : Said} (t : Bool) → (t ≡ true → Makes w ws x) → (t ≡ false → Makes w ws y) → Makes w ws (if t then x else y)
  by_test true f g = f refl
  by_test false f g = g refl

  with_number : (make : ℕ → Said) (o : Option ℕ) → ((h : ℕ) → o ≡ Some h → AreCommand w ws (make h)) → Makes w ws (by_hour make o)
  with_number make None f = fails
  with_number make (Some h) f = makes (make h) (f h refl)

  with_text : (make : List ℕ → Said) (o : Option (List ℕ)) → ((n : List ℕ) → o ≡ Some n → AreCommand w ws (make n)) → Makes w ws (by_text make o)
  with_text make None f = fails
  with_text make (Some n) f = makes (make n) (f n refl)

  with_both : (make : ℕ → List ℕ → Said) (o : Option ℕ) (p : Option (List ℕ)) → ((h : ℕ) (n : List ℕ) → o ≡ Some h → p ≡ Some n → AreCommand w ws (make h n)) → Makes w ws (by_name make o p)
  with_both make None p f = fails
  with_both make (Some h) None f = fails
  with_both make (Some h) (Some n) f = makes (make h n) (f h n refl refl)

  with_range : (make : ℤ → ℤ → Said) (o p : Option ℤ) → ((a b : ℤ) → o ≡ Some a → p ≡ Some b → AreCommand w ws (make a b)) → Makes w ws (by_range make o p)
  with_range make None p f = fails
  with_range make (Some a) None f = fails
  with_range make (Some a) (Some b) f = makes (make a b) (f a b refl refl)

-- the first word is this one, and the others are these
both_are : (v u : List ℕ) (us xs : List (List ℕ)) → bytes_eq v u ≡ true → us ≡ xs → v ∷ us ≡ u ∷ xs
both_are v u us xs t e = let same = (bytes_eq-Decides v u).0 t in cc

-- what the code makes of the first word, the others and what is left
module _ (w : Span) (v : List ℕ) (us : List (List ℕ)) (rest : List ℕ)
    (first : is_over (first_of us) ≡ none us) (second : is_over (first_of (others_of us)) ≡ none (others_of us)) (over : is_over rest ≡ none (others_of (others_of us))) where
  of_number : (u : List ℕ) (read : List ℕ → Option ℕ) (make : ℕ → Said) → read [] ≡ None → ((h : ℕ) → (x : List ℕ) × (v ∷ us ≡ u ∷ x ∷ []) × (read x ≡ Some h) → AreCommand w (v ∷ us) (make h)) → bytes_eq v u ≡ true → Makes w (v ∷ us) (if is_over (first_of (others_of us)) then by_hour make (read (first_of us)) else bad)
  of_number u read make nothing k t =
      by_test w (v ∷ us) (is_over (first_of (others_of us)))
      (λ o. with_number w (v ∷ us) make (read (first_of us)) (λ h p. k h (first_of us, both_are v u us (first_of us ∷ []) t (one_other us (sym second ∙ o) (is_there read (first_of us) h nothing p)), p)))
      (λ o. fails w (v ∷ us))

  of_text : (u : List ℕ) (make : List ℕ → Said) → ((n : List ℕ) → (v ∷ us ≡ u ∷ n ∷ []) × IsName n → AreCommand w (v ∷ us) (make n)) → bytes_eq v u ≡ true → Makes w (v ∷ us) (if is_over (first_of (others_of us)) then by_text make (name_at (first_of us)) else bad)
  of_text u make k t =
      by_test w (v ∷ us) (is_over (first_of (others_of us)))
      (λ o. with_text w (v ∷ us) make (name_at (first_of us)) (λ n p.
      let is = name_is (first_of us) n p in
      let all = one_other us (sym second ∙ o) (is_there name_at (first_of us) n refl p) in
      k n (both_are v u us (n ∷ []) t (rw is.0 at all), rw is.0 at is.1)))
      (λ o. fails w (v ∷ us))

  of_both : (u : List ℕ) (make : ℕ → List ℕ → Said) → ((h : ℕ) (n : List ℕ) → (x : List ℕ) × (v ∷ us ≡ u ∷ x ∷ n ∷ []) × (hour_at x ≡ Some h) × IsName n → AreCommand w (v ∷ us) (make h n)) → bytes_eq v u ≡ true → Makes w (v ∷ us) (if is_over rest then by_name make (hour_at (first_of us)) (name_at (first_of (others_of us))) else bad)
  of_both u make k t =
      by_test w (v ∷ us) (is_over rest)
      (λ o. with_both w (v ∷ us) make (hour_at (first_of us)) (name_at (first_of (others_of us))) (λ h n p q.
      let is = name_is (first_of (others_of us)) n q in
      let all = two_others us (sym over ∙ o) (is_there name_at (first_of (others_of us)) n refl q) in
      k h n (first_of us, both_are v u us (first_of us ∷ n ∷ []) t (all ∙ ap (λ (x : List ℕ). first_of us ∷ x ∷ []) is.0), p, rw is.0 at is.1)))
      (λ o. fails w (v ∷ us))

  of_range : (u : List ℕ) (make : ℤ → ℤ → Said) → ((f e : ℤ) → (x y : List ℕ) × (v ∷ us ≡ u ∷ x ∷ y ∷ []) × (stamp_in w x ≡ Some f) × (stamp_in w y ≡ Some e) → AreCommand w (v ∷ us) (make f e)) → bytes_eq v u ≡ true → Makes w (v ∷ us) (if is_over rest then by_range make (stamp_in w (first_of us)) (stamp_in w (first_of (others_of us))) else bad)
  of_range u make k t =
      by_test w (v ∷ us) (is_over rest)
      (λ o. with_range w (v ∷ us) make (stamp_in w (first_of us)) (stamp_in w (first_of (others_of us))) (λ f e p q.
      let all = two_others us (sym over ∙ o) (is_there (stamp_in w) (first_of (others_of us)) e refl q) in
      k f e (first_of us, first_of (others_of us), both_are v u us (first_of us ∷ first_of (others_of us) ∷ []) t all, p, q)))
      (λ o. fails w (v ∷ us))

  alone : (u : List ℕ) → bytes_eq v u ≡ true → is_over (first_of us) ≡ true → v ∷ us ≡ u ∷ []
  alone u t o = both_are v u us [] t (no_other us (sym first ∙ o))

  of_report : Makes w (v ∷ us) (report_words v (first_of us) (first_of (others_of us)))
  of_report =
      by_test w (v ∷ us) (bytes_eq v (codes "audit")) (λ t. by_test w (v ∷ us) (is_over (first_of us)) (λ o. makes w (v ∷ us) audit (alone (codes "audit") t o)) (λ o. fails w (v ∷ us)))
      (λ _. by_test w (v ∷ us) (bytes_eq v (codes "verdicts")) (of_number (codes "verdicts") hour_at verdicts refl (λ h k. k))
      (λ _. by_test w (v ∷ us) (bytes_eq v (codes "measures")) (λ t. by_test w (v ∷ us) (is_over (first_of us)) (λ o. makes w (v ∷ us) measures (alone (codes "measures") t o)) (λ o. of_number (codes "measures") hour_at measures_of refl (λ h k. k) t))
      (λ _. by_test w (v ∷ us) (bytes_eq v (codes "points")) (of_number (codes "points") phase_at points refl (λ h k. k))
      (λ _. by_test w (v ∷ us) (bytes_eq v (codes "offsets")) (of_text (codes "offsets") offsets (λ n k. k)) (λ _. fails w (v ∷ us))))))

  told : Makes w (v ∷ us) (of_words w v (first_of us) (first_of (others_of us)) rest)
  told =
      by_test w (v ∷ us) (bytes_eq v (codes "load")) (of_both (codes "load") load (λ h n k. k))
      (λ _. by_test w (v ∷ us) (bytes_eq v (codes "replace")) (of_both (codes "replace") replace (λ h n k. k))
      (λ _. by_test w (v ∷ us) (bytes_eq v (codes "withdraw")) (of_number (codes "withdraw") hour_at withdraw refl (λ h k. k))
      (λ _. by_test w (v ∷ us) (bytes_eq v (codes "blank")) (of_range (codes "blank") blank (λ f e k. k))
      (λ _. by_test w (v ∷ us) (bytes_eq v (codes "unblank")) (of_range (codes "unblank") unblank (λ f e k. k)) (λ _. of_report)))))

same_words : (w : Span) (v u a c b d r s : List ℕ) → v ≡ u → a ≡ c → b ≡ d → r ≡ s → of_words w v a b r ≡ of_words w u c d s
same_words w v u a c b d r s e f g h =
    ap (λ (x : List ℕ). of_words w x a b r) e ∙ ap (λ (x : List ℕ). of_words w u x b r) f ∙ ap (λ (x : List ℕ). of_words w u c x r) g ∙ ap (λ (x : List ℕ). of_words w u c d x) h

-- what the code reads of a line of these words
worded_is : (w : Span) (line : List ℕ) (ws : List (List ℕ)) (rest : List ℕ) → HasWords line ws → skip_spaces (next (next (next line))) ≡ rest → worded w line ≡ of_words w (first_of ws) (first_of (others_of ws)) (first_of (others_of (others_of ws))) rest
unfolding worded
worded_is w line ws rest h e =
    let k = next_has line ws h in
    let l = next_has (next line) (others_of ws) k in
    same_words w _ _ _ _ _ _ _ _ (first_is line ws h) (first_is (next line) (others_of ws) k) (first_is (next (next line)) (others_of (others_of ws)) l) e

-- a line of some words makes a command that they are, or it's bad
pub makes_command : (w : Span) (line v : List ℕ) (us : List (List ℕ)) → HasWords line (v ∷ us) → (worded w line ≡ bad) ⊎ AreCommand w (v ∷ us) (worded w line)
makes_command w line v us h =
    let k = next_has line (v ∷ us) h in
    let l = next_has (next line) us k in
    let m = next_has (next (next line)) (others_of us) l in
    let rest = skip_spaces (next (next (next line))) in
    let is = told w v us rest (first_over (next line) us k) (first_over (next (next line)) (others_of us) l) (left_over (next (next (next line))) (others_of (others_of us)) m) in
    (subst (λ (x : Said). Makes w (v ∷ us) x) (sym (worded_is w line (v ∷ us) rest h refl)) is).made

is_nothing : (x : List ℕ) → is_over x ≡ true → x ≡ []
is_nothing x e = nil_from_length x (eqb-true (length x) 0 e)

-- with three words at most
few_words : (w : Span) (line : List ℕ) (ws xs : List (List ℕ)) → HasWords line ws → ws ≡ xs → none (others_of (others_of (others_of xs))) ≡ true → worded w line ≡ of_words w (first_of xs) (first_of (others_of xs)) (first_of (others_of (others_of xs))) []
few_words w line ws xs h e few =
    let is = subst (λ (ys : List (List ℕ)). HasWords line ys) e h in
    let m = next_has (next (next line)) (others_of (others_of xs)) (next_has (next line) (others_of xs) (next_has line xs is)) in
    worded_is w line xs [] is (is_nothing (skip_spaces (next (next (next line)))) (left_over (next (next (next line))) (others_of (others_of (others_of xs))) m ∙ few))

number_said : (make : ℕ → Said) (o : Option ℕ) (h : ℕ) → o ≡ Some h → by_hour make o ≡ make h
number_said make o h e = rw e refl

hour_said : (x : List ℕ) (h : ℕ) → hour_at x ≡ Some h → (if is_over x then measures else by_hour measures_of (hour_at x)) ≡ measures_of h
hour_said x h e = rw (not_over x (is_there hour_at x h refl e)) (number_said measures_of (hour_at x) h e)

both_said : (make : ℕ → List ℕ → Said) (o : Option ℕ) (h : ℕ) (n : List ℕ) → o ≡ Some h → IsName n → by_name make o (name_at n) ≡ make h n
both_said make o h n e is = rw (e, name_there n is) refl

range_said : (make : ℤ → ℤ → Said) (o p : Option ℤ) (f e : ℤ) → o ≡ Some f → p ≡ Some e → by_range make o p ≡ make f e
range_said make o p f e i j = rw (i, j) refl

-- a line whose words are a command says it
pub command_made : (w : Span) (line : List ℕ) (ws : List (List ℕ)) (x : Said) → HasWords line ws → AreCommand w ws x → worded w line ≡ x
command_made w line ws skip h k = absurd k
command_made w line ws bad h k = absurd k
command_made w line ws (load hour name) h k = few_words w line ws (codes "load" ∷ k.0 ∷ name ∷ []) h k.1 refl ∙ both_said load (hour_at k.0) hour name k.2 k.3
command_made w line ws (replace hour name) h k = few_words w line ws (codes "replace" ∷ k.0 ∷ name ∷ []) h k.1 refl ∙ both_said replace (hour_at k.0) hour name k.2 k.3
command_made w line ws (withdraw hour) h k = few_words w line ws (codes "withdraw" ∷ k.0 ∷ []) h k.1 refl ∙ number_said withdraw (hour_at k.0) hour k.2
command_made w line ws (blank from to) h k = few_words w line ws (codes "blank" ∷ k.0 ∷ k.1 ∷ []) h k.2 refl ∙ range_said blank (stamp_in w k.0) (stamp_in w k.1) from to k.3 k.4
command_made w line ws (unblank from to) h k = few_words w line ws (codes "unblank" ∷ k.0 ∷ k.1 ∷ []) h k.2 refl ∙ range_said unblank (stamp_in w k.0) (stamp_in w k.1) from to k.3 k.4
command_made w line ws audit h k = few_words w line ws (codes "audit" ∷ []) h k refl
command_made w line ws (verdicts hour) h k = few_words w line ws (codes "verdicts" ∷ k.0 ∷ []) h k.1 refl ∙ number_said verdicts (hour_at k.0) hour k.2
command_made w line ws measures h k = few_words w line ws (codes "measures" ∷ []) h k refl
command_made w line ws (measures_of hour) h k = few_words w line ws (codes "measures" ∷ k.0 ∷ []) h k.1 refl ∙ hour_said k.0 hour k.2
command_made w line ws (points phase) h k = few_words w line ws (codes "points" ∷ k.0 ∷ []) h k.1 refl ∙ number_said points (phase_at k.0) phase k.2
command_made w line ws (offsets name) h k = few_words w line ws (codes "offsets" ∷ name ∷ []) h k.0 refl ∙ ap (by_text offsets) (name_there name k.1)
