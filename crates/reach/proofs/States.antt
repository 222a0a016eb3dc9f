-- States of one machine, forward.
use Rattle.std.proofs.Common.{suc, ◌≡◌, ◌≢◌, refl, ap, ◌∙◌, subst, ◌⊎◌, inl, inr, ◌↔◌, ℕ, ◌<◌, ℤ, pos, ◌+ℤ◌, List, [], ◌∷◌, length, get_or, arith}
use Rattle.std.proofs.lemmas.Int.{ints}
use Rattle.std.proofs.lemmas.Bool.{cases_lt}
use Rattle.std.proofs.lemmas.List.{get_or_past, get_or_default}
use Rattle.span_set.specs.Spans.{Member}
use Rattle.span_set.specs.declared.set.Span.{Span}
use Rattle.colour_machine.specs.Mask.{Has}
use Rattle.colour_machine.specs.Rules.{Rules, IsMachine, Goes}
use Rattle.colour_machine.proofs.Ways.{goes_stays}
use Rattle.reach.specs.Runs.{State, state, Run, Fills}
use Rattle.reach.specs.Past.{Holds, AfterRow}
use Rattle.reach.specs.Leaving.{HasOld, CanLeave}
use Rattle.reach.specs.Sets.{IsRebuilt}

pub state_same : (s u : State) → s.colour ≡ u.colour → s.entry ≡ u.entry → s ≡ u
state_same s u a b = ap (λ (c : ℕ). state c s.entry) a ∙ ap (λ (e : ℤ). state u.colour e) b

none_left : (m : Rules) (t : ℤ) (s u : State) (lists : List (List ℕ)) → (t +ℤ pos (length lists)) ≡ t → Run m t s lists u → u ≡ s
none_left m t s u [] e r = r
none_left m t s u (ls ∷ rest) e r = absurd (omega (arith, ints))

-- no tenth is left
pub fills_none : (m : Rules) (t : ℤ) (s u : State) → Fills m t t s u ↔ (u ≡ s)
fills_none m t s u = (λ f. none_left m t s u f.0 f.1 f.2, λ e. ([], omega (arith, ints), e))

-- a state that the sets hold has one of their colours
pub in_sets : (sets : List (List Span)) (c : ℕ) (e : ℤ) → Member (get_or sets c []) e → c < length sets
in_sets sets c e h = elim (cases_lt c (length sets)) [ inl x ↦ x | inr x ↦ let past : get_or sets c [] ≡ [] = get_or_past sets c [] x in absurd (subst (λ (l : List Span). Member l e) past h) ]

pub leave_is : (m : Rules) (sets : List (List Span)) (t : ℤ) (n c : ℕ) → n ≡ m.colours → length sets ≡ m.colours → ((c < n) × HasOld (get_or sets c []) (m.floor c) t) ↔ CanLeave m sets t c
leave_is m sets t n c a b = (
  λ (l, (e, h, o)). (state c e, refl, h, o),
  λ (s, e, h, o). (let l = in_sets sets s.colour s.entry h in omega arith, rw (← e) (s.entry, h, o)),
)

pub held_at : (sets : List (List Span)) (i : ℕ) (set : List Span) (e : ℤ) → i < length sets → set ≡ get_or sets i set → Member set e → (s : State) × Holds sets s
held_at sets i set e lt is h = (state i e, let same : set ≡ get_or sets i [] = is ∙ get_or_default sets i set [] lt in subst (λ (l : List Span). Member l e) same h)

pub lists_same : (a b : List (List Span)) → length a ≡ length b → ((k : ℕ) → k < length a → get_or a k [] ≡ get_or b k []) → a ≡ b
lists_same [] [] l h = refl
lists_same [] (y ∷ ys) l h = absurd (omega arith)
lists_same (x ∷ xs) [] l h = absurd (omega arith)
lists_same (x ∷ xs) (y ∷ ys) l h = let head : x ≡ y = h 0 (omega arith) in let tail : xs ≡ ys = lists_same xs ys (omega arith) (λ k lt. h (suc k) (omega arith)) in cc

-- the states after a row, from masks
pub row_is : (m : Rules) (sets : List (List Span)) (t : ℤ) (l keep leave entered : ℕ) → ((c : ℕ) → Has leave c ↔ CanLeave m sets t c) → ((c : ℕ) → Has keep c ↔ Goes m c l c) → ((d : ℕ) → Has entered d ↔ ((c : ℕ) × Has leave c × Goes m c l d × (d ≢ c))) → (u : State) → AfterRow m sets t l u ↔ ((Has keep u.colour × Holds sets u) ⊎ (Has entered u.colour × (u.entry ≡ t)))
row_is m sets t l keep leave entered can kept ent u = (
  λ (s, h, (g, k)). elim k [
    | inl same ↦ inl ((kept u.colour).1 (rw same (subst (λ (v : State). Goes m s.colour l v.colour) same g)), rw same h)
    | inr new ↦ inr ((ent u.colour).1 (s.colour, (can s.colour).1 (s, refl, h, new.2), g, new.0), new.1)
  ],
  λ h. elim h [
    | inl (k, held) ↦ (u, held, ((kept u.colour).0 k, inl refl))
    | inr (n, e) ↦ let x = (ent u.colour).0 n in let c = (can x.0).0 x.1 in (c.0, c.2, (rw c.1 x.2, inr (rw c.1 x.3, e, c.3)))
  ],
)

-- the rebuilt sets hold the states after the row
pub row_rebuilt : (m : Rules) (sets new : List (List Span)) (t : ℤ) (l keep leave entered : ℕ) → IsMachine m → ((c : ℕ) → Has leave c ↔ CanLeave m sets t c) → ((c : ℕ) → Has keep c ↔ Goes m c l c) → ((d : ℕ) → Has entered d ↔ ((c : ℕ) × Has leave c × Goes m c l d × (d ≢ c))) → length sets ≡ m.colours → IsRebuilt sets keep entered t new (length sets) → (u : State) → Holds new u ↔ AfterRow m sets t l u
row_rebuilt m sets new t l keep leave entered laws can kept ent len r u =
    let k = row_is m sets t l keep leave entered can kept ent u in
    let size = r.0 in (
      λ h. let below : u.colour < length sets = (let i = in_sets new u.colour u.entry h in omega arith) in k.1 ((r.1 u.colour below u.entry).0 h),
      λ a. elim (k.0 a) [
        | inl x ↦ let below : u.colour < length sets = (let i = ((kept u.colour).0 x.0).0 in omega arith) in (r.1 u.colour below u.entry).1 (inl x)
        | inr x ↦ let (c, v, g, ne) = (ent u.colour).0 x.0 in let below : u.colour < length sets = (let i = goes_stays m c l u.colour laws g in omega arith) in (r.1 u.colour below u.entry).1 (inr x)
      ],
    )
