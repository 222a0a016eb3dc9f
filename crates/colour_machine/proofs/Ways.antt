-- Where changes of colour lead, one after another.
use Rattle.std.proofs.Common.{◌≡◌, refl, ◌∙◌, ◌⊎◌, inl, inr, ◌↔◌, ℕ, ◌+◌, ◌<◌, ◌≤◌, List, [], ◌∷◌, ◌++◌, arith}
use Rattle.std.proofs.lemmas.Bool.{cases_eq}
use Rattle.colour_machine.specs.Mask.{Has}
use Rattle.colour_machine.specs.Rules.{Rules, IsMachine, Goes, Leads, Changes, Change, IsReached}
use Rattle.colour_machine.specs.Changes.{ReachedOne}

-- where a legal letter leads is one of the machine's colours
pub goes_stays : (m : Rules) (c l d : ℕ) → IsMachine m → Goes m c l d → d < m.colours
goes_stays m c l d laws (lt, b, n) = laws.stays c l d lt b n

pub change_stays : (m : Rules) (c d : ℕ) → IsMachine m → Change m c d → d < m.colours
change_stays m c d laws (l, g, ne) = goes_stays m c l d laws g

-- changes lead from colour c over these colours to colour d
abbrev pub Path : Rules → ℕ → List ℕ → ℕ → Type 0
Path m c [] d = Change m c d
Path m c (x ∷ xs) d = Change m c x × Path m x xs d

-- changes lead from a colour of the mask to colour d
abbrev pub IsThrough : Rules → ℕ → ℕ → Type 0
IsThrough m from d = (c : ℕ) × Has from c × ((xs : List ℕ) × Path m c xs d)

path_stays : (m : Rules) (c : ℕ) (xs : List ℕ) (d : ℕ) → IsMachine m → Path m c xs d → d < m.colours
path_stays m c [] d laws g = change_stays m c d laws g
path_stays m c (x ∷ xs) d laws (g, p) = path_stays m x xs d laws p

pub through_stays : (m : Rules) (from d : ℕ) → IsMachine m → IsThrough m from d → d < m.colours
through_stays m from d laws (c, h, (xs, p)) = path_stays m c xs d laws p

path_more : (m : Rules) (c : ℕ) (xs : List ℕ) (x d : ℕ) → Path m c xs x → Change m x d → Path m c (xs ++ x ∷ []) d
path_more m c [] x d p h = (p, h)
path_more m c (y ∷ ys) x d (p, r) h = (p, path_more m y ys x d r h)

pub round_sound : (m : Rules) (from reached next : ℕ) → ((d : ℕ) → Has reached d → IsThrough m from d) → ((d : ℕ) → Has next d ↔ (Has reached d ⊎ ReachedOne m from reached d)) → (d : ℕ) → Has next d → IsThrough m from d
round_sound m from reached next s n d h = elim ((n d).0 h) [
  | inl r ↦ s d r
  | inr a ↦ elim a.1 [ inl f ↦ (a.0, f, ([], a.2)) | inr r ↦ let (b, f, (xs, p)) = s a.0 r in (b, f, (xs ++ a.0 ∷ [], path_more m b xs a.0 d p a.2)) ]
]

-- a round that adds nothing has reached all
module _ (m : Rules) (from reached : ℕ) (closed : (d : ℕ) → ReachedOne m from reached d → Has reached d) where
  closed_path : (c : ℕ) (xs : List ℕ) (d : ℕ) → (Has from c ⊎ Has reached c) → Path m c xs d → Has reached d
  closed_path c [] d h g = closed d (c, h, g)
  closed_path c (x ∷ xs) d h (g, p) = closed_path x xs d (inr (closed x (c, h, g))) p

  pub closed_reached : (d : ℕ) → IsThrough m from d → Has reached d
  closed_reached d (c, h, (xs, p)) = closed_path c xs d (inl h) p

-- the colours that one change reaches from a colour below k
abbrev pub AddedBelow : Rules → ℕ → ℕ → ℕ → ℕ → Type 0
AddedBelow m k from reached d = (c : ℕ) × (c < k) × (Has from c ⊎ Has reached c) × Change m c d

pub added_more : (m : Rules) (k from reached next last d : ℕ) → (Has next d ↔ (Has reached d ⊎ AddedBelow m k from reached d)) → (Has last d ↔ (Has next d ⊎ ((Has from k ⊎ Has reached k) × Change m k d))) → Has last d ↔ (Has reached d ⊎ AddedBelow m (k + 1) from reached d)
added_more m k from reached next last d a b = (
  λ h. elim (b.0 h) [ inl x ↦ elim (a.0 x) [ inl y ↦ inl y | inr (c, l, w, v) ↦ inr (c, omega arith, w, v) ] | inr (w, v) ↦ inr (k, omega arith, w, v) ],
  λ h. elim h [ inl x ↦ b.1 (inl (a.1 (inl x))) | inr (c, l, w, v) ↦ elim (cases_eq c k) [ inl e ↦ b.1 (inr (rw (← e) w, rw (← e) v)) | inr ne ↦ b.1 (inl (a.1 (inr (c, omega arith, w, v)))) ] ],
)

-- once all colours are done
pub added_all : (m : Rules) (k from reached next d : ℕ) → m.colours ≤ k → (Has next d ↔ (Has reached d ⊎ AddedBelow m k from reached d)) → Has next d ↔ (Has reached d ⊎ ReachedOne m from reached d)
added_all m k from reached next d all a = (
  λ h. elim (a.0 h) [ inl x ↦ inl x | inr (c, l, w, v) ↦ inr (c, w, v) ],
  λ h. a.1 (elim h [ inl x ↦ inl x | inr (c, w, (l, g, ne)) ↦ inr (c, (let lt = g.0 in omega arith), w, (l, g, ne)) ]),
)

-- letters with a change, as a path over colours
module _ (m : Rules) where
  path_before : (c x : ℕ) (d : ℕ) → Change m c x → ((x ≡ d) ⊎ ((xs : List ℕ) × Path m x xs d)) → (xs : List ℕ) × Path m c xs d
  path_before c x d g h = elim h [ inl e ↦ ([], rw (← e) g) | inr p ↦ (x ∷ p.0, (g, p.1)) ]

  leads_path : (c : ℕ) (ls : List ℕ) (d : ℕ) → Leads m c ls d → (c ≡ d) ⊎ ((xs : List ℕ) × Path m c xs d)
  leads_path c [] d e = inl e
  leads_path c (l ∷ ls) d (x, g, p) = let r = leads_path x ls d p in elim (cases_eq x c) [ inl e ↦ rw (← e) r | inr ne ↦ inr (path_before c x d (l, g, ne) r) ]

  changes_path : (c : ℕ) (ls : List ℕ) (d : ℕ) → Leads m c ls d → Changes m c ls → (xs : List ℕ) × Path m c xs d
  changes_path c [] d p q = absurd q
  changes_path c (l ∷ ls) d (x, g, p) (y, k, q) = elim (cases_eq x c) [
    | inl e ↦ let g2 = g.2 in let k2 = k.2 in let same : y ≡ x = cc in elim q [ inl ne ↦ absurd (ne (same ∙ e)) | inr r ↦ rw (← e) (changes_path x ls d p (rw (← same) r)) ]
    | inr ne ↦ path_before c x d (l, g, ne) (leads_path x ls d p)
  ]

path_letters : (m : Rules) (c : ℕ) (xs : List ℕ) (d : ℕ) → Path m c xs d → (ls : List ℕ) × Leads m c ls d × Changes m c ls
path_letters m c [] d (l, g, ne) = (l ∷ [], (d, g, refl), (d, g, inl ne))
path_letters m c (x ∷ xs) d ((l, g, ne), p) = let r = path_letters m x xs d p in (l ∷ r.0, (x, g, r.1), (x, g, inl ne))

pub through_all : (m : Rules) (from d : ℕ) → IsThrough m from d ↔ IsReached m from d
through_all m from d = (λ (c, h, (xs, p)). (c, h, path_letters m c xs d p), λ (c, h, (ls, p, q)). (c, h, changes_path m c ls d p q))
