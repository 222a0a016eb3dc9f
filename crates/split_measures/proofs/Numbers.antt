-- Four numbers tell of a service what all histories that agree tell.
use Rattle.std.proofs.Common.{◌≡◌, refl, sym, ◌∙◌, ◌⊎◌, inl, inr, ℕ, ◌+◌, ◌-◌, ◌*◌, ◌<◌, ◌≤◌, true, false, nat_le, arith, length, subst}
use Rattle.std.proofs.Math.Nat.{mul-le-mul_right}
use Rattle.std.proofs.lemmas.Bool.{cases_Bool, cases_eq, and_parts, leb-true, le-leb}
use Rattle.sig_base.specs.declared.values.Frac.{Frac}
use Rattle.board.specs.Channels.{AreSpecs}
use Rattle.board.specs.History.{History}
use Rattle.signal_log.specs.Log.{AgreesWith, HasHistory, Log, track_at, window_end}
use Rattle.detector_state.specs.Ranges.{Counts}
use Rattle.service_cut.specs.declared.items.Service.{Service}
use Rattle.detector_state.specs.Free.{IsOrdered, Order}
use Rattle.detector_state.specs.Tells.{HasColour, IsColourReached, IsGreatest, IsLeast, IsSure}
use Rattle.detector_state.proofs.FreeColours.{colours_tell, one_colour}
use Rattle.detector_state.proofs.FreeCounting.{counts_le, counts_some}
use Rattle.detector_state.proofs.Spread.{extremes, some_end}
use Rattle.detector_state.proofs.Switching.{switches_are_ordered}
use Rattle.split_measures.specs.Verdicts.{AreNumbers, FailsIn, HasFault, IsInLog, IsVerdict, NumbersTell, are_enough, verdict_of}

more_enough : (a g j d : ℕ) → g ≤ j → a ≤ g * d → a ≤ j * d
more_enough a g j d le h = let x = mul-le-mul_right d le in omega arith

abbrev enough_by : Frac → Service → ℕ → ℕ → Type 0
enough_by high s green red = are_enough high.num high.den (s.g - s.b) green red ≡ true

enough : (high : Frac) (s : Service) (green red : ℕ) → enough_by high s green red → (high.num * (s.g - s.b) ≤ green * high.den) × (high.num * 50 ≤ red * high.den)
enough high s green red e =
    let p = and_parts (nat_le (high.num * (s.g - s.b)) (green * high.den)) (nat_le (high.num * 50) (red * high.den)) e in
    (leb-true (high.num * (s.g - s.b)) (green * high.den) p.0, leb-true (high.num * 50) (red * high.den) p.1)

enough_back : (high : Frac) (s : Service) (green red : ℕ) → high.num * (s.g - s.b) ≤ green * high.den → high.num * 50 ≤ red * high.den → enough_by high s green red
enough_back high s green red a b = rw (le-leb (high.num * (s.g - s.b)) (green * high.den) a, le-leb (high.num * 50) (red * high.den) b) refl

module _ (log : Log) (i : ℕ) (o : Order) (high : Frac) (s : Service) (gl gg rl rg : ℕ) (are : AreSpecs log.specs) (has : HasHistory log) (lt : i < length log.specs) (is : IsOrdered (track_at log i).rules o) (one : o.on ≡ 1) (inside : IsInLog log s) (nums : AreNumbers log i s gl gg rl rg) where
  decide : (h : History) (x : ℕ) → AgreesWith log h → x < window_end log → HasColour log h i 1 x ⊎ (HasColour log h i 1 x → ⊥)
  decide h x a small =
      let (v, r) = some_end log i are lt h x a small in
      elim (cases_eq v.colour 1) [
        | inl e ↦ inl (v, r, e)
        | inr ne ↦ inr (λ on. ne (one_colour log h i v.colour 1 x (v, r, refl) on))
      ]

  sure_on : (h : History) (x : ℕ) → AgreesWith log h → x < window_end log → IsSure log i 1 x → HasColour log h i 1 x
  sure_on h x a small sure = (colours_tell log i 1 x are has lt small is.free).1.1 sure h a

  on_may : (h : History) (x : ℕ) → AgreesWith log h → x < window_end log → HasColour log h i 1 x → IsColourReached log i 1 x
  on_may h x a small on = (colours_tell log i 1 x are has lt small is.free).0.0 (h, a, on)

  -- how often a history is on in the two windows
  green_some : (h : History) → AgreesWith log h → (n : ℕ) × Counts (HasColour log h i 1) s.b s.g n
  green_some h a = let w1 = inside.yellow in let w2 = inside.red in counts_some (HasColour log h i 1) s.b s.g inside.green (λ t l u. decide h t a (omega arith))

  red_some : (h : History) → AgreesWith log h → (n : ℕ) × Counts (HasColour log h i 1) s.r (s.r + 50) n
  red_some h a = let w2 = inside.red in counts_some (HasColour log h i 1) s.r (s.r + 50) (omega arith) (λ t l u. decide h t a (omega arith))

  fails_all : enough_by high s gl rl → (h : History) → AgreesWith log h → FailsIn log i high s h
  fails_all e h a =
      let w1 = inside.yellow in
      let w2 = inside.red in
      let (x, y) = enough high s gl rl e in
      let (green, gc) = green_some h a in
      let (red, rc) = red_some h a in
      let g1 = counts_le (IsSure log i 1) (HasColour log h i 1) s.b s.g gl green (λ t l u sure. sure_on h t a (omega arith) sure) nums.green_least gc in
      let r1 = counts_le (IsSure log i 1) (HasColour log h i 1) s.r (s.r + 50) rl red (λ t l u sure. sure_on h t a (omega arith) sure) nums.red_least rc in
      record { green = green; red = red; green_counts = gc; red_counts = rc; in_green = more_enough (high.num * (s.g - s.b)) gl green high.den g1 x; in_red = more_enough (high.num * 50) rl red high.den r1 y }

  -- where one fails, the greatest numbers are enough
  fails_most : (h : History) → AgreesWith log h → FailsIn log i high s h → enough_by high s gg rg
  fails_most h a f =
      let w1 = inside.yellow in
      let w2 = inside.red in
      let g1 = counts_le (HasColour log h i 1) (IsColourReached log i 1) s.b s.g f.green gg (λ t l u on. on_may h t a (omega arith) on) f.green_counts nums.green_greatest in
      let r1 = counts_le (HasColour log h i 1) (IsColourReached log i 1) s.r (s.r + 50) f.red rg (λ t l u on. on_may h t a (omega arith) on) f.red_counts nums.red_greatest in
      enough_back high s gg rg (more_enough (high.num * (s.g - s.b)) f.green gg high.den g1 f.in_green) (more_enough (high.num * 50) f.red rg high.den r1 f.in_red)

  least : (h : History) × IsLeast log i 1 h
  least = subst (λ (c : ℕ). (h : History) × IsLeast log i c h) one (extremes log i o are has lt is).0

  greatest : (h : History) × IsGreatest log i 1 h
  greatest = subst (λ (c : ℕ). (h : History) × IsGreatest log i c h) one (extremes log i o are has lt is).1

  -- the history that is on at the most tenths fails where the greatest numbers are enough
  greatest_fails : enough_by high s gg rg → (h : History) × AgreesWith log h × FailsIn log i high s h
  greatest_fails e =
      let w1 = inside.yellow in
      let w2 = inside.red in
      let (h, top) = greatest in
      let a = top.agrees in
      let (x, y) = enough high s gg rg e in
      let may_on : (t : ℕ) → t < window_end log → IsColourReached log i 1 t → HasColour log h i 1 t = λ t small r. top.wherever t small ((colours_tell log i 1 t are has lt small is.free).0.1 r) in
      let (green, gc) = green_some h a in
      let (red, rc) = red_some h a in
      let g1 = counts_le (IsColourReached log i 1) (HasColour log h i 1) s.b s.g gg green (λ t l u r. may_on t (omega arith) r) nums.green_greatest gc in
      let r1 = counts_le (IsColourReached log i 1) (HasColour log h i 1) s.r (s.r + 50) rg red (λ t l u r. may_on t (omega arith) r) nums.red_greatest rc in
      (h, a, record { green = green; red = red; green_counts = gc; red_counts = rc; in_green = more_enough (high.num * (s.g - s.b)) gg green high.den g1 x; in_red = more_enough (high.num * 50) rg red high.den r1 y })

  -- the one that is on at the fewest fails only where the least numbers are
  least_fails : (h : History) × AgreesWith log h × (FailsIn log i high s h → enough_by high s gl rl)
  least_fails =
      let w1 = inside.yellow in
      let w2 = inside.red in
      let (h, low) = least in
      let a = low.agrees in
      let on_sure : (t : ℕ) → t < window_end log → HasColour log h i 1 t → IsSure log i 1 t = λ t small on. (colours_tell log i 1 t are has lt small is.free).1.0 (low.only t small on) in (
        h,
        a,
        λ f.
            let g1 = counts_le (HasColour log h i 1) (IsSure log i 1) s.b s.g f.green gl (λ t l u on. on_sure t (omega arith) on) f.green_counts nums.green_least in
            let r1 = counts_le (HasColour log h i 1) (IsSure log i 1) s.r (s.r + 50) f.red rl (λ t l u on. on_sure t (omega arith) on) f.red_counts nums.red_least in
            enough_back high s gl rl (more_enough (high.num * (s.g - s.b)) f.green gl high.den g1 f.in_green) (more_enough (high.num * 50) f.red rl high.den r1 f.in_red),
      )

  tell : (HasFault log i s → ⊥) → IsVerdict log i high s (verdict_of high.num high.den (s.g - s.b) gl gg rl rg)
  tell sound = elim (cases_Bool (are_enough high.num high.den (s.g - s.b) gl rl)) [
    | inl all ↦ rw all (sound, fails_all all)
    | inr few ↦ elim (cases_Bool (are_enough high.num high.den (s.g - s.b) gg rg)) [
      | inl some ↦ rw (few, some) (sound, (greatest_fails some, (let (h, a, back) = least_fails in (h, a, λ f. let t = back f in let bad : true ≡ false = sym t ∙ few in absurd (cc)))))
      | inr none ↦ rw (few, none) (sound, λ h a f. let t = fails_most h a f in let bad : true ≡ false = sym t ∙ none in absurd (cc))
    ]
  ]

pub numbers_tell : NumbersTell
numbers_tell log i channel high s gl gg rl rg are has own switch inside sound nums =
    let (o, is, one) = switches_are_ordered log i channel own switch in
    tell log i o high s gl gg rl rg are has own.within is one inside nums sound
