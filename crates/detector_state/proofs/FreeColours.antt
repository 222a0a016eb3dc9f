-- The colours of a free channel, over all histories that agree.
use Rattle.std.proofs.Common.{◌≡◌, refl, ap, sym, ◌∙◌, subst, ℕ, ◌+◌, pos, true, List, get_or}
use Rattle.reach.specs.Runs.{State}
use Rattle.board.specs.Channels.{track}
use Rattle.board.specs.Logs.{no_spec}
use Rattle.board.specs.History.{Agreeing, History, Track, events_at, letters, start_of}
use Rattle.channel_tables.specs.declared.spec.Spec.{Spec}
use Rattle.signal_log.specs.Log.{IsBeforeWindow, Log, track_at}
use Rattle.signal_log.proofs.Runs.{agreeing_known, run_once}
use Rattle.detector_state.specs.Tells.{ColoursStay, ColoursTell, HasColour, IsColourReached, TellSameUpto}
use Rattle.detector_state.proofs.Spread.{look_back, some_end}
use Rattle.std.proofs.Common.{map, take}

-- a history has one colour at the end of a tenth
pub one_colour : (log : Log) (h : History) (i c d x : ℕ) → HasColour log h i c x → HasColour log h i d x → c ≡ d
one_colour log h i c d x (v, r, e) (w, q, f) =
    let k = track_at log i in
    let same : v ≡ w = run_once k.rules (pos 0) (map (letters k) (take (x + 1) h.events)) (start_of h i) v w r q in
    sym e ∙ (ap (λ (s : State). s.colour) same ∙ f)

pub colours_tell : ColoursTell
colours_tell log i c x are has lt small free =
    let back = λ (v : State). look_back log i x v are has lt small free in (
      (
        (λ (h, a, (v, r, e)). (v, (back v).0 (h, a, r), e)),
        λ (u, r, e). let (h, a, q) = (back u).1 r in (h, a, (u, q, e)),
      ),
      (
        (λ all d (u, r, e). let (h, a, q) = (back u).1 r in one_colour log h i d c x (u, q, e) (all h a)),
        λ sure h a. let (v, r) = some_end log i are lt h x a small in (v, r, sure v.colour (v, (back v).0 (h, a, r), refl)),
      ),
    )

stay : (a b : Log) (i c x : ℕ) → TellSameUpto a b (x + 1) → IsColourReached a i c x → IsColourReached b i c x
stay a b i c x same (u, (s, bw, g), e) =
    let k = track_at a i in
    let one : k ≡ track_at b i = ap (λ (specs : List Spec). track (get_or specs i no_spec)) same.specs in
    let g2 : Agreeing k b.known (events_at b.rows) 0 (x + 1) s u = agreeing_known k a.known b.known (events_at a.rows) (events_at b.rows) 0 (x + 1) s u (λ t l1 l2 is. let there : a.known t ≡ true = same.known t l2 ∙ is in (there, same.events t l2 there)) g in
    subst (λ (z : Track). (w : State) × ((q : State) × IsBeforeWindow z.rules q × Agreeing z b.known (events_at b.rows) 0 (x + 1) q w) × (w.colour ≡ c)) one (u, (s, bw, g2), e)

other_way : (a b : Log) (t : ℕ) → TellSameUpto a b t → TellSameUpto b a t
other_way a b t same = record { specs = sym same.specs; known = λ x l. sym (same.known x l); events = λ x l there. sym (same.events x l (same.known x l ∙ there)) }

pub colours_stay : ColoursStay
colours_stay a b i c x same = (stay a b i c x same, stay b a i c x (other_way a b (x + 1) same))
