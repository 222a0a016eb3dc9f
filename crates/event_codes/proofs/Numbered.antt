-- No two channels have one cell.
use Rattle.std.proofs.Common.{◌≡◌, refl, ap, sym, ◌∙◌, ℕ, ◌<◌, nat_eq, if◌then◌else◌, arith}
use Rattle.event_codes.specs.declared.channels.Channel.{Channel}
use Rattle.event_codes.specs.declared.channels.Kind.{Kind}
use Rattle.event_codes.specs.declared.channels.Kind.TheVariants.{Phase, Ped, Overlap, Detector, PedDetector, PreemptInput, PreemptService, Coordination}
use Rattle.event_codes.specs.Cells.{cell_of, kind_number}

-- the kind of a number
kind_of : ℕ → Kind
kind_of n = if nat_eq n 0 then Phase else if nat_eq n 1 then Ped else if nat_eq n 2 then Overlap else if nat_eq n 3 then Detector else if nat_eq n 4 then PedDetector else if nat_eq n 5 then PreemptInput else if nat_eq n 6 then PreemptService else Coordination

kind_back : (k : Kind) → kind_of (kind_number k) ≡ k
unfolding kind_of
kind_back Phase = refl
kind_back Ped = refl
kind_back Overlap = refl
kind_back Detector = refl
kind_back PedDetector = refl
kind_back PreemptInput = refl
kind_back PreemptService = refl
kind_back Coordination = refl

pub kind_same : (a b : Kind) → kind_number a ≡ kind_number b → a ≡ b
kind_same a b e = sym (kind_back a) ∙ (ap kind_of e ∙ kind_back b)

abbrev channel_with : Kind → ℕ → Channel
channel_with k n = record { kind = k; number = n }

pub channel_same : (c d : Channel) → c.kind ≡ d.kind → c.number ≡ d.number → c ≡ d
channel_same c d a b = ap (λ (k : Kind). channel_with k c.number) a ∙ ap (λ (n : ℕ). channel_with d.kind n) b

pub few_kinds : (k : Kind) → kind_number k < 8
few_kinds Phase = omega arith
few_kinds Ped = omega arith
few_kinds Overlap = omega arith
few_kinds Detector = omega arith
few_kinds PedDetector = omega arith
few_kinds PreemptInput = omega arith
few_kinds PreemptService = omega arith
few_kinds Coordination = omega arith

pub cell_once : (c d : Channel) → cell_of c ≡ cell_of d → c ≡ d
cell_once c d e =
    let few = few_kinds c.kind in
    let few2 = few_kinds d.kind in
    let numbers : c.number ≡ d.number = omega arith in
    let kinds : kind_number c.kind ≡ kind_number d.kind = omega arith in
    channel_same c d (kind_same c.kind d.kind kinds) numbers
