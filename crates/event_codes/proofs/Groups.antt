-- Two groups are equal exactly where they are one.
use Rattle.std.proofs.Common.{◌≡◌, ℕ, true, refl, arith, ap₂}
use Rattle.std.specs.Prelude.{◌↔◌, ◌==◌, ◌&&◌}
use Rattle.std.proofs.lemmas.Bool.Decides.{nat_tests}
use Rattle.event_codes.specs.declared.channels.Kind.{Kind}
use Rattle.event_codes.specs.declared.channels.Kind.TheVariants.{Phase, Ped, Overlap, Detector, PedDetector, PreemptInput, PreemptService, Coordination}
use Rattle.event_codes.specs.declared.channels.Channel.{Channel}
use Rattle.event_codes.specs.declared.channels.Group.{Group}
use Rattle.event_codes.specs.declared.channels.Group.TheVariants.{Of, Alone}
use Rattle.event_codes.specs.Cells.{kind_number}
use Rattle.event_codes.specs.Channels.{same_group}

abbrev channel : Kind → ℕ → Channel
channel k n = record { kind = k; number = n }

number-one : (m n : ℕ) → (m == n) ≡ true → m ≡ n
number-one m n h = grind (arith, nat_tests)

channels-one : (k l : Kind) (m n : ℕ) → same_group (Of (channel k m)) (Of (channel l n)) ≡ true → (k ≡ l) × (m ≡ n)
unfolding same_group
channels-one Phase Phase m n h = (refl, number-one m n h)
channels-one Ped Ped m n h = (refl, number-one m n h)
channels-one Overlap Overlap m n h = (refl, number-one m n h)
channels-one Detector Detector m n h = (refl, number-one m n h)
channels-one PedDetector PedDetector m n h = (refl, number-one m n h)
channels-one PreemptInput PreemptInput m n h = (refl, number-one m n h)
channels-one PreemptService PreemptService m n h = (refl, number-one m n h)
channels-one Coordination Coordination m n h = (refl, number-one m n h)
channels-one k l m n h = cc

group-one : (k l : Kind) (m n : ℕ) → k ≡ l → m ≡ n → Of (channel k m) ≡ Of (channel l n)
group-one k l m n e f = rw (e, f) refl

same_group-one : (a b : Group) → same_group a b ≡ true → a ≡ b
unfolding same_group
same_group-one (Of c) (Of d) h =
    let p = channels-one c.kind d.kind c.number d.number h in
    group-one c.kind d.kind c.number d.number p.0 p.1
same_group-one (Of c) (Alone k p) h = cc
same_group-one (Alone k p) (Of d) h = cc
same_group-one (Alone k p) (Alone l q) h = grind (arith, nat_tests)

number-refl : (n : ℕ) → (n == n) ≡ true
number-refl n = grind (arith, nat_tests)

number-symm : (m n : ℕ) → (m == n) ≡ (n == m)
number-symm m n = grind (arith, nat_tests)

pub same_group-refl : (g : Group) → same_group g g ≡ true
unfolding same_group
same_group-refl (Of c) = rw (number-refl (kind_number c.kind), number-refl c.number) refl
same_group-refl (Alone k p) = rw (number-refl k, number-refl p) refl

pub same_group-symm : (a b : Group) → same_group a b ≡ same_group b a
unfolding same_group
same_group-symm (Of c) (Of d) = ap₂ (λ p q. p && q) (number-symm (kind_number c.kind) (kind_number d.kind)) (number-symm c.number d.number)
same_group-symm (Of c) (Alone k p) = refl
same_group-symm (Alone k p) (Of d) = refl
same_group-symm (Alone k p) (Alone l q) = ap₂ (λ r s. r && s) (number-symm k l) (number-symm p q)

pub same_group-is : (a b : Group) → (same_group a b ≡ true) ↔ (a ≡ b)
same_group-is a b = (same_group-one a b, λ e. rw e (same_group-refl b))
