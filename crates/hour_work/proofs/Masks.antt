-- Sets of colours of a detector against what its rows tell of a fault.
use Rattle.std.proofs.Common.{◌≡◌, refl, sym, ◌∙◌, subst, ℕ, ◌<◌, Bool, true, false, eqb, leb, List, Some, arith}
use Rattle.std.proofs.lemmas.Bool.{eqb-true}
use Rattle.sig_base.proofs.Common.{some_same}
use Rattle.event_codes.specs.declared.channels.Kind.{Kind}
use Rattle.event_codes.specs.declared.channels.Kind.TheVariants.{Detector}
use Rattle.colour_machine.specs.Mask.{Has}
use Rattle.colour_machine.specs.Rules.{IsMachine, Rules}
use Rattle.channel_tables.specs.Table.{table_rules}
use Rattle.channel_tables.specs.Tables.{table_of}
use Rattle.channel_tables.specs.DetectorTable.{detector_table}
use Rattle.detector_state.proofs.Tables.{below_eight, below_three}
use Rattle.detector_state.specs.Masks.{all_below, image_below}
use Rattle.detector_state.proofs.Masks.{has_all_below, image_is}

-- ---- the machine

-- a letter from 3 on leads to Fault, and no other one does
abbrev pub LeadsBy : Rules → ℕ → ℕ → Type 0
LeadsBy m c l = (x : ℕ) × (m.next c l ≡ Some x) × (x < 3) × (eqb x 2 ≡ leb 3 l)

pub record IsDetector (m : Rules) : Type 0 where
  pub colours : m.colours ≡ 3
  pub letters : m.letters ≡ 8
  pub next : (c l : ℕ) → c < 3 → l < 8 → LeadsBy m c l

table_leads : (floors : List ℕ) (c l : ℕ) → c < 3 → l < 8 → LeadsBy (table_rules detector_table floors) c l
table_leads floors c l few lt =
    let P : ℕ → ℕ → Type 0 = λ y j. LeadsBy (table_rules detector_table floors) y j in
    let one : (y : ℕ) → P y 0 → P y 1 → P y 2 → P y 3 → P y 4 → P y 5 → P y 6 → P y 7 → P y l = λ y a b c d e f g h. below_eight (λ j. P y j) a b c d e f g h l lt in
    let off : (y j : ℕ) → ((table_rules detector_table floors).next y j ≡ Some 0) → (leb 3 j ≡ false) → P y j = λ y j e f. (0, e, omega arith, sym f) in
    let on : (y j : ℕ) → ((table_rules detector_table floors).next y j ≡ Some 1) → (leb 3 j ≡ false) → P y j = λ y j e f. (1, e, omega arith, sym f) in
    let bad : (y j : ℕ) → ((table_rules detector_table floors).next y j ≡ Some 2) → (leb 3 j ≡ true) → P y j = λ y j e f. (2, e, omega arith, sym f) in
    below_three (λ y. P y l)
    (one 0 (off 0 0 refl refl) (on 0 1 refl refl) (off 0 2 refl refl) (bad 0 3 refl refl) (bad 0 4 refl refl) (bad 0 5 refl refl) (bad 0 6 refl refl) (bad 0 7 refl refl))
    (one 1 (off 1 0 refl refl) (on 1 1 refl refl) (on 1 2 refl refl) (bad 1 3 refl refl) (bad 1 4 refl refl) (bad 1 5 refl refl) (bad 1 6 refl refl) (bad 1 7 refl refl))
    (one 2 (off 2 0 refl refl) (on 2 1 refl refl) (off 2 2 refl refl) (bad 2 3 refl refl) (bad 2 4 refl refl) (bad 2 5 refl refl) (bad 2 6 refl refl) (bad 2 7 refl refl))
    c few

table_is : (floors : List ℕ) → IsDetector (table_rules detector_table floors)
table_is floors = record { colours = refl; letters = refl; next = table_leads floors }

pub kind_is : (kind : Kind) (floors : List ℕ) → kind ≡ Detector → IsDetector (table_rules (table_of kind) floors)
kind_is kind floors e = subst (λ (k : Kind). IsDetector (table_rules (table_of k) floors)) (sym e) (table_is floors)

-- ---- the colours

-- some colour is Fault or not, as is told, and where a fault is told each is
pub record IsTold (told : Bool) (mask : ℕ) : Type 0 where
  pub few : (c : ℕ) → Has mask c → c < 3
  pub some : (c : ℕ) × Has mask c × (eqb c 2 ≡ told)
  pub sure : told ≡ true → (c : ℕ) → Has mask c → c ≡ 2

module _ (m : Rules) (is : IsDetector m) (laws : IsMachine m) where
  -- all colours
  pub told_all : IsTold false (all_below m.colours)
  told_all =
      let three = is.colours in
      let both = λ (c : ℕ). has_all_below m.colours c laws.few_colours in
      record {
        few = λ c h. let lt = (both c).0 h in omega (arith, three);
        some = (0, (both 0).1 (omega (arith, three)), refl);
        sure = λ e. absurd (cc);
      }

  -- after a letter
  pub told_letter : (told : Bool) (mask l : ℕ) → l < 8 → IsTold told mask → IsTold (leb 3 l) (image_below m.next mask l m.colours)
  told_letter told mask l lt h =
      let three = is.colours in
      let eight = is.letters in
      let few_letters : l < m.letters = omega (arith, eight) in
      let image = λ (d : ℕ). image_is m laws.few_colours laws.stays mask l d few_letters in
      let (a, has, tells) = h.some in
      let (x, goes, small, bad) = is.next a l (h.few a has) lt in
      let from : a < m.colours = (let low = h.few a has in omega (arith, three)) in
      let which : (d : ℕ) → Has (image_below m.next mask l m.colours) d → (d < 3) × (eqb d 2 ≡ leb 3 l) = λ d hd.
      let (c, hc, (_, _, e)) = (image d).0 hd in
      let (y, f, low, g) = is.next c l (h.few c hc) lt in
      let same : y ≡ d = some_same y d (sym f ∙ e) in
      (subst (λ (n : ℕ). n < 3) same low, subst (λ (n : ℕ). eqb n 2 ≡ leb 3 l) same g) in
      record {
        few = λ d hd. (which d hd).0;
        some = (x, (image x).1 (a, has, (from, few_letters, goes)), bad);
        sure = λ e d hd. eqb-true d 2 ((which d hd).1 ∙ e);
      }
