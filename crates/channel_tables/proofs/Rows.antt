-- Each letter of a channel's machine is that of some row of the channel.
use Rattle.std.proofs.Common.{◌≡◌, refl, subst, inl, inr, ℕ, zero, suc, ◌+◌, ◌<◌, ◌≤◌, nat_lt, List, [], ◌∷◌, length, Some, arith}
use Rattle.std.proofs.lemmas.Bool.{cases_Bool, ltb-true}
use Rattle.event_codes.specs.declared.channels.Channel.{Channel}
use Rattle.event_codes.specs.declared.channels.Kind.{Kind}
use Rattle.event_codes.specs.declared.channels.Kind.TheVariants.{Phase, Ped, Overlap, Detector, PedDetector, PreemptInput, PreemptService, Coordination}
use Rattle.event_codes.specs.Channels.{number_of, numbered_channel, channel_in_table}
use Rattle.channel_tables.specs.Tables.{table_of}
use Rattle.channel_tables.specs.Letters.{letter_in_table, IsNumber}

abbrev pub channel : Kind → ℕ → Channel
channel kind n = record { kind = kind; number = n }

in_range : (kind : Kind) (least most param : ℕ) → least ≤ param → param ≤ most → numbered_channel kind least most param ≡ Some (channel kind (number_of kind param))
in_range kind least most param l m = elim (cases_Bool (nat_lt param least)) [
  | inl t ↦ let a = ltb-true param least t in absurd (omega arith)
  | inr f ↦ elim (cases_Bool (nat_lt most param)) [ inl t ↦ let a = ltb-true most param t in absurd (omega arith) | inr g ↦ rw (f, g) refl ]
]

-- P of each sign with its place, the first of which is k
abbrev AllAt : (ℕ → ℕ → Type 0) → ℕ → List ℕ → Type 0
AllAt P k [] = Unit {0}
AllAt P k (x ∷ xs) = P k x × AllAt P (k + 1) xs

some_at : (P : ℕ → ℕ → Type 0) (k : ℕ) (xs : List ℕ) (l : ℕ) → AllAt P k xs → l < length xs → (s : ℕ) × P (k + l) s
some_at P k [] l h b = absurd (omega arith)
some_at P k (x ∷ xs) zero h b = let e : k ≡ k + 0 = omega arith in (x, subst (λ (j : ℕ). P j x) e h.0)
some_at P k (x ∷ xs) (suc l) h b = let (s, p) = some_at P (k + 1) xs l h.1 (omega arith) in let e : k + 1 + l ≡ k + suc l = omega arith in (s, subst (λ (j : ℕ). P j s) e p)

-- the code with this parameter is the letter of the channel of this kind
abbrev IsCode : Kind → ℕ → ℕ → ℕ → Type 0
IsCode kind n l code = (code < 256) × (channel_in_table code n ≡ Some (channel kind n)) × (letter_in_table code n ≡ Some l)

phase_codes : (n : ℕ) → 1 ≤ n → n ≤ 16 → AllAt (IsCode Phase n) 0 (table_of Phase).signs
phase_codes n a b = let e = in_range Phase 1 16 n a b in ((omega arith, e, rw e refl), ((omega arith, e, rw e refl), ((omega arith, e, rw e refl), ((omega arith, e, rw e refl), ((omega arith, e, rw e refl), ((omega arith, e, rw e refl), ((omega arith, e, rw e refl), ((omega arith, e, rw e refl), tt))))))))

ped_codes : (n : ℕ) → 1 ≤ n → n ≤ 16 → AllAt (IsCode Ped n) 0 (table_of Ped).signs
ped_codes n a b = let e = in_range Ped 1 16 n a b in ((omega arith, e, rw e refl), ((omega arith, e, rw e refl), ((omega arith, e, rw e refl), ((omega arith, e, rw e refl), tt))))

overlap_codes : (n : ℕ) → 1 ≤ n → n ≤ 16 → AllAt (IsCode Overlap n) 0 (table_of Overlap).signs
overlap_codes n a b = let e = in_range Overlap 1 16 n a b in ((omega arith, e, rw e refl), ((omega arith, e, rw e refl), ((omega arith, e, rw e refl), ((omega arith, e, rw e refl), ((omega arith, e, rw e refl), ((omega arith, e, rw e refl), tt))))))

detector_codes : (n : ℕ) → 1 ≤ n → n ≤ 128 → AllAt (IsCode Detector n) 0 (table_of Detector).signs
detector_codes n a b = let e = in_range Detector 1 128 n a b in ((omega arith, e, rw e refl), ((omega arith, e, rw e refl), ((omega arith, e, rw e refl), ((omega arith, e, rw e refl), ((omega arith, e, rw e refl), ((omega arith, e, rw e refl), ((omega arith, e, rw e refl), ((omega arith, e, rw e refl), tt))))))))

ped_detector_codes : (n : ℕ) → 1 ≤ n → n ≤ 16 → AllAt (IsCode PedDetector n) 0 (table_of PedDetector).signs
ped_detector_codes n a b = let e = in_range PedDetector 1 16 n a b in ((omega arith, e, rw e refl), ((omega arith, e, rw e refl), tt))

preempt_input_codes : (n : ℕ) → 1 ≤ n → n ≤ 16 → AllAt (IsCode PreemptInput n) 0 (table_of PreemptInput).signs
preempt_input_codes n a b = let e = in_range PreemptInput 1 16 n a b in ((omega arith, e, rw e refl), ((omega arith, e, rw e refl), tt))

preempt_codes : (n : ℕ) → 1 ≤ n → n ≤ 16 → AllAt (IsCode PreemptService n) 0 (table_of PreemptService).signs
preempt_codes n a b = let e = in_range PreemptService 1 16 n a b in ((omega arith, e, rw e refl), ((omega arith, e, rw e refl), ((omega arith, e, rw e refl), ((omega arith, e, rw e refl), tt))))

-- the parameter of code 150 is the letter of the coordination
abbrev IsParam : ℕ → ℕ → Type 0
IsParam l param = (param < 65536) × (channel_in_table 150 param ≡ Some (channel Coordination 0)) × (letter_in_table 150 param ≡ Some l)

coordination_params : AllAt IsParam 0 (table_of Coordination).signs
coordination_params = ((omega arith, refl, refl), ((omega arith, refl, refl), ((omega arith, refl, refl), ((omega arith, refl, refl), ((omega arith, refl, refl), ((omega arith, refl, refl), ((omega arith, refl, refl), tt)))))))

-- each letter of a channel is that of a row of the channel
abbrev pub HasRow : Kind → ℕ → ℕ → Type 0
HasRow kind n l = (code : ℕ) × (param : ℕ) × (code < 256) × (param < 65536) × (channel_in_table code param ≡ Some (channel kind n)) × (letter_in_table code param ≡ Some l)

by_code : (kind : Kind) (n l : ℕ) → n ≤ 128 → AllAt (IsCode kind n) 0 (table_of kind).signs → l < length (table_of kind).signs → HasRow kind n l
by_code kind n l few h b = let (code, (c, e, k)) = some_at (IsCode kind n) 0 (table_of kind).signs l h b in let z : 0 + l ≡ l = omega arith in (code, n, c, omega arith, e, subst (λ (j : ℕ). letter_in_table code n ≡ Some j) z k)

kind_row : (kind : Kind) (n l : ℕ) → IsNumber kind n → l < length (table_of kind).signs → HasRow kind n l
kind_row Phase n l h b = let a = h.0 in let m = h.1 in by_code Phase n l (omega arith) (phase_codes n h.0 h.1) b
kind_row Ped n l h b = let a = h.0 in let m = h.1 in by_code Ped n l (omega arith) (ped_codes n h.0 h.1) b
kind_row Overlap n l h b = let a = h.0 in let m = h.1 in by_code Overlap n l (omega arith) (overlap_codes n h.0 h.1) b
kind_row Detector n l h b = let a = h.0 in let m = h.1 in by_code Detector n l (omega arith) (detector_codes n h.0 h.1) b
kind_row PedDetector n l h b = let a = h.0 in let m = h.1 in by_code PedDetector n l (omega arith) (ped_detector_codes n h.0 h.1) b
kind_row PreemptInput n l h b = let a = h.0 in let m = h.1 in by_code PreemptInput n l (omega arith) (preempt_input_codes n h.0 h.1) b
kind_row PreemptService n l h b = let a = h.0 in let m = h.1 in by_code PreemptService n l (omega arith) (preempt_codes n h.0 h.1) b
kind_row Coordination n l h b = let (param, (p, e, k)) = some_at IsParam 0 (table_of Coordination).signs l coordination_params b in let z : 0 + l ≡ l = omega arith in (150, param, omega arith, p, rw h e, subst (λ (j : ℕ). letter_in_table 150 param ≡ Some j) z k)

pub letter_row : (c : Channel) (l : ℕ) → IsNumber c.kind c.number → l < length (table_of c.kind).signs → HasRow c.kind c.number l
letter_row c l h b = kind_row c.kind c.number l h b
