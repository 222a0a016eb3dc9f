-- Texts that go on part by part.
use Rattle.std.proofs.Common.{◌≡◌, ◌≤◌, ◌<◌, ◌+◌, ◌-◌, ◌%◌, ℕ, zero, suc, true, false, List, [], ◌++◌, length, drop, get_or, Some, None, refl, sym, ap, ◌∙◌, arith, append_assoc, ◌*◌, decimal}
use Rattle.std.specs.Prelude.{◌==◌, if◌then◌else◌}
use Rattle.std.specs.Str.{bytes_eq}
use Rattle.sig_base.specs.declared.values.Row.{Row}
use Rattle.std.proofs.Math.ListN.{drop_of_length-le}
use Rattle.sig_base.proofs.Common.{next_row}
use Rattle.demonstration.specs.Rows.{services, pulses}
use Rattle.demonstration.specs.Order.{ordered}
use Rattle.demonstration.specs.Texts.{config_text, demo_rows, each_hour, hour_text, record_of, records_of, script_text}
use Rattle.demonstration.specs.Files.{config_name, demo_files, hour_named, script_name}
use Rattle.demonstration.proofs.RowFacts.{goes_on}

pub each-next : (line : ℕ → List ℕ) (by rest hours hour : ℕ) → hour < hours
    → each_hour line by rest (hours - hour) hour ≡ (if hour % by == rest then line hour else []) ++ each_hour line by rest (hours - (hour + 1)) (hour + 1)
unfolding each_hour
each-next line by rest hours hour h = let k : hours - hour ≡ suc (hours - (hour + 1)) = omega arith in rw k refl

pub each-done : (line : ℕ → List ℕ) (by rest hours hour : ℕ) → hours ≤ hour → each_hour line by rest (hours - hour) hour ≡ []
unfolding each_hour
each-done line by rest hours hour h = let k : hours - hour ≡ zero = omega arith in rw k refl

-- one record more
pub records-go : (rows : List Row) (i : ℕ) (d : Row) (out new whole : List ℕ) → i < length rows
    → out ++ records_of (drop i rows) ≡ whole → new ≡ out ++ record_of (get_or rows i d) → new ++ records_of (drop (i + 1) rows) ≡ whole
unfolding records_of
records-go rows i d out new whole lt h e = goes_on out new _ _ whole _ h (ap (λ (l : List Row). records_of l) (next_row rows i d lt)) e

pub records-done : (rows : List Row) (i : ℕ) → length rows ≤ i → records_of (drop i rows) ≡ []
unfolding records_of
records-done rows i h = let e : drop i rows ≡ [] = drop_of_length-le rows h in rw e refl

pub named-next : (hours hour : ℕ) (name : List ℕ) → hour < hours
    → hour_named (hours - hour) hour name ≡ (if bytes_eq (decimal hour) name then Some hour else hour_named (hours - (hour + 1)) (hour + 1) name)
unfolding hour_named
named-next hours hour name h = let k : hours - hour ≡ suc (hours - (hour + 1)) = omega arith in rw k refl

pub named-done : (hours hour : ℕ) (name : List ℕ) → hours ≤ hour → hour_named (hours - hour) hour name ≡ None
unfolding hour_named
named-done hours hour name h = let k : hours - hour ≡ zero = omega arith in rw k refl

-- three parts, one after the other
pub three : (old a b new x y z : List ℕ) → a ≡ old ++ x → b ≡ a ++ y → new ≡ b ++ z → new ≡ old ++ ((x ++ y) ++ z)
three old a b new x y z ea eb en = rw (en, eb, ea) (simp append_assoc)

-- two parts
pub two : (old a new x y : List ℕ) → a ≡ old ++ x → new ≡ a ++ y → new ≡ old ++ (x ++ y)
two old a new x y ea en = rw (en, ea) (simp append_assoc)

-- the name of an hour is found
pub named-here : (hours hour : ℕ) (digits name : List ℕ) → hour < hours → digits ≡ decimal hour → bytes_eq digits name ≡ true
    → hour_named hours 0 name ≡ hour_named (hours - hour) hour name → Some hour ≡ hour_named hours 0 name
named-here hours hour digits name lt e same h =
    let t : bytes_eq (decimal hour) name ≡ true = rw e at same in
    sym (h ∙ named-next hours hour name lt ∙ (rw t refl))

pub named-later : (hours hour : ℕ) (digits name : List ℕ) → hour < hours → digits ≡ decimal hour → bytes_eq digits name ≡ false
    → hour_named hours 0 name ≡ hour_named (hours - hour) hour name → hour_named hours 0 name ≡ hour_named (hours - (hour + 1)) (hour + 1) name
named-later hours hour digits name lt e same h =
    let t : bytes_eq (decimal hour) name ≡ false = rw e at same in
    h ∙ named-next hours hour name lt ∙ (rw t refl)

-- all rows, from those of the parts
pub rows-are : (hours : ℕ) (a b c d : List Row) → a ≡ [] → b ≡ a ++ services (36000 * hours) (36000 * hours) 1 0 2
    → c ≡ b ++ pulses (36000 * hours) (36000 * hours) 7 0 → d ≡ ordered c → d ≡ demo_rows hours
unfolding demo_rows
rows-are hours a b c d ea eb ec ed = rw (ed, ec, eb, ea) refl

-- the files by their names
pub config-there : (hours : ℕ) (name out new : List ℕ) → bytes_eq name config_name ≡ true → out ≡ [] → new ≡ out ++ config_text hours → Some new ≡ demo_files hours name
unfolding demo_files
config-there hours name out new t eo en = rw (t, en, eo) refl

pub script-there : (hours : ℕ) (name out new : List ℕ) → bytes_eq name config_name ≡ false → bytes_eq name script_name ≡ true → out ≡ [] → new ≡ out ++ script_text hours → Some new ≡ demo_files hours name
unfolding demo_files
script-there hours name out new f t eo en = rw (f, t, en, eo) refl

pub hour-there : (hours hour : ℕ) (name out new : List ℕ) → bytes_eq name config_name ≡ false → bytes_eq name script_name ≡ false → Some hour ≡ hour_named hours 0 name → out ≡ []
    → new ≡ out ++ hour_text hours hour → Some new ≡ demo_files hours name
unfolding demo_files
hour-there hours hour name out new f g h eo en = rw (f, g, ← h, en, eo) refl

pub none-there : (hours : ℕ) (name : List ℕ) → bytes_eq name config_name ≡ false → bytes_eq name script_name ≡ false → None ≡ hour_named hours 0 name → None ≡ demo_files hours name
unfolding demo_files
none-there hours name f g h = rw (f, g, ← h) refl
