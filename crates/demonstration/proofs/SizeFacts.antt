-- The configuration and the script are short.
use Rattle.std.proofs.Common.{◌≡◌, ◌≤◌, ◌+◌, ◌*◌, ◌/◌, ◌%◌, ℕ, zero, suc, Bool, true, false, List, [], ◌++◌, length, refl, arith, length-append, decimal, lit<}
use Rattle.std.specs.Prelude.{◌==◌, if◌then◌else◌}
use Rattle.std.proofs.lemmas.Fmt.{length-decimal-le}
use Rattle.sig_base.specs.Stamp.{stamp_at}
use Rattle.sig_base.specs.Window.{Span}
use Rattle.demonstration.specs.Texts.{blank_line, calendar, config_text, each_hour, edit_lines, end_lines, load_line, script_text}

digits : (n : ℕ) → n ≤ 168 → length (decimal n) ≤ 3
digits n h = length-decimal-le 3 n (lit< tt) (omega arith) (omega arith)

stamp_size : (w : Span) (at : ℕ) → length (stamp_at w at) ≡ 21
unfolding stamp_at
stamp_size w at = refl

load_size : (hour : ℕ) → hour ≤ 168 → length (load_line hour) ≤ 13
unfolding load_line
load_size hour h = simp length-append (omega (arith, digits hour h))

blank_size : (hour : ℕ) → length (blank_line hour) ≤ 50
unfolding blank_line
blank_size hour =
    simp length-append (omega (arith, stamp_size calendar (36000 * hour + 18000), stamp_size calendar (36000 * hour + 18100)))

each_size : (line : ℕ → List ℕ) (by rest most n hour : ℕ) → ((h : ℕ) → h ≤ 168 → length (line h) ≤ most) → hour + n ≤ 168 → length (each_hour line by rest n hour) ≤ n * most
unfolding each_hour
each_size line by rest most zero hour small fits = omega arith
each_size line by rest most (suc n) hour small fits = one (hour % by == rest) (each_size line by rest most n (hour + 1) small (omega arith))
  where
    one : (b : Bool) → length (each_hour line by rest n (hour + 1)) ≤ n * most
        → length ((if b then line hour else []) ++ each_hour line by rest n (hour + 1)) ≤ suc n * most
    one true h = omega (arith, small hour (omega arith), length-append (line hour) (each_hour line by rest n (hour + 1)))
    one false h = omega arith

pub config-short : (hours : ℕ) → hours ≤ 168 → length (config_text hours) ≤ 1048576
unfolding config_text
config-short hours h = simp length-append (omega (arith, digits hours h))

edits_size : (hours : ℕ) → hours ≤ 168 → length (edit_lines hours) ≤ 168 * 76
edits_size hours h =
    let evens = each_size load_line 2 0 13 hours 0 load_size (omega arith) in
    let odds = each_size load_line 2 1 13 hours 0 load_size (omega arith) in
    let blanks = each_size blank_line 4 0 50 hours 0 (λ n _. blank_size n) (omega arith) in
    simp length-append (omega (arith, evens, odds, blanks))

end_size : (hours middle : ℕ) → middle ≤ 168 → length (end_lines hours middle) ≤ 200
end_size hours middle h =
    simp length-append (omega (arith, digits middle h, load_size middle h, stamp_size calendar 0, stamp_size calendar (36000 * hours)))

pub script-short : (hours : ℕ) → hours ≤ 168 → length (script_text hours) ≤ 4194304
unfolding script_text
script-short hours h =
    omega (arith, edits_size hours h, end_size hours (hours / 2) (omega arith), length-append (edit_lines hours) (end_lines hours (hours / 2)))
