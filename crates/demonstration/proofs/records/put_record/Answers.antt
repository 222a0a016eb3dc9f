use Rattle.std.proofs.Common.{◌≡◌, ◌≤◌, ◌+◌, ◌-◌, ◌++◌, ℕ, List, length, take, drop, codes, decimal, ap, ap₂, ◌∙◌, arith, rules, append_assoc, length-append, length-drop}
use Rattle.std.proofs.lemmas.Fmt.{length-decimal-le}
use Rattle.std.proofs.lemmas.List.{drop-drop, drop-set, drop_at, length-take-le, take_all}
use borrow.Rule.Slice.PartMut.{put_mid}
use Rattle.demonstration.specs.Texts.{record_of, record_start}
use Rattle.demonstration.proofs.records.put_record.Goals as goal

-- what is put in front of a part that goes to the line's end goes on with that part
fronted : (line start : List ℕ) (i : ℕ) → length line ≡ 37 → length start ≡ 27 → 27 ≤ i → i ≤ 37
    → take (37 - (i - 27)) (drop (i - 27) (put_mid (i - 27) (i - (i - 27)) line start)) ≡ start ++ drop i line
fronted line start i h k lo hi =
    let back : i - 27 + (i - (i - 27)) ≡ i = omega arith in
    let there : drop (i - 27) (put_mid (i - 27) (i - (i - 27)) line start) ≡ start ++ drop i line =
    drop_at (take (i - 27) line) _ (i - 27) (length-take-le (i - 27) line (omega arith))
    ∙ ap (λ (l : List ℕ). start ++ l) (drop-drop (i - (i - 27)) (i - 27) line ∙ ap (λ (j : ℕ). drop j line) back) in
    rw there (take_all (37 - (i - 27)) (start ++ drop i line) (omega (arith, length-append start (drop i line), length-drop i line)))

parts : (a b c d e : List ℕ) → a ++ (b ++ c ++ d ++ e) ≡ a ++ b ++ c ++ d ++ e
parts a b c d e = simp append_assoc

pub write_digits-comma-requires : goal.write_digits-comma-requires
write_digits-comma-requires c = search (rules, length-decimal-le 5)

pub overflow_sub-comma : goal.overflow_sub-comma
overflow_sub-comma c = omega (arith, length-decimal-le 5 c.args.row.param (omega arith) (omega arith) (omega arith))

pub write_digits-code-requires : goal.write_digits-code-requires
write_digits-code-requires c =
    let param = length-decimal-le 5 c.args.row.param (omega arith) (omega arith) (omega arith) in
    let code = length-decimal-le 3 c.args.row.code (omega arith) (omega arith) (omega arith) in
    search rules

pub overflow_sub-line : goal.overflow_sub-line
overflow_sub-line c =
    let param = length-decimal-le 5 c.args.row.param (omega arith) (omega arith) (omega arith) in
    let code = length-decimal-le 3 c.args.row.code (omega arith) (omega arith) (omega arith) in
    omega arith

pub copy_from_slice-requires : goal.copy_from_slice-requires
copy_from_slice-requires c =
    let param = length-decimal-le 5 c.args.row.param (omega arith) (omega arith) (omega arith) in
    let code = length-decimal-le 3 c.args.row.code (omega arith) (omega arith) (omega arith) in
    search rules

pub returns : goal.returns
unfolding record_of
returns c =
    let row = c.args.row in
    let comma = c.write_digits-comma in
    let code = c.write_digits-code in
    let param_long = length-decimal-le 5 row.param (omega arith) (omega arith) (omega arith) in
    let code_long = length-decimal-le 3 row.code (omega arith) (omega arith) (omega arith) in
    let next : comma.result - 1 + 1 ≡ comma.result = omega arith in
    let rest : drop code.result code.new.buf ≡ decimal row.code ++ codes "," ++ decimal row.param ++ codes "\n" =
    rw (code.ensures.written, drop-set comma.new.buf (comma.result - 1) 44 (omega arith), next, comma.ensures.written) (simp append_assoc) in
    let all : c.copy_from_slice.new.self ++ drop code.result code.new.buf ≡ record_of row =
    ap₂ (λ (a b : List ℕ). a ++ b) (c.copy_from_slice.ensures.after ∙ c.requires) rest
    ∙ parts (record_start row.at) (decimal row.code) (codes ",") (decimal row.param) (codes "\n") in
    c.in_ok-extend_from_slice.ensures.items
    ∙ ap (λ (l : List ℕ). c.args.out.now.items ++ l) (fronted code.new.buf c.copy_from_slice.new.self code.result (omega arith) (omega arith) (omega arith) (omega arith) ∙ all)
