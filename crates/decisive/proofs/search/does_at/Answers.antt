use Rattle.std.proofs.Common.{sym, subst, ◌≡◌, ◌↔◌, ◌<◌, get_or, IsTrue, IfOk}
use Rattle.sig_base.specs.declared.values.Row.{Row}
use Rattle.board.specs.Logs.{no_row}
use Rattle.decisive.specs.declared.search.Aim.{Aim}
use Rattle.decisive.specs.Tries.{Begins, DoesAt, Ends, IsOwnAt, IsSought, row_at, row_count}
use Rattle.decisive.proofs.Nearest.{begin_asked, end_asked}
use Rattle.decisive.proofs.search.does_at.Goals as goal

pub ends_by-requires-clause-late : goal.ends_by-requires-clause-late
ends_by-requires-clause-late c =
    let q = c.args.question.now in
    let told = c.args.told.now in
    let i = c.args.i in
    let r = c.row_from-row.result in
    let sought = subst (λ (a : Aim). IsSought a q told) c.in-End.is c.requires.sought in
    let within = subst (λ (a : Aim). i < row_count a told) c.in-End.is c.requires.within in
    let own = subst (λ (a : Aim). IsOwnAt a q told i) c.in-End.is c.requires.own in
    let row = subst (λ (a : Aim). r ≡ get_or told.rows.now (row_at a told i) no_row) c.in-End.is c.row_from-row.ensures in
    (end_asked c.in-End.start q told i r sought within own row).0

pub ends_by-requires-clause-told : goal.ends_by-requires-clause-told
ends_by-requires-clause-told c =
    let q = c.args.question.now in
    let told = c.args.told.now in
    let i = c.args.i in
    let r = c.row_from-row.result in
    let sought = subst (λ (a : Aim). IsSought a q told) c.in-End.is c.requires.sought in
    let within = subst (λ (a : Aim). i < row_count a told) c.in-End.is c.requires.within in
    let own = subst (λ (a : Aim). IsOwnAt a q told i) c.in-End.is c.requires.own in
    let row = subst (λ (a : Aim). r ≡ get_or told.rows.now (row_at a told i) no_row) c.in-End.is c.row_from-row.ensures in
    (end_asked c.in-End.start q told i r sought within own row).1

pub begins_by-requires-clause-early : goal.begins_by-requires-clause-early
begins_by-requires-clause-early c =
    let q = c.args.question.now in
    let told = c.args.told.now in
    let i = c.args.i in
    let r = c.row_from-row.result in
    let sought = subst (λ (a : Aim). IsSought a q told) c.in-Begin.is c.requires.sought in
    let within = subst (λ (a : Aim). i < row_count a told) c.in-Begin.is c.requires.within in
    let own = subst (λ (a : Aim). IsOwnAt a q told i) c.in-Begin.is c.requires.own in
    let row = subst (λ (a : Aim). r ≡ get_or told.rows.now (row_at a told i) no_row) c.in-Begin.is c.row_from-row.ensures in
    (begin_asked c.in-Begin.last q told i r sought within own row).0

pub begins_by-requires-clause-late : goal.begins_by-requires-clause-late
begins_by-requires-clause-late c =
    let q = c.args.question.now in
    let told = c.args.told.now in
    let i = c.args.i in
    let r = c.row_from-row.result in
    let sought = subst (λ (a : Aim). IsSought a q told) c.in-Begin.is c.requires.sought in
    let within = subst (λ (a : Aim). i < row_count a told) c.in-Begin.is c.requires.within in
    let own = subst (λ (a : Aim). IsOwnAt a q told i) c.in-Begin.is c.requires.own in
    let row = subst (λ (a : Aim). r ≡ get_or told.rows.now (row_at a told i) no_row) c.in-Begin.is c.row_from-row.ensures in
    (begin_asked c.in-Begin.last q told i r sought within own row).1

pub begins_by-requires-clause-told : goal.begins_by-requires-clause-told
begins_by-requires-clause-told c =
    let q = c.args.question.now in
    let told = c.args.told.now in
    let i = c.args.i in
    let r = c.row_from-row.result in
    let sought = subst (λ (a : Aim). IsSought a q told) c.in-Begin.is c.requires.sought in
    let within = subst (λ (a : Aim). i < row_count a told) c.in-Begin.is c.requires.within in
    let own = subst (λ (a : Aim). IsOwnAt a q told i) c.in-Begin.is c.requires.own in
    let row = subst (λ (a : Aim). r ≡ get_or told.rows.now (row_at a told i) no_row) c.in-Begin.is c.row_from-row.ensures in
    (begin_asked c.in-Begin.last q told i r sought within own row).2

pub returns-in-End : goal.returns-in-End
returns-in-End c =
    let q = c.args.question.now in
    let told = c.args.told.now in
    let i = c.args.i in
    let r = c.row_from-row.result in
    let row = subst (λ (a : Aim). r ≡ get_or told.rows.now (row_at a told i) no_row) c.in-End.is c.row_from-row.ensures in
    subst (λ (a : Aim). IfOk c.ends_by.result (λ b. IsTrue b ↔ DoesAt a q told i)) (sym c.in-End.is) (subst (λ (z : Row). IfOk c.ends_by.result (λ b. IsTrue b ↔ Ends c.in-End.start.now q told z.at)) row c.ends_by.ensures)

pub returns-in-Begin : goal.returns-in-Begin
returns-in-Begin c =
    let q = c.args.question.now in
    let told = c.args.told.now in
    let i = c.args.i in
    let r = c.row_from-row.result in
    let row = subst (λ (a : Aim). r ≡ get_or told.rows.now (row_at a told i) no_row) c.in-Begin.is c.row_from-row.ensures in
    subst (λ (a : Aim). IfOk c.begins_by.result (λ b. IsTrue b ↔ DoesAt a q told i)) (sym c.in-Begin.is) (subst (λ (z : Row). IfOk c.begins_by.result (λ b. IsTrue b ↔ Begins q told c.in-Begin.last z.at)) row c.begins_by.ensures)
