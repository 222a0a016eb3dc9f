-- What a row says of a phase.
use Rattle.std.specs.Prelude.{ℕ, nat_le, ◌==◌, Bool, true, false, if◌then◌else◌, ◌||◌}
use Rattle.sig_base.specs.declared.values.Row.{Row}
use Rattle.service_cut.specs.declared.signs.Sign.{Sign}
use Rattle.service_cut.specs.declared.signs.Sign.TheVariants.{Begin, Change, Yellow, End, Cause, Other}

-- what a code says of a phase
abbrev pub code_sign : ℕ → Sign
code_sign c = if c == 1 then Begin else (if c == 7 then Change else (if c == 8 then Yellow else (if (c == 9) || (c == 10) then End else (if (c == 4) || (c == 5) || (c == 6) then Cause else Other))))

-- what the row says of phase p
unfoldable pub sign : ℕ → Row → Sign
sign p x = if x.param == p then code_sign x.code else Other

-- the codes that say something of a phase are among these
abbrev pub is_told_by : ℕ → Bool
is_told_by c = nat_le c 10

-- the row begins green: code 1
abbrev pub is_begin : Sign → Bool
is_begin Begin = true
is_begin _ = false

-- the row ends green: code 7 or 8
abbrev pub is_change : Sign → Bool
is_change Change = true
is_change Yellow = true
is_change _ = false

-- the row begins yellow: code 8
abbrev pub is_yellow : Sign → Bool
is_yellow Yellow = true
is_yellow _ = false

-- the row ends yellow or begins red clearance: code 9 or 10
abbrev pub is_end : Sign → Bool
is_end End = true
is_end _ = false

-- the row says why the green ends: code 4, 5 or 6
abbrev pub is_cause : Sign → Bool
is_cause Cause = true
is_cause _ = false
