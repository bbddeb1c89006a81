-- Where in a request's head its bytes end: a machine that reads each byte once.
use Rattle.std.specs.Prelude.{ℕ, ◌+◌, Bool, true, false, ◌||◌, ◌==◌, nat_lt, List, fold, codes, slice_index, if◌then◌else◌}
use Rattle.httparse.specs.Grammar.{is_token_byte, is_uri_byte, is_value_byte}
use Rattle.http_heads.specs.declared.places.Place.{Place}
use Rattle.http_heads.specs.declared.places.Place.TheVariants.{Start, StartReturn, Method, TargetStart, Target, Version, VersionEnd, LineReturn, FieldStart, LastReturn, Name, Value, Whole, Dead}

abbrev pub version_text : List ℕ
version_text = codes "HTTP/1."

-- after the bytes of a line: a line feed, or CR and a line feed
abbrev pub at_line_end : ℕ → Place
at_line_end b = if b == 10 then FieldStart else (if b == 13 then LineReturn else Dead)

-- a place, if a byte is the expected one
abbrev pub expect : ℕ → ℕ → Place → Place
expect b expected place = if b == expected then place else Dead

-- a run goes on, or ends with a byte
abbrev pub in_run : Bool → Place → ℕ → ℕ → Place → Place
in_run goes_on run b end place = if goes_on then run else expect b end place

-- the place after one more byte
abbrev pub step : Place → ℕ → Place
step Start b = if is_token_byte b then Method else (if b == 13 then StartReturn else (if b == 10 then Start else Dead))
step StartReturn b = expect b 10 Start
step Method b = in_run (is_token_byte b) Method b 32 TargetStart
step TargetStart b = if is_uri_byte b then Target else Dead
step Target b = in_run (is_uri_byte b) Target b 32 (Version 0)
step (Version at) b = if nat_lt at 7 then expect b (slice_index version_text at) (Version (at + 1)) else (if b == 48 || b == 49 then VersionEnd else Dead)
step VersionEnd b = at_line_end b
step LineReturn b = expect b 10 FieldStart
step FieldStart b = if is_token_byte b then Name else (if b == 13 then LastReturn else (if b == 10 then Whole else Dead))
step LastReturn b = expect b 10 Whole
step Name b = in_run (is_token_byte b) Name b 58 Value
step Value b = if is_value_byte b then Value else at_line_end b
step Whole b = Whole
step Dead b = Dead

-- the place where bytes end
abbrev pub place_of : List ℕ → Place
place_of bytes = fold step Start bytes

-- the place is in a target
abbrev pub is_in_target : Place → Bool
is_in_target Start = false
is_in_target StartReturn = false
is_in_target Method = false
is_in_target TargetStart = true
is_in_target Target = true
is_in_target (Version at) = false
is_in_target VersionEnd = false
is_in_target LineReturn = false
is_in_target FieldStart = false
is_in_target LastReturn = false
is_in_target Name = false
is_in_target Value = false
is_in_target Whole = false
is_in_target Dead = false
