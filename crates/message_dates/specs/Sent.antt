-- The moment at which a message says that it was sent (RFC 5322 §3.6.1).
use Rattle.std.specs.Prelude.{ℤ, pos, int_div, false, Result, Ok, Err, Option, Some, None, codes}
use Rattle.header_words.specs.Fields.{FieldValue, Header, first_of}
use Rattle.header_words.specs.Value.{unfolded}
use Rattle.jiff_core.specs.declared.error.Error.{Error}
use Rattle.jiff_fmt.specs.Rfc2822.{timestamp}

-- the seconds of a moment that was read in nanoseconds, or else the other moment
abbrev pub seconds_or : ℤ → Result ℤ Error → ℤ
seconds_or other (Ok nanoseconds) = int_div nanoseconds (pos 1_000_000_000)
seconds_or other (Err e) = other

-- the seconds of a field's date, or else the other moment
abbrev pub date_or : ℤ → Option FieldValue → ℤ
date_or other None = other
date_or other (Some field) = seconds_or other (timestamp false (unfolded field.lines))

-- the date of the first Date field in seconds since 1970-01-01 00:00 UTC, or else the moment at which the server received the message
unfoldable pub sent_of : Header → ℤ → ℤ
sent_of header internal = date_or internal (first_of (codes "Date") header.fields)
