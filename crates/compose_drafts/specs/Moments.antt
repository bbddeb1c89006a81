-- Moments: seconds since 1970 in UTC.
use Rattle.std.specs.Prelude.{◌≡◌, ℕ, ℤ, pos, neg_ℤ, unsigned_abs, ◌∷◌, ◌++◌, List, codes}
use Rattle.jiff_core.specs.Calendar.{IsBetween}
use Rattle.jiff_core.specs.DateTime.{civil_nanos}
use Rattle.jiff_core.specs.declared.civil.datetime.DateTime.{DateTime}
use Rattle.jiff_core.specs.Timestamp.{nanos_of_seconds}
use Rattle.jiff_core.specs.declared.civil.date.Date.{Date}
use Rattle.jiff_core.specs.declared.civil.time.Time.{Time}
use Rattle.jiff_core.specs.Date.{weekday_of}
use Rattle.jiff_fmt.specs.Rfc2822.{month_text, weekday_text}
use Rattle.jiff_fmt.specs.Text.{pad2, pad4}
use Rattle.mail_values.specs.Ascii.{space, colon}

-- a moment from the year 0 to the year 9999
abbrev pub IsWritable : ℤ → Type 0
IsWritable moment = IsBetween (neg_ℤ (pos 62_167_219_200)) (pos 253_402_300_799) moment

-- what a clock at UTC shows at a moment, or in 1970 if the year has not four digits
pub record Shows (moment : ℤ) (clock : DateTime) : Type 0 where
  pub inside : IsWritable moment → civil_nanos clock ≡ nanos_of_seconds moment
  pub outside : (IsWritable moment → ⊥) → civil_nanos clock ≡ pos 0

-- `01 Jan 2026`
abbrev pub day_text : Date → List ℕ
day_text date = pad2 date.day ++ space ∷ month_text date.month ++ space ∷ pad4 (unsigned_abs date.year)

-- `00:00:00`
abbrev pub time_text : Time → List ℕ
time_text time = pad2 time.hour ++ colon ∷ pad2 time.minute ++ colon ∷ pad2 time.second

-- the date of a message (RFC 5322 §3.3): `Thu, 01 Jan 2026 00:00:00 +0000`
unfoldable pub date_text : DateTime → List ℕ
date_text clock = weekday_text (weekday_of clock.date) ++ codes ", " ++ day_text clock.date ++ space ∷ time_text clock.time ++ codes " +0000"
