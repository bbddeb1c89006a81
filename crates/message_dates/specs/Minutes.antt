-- Moments as a table shows them: `2026-01-01 00:00` in UTC.
use Rattle.std.specs.Prelude.{ℕ, ◌+◌, ◌/◌, ◌%◌, ℤ, pos, neg_ℤ, ◌+ℤ◌, unsigned_abs, List, [], ◌∷◌, ◌++◌, Bool, ◌&&◌, if◌then◌else◌, int_le}
use Rattle.jiff_fmt.specs.Text.{pad2, pad4}
use Rattle.mail_values.specs.Ascii.{space, colon}
use Rattle.message_dates.specs.Calendar.{year_and_day, month_and_day}

-- a moment of the years 0 to 9999
abbrev pub has_four_digits : ℤ → Bool
has_four_digits instant = int_le (neg_ℤ (pos 62_167_219_200)) instant && int_le instant (pos 253_402_300_799)

abbrev pub hyphen : ℕ
hyphen = 45

-- `2026-01-01` of a day counted from 0 at the first day of the year 0
abbrev pub day_text : ℕ → List ℕ
day_text day =
    let year = year_and_day 9999 0 day in
    let month = month_and_day 11 year.0 1 year.1 in
    pad4 year.0 ++ hyphen ∷ pad2 month.0 ++ hyphen ∷ pad2 (month.1 + 1)

-- `00:00` of a second of a day
abbrev pub clock_text : ℕ → List ℕ
clock_text second = pad2 (second / 3600) ++ colon ∷ pad2 (second / 60 % 60)

-- the minute of a second counted from 0 at the beginning of the year 0
abbrev pub second_text : ℕ → List ℕ
second_text second = day_text (second / 86_400) ++ space ∷ clock_text (second % 86_400)

-- the minute of a moment in seconds since 1970-01-01 00:00 UTC; a hyphen if its year doesn't have four digits
unfoldable pub minute_text : ℤ → List ℕ
minute_text instant =
    if has_four_digits instant then second_text (unsigned_abs (instant +ℤ pos 62_167_219_200))
    else hyphen ∷ []
