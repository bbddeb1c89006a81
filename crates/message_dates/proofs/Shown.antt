-- The text of a civil clock is that of its moment.
use Rattle.std.proofs.Common.{◌≡◌, ℕ, suc, ◌+◌, ◌-◌, ◌*◌, ◌/◌, ◌%◌, ◌<◌, ◌≤◌, [], ◌∷◌, ◌++◌, take, refl, sym, ap, ◌∙◌, arith, ℤ, pos, negsuc, ◌≤ℤ◌, ◌+ℤ◌, unsigned_abs, true, false, None}
use Rattle.std.proofs.lemmas.Int.{by_lt_z, ints}
use Rattle.jiff_core.specs.declared.civil.datetime.DateTime.{DateTime}
use Rattle.jiff_core.specs.DateTime.{civil_nanos}
use Rattle.jiff_core.specs.Time.{time_seconds}
use Rattle.jiff_core.specs.Timestamp.{nanos_of_seconds}
use Rattle.jiff_core.specs.Calendar.{IsCivilDate, days_in_year, days_in_month, days_of_years, days_of_months, day_count}
use Rattle.jiff_core.proofs.SignedLemmas.{signed_arith}
use Rattle.jiff_core.proofs.MarchLemmas.{day_count-early}
use Rattle.jiff_core.proofs.CalendarLemmas.{days_from_civil-day_count, day_count-lt_year, day_of_year_bound, days_of_months-zero}
use Rattle.jiff_core.proofs.DateLemmas.{civil}
use Rattle.jiff_core.proofs.DateTimeLemmas.{civil_nanos-parts, time_nanos_bound}
use Rattle.jiff_fmt.specs.Text as Text
use Rattle.jiff_fmt.specs.Text.{pad2, pad4}
use Rattle.mail_values.specs.Ascii.{space, colon}
use Rattle.message_dates.specs.Calendar.{year_and_day, month_and_day}
use Rattle.message_dates.specs.Minutes.{has_four_digits, hyphen, day_text, clock_text, minute_text, second_text}
use Rattle.message_dates.proofs.Counting.{counted_years, counted_months}

first_day : day_count (pos 0) 1 1 ≡ 3_652_425
first_day = day_count-early (pos 0) 9999 1 1 refl (omega arith) (omega arith) (omega arith)

-- a moment of four digits counts from the beginning of the year 0
begun : (instant : ℤ) → has_four_digits instant ≡ true → pos 0 ≤ℤ (instant +ℤ pos 62_167_219_200)
begun instant four = grind (arith, ints)

pub year_is_not_negative : (clock : DateTime) (instant : ℤ) → has_four_digits instant ≡ true → civil_nanos clock ≡ nanos_of_seconds instant → pos 0 ≤ℤ clock.date.year
year_is_not_negative clock instant four e =
    by_lt_z clock.date.year (pos 0)
    (λ lt.
    let before = day_count-lt_year clock.date.year clock.date.month clock.date.day (pos 0) 1 1 (civil clock.date) (omega arith) lt in
    absurd (omega (arith, signed_arith, before, first_day, begun instant four, e, civil_nanos-parts clock, time_nanos_bound clock.time, days_from_civil-day_count clock.date.year clock.date.month clock.date.day)))
    (λ ge. ge)

count_is : (n month day : ℕ) → 1 ≤ day → day_count (pos n) month day ≡ days_of_years (n + 10000) + (days_of_months (pos n) (month - 1) + (day - 1))
unfolding day_count
count_is n month day h = omega arith

day_shown : (n month day number : ℕ) → IsCivilDate (pos n) month day → number + day_count (pos 0) 1 1 ≡ day_count (pos n) month day → day_text number ≡ pad4 n ++ hyphen ∷ pad2 month ++ hyphen ∷ pad2 day
day_shown n month day number is e =
    let rest : ℕ = days_of_months (pos n) (month - 1) + (day - 1) in
    let zero_less : n + 0 ≡ n = omega arith in
    let within : n ≤ 9999 = omega (arith, signed_arith, is.0) in
    let inside : rest < days_in_year (pos (n + 0)) = rw zero_less (omega (arith, day_of_year_bound (pos n) month day is)) in
    let from_zero : number + days_of_years 10000 ≡ days_of_years (n + 10000) + rest = omega (arith, e, count_is n month day is.2.0, count_is 0 1 1 (omega arith), days_of_months-zero (pos 0)) in
    let years : year_and_day 9999 0 number ≡ (n, rest) = rw zero_less at (counted_years n 9999 0 10000 number rest refl within inside from_zero) in
    let month_less : month - 1 + 0 ≡ month - 1 = omega arith in
    let month_same : suc (month - 1) ≡ month = omega (arith, is.1.0) in
    let day_same : day - 1 + 1 ≡ day = omega (arith, is.2.0) in
    let last : day - 1 < days_in_month (pos n) (suc (month - 1 + 0)) = rw month_less (rw month_same (omega (arith, is.2))) in
    let from_first : rest + days_of_months (pos n) 0 ≡ days_of_months (pos n) (month - 1 + 0) + (day - 1) = rw month_less (omega (arith, days_of_months-zero (pos n))) in
    let months : month_and_day 11 n 1 rest ≡ (month, day - 1) = rw month_same at (rw month_less at (counted_months (month - 1) 11 n 0 rest (day - 1) (omega (arith, is.1.1)) last from_first)) in
    rw years (rw months (rw day_same refl))

natural : (z : ℤ) → pos 0 ≤ℤ z → z ≡ pos (unsigned_abs z)
natural (pos n) h = refl
natural (negsuc n) h = absurd (omega (arith, signed_arith, h))

-- the second of a moment, counted from the beginning of the year 0, is that of its day and clock
second_is : (clock : DateTime) (instant : ℤ) → has_four_digits instant ≡ true → civil_nanos clock ≡ nanos_of_seconds instant → unsigned_abs (instant +ℤ pos 62_167_219_200) + day_count (pos 0) 1 1 * 86_400 ≡ day_count clock.date.year clock.date.month clock.date.day * 86_400 + time_seconds clock.time
second_is clock instant four e =
    let from_zero = natural (instant +ℤ pos 62_167_219_200) (begun instant four) in
    omega (arith, signed_arith, first_day, from_zero, e, civil_nanos-parts clock, time_nanos_bound clock.time, days_from_civil-day_count clock.date.year clock.date.month clock.date.day)

-- the same of numbers
parts_shown : (n month day second hour minute rest : ℕ) → IsCivilDate (pos n) month day → rest < 60 → minute < 60 → hour < 24 → second + day_count (pos 0) 1 1 * 86_400 ≡ day_count (pos n) month day * 86_400 + (hour * 3600 + minute * 60 + rest)
    → second_text second ≡ pad4 n ++ hyphen ∷ pad2 month ++ hyphen ∷ pad2 day ++ space ∷ pad2 hour ++ colon ∷ pad2 minute
parts_shown n month day second hour minute rest is r m h e =
    let begins : day_count (pos 0) 1 1 ≤ day_count (pos n) month day = omega arith in
    let days : second / 86_400 + day_count (pos 0) 1 1 ≡ day_count (pos n) month day = omega arith in
    let hours : second % 86_400 / 3600 ≡ hour = omega arith in
    let minutes : second % 86_400 / 60 % 60 ≡ minute = omega arith in
    ap (λ text. text ++ space ∷ clock_text (second % 86_400)) (day_shown n month day (second / 86_400) is days) ∙ rw hours (rw minutes refl)

pub minute_is : (clock : DateTime) (instant : ℤ) → has_four_digits instant ≡ true → civil_nanos clock ≡ nanos_of_seconds instant → take 16 (Text.datetime_text false 32 None clock) ≡ minute_text instant
unfolding minute_text
minute_is clock instant four e =
    let year : clock.date.year ≡ pos (unsigned_abs clock.date.year) = natural clock.date.year (year_is_not_negative clock instant four e) in
    let second = unsigned_abs (instant +ℤ pos 62_167_219_200) in
    let count : second + day_count (pos 0) 1 1 * 86_400 ≡ day_count (pos (unsigned_abs clock.date.year)) clock.date.month clock.date.day * 86_400 + (clock.time.hour * 3600 + clock.time.minute * 60 + clock.time.second) = rw year at (second_is clock instant four e) in
    let date : IsCivilDate (pos (unsigned_abs clock.date.year)) clock.date.month clock.date.day = rw year at (civil clock.date) in
    rw (four, year) (sym (parts_shown _ _ _ second _ _ _ date clock.time.second_in clock.time.minute_in clock.time.hour_in count))

pub other_is : (instant : ℤ) → has_four_digits instant ≡ false → minute_text instant ≡ hyphen ∷ []
unfolding minute_text
other_is instant e = rw e refl
