-- The day of a calendar, counted off year by year and month by month.
use Rattle.std.specs.Prelude.{ℕ, zero, suc, ◌-◌, nat_lt, if◌then◌else◌, pos}
use Rattle.jiff_core.specs.Calendar.{days_in_year, days_in_month}

-- the year in which a day lies that is counted from 0 at the first day of `year`, and its number in that year. At most `more` years are counted off.
unfoldable pub year_and_day : ℕ → ℕ → ℕ → ℕ × ℕ
year_and_day zero year day = (year, day)
year_and_day (suc more) year day =
    if nat_lt day (days_in_year (pos year)) then (year, day)
    else year_and_day more (suc year) (day - days_in_year (pos year))

-- the same for the months of a year
unfoldable pub month_and_day : ℕ → ℕ → ℕ → ℕ → ℕ × ℕ
month_and_day zero year month day = (month, day)
month_and_day (suc more) year month day =
    if nat_lt day (days_in_month (pos year) month) then (month, day)
    else month_and_day more year (suc month) (day - days_in_month (pos year) month)
