-- Counting off years and months reaches the date that has this day number.
use Rattle.std.proofs.Common.{◌≡◌, ℕ, zero, suc, ◌+◌, ◌-◌, ◌<◌, ◌≤◌, refl, ap, ◌∙◌, arith, pos, ◌+ℤ◌}
use Rattle.jiff_core.specs.Calendar.{days_in_year, days_in_month, days_of_years, days_of_months}
use Rattle.jiff_core.proofs.MarchLemmas.{days_of_years-suc, leap_day-shift, days_in_year-leap_day}
use Rattle.jiff_core.proofs.CalendarLemmas.{days_of_months_mono}
use Rattle.message_dates.specs.Calendar.{year_and_day, month_and_day}

year_stays : (more year day : ℕ) → day < days_in_year (pos year) → year_and_day more year day ≡ (year, day)
unfolding year_and_day
year_stays zero year day h = refl
year_stays (suc more) year day h = grind arith

year_goes : (more year day : ℕ) → days_in_year (pos year) ≤ day → year_and_day (suc more) year day ≡ year_and_day more (suc year) (day - days_in_year (pos year))
unfolding year_and_day
year_goes more year day h = grind arith

-- the day number of a year's first day, from the year -10000 on
days_of_years-next : (year n : ℕ) → n ≡ 10000 + year → days_of_years (suc n) ≡ days_of_years n + days_in_year (pos year)
days_of_years-next year n e =
    let shift : pos year +ℤ pos 10000 ≡ pos n = ap pos (omega arith) in
    omega (arith, days_of_years-suc n, leap_day-shift (pos year) n shift, days_in_year-leap_day (pos year))

days_of_years-later : (n later : ℕ) → days_of_years n ≤ days_of_years (later + n)
days_of_years-later n zero = let same : zero + n ≡ n = omega arith in rw same (omega arith)
days_of_years-later n (suc later) =
    let next : suc later + n ≡ suc (later + n) = omega arith in
    rw next (omega (arith, days_of_years-later n later, days_of_years-suc (later + n)))

pub counted_years : (later more year n day rest : ℕ) → n ≡ 10000 + year → later ≤ more → rest < days_in_year (pos (later + year)) → day + days_of_years n ≡ days_of_years (later + n) + rest → year_and_day more year day ≡ (later + year, rest)
counted_years zero more year n day rest at within last e =
    let here : zero + year ≡ year = omega arith in
    let there : zero + n ≡ n = omega arith in
    let e : day + days_of_years n ≡ days_of_years n + rest = rw there at e in
    let same : day ≡ rest = omega (arith, e) in
    rw here (rw (← same) (year_stays more year day (rw same (rw here at last))))
counted_years (suc later) zero year n day rest at within last e = absurd (omega arith)
counted_years (suc later) (suc more) year n day rest at within last e =
    let here : suc later + year ≡ later + suc year = omega arith in
    let there : suc later + n ≡ later + suc n = omega arith in
    let last : rest < days_in_year (pos (later + suc year)) = rw here at last in
    let e : day + days_of_years n ≡ days_of_years (later + suc n) + rest = rw there at e in
    let next = days_of_years-next year n at in
    let begun : days_in_year (pos year) ≤ day = omega (arith, next, days_of_years-later (suc n) later, e) in
    let left : day - days_in_year (pos year) + days_of_years (suc n) ≡ days_of_years (later + suc n) + rest = omega (arith, next, e, begun) in
    rw here (year_goes more year day begun ∙ counted_years later more (suc year) (suc n) (day - days_in_year (pos year)) rest (omega arith) (omega arith) last left)

month_stays : (more year month day : ℕ) → day < days_in_month (pos year) month → month_and_day more year month day ≡ (month, day)
unfolding month_and_day
month_stays zero year month day h = refl
month_stays (suc more) year month day h = grind arith

month_goes : (more year month day : ℕ) → days_in_month (pos year) month ≤ day → month_and_day (suc more) year month day ≡ month_and_day more year (suc month) (day - days_in_month (pos year) month)
unfolding month_and_day
month_goes more year month day h = grind arith

days_of_months-next : (year month : ℕ) → days_of_months (pos year) (suc month) ≡ days_of_months (pos year) month + days_in_month (pos year) (suc month)
unfolding days_of_months
days_of_months-next year month = refl

-- `before` is the number of the month before
pub counted_months : (later more year before day rest : ℕ) → later ≤ more → rest < days_in_month (pos year) (suc (later + before)) → day + days_of_months (pos year) before ≡ days_of_months (pos year) (later + before) + rest → month_and_day more year (suc before) day ≡ (suc (later + before), rest)
counted_months zero more year before day rest within last e =
    let here : zero + before ≡ before = omega arith in
    let e : day + days_of_months (pos year) before ≡ days_of_months (pos year) before + rest = rw here at e in
    let same : day ≡ rest = omega (arith, e) in
    rw here (rw (← same) (month_stays more year (suc before) day (rw same (rw here at last))))
counted_months (suc later) zero year before day rest within last e = absurd (omega arith)
counted_months (suc later) (suc more) year before day rest within last e =
    let here : suc later + before ≡ later + suc before = omega arith in
    let last : rest < days_in_month (pos year) (suc (later + suc before)) = rw here at last in
    let e : day + days_of_months (pos year) before ≡ days_of_months (pos year) (later + suc before) + rest = rw here at e in
    let next = days_of_months-next year before in
    let begun : days_in_month (pos year) (suc before) ≤ day = omega (arith, next, days_of_months_mono (pos year) (suc before) (later + suc before) (omega arith), e) in
    let left : day - days_in_month (pos year) (suc before) + days_of_months (pos year) (suc before) ≡ days_of_months (pos year) (later + suc before) + rest = omega (arith, next, e, begun) in
    rw here (month_goes more year (suc before) day begun ∙ counted_months later more year (suc before) (day - days_in_month (pos year) (suc before)) rest (omega arith) last left)
