-- Worked examples of dates.
use Rattle.std.proofs.Common.{◌≡◌, [], ◌∷◌, ◌++◌, pos, neg_ℤ, refl, codes, map}
use Rattle.header_words.specs.Fields.{header_of}
use Rattle.jiff_fmt.proofs.OnLiterals.{jiff_fmt_on_literals}
use Rattle.message_dates.specs.Calendar.{year_and_day, month_and_day}
use Rattle.message_dates.specs.Minutes.{minute_text}
use Rattle.message_dates.specs.Sent.{sent_of}

-- leap days, the ends of years, and seconds that don't count
minutes : map minute_text (pos 0 ∷ pos 1_767_225_599 ∷ pos 1_767_225_600 ∷ pos 951_782_459 ∷ pos 951_868_799 ∷ pos 951_868_800 ∷ neg_ℤ (pos 1) ∷ [])
    ≡ codes "1970-01-01 00:00" ∷ codes "2025-12-31 23:59" ∷ codes "2026-01-01 00:00" ∷ codes "2000-02-29 00:00" ∷ codes "2000-02-29 23:59" ∷ codes "2000-03-01 00:00" ∷ codes "1969-12-31 23:59" ∷ []
unfolding minute_text year_and_day month_and_day
minutes = refl

-- the first and the last second of the years 0 to 9999, and those beside them
bounds : map minute_text (neg_ℤ (pos 62_167_219_201) ∷ neg_ℤ (pos 62_167_219_200) ∷ pos 253_402_300_799 ∷ pos 253_402_300_800 ∷ [])
    ≡ codes "-" ∷ codes "0000-01-01 00:00" ∷ codes "9999-12-31 23:59" ∷ codes "-" ∷ []
unfolding minute_text year_and_day month_and_day
bounds = refl

-- the date of the first Date field, folded and with an offset; without one, or with one that isn't a date, the other moment
dated : sent_of (header_of (codes "DATE: Thu, 1 Jan" ++ 13 ∷ 10 ∷ codes "  2026 01:00:00 +0100" ++ 10 ∷ codes "Date: Fri, 2 Jan 2026 00:00:00 GMT" ++ 10 ∷ [])) (pos 7) ≡ pos 1_767_225_600
unfolding sent_of header_of jiff_fmt_on_literals
dated = refl

not_a_date : sent_of (header_of (codes "Date: yesterday" ++ 10 ∷ [])) (pos 7) ≡ pos 7
unfolding sent_of header_of jiff_fmt_on_literals
not_a_date = refl

undated : sent_of (header_of (codes "Subject: a" ++ 10 ∷ [])) (neg_ℤ (pos 7)) ≡ neg_ℤ (pos 7)
unfolding sent_of header_of
undated = refl
