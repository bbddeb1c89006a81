use mir.Syntax.{w64}
use Rattle.std.proofs.Common.{◌≡◌, ◌∙◌, sym, true, false}
use Rattle.std.proofs.lemmas.Int.{to_z-of_z}
use Rattle.std.proofs.lemmas.Result.{IfOk-weaker}
use Rattle.jiff_core.specs.DateTime.{civil_nanos}
use Rattle.jiff_core.specs.Timestamp.{nanos_of_seconds}
use Rattle.message_dates.specs.Minutes.{has_four_digits}
use Rattle.message_dates.proofs.Shown.{minute_is, year_is_not_negative, other_is}
use Rattle.message_dates.proofs.minutes.minute_text.Goals as goal

pub returns-then-not-has_four_digits : goal.returns-then-not-has_four_digits
returns-then-not-has_four_digits c =
    let back = to_z-of_z w64 c.args.instant c.ranges.instant in
    let other : has_four_digits c.args.instant ≡ false = rw back at (sym c.has_four_digits.ensures ∙ c.if-not-has_four_digits.true) in
    IfOk-weaker c.from_str.result _ _ (λ t e. e ∙ sym (other_is c.args.instant other)) c.from_str.ensures.ok

pub clock_text-requires : goal.clock_text-requires
clock_text-requires c =
    let back = to_z-of_z w64 c.args.instant c.ranges.instant in
    let four : has_four_digits c.args.instant ≡ true = rw back at (sym c.has_four_digits.ensures ∙ c.if-not-has_four_digits.false) in
    let nanos : civil_nanos c.clock_at.result ≡ nanos_of_seconds c.args.instant = rw back at c.clock_at.ensures in
    year_is_not_negative c.clock_at.result c.args.instant four nanos

pub returns : goal.returns
returns c =
    let back = to_z-of_z w64 c.args.instant c.ranges.instant in
    let four : has_four_digits c.args.instant ≡ true = rw back at (sym c.has_four_digits.ensures ∙ c.if-not-has_four_digits.false) in
    let nanos : civil_nanos c.clock_at.result ≡ nanos_of_seconds c.args.instant = rw back at c.clock_at.ensures in
    IfOk-weaker c.clock_text.result _ _ (λ t e. e ∙ minute_is c.clock_at.result c.args.instant four nanos) c.clock_text.ensures
