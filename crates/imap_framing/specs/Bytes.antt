-- The bytes that framing names.
pub use Rattle.mail_values.specs.Ascii.{line_feed, carriage_return, space, asterisk, digit_zero, digit_nine, left_brace, right_brace, is_digit}
