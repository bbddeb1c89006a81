-- The bytes that the grammar of IMAP names.
pub use Rattle.mail_values.specs.Ascii.{line_feed, carriage_return, space, quotation_mark, percent_sign, left_parenthesis, right_parenthesis, asterisk, plus_sign, comma, hyphen, digit_zero, digit_nine, colon, left_bracket, backslash, right_bracket, left_brace, right_brace, tilde, is_digit}
