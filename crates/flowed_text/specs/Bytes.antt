-- The bytes that flowed text names.
pub use Rattle.mail_values.specs.Ascii.{line_feed, carriage_return, space, greater_than_sign}
