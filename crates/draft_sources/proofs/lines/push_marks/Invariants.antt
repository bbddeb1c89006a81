use Rattle.std.proofs.Common.{◌≡◌, ◌++◌}
use Rattle.std.specs.Prelude.{replicate, string_bytes}
use Rattle.mail_values.specs.Ascii.{greater_than_sign}
use Rattle.draft_sources.proofs.lines.push_marks.Given as goal

abbrev pub invariant-loop : goal.invariant-loop
invariant-loop l = string_bytes l.line ≡ string_bytes l.fn.line ++ replicate l.counter greater_than_sign
