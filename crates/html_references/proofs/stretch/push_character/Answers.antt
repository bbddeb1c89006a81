use Rattle.std.proofs.Common.{chars, string_bytes, ap, ◌∙◌}
use Rattle.std.proofs.lemmas.Str.{IsUtf8-string_bytes}
use Rattle.html_references.proofs.StretchReads.{chars-push}
use Rattle.html_references.proofs.stretch.push_character.Goals as goal

pub returns : goal.returns
returns c = ap chars c.in_ok-push.ensures.bytes ∙ chars-push (string_bytes c.args.out.now) c.args.character (IsUtf8-string_bytes c.args.out.now) c.ranges.character.0
