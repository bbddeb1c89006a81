use Rattle.std.proofs.Common.{string_bytes, map, chars, ap, ◌∙◌}
use Rattle.std.proofs.lemmas.Str.{IsUtf8-string_bytes}
use Rattle.html_syntax.specs.Characters.{lower}
use Rattle.html_tokens.proofs.Lowering.{chars-lower}
use Rattle.html_tokens.proofs.written.WrittenName.to_string.Goals as goal

pub returns : goal.returns
returns c =
    let name = c.in_ok-name.name in
    ap chars c.make_ascii_lowercase.ensures.bytes ∙ chars-lower (string_bytes name) (IsUtf8-string_bytes name) ∙ ap (map lower) c.in_ok-name.ensures ∙ c.self.view_is
