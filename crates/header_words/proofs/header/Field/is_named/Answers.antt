use Rattle.std.proofs.Common.{ap, ◌∙◌}
use Rattle.header_words.specs.Places.{is_alike}
use Rattle.header_words.proofs.WholeLines.{not_named}
use Rattle.header_words.proofs.header.Field.is_named.Goals as goal

pub returns-else-is_alike : goal.returns-else-is_alike
returns-else-is_alike c =
    not_named c.self.inside.raw.now c.args.name.now c.args.self.now c.is_alike.result c.self.view_is c.if-is_alike.false
    (c.is_alike.ensures ∙ ap (is_alike c.self.inside.raw.now) c.as_bytes.ensures.value)
