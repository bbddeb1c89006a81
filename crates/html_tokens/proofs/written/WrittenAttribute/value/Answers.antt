use Rattle.std.proofs.Common.{ap, ◌∙◌}
use Rattle.html_references.specs.declared.stretch.ReadAs.TheVariants as reads
use Rattle.html_tokens.proofs.written.WrittenAttribute.value.Goals as goal

pub returns-then-is_plain : goal.returns-then-is_plain
returns-then-is_plain c = c.is_plain.ensures.reads c.if-is_plain.true reads.Value ∙ ap (λ a. a.value) c.self.view_is
