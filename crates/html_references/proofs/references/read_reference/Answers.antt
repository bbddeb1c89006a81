use Rattle.std.proofs.Common.{Option, ap, ◌∙◌}
use Rattle.html_syntax.specs.Names.{names}
use Rattle.html_syntax.specs.References.{longest}
use Rattle.html_references.specs.CodeReferences.{found_reference}
use Rattle.html_references.specs.declared.names.FoundName.{FoundName}
use Rattle.html_references.proofs.FoundNames.{name_reference-found}
use Rattle.html_references.proofs.Numbers.{reference-name}
use Rattle.html_references.proofs.references.read_reference.Goals as goal

pub returns-else-c-eq35 : goal.returns-else-c-eq35
returns-else-c-eq35 c =
    let text = c.args.text.now in
    c.read_name.ensures
    ∙ ap (λ (o : Option FoundName). found_reference c.args.in_attribute o text) c.longest_name.ensures
    ∙ name_reference-found c.args.in_attribute (longest names text) text
    ∙ reference-name c.args.in_attribute text c.in-len1-up.len_at_least c.if-c-eq35.false
