use Rattle.std.proofs.Common.{List, ap, ◌∙◌}
use Rattle.html_references.specs.CodeReferences.{Listed, found_in}
use Rattle.html_references.proofs.FoundNames.{found_is_longest}
use Rattle.html_references.proofs.names.longest_name.Goals as goal

pub returns-in-len1-up : goal.returns-in-len1-up
returns-in-len1-up c =
    let text = c.args.text.now in
    c.found_in.ensures ∙ ap (λ (l : List Listed). found_in l text) c.names_with_first.ensures ∙ found_is_longest text c.in-len1-up.len_at_least
