use Rattle.std.proofs.Common.{◌≡◌, ◌≤◌, List, length, sym, ap, ◌∙◌, subst}
use Rattle.mime_tree.specs.Tree.{PartValue, TreeValue}
use Rattle.mime_tree.specs.Opening.{parts_of}
use Rattle.mime_tree.specs.Laws.{HasDistinctSections}
use Rattle.mime_tree.proofs.TreeLaws.{few_parts}
use Rattle.mime_tree.proofs.SectionLaws.{sections_distinct}
use Rattle.mime_tree.proofs.reading.tree.Goals as goal

pub returns-clause-few : goal.returns-clause-few
returns-clause-few c =
    let parts : c.new.result.parts ≡ parts_of c.args.bytes.now = ap (λ (t : TreeValue). t.parts) c.new.ensures ∙ c.in_ok-parts.ensures.equals in
    subst (λ (ps : List PartValue). length ps ≤ 1000) (sym parts) (few_parts c.args.bytes.now)

pub returns-clause-distinct : goal.returns-clause-distinct
returns-clause-distinct c =
    let parts : c.new.result.parts ≡ parts_of c.args.bytes.now = ap (λ (t : TreeValue). t.parts) c.new.ensures ∙ c.in_ok-parts.ensures.equals in
    subst (λ (ps : List PartValue). HasDistinctSections ps) (sym parts) (sections_distinct c.args.bytes.now)
