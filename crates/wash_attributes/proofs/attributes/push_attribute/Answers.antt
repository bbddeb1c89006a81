use Rattle.std.proofs.Common.{◌≡◌, ◌++◌, List, chars, map, sym, ap, subst, ◌∙◌}
use Rattle.std.specs.Prelude.{OnOk}
use Rattle.html_syntax.specs.Token.{Attribute, attribute_of}
use Rattle.wash_attributes.specs.Values.{written_value}
use Rattle.wash_attributes.specs.Washing.{given_in}
use Rattle.wash_attributes.specs.Written.{text_in}
use Rattle.wash_attributes.proofs.AsciiValues.{word_chars_same}
use Rattle.wash_attributes.proofs.KeepingLemmas.{written_attribute}
use Rattle.wash_attributes.proofs.attributes.push_attribute.Goals as goal

pub returns-in-Some-2 : goal.returns-in-Some-2
returns-in-Some-2 c =
    let with = c.args.with.now in
    let given = given_in with in
    let name = c.args.name.now in
    let value = c.args.attribute.now.value in
    let read = ap chars c.as_str.ensures.value ∙ c.in_ok-value.ensures in
    let kind = sym c.kind_of.ensures ∙ c.in-Some.is in
    let written = ap text_in (sym c.in-Some-2.is) ∙ c.in_ok-written.ensures ∙ ap (written_value given c.in-Some.kind) read in
    let one = written_attribute given name value _ c.in-Some.kind kind written (word_chars_same name c.requires) in
    subst (λ (more : List Attribute). OnOk c.push_pair.result (map attribute_of c.push_pair.new.kept.items ≡ map attribute_of c.args.kept.now.items ++ more)) (sym one) c.push_pair.ensures
