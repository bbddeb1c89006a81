use Rattle.std.proofs.Common.{◌++◌, sym, ap, ◌∙◌}
use Rattle.html_syntax.specs.Tokenizer.{is_among}
use Rattle.html_rules.specs.Tables.{common_attributes}
use Rattle.wash_attributes.specs.Washing.{given_in}
use Rattle.wash_attributes.specs.Listed.{texts_seen}
use Rattle.wash_attributes.specs.Keeping.{KeptValue, kept_with}
use Rattle.wash_attributes.proofs.KeepingLemmas.{on_ok_map, not_listed, known_name, new_name}
use Rattle.wash_attributes.proofs.attributes.Kept.read.Goals as goal

pub returns-in_default : goal.returns-in_default
returns-in_default c rest = not_listed _ _ c.args.self.now c.args.attribute.now rest (ap (is_among (common_attributes ++ texts_seen c.args.own.now)) (sym c.name.ensures) ∙ c.in_default.ensures.finds)

pub returns-then-is_among : goal.returns-then-is_among
returns-then-is_among c rest =
    let names = ap (λ (k : KeptValue). k.names) (sym c.self.view_is) ∙ sym (ap texts_seen c.as_slice.ensures.value) in
    let name = c.in-Some.ensures.finds.1 ∙ c.name.ensures in
    known_name _ _ c.args.self.now c.args.attribute.now rest (ap (λ ns. is_among ns c.args.attribute.now.name) names ∙ ap (is_among (texts_seen c.as_slice.result.now)) (sym name) ∙ sym c.is_among.ensures ∙ c.if-is_among.true)

pub returns : goal.returns
returns c =
    let with = c.args.with.now in
    let given = given_in with in
    let listed = common_attributes ++ texts_seen c.args.own.now in
    let a = c.args.attribute.now in
    let names = ap (λ (k : KeptValue). k.names) (sym c.self.view_is) ∙ sym (ap texts_seen c.as_slice.ensures.value) in
    let name = c.in-Some.ensures.finds.1 ∙ c.name.ensures in
    let there = ap (is_among listed) (sym c.name.ensures) ∙ c.in-Some.ensures.finds.0 in
    let new = ap (λ ns. is_among ns a.name) names ∙ ap (is_among (texts_seen c.as_slice.result.now)) (sym name) ∙ sym c.is_among.ensures ∙ c.if-is_among.false in
    on_ok_map c.keep.result _ _ (λ e rest. ap (λ (k : KeptValue). kept_with given listed k rest) e ∙ new_name given listed c.args.self.now a rest there new) c.keep.ensures
