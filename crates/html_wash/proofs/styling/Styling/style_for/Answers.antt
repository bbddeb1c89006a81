use Rattle.std.proofs.Common.{◌≤◌, ◌<◌, string_bytes, sym, ap, subst, ◌∙◌, chars}
use Rattle.html_wash.specs.Elements.{name_of}
use Rattle.html_wash.specs.Styling.{Styling, taken_limit}
use Rattle.html_wash.proofs.StylingLemmas.{if_ok_map, no_rules, no_room, some_for}
use Rattle.html_wash.proofs.styling.Styling.style_for.Goals as goal

pub returns-then-is_empty : goal.returns-then-is_empty
returns-then-is_empty c =
    no_rules c.args.self.now (name_of c.args.element) c.args.tag.now.attributes (string_bytes c.new.result)
    (ap (λ (s : Styling). s.rules) (sym c.self.view_is) ∙ c.is_empty.ensures.0 c.if-is_empty.true) c.new.ensures.bytes

pub returns-then-self-ge-TAKEN_LIMIT : goal.returns-then-self-ge-TAKEN_LIMIT
returns-then-self-ge-TAKEN_LIMIT c =
    no_room c.args.self.now (name_of c.args.element) c.args.tag.now.attributes (string_bytes c.new-then-self-ge-TAKEN_LIMIT.result)
    (subst (λ (s : Styling). taken_limit ≤ s.count) c.self.view_is c.if-self-ge-TAKEN_LIMIT.true) c.new-then-self-ge-TAKEN_LIMIT.ensures.bytes

pub returns : goal.returns
returns c =
    if_ok_map c.style_of.result _ _
    (λ style e. some_for c.args.self.now (name_of c.args.element) c.args.tag.now.attributes (string_bytes style) (chars c.as_str.result.now)
    (subst (λ (s : Styling). s.count < taken_limit) c.self.view_is c.if-self-ge-TAKEN_LIMIT.false) (ap chars c.as_str.ensures.value ∙ c.in_ok-classes.ensures) e)
    c.style_of.ensures
