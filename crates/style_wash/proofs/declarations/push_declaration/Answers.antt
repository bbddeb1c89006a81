use Rattle.std.proofs.Common.{◌≡◌, ◌∙◌, ℕ, sym, ap, List, length, take, rules}
use Rattle.style_wash.specs.Characters.{trimmed}
use Rattle.style_wash.specs.Values.{value_of}
use Rattle.style_wash.proofs.Marks.{after_colon_is, bad_value, good_value, begins_rest}
use Rattle.style_wash.proofs.declarations.push_declaration.Goals as goal

pub returns-then-not-branch : goal.returns-then-not-branch
returns-then-not-branch c =
    let style = c.args.style.now.items in
    let value = trimmed c.without_important.result.now in
    let kept = begins_rest style _ c.push_value.new.written.items _ c.in_ok-push_property.ensures c.in_ok-push_value.ensures.kept in
    let size : c.len-size.result ≡ length style = search rules in
    c.truncate.ensures.items ∙ ap (λ (n : ℕ). take n c.push_value.new.written.items) size ∙ kept
    ∙ sym (bad_value style c.push_property.new.style.items c.in-Some-property.property.now value _ _ _
    c.in-Some.ensures c.in-Some-property.ensures (after_colon_is c.in-Some.value.now ∙ ap (λ (xs : List ℕ). value_of (trimmed xs)) (sym c.without_important.ensures)) c.in_ok-push_property.ensures (search rules))

pub returns-else-not-branch : goal.returns-else-not-branch
returns-else-not-branch c =
    let value = trimmed c.without_important.result.now in
    good_value c.args.style.now.items c.push_property.new.style.items _ c.in-Some-property.property.now value _ _ _
    c.in-Some.ensures c.in-Some-property.ensures (after_colon_is c.in-Some.value.now ∙ ap (λ (xs : List ℕ). value_of (trimmed xs)) (sym c.without_important.ensures)) c.in_ok-push_property.ensures (search rules)
