use Rattle.std.proofs.Common.{◌≡◌, ◌++◌, ◌∷◌, [], List, map, chars, string_bytes, sym, ap, subst, ◌∙◌}
use Rattle.std.proofs.lemmas.List.{map-append}
use Rattle.html_syntax.specs.Token.{Attribute, attribute_of}
use Rattle.html_tokens.specs.Kept.{HoldsNames}
use Rattle.html_tokens.specs.Tags.{add_attribute}
use Rattle.html_tokens.proofs.HeldNames.{held_new, held_more, held_again, kept_one, kept_none, attribute_is}
use Rattle.html_tokens.proofs.attribute_list.AttributeList.keep.Goals.{then-is_new+in_ok-value+in_ok-value-2+in_ok-push, else-is_new}
use Rattle.html_tokens.proofs.attribute_list.AttributeList.keep.Goals as goal

pub invariant_of-result : goal.invariant_of-result
invariant_of-result c =
    let names = c.self.inside.names in
    let pairs = c.self.inside.pairs.items in
    let told = c.in_ok-is_new.ensures in
    let key = c.as_str.result.now in
    elim c.if-is_new.branch [
      | then-is_new+in_ok-value+in_ok-value-2+in_ok-push w ↦
          subst (HoldsNames c.insert.new.self) (sym (ap (λ v. v.items) w.pairs-is ∙ w.in_ok-push.ensures.items))
          (held_more names c.insert.new.self pairs (c.in_ok-name.name, w.in_ok-value-2.value) key c.as_str.ensures.value told.names c.self.invariant)
      | else-is_new w ↦
          subst (HoldsNames c.insert.new.self) (sym (ap (λ v. v.items) w.pairs-is))
          (held_again names c.insert.new.self pairs key c.in_ok-is_new.is_new told.is_new w.if-is_new.false told.names c.self.invariant)
    ]

pub returns : goal.returns
returns c =
    let pairs = c.self.inside.pairs.items in
    let name = c.in_ok-name.name in
    let a = c.args.attribute.now in
    let named : chars (string_bytes name) ≡ a.name = c.in_ok-name.ensures ∙ c.name.ensures in
    let told = held_new c.self.inside.names pairs c.as_str.result.now c.in_ok-is_new.is_new c.as_str.utf8 c.self.invariant c.in_ok-is_new.ensures.is_new in
    let key : chars c.as_str.result.now ≡ a.name = ap chars c.as_str.ensures.value ∙ named in
    (elim c.if-is_new.branch [
      | then-is_new+in_ok-value+in_ok-value-2+in_ok-push w ↦
          let valued : chars (string_bytes w.in_ok-value-2.value) ≡ a.value = ap chars w.in_ok-value-2.ensures.ok ∙ w.in_ok-value.ensures in
          let is : attribute_of (name, w.in_ok-value-2.value) ≡ a = attribute_is name w.in_ok-value-2.value a named valued in
          ap (λ v. map attribute_of v.items) w.pairs-is
          ∙ ap (map attribute_of) w.in_ok-push.ensures.items
          ∙ map-append attribute_of pairs ((name, w.in_ok-value-2.value) ∷ [])
          ∙ ap (λ (x : Attribute). map attribute_of pairs ++ x ∷ []) is
          ∙ kept_one (map attribute_of pairs) a (chars c.as_str.result.now) c.in_ok-is_new.is_new key told w.if-is_new.true
      | else-is_new w ↦
          ap (λ v. map attribute_of v.items) w.pairs-is
          ∙ kept_none (map attribute_of pairs) a (chars c.as_str.result.now) c.in_ok-is_new.is_new key told w.if-is_new.false
    ]) ∙ ap (λ (l : List Attribute). add_attribute l a) c.self.view_is
