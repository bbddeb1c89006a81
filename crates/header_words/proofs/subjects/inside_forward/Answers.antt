use Rattle.std.proofs.Common.{◌-◌, sym, ap, ◌∙◌, take, length, true}
use Rattle.std.proofs.lemmas.List.{take_rest}
use Rattle.header_words.specs.BaseSubject.{base}
use Rattle.header_words.proofs.SubjectLemmas.{forward_if}
use Rattle.header_words.proofs.subjects.inside_forward.Goals as goal

pub returns-then-begins_with : goal.returns-then-begins_with
returns-then-begins_with c =
    let text = c.args.text.now in
    let front = take (length text - 1) text in (
      forward_if text (sym c.ends_with.ensures.value ∙ c.if-not-ends_with.false) ∙ sym c.begins_with.ensures.equals ∙ c.if-begins_with.true,
      ap (λ t. base t true) (take_rest front 5),
    )
