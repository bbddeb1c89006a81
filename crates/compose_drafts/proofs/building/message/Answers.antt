use Rattle.std.specs.Prelude.{string_bytes}
use Rattle.std.proofs.Common.{ap, ◌∙◌}
use Rattle.std.proofs.lemmas.Str.{IsUtf8-string_bytes}
use Rattle.compose_drafts.specs.Paragraphs.{is_seven_bit}
use Rattle.compose_drafts.proofs.Carried.{text_carried}
use Rattle.compose_drafts.proofs.building.message.Goals as goal

pub returns-clause-body : goal.returns-clause-body
returns-clause-body c =
    text_carried c.args.draft.now (string_bytes c.in_ok-body.body) c.as_bytes-2.result.now c.as_str.result.now c.is_seven_bit-seven_bit.result c.as_str.ensures c.in_ok-body.ensures.equals (IsUtf8-string_bytes c.in_ok-body.body) c.in_ok-body.ensures.parses
    (c.is_seven_bit-seven_bit.ensures ∙ ap is_seven_bit c.as_bytes.ensures.value) c.as_bytes-2.ensures.value c.in_ok-push_coded.ensures.decodes
