use Rattle.std.specs.Prelude.{false, string_bytes}
use Rattle.std.proofs.Common.{◌∙◌}
use Rattle.flowed_text.specs.Paragraphs.{paras_of}
use Rattle.compose_drafts.proofs.Restored.{parsed}
use Rattle.compose_drafts.proofs.bodies.body_of.Goals as goal

pub returns-clause-parses : goal.returns-clause-parses
returns-clause-parses c = parsed (λ t. paras_of (string_bytes t) false) _ c.args.text.now _ (c.deref.ensures.value ∙ c.in_ok-paras.ensures) c.write_flowed.ensures.parses
