use Rattle.draft_sources.proofs.Restoring.{texts_restored}
use Rattle.draft_sources.proofs.laws.saved_texts_are_restored.Goals as goal

pub returns : goal.returns
returns c = texts_restored c.messages_are_one_text.ensures.saved
