use Rattle.std.proofs.Common.{sym, ◌∙◌}
use Rattle.imap_framing.proofs.LineLemmas.{no_size}
use Rattle.imap_framing.proofs.line.size_at_end.Goals as goal

pub returns-then-not-ends_with : goal.returns-then-not-ends_with
returns-then-not-ends_with c = no_size c.args.line.now (sym c.ends_with.ensures.value ∙ c.if-not-ends_with.true)
