use Rattle.std.proofs.Common.{subst}
use Rattle.account_sends.specs.Sends.{IsLinkCaused}
use Rattle.account_sends.proofs.SendLemmas.{link_caused}
use Rattle.account_sends.specs.Outboxes.{OutboxState}
use Rattle.account_sends.proofs.outbox.Outbox.submit.Goals as goal

pub returns-clause-post_cause : goal.returns-clause-post_cause
returns-clause-post_cause g c = subst (λ (o : OutboxState). IsLinkCaused c.submit_letter.result o.post_faults (g.L.Link.faults c.submit_letter.new.post)) c.self.view_is (link_caused _ _ _ _ _ _ c.submit_letter.ensures.sends)
