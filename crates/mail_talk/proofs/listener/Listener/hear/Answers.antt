use Rattle.std.proofs.Common.{◌≤◌, ap, ◌∙◌, subst}
use Rattle.std.proofs.lemmas.Result.{on_ok_weaker}
use Rattle.mail_talk.specs.Units.{TalkState, drained}
use Rattle.mail_talk.proofs.CountLemmas.{heard_counts}
use Rattle.mail_talk.proofs.listener.Listener.hear.Goals as goal

pub returns-clause-counts : goal.returns-clause-counts
returns-clause-counts c =
    let begun : c.args.self.now.from ≤ c.args.self.now.at = subst (λ (s : TalkState). s.from ≤ s.at) c.self.view_is c.self.invariant.2 in
    on_ok_weaker c.drain.result (λ is listens. heard_counts c.args.bytes.now c.args.self.now c.drain.new.self begun (is ∙ ap drained c.in_ok-feed.ensures) listens) c.drain.ensures
