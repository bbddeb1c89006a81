use Rattle.std.proofs.Common.{rules, ◌≡◌, ◌∙◌, arith, true, drop}
use Rattle.std.proofs.lemmas.List.{drop_all}
use Rattle.submission.specs.Replies.{is_awaited}
use Rattle.submission.proofs.Hearings.{hear_step, grows_step, hear_end}
use Rattle.submission.proofs.inbox.read_from.Goals as goal

pub loop-reply-preserved : goal.loop-reply-preserved
loop-reply-preserved c =
    let awaited : is_awaited c.loop-reply.reply.verdict ≡ true = search rules in
    record {
      reads = c.loop-reply.invariant.reads ∙ hear_step c.loop-reply.reply c.read.new.self c.args.bytes.now c.loop-reply.at _ c.if-at-bytes.true awaited c.read.ensures.equals;
      goes_on = omega (arith, c.loop-reply.invariant.goes_on);
      bound = omega (arith, c.if-at-bytes.true);
      grows = grows_step c.loop-reply.reply c.read.new.self _ c.args.reply.now.size c.args.from c.loop-reply.at c.read.ensures.equals c.loop-reply.invariant.grows awaited;
      short = λ e. c.read.ensures.bound;
    }

pub returns-after-loop-reply-clause-reads : goal.returns-after-loop-reply-clause-reads
returns-after-loop-reply-clause-reads c = c.loop-reply.invariant.reads ∙ hear_end c.loop-reply.reply (drop c.loop-reply.at c.args.bytes.now) (λ awaited. drop_all c.loop-reply.at c.args.bytes.now (search rules))
