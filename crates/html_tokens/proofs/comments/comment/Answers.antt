use Rattle.std.proofs.Common.{◌≡◌, ℕ, ◌+◌, ◌<◌, IsCharBoundary, ap, sym, subst, ◌∙◌, arith}
use Rattle.html_tokens.specs.Closings.{closing_len, abrupt_len}
use Rattle.html_tokens.proofs.CommentRuns.{begun, abrupt_boundary, abrupt_closes, body_closes, body_boundary}
use Rattle.html_tokens.proofs.comments.comment.Goals as goal

pub returns-then-abrupt-gt0-clause-end : goal.returns-then-abrupt-gt0-clause-end
returns-then-abrupt-gt0-clause-end c =
    let is = c.abrupt_len-abrupt.ensures in
    subst (IsCharBoundary c.args.rest.now) (sym is) (abrupt_boundary c.args.rest.now c.utf8.rest (subst (λ (n : ℕ). 0 < n) is c.if-abrupt-gt0.true))

pub returns-then-abrupt-gt0-clause-reads : goal.returns-then-abrupt-gt0-clause-reads
returns-then-abrupt-gt0-clause-reads c =
    let is = c.abrupt_len-abrupt.ensures in
    rw is (abrupt_closes c.args.rest.now c.utf8.rest (subst (λ (n : ℕ). 0 < n) is c.if-abrupt-gt0.true))

pub returns-else-abrupt-gt0-clause-end : goal.returns-else-abrupt-gt0-clause-end
returns-else-abrupt-gt0-clause-end c =
    let is = c.closing_len.ensures ∙ ap closing_len c.range_from.ensures.value in
    let len = c.body_end-len in
    subst (λ (n : ℕ). IsCharBoundary c.args.rest.now (len.result + n)) (sym is) (body_boundary c.args.rest.now len.result c.utf8.rest len.ensures.boundary len.ensures.closes)

pub returns-else-abrupt-gt0-clause-reads : goal.returns-else-abrupt-gt0-clause-reads
returns-else-abrupt-gt0-clause-reads c =
    let is = c.closing_len.ensures ∙ ap closing_len c.range_from.ensures.value in
    let len = c.body_end-len in
    let goes : abrupt_len c.args.rest.now ≡ 0 = omega (arith, c.if-abrupt-gt0.false, c.abrupt_len-abrupt.ensures) in
    rw is (body_closes _ c.args.rest.now len.result c.utf8.rest len.ensures.boundary len.ensures.closes (begun _ c.args.rest.now c.utf8.rest goes ∙ len.ensures.reads))
