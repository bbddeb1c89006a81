use Rattle.std.proofs.Common.{◌++◌, sym, ap, ◌∙◌}
use Rattle.html_tokens.specs.Scanned.{tokens_left, span_tokens}
use Rattle.html_tokens.proofs.Wholes.{left_at_start}
use Rattle.remote_images.specs.Remote.{has_remote_images}
use Rattle.remote_images.proofs.Scanning.{goes_on, found_here, none_left}
use Rattle.remote_images.proofs.images.has_among.Goals as goal

pub loop-span-init : goal.loop-span-init
loop-span-init c =
    let e = c.new-scanner.ensures in
    (e.text, ap (has_remote_images c.args.references.now) (left_at_start c.new-scanner.result c.args.html.now e.text e.at e.mode))

pub loop-span-preserved : goal.loop-span-preserved
loop-span-preserved c =
    let e = c.in-Some.ensures in
    let held = c.loop-span.invariant in (
      e.text ∙ held.0,
      goes_on c.args.references.now (tokens_left c.loop-span.scanner) (span_tokens c.next.new.self.text c.in-Some.span) (tokens_left c.next.new.self) c.in_ok-has_in_span.field-0 _
          (e.reads ∙ ap (λ text. span_tokens text c.in-Some.span ++ tokens_left c.next.new.self) (sym e.text)) c.in_ok-has_in_span.ensures c.if-branch.false held.1,
    )

pub returns-then-branch : goal.returns-then-branch
returns-then-branch c =
    let e = c.in-Some.ensures in
    found_here c.args.references.now (tokens_left c.loop-span.scanner) (span_tokens c.next.new.self.text c.in-Some.span) (tokens_left c.next.new.self) c.in_ok-has_in_span.field-0 _
    (e.reads ∙ ap (λ text. span_tokens text c.in-Some.span ++ tokens_left c.next.new.self) (sym e.text)) c.in_ok-has_in_span.ensures c.if-branch.true c.loop-span.invariant.1

pub returns : goal.returns
returns c = none_left c.args.references.now (tokens_left c.loop-span.scanner) _ c.in_default.ensures.reads c.loop-span.invariant.1
