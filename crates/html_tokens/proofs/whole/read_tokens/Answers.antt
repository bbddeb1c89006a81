use Rattle.std.proofs.Common.{◌++◌, List, ap, ◌∙◌}
use Rattle.html_syntax.specs.declared.token.Token.{Token as HeldToken}
use Rattle.html_syntax.specs.Held.{meanings}
use Rattle.html_tokens.specs.Scanned.{tokens_left, span_tokens}
use Rattle.html_tokens.proofs.Wholes.{left_at_start, one_more}
use Rattle.html_tokens.proofs.whole.read_tokens.Goals as goal

pub loop-span-init : goal.loop-span-init
loop-span-init c =
    let e = c.new-scanner.ensures in (
      e.text,
      ap (λ (l : List HeldToken). meanings l ++ tokens_left c.new-scanner.result) c.new-list.ensures.items ∙ left_at_start c.new-scanner.result c.args.text.now e.text e.at e.mode,
    )

pub loop-span-preserved : goal.loop-span-preserved
loop-span-preserved c =
    let e = c.in-Some.ensures in
    let held = c.loop-span.invariant in
    let means = c.in_ok-token.ensures ∙ ap (λ t. span_tokens t c.in-Some.span) e.text in (
      e.text ∙ held.0,
      one_more c.loop-span.list.items c.push.new.self.items c.in_ok-token.field-0 (span_tokens c.loop-span.scanner.text c.in-Some.span) (tokens_left c.loop-span.scanner) (tokens_left c.next.new.self) _
          c.in_ok-push.ensures.items means e.reads held.1,
    )
