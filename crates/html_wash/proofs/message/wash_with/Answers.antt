use Rattle.std.proofs.Common.{◌++◌, sym, ap, ◌∙◌}
use Rattle.html_tokens.specs.Scanned.{tokens_left, span_tokens}
use Rattle.html_tokens.proofs.Wholes.{left_at_start}
use Rattle.wash_attributes.specs.Addresses.{given_of}
use Rattle.html_wash.proofs.Writing.{on_ok_map}
use Rattle.html_wash.proofs.Taking.{washing_starts, washing_goes_on, washing_ends}
use Rattle.html_wash.proofs.message.wash_with.Goals as goal

pub loop-span-init : goal.loop-span-init
loop-span-init c =
    let e = c.new-scanner.ensures in (
      e.text,
      washing_starts (given_of c.args.references.now c.args.place.now c.args.images) c.args.images c.new-washer.result (tokens_left c.new-scanner.result) _ c.args.out.now c.new-washer.ensures
          (left_at_start c.new-scanner.result c.args.html.now e.text e.at e.mode) c.requires,
    )

pub loop-span-preserved : goal.loop-span-preserved
loop-span-preserved c =
    let e = c.in-Some.ensures in
    let held = c.loop-span.invariant in (
      e.text ∙ held.0,
      washing_goes_on (given_of c.args.references.now c.args.place.now) c.args.images c.loop-span.washer c.take.new.self (tokens_left c.loop-span.scanner) (span_tokens c.next.new.self.text c.in-Some.span) (tokens_left c.next.new.self) c.args.out.now.opened c.loop-span.out c.take.new.out _
          (e.reads ∙ ap (λ text. span_tokens text c.in-Some.span ++ tokens_left c.next.new.self) (sym e.text)) c.in_ok-take.ensures.images c.in_ok-take.ensures.took held.1,
    )

pub returns-clause-page : goal.returns-clause-page
returns-clause-page c =
    on_ok_map c.close.result _ _
    (λ page. washing_ends (given_of c.args.references.now c.args.place.now c.args.images) c.args.images c.loop-span.washer (tokens_left c.loop-span.scanner) c.args.out.now.opened c.loop-span.out c.close.new.out _ c.in_default.ensures.reads page c.loop-span.invariant.1)
    c.close.ensures.page
