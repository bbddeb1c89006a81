use Rattle.std.proofs.Common.{sym, ap, ◌∙◌}
use Rattle.html_syntax.specs.Token.Token.{Comment, Doctype}
use Rattle.html_tokens.specs.Scanned.{part_tokens}
use Rattle.wash_attributes.specs.Addresses.{given_of}
use Rattle.html_wash.proofs.Writing.{on_ok_map}
use Rattle.html_wash.proofs.Taking.{start_span, end_span, quiet_span, dropped_run, kept_run}
use Rattle.html_wash.proofs.washer.Washer.take.Goals as goal

pub returns-in-StartTag-clause-took : goal.returns-in-StartTag-clause-took
returns-in-StartTag-clause-took c =
    on_ok_map c.take_start_tag.result _ _
    (start_span (given_of c.args.references.now c.args.place.now c.args.self.now.images) c.args.self.now.state c.start_tag-tag.result.name c.start_tag-tag.result.attributes _ _ c.args.out.now c.take_start_tag.new.out c.take_start_tag.new.self.state c.start_tag-tag.ensures)
    c.take_start_tag.ensures.took

pub returns-in_ok-settle-in-EndTag-clause-took : goal.returns-in_ok-settle-in-EndTag-clause-took
returns-in_ok-settle-in-EndTag-clause-took c =
    on_ok_map c.end_tag-in-EndTag.result _ _
    (end_span (given_of c.args.references.now c.args.place.now) _ c.args.self.now c.end_tag.result _ c.args.out.now c.end_tag-in-EndTag.new.out c.end_tag-in-EndTag.new.opened c.settle.new.self c.self.view_is c.end_tag.ensures c.in_ok-settle-in-EndTag.ensures)
    c.end_tag-in-EndTag.ensures

pub returns-then-drops_text-clause-took : goal.returns-then-drops_text-clause-took
returns-then-drops_text-clause-took c =
    on_ok_map c.take_run.result _ _
    (dropped_run (given_of c.args.references.now c.args.place.now c.args.self.now.images) _ c.args.self.now _ _ _ c.args.out.now c.take_run.new.self c.self-in-Run.view_is (sym c.drops_text.ensures ∙ c.if-drops_text.true)
    (ap (part_tokens c.args.scanner.now.text c.args.span.now.start c.args.span.now.end) (sym c.part.ensures ∙ c.in-Run.is)) c.requires.inside)
    c.take_run.ensures

pub returns-else-drops_text-clause-took : goal.returns-else-drops_text-clause-took
returns-else-drops_text-clause-took c =
    on_ok_map c.write_run.result _ _
    (kept_run (given_of c.args.references.now c.args.place.now c.args.self.now.images) _ c.args.self.now _ _ _ c.args.out.now c.write_run.new.out c.self-in-Run.view_is (sym c.drops_text.ensures ∙ c.if-drops_text.false)
    (ap (part_tokens c.args.scanner.now.text c.args.span.now.start c.args.span.now.end) (sym c.part.ensures ∙ c.in-Run.is)) c.requires.inside)
    c.write_run.ensures

pub returns-in-Comment-clause-took : goal.returns-in-Comment-clause-took
returns-in-Comment-clause-took c =
    on_ok_map c.settle-in-Comment.result _ _
    (λ e. quiet_span (given_of c.args.references.now c.args.place.now c.args.self.now.images) _ c.args.self.now (Comment _) _ _ c.args.out.now c.settle-in-Comment.new.self c.self-in-Comment.view_is tt
    (ap (part_tokens c.args.scanner.now.text c.args.span.now.start c.args.span.now.end) (sym c.part.ensures ∙ c.in-Comment.is)) e c.requires.inside)
    c.settle-in-Comment.ensures

pub returns-in-Doctype-clause-took : goal.returns-in-Doctype-clause-took
returns-in-Doctype-clause-took c =
    on_ok_map c.settle-in-Doctype.result _ _
    (λ e. quiet_span (given_of c.args.references.now c.args.place.now c.args.self.now.images) _ c.args.self.now Doctype _ _ c.args.out.now c.settle-in-Doctype.new.self c.self-in-Doctype.view_is tt
    (ap (part_tokens c.args.scanner.now.text c.args.span.now.start c.args.span.now.end) (sym c.part.ensures ∙ c.in-Doctype.is)) e c.requires.inside)
    c.settle-in-Doctype.ensures
