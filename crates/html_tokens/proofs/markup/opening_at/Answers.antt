use Rattle.std.proofs.Common.{subst, sym, ap, ◌∙◌}
use Rattle.html_tokens.specs.Openings.{opening_of}
use Rattle.html_tokens.proofs.OpeningRuns.{Opened, opened_by, opened_boundary}
use Rattle.html_tokens.proofs.markup.opening_at.Goals as goal

opened : (c : goal.After-opening_of) → Opened c.args.rest.now c.opening_of.result
opened c =
    subst (Opened c.args.rest.now) (sym (c.opening_of.ensures ∙ ap opening_of c.as_bytes.ensures.value)) (opened_by c.args.rest.now c.utf8.rest c.requires.opens c.requires.nonempty)

pub returns-clause-boundary : goal.returns-clause-boundary
returns-clause-boundary c = opened_boundary c.args.rest.now c.opening_of.result (opened c)

pub returns-clause-reads : goal.returns-clause-reads
returns-clause-reads c = (opened c).reads

pub returns-clause-tag : goal.returns-clause-tag
returns-clause-tag c = (opened c).tag
