use Rattle.std.proofs.Common.{ap, ◌∙◌, true, false}
use Rattle.std.proofs.lemmas.Str.{IsCharBoundary-start}
use Rattle.html_syntax.specs.References.{reference}
use Rattle.html_references.specs.declared.stretch.ReadAs.TheVariants as reads
use Rattle.html_references.proofs.StretchReads.{found_reads, found_boundary, ampersand_here}
use Rattle.html_references.proofs.stretch.read_ampersand.Goals as goal

pub returns-in-Raw-clause-boundary : goal.returns-in-Raw-clause-boundary
returns-in-Raw-clause-boundary c = IsCharBoundary-start c.args.rest.now c.utf8.rest

pub returns-in-Raw-clause-reads : goal.returns-in-Raw-clause-reads
returns-in-Raw-clause-reads c = rw c.in-Raw.is (ampersand_here c.args.rest.now)

pub returns-in-Text-clause-boundary : goal.returns-in-Text-clause-boundary
returns-in-Text-clause-boundary c = found_boundary false c.read_reference.result c.args.rest.now c.utf8.rest (c.read_reference.ensures ∙ ap (reference false) c.as_bytes.ensures.value)

pub returns-in-Text-clause-reads : goal.returns-in-Text-clause-reads
returns-in-Text-clause-reads c =
    rw c.in-Text.is (found_reads reads.Text c.read_reference.result c.args.rest.now c.utf8.rest tt (c.read_reference.ensures ∙ ap (reference false) c.as_bytes.ensures.value))

pub returns-in-Rcdata-clause-boundary : goal.returns-in-Rcdata-clause-boundary
returns-in-Rcdata-clause-boundary c = found_boundary false c.read_reference-in-Rcdata.result c.args.rest.now c.utf8.rest (c.read_reference-in-Rcdata.ensures ∙ ap (reference false) c.as_bytes-in-Rcdata.ensures.value)

pub returns-in-Rcdata-clause-reads : goal.returns-in-Rcdata-clause-reads
returns-in-Rcdata-clause-reads c =
    rw c.in-Rcdata.is (found_reads reads.Rcdata c.read_reference-in-Rcdata.result c.args.rest.now c.utf8.rest tt (c.read_reference-in-Rcdata.ensures ∙ ap (reference false) c.as_bytes-in-Rcdata.ensures.value))

pub returns-in-Value-clause-boundary : goal.returns-in-Value-clause-boundary
returns-in-Value-clause-boundary c = found_boundary true c.read_reference-in-Value.result c.args.rest.now c.utf8.rest (c.read_reference-in-Value.ensures ∙ ap (reference true) c.as_bytes-in-Value.ensures.value)

pub returns-in-Value-clause-reads : goal.returns-in-Value-clause-reads
returns-in-Value-clause-reads c =
    rw c.in-Value.is (found_reads reads.Value c.read_reference-in-Value.result c.args.rest.now c.utf8.rest tt (c.read_reference-in-Value.ensures ∙ ap (reference true) c.as_bytes-in-Value.ensures.value))
