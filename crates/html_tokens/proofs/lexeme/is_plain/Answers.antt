use Rattle.std.proofs.Common.{◌≡◌, Bool, true, false, not, refl, sym, ap, ◌∙◌}
use Rattle.memchr.specs.Find.{is_byte3}
use Rattle.html_references.specs.Input.{no_special}
use Rattle.html_tokens.proofs.PlainRuns.{none_found, plain_reads}
use Rattle.html_tokens.proofs.lexeme.is_plain.Goals as goal

not_not : (b : Bool) → b ≡ not (not b)
not_not true = refl
not_not false = refl

plain : (c : goal.After-is_none) → c.is_none.result ≡ no_special c.args.text.now
plain c =
    not_not c.is_none.result ∙ ap not (sym c.is_none.ensures) ∙ sym (none_found (is_byte3 38 13 0) c.as_bytes.result.now c.memchr3.result c.memchr3.ensures) ∙ ap no_special c.as_bytes.ensures.value

pub returns-clause-value : goal.returns-clause-value
returns-clause-value c = plain c

pub returns-clause-reads : goal.returns-clause-reads
returns-clause-reads c is r = plain_reads r c.args.text.now c.utf8.text (sym (plain c) ∙ is)
