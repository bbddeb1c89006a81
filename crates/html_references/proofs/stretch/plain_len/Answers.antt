use Rattle.std.proofs.Common.{ℕ, List, subst}
use Rattle.memchr.specs.Find.{IsFirstByte, is_byte3}
use Rattle.html_references.proofs.Searches.{lacks_before}
use Rattle.html_references.proofs.stretch.plain_len.Goals as goal

pub returns-clause-plain : goal.returns-clause-plain
returns-clause-plain c =
    lacks_before (is_byte3 38 13 0) c.args.rest.now c.memchr3.result c.unwrap_or.result
    (subst (λ (l : List ℕ). IsFirstByte (is_byte3 38 13 0) l c.memchr3.result) c.as_bytes.ensures.value c.memchr3.ensures) c.unwrap_or.ensures
