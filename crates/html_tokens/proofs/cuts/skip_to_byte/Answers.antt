use Rattle.std.proofs.Common.{ℕ, List, subst}
use Rattle.memchr.specs.Find.{IsFirstByte, is_byte}
use Rattle.html_references.proofs.Searches.{lacks_before}
use Rattle.html_tokens.proofs.cuts.skip_to_byte.Goals as goal

pub returns-clause-lacks : goal.returns-clause-lacks
returns-clause-lacks c =
    lacks_before (is_byte c.args.byte) c.args.rest.now c.memchr.result c.unwrap_or.result
    (subst (λ (l : List ℕ). IsFirstByte (is_byte c.args.byte) l c.memchr.result) c.as_bytes.ensures.value c.memchr.ensures) c.unwrap_or.ensures
