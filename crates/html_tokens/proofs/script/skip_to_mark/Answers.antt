use Rattle.std.proofs.Common.{ℕ, List, subst}
use Rattle.memchr.specs.Find.{IsFirstByte, is_byte2}
use Rattle.html_references.proofs.Searches.{lacks_before}
use Rattle.html_tokens.proofs.script.skip_to_mark.Goals as goal

pub returns-clause-lacks : goal.returns-clause-lacks
returns-clause-lacks c =
    lacks_before (is_byte2 60 45) c.args.rest.now c.memchr2.result c.unwrap_or.result
    (subst (λ (l : List ℕ). IsFirstByte (is_byte2 60 45) l c.memchr2.result) c.as_bytes.ensures.value c.memchr2.ensures) c.unwrap_or.ensures
