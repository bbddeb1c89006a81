use Rattle.std.proofs.Common.{length}
use Rattle.html_tokens.proofs.raw.+begins_with_name.Given as goal

abbrev pub decreases-begins_with_name : goal.decreases-begins_with_name
decreases-begins_with_name l = length l.word.now
