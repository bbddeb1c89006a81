use Rattle.std.proofs.Common.{length}
use Rattle.html_references.proofs.prefixes.+begins_ignore_case.Given as goal

abbrev pub decreases-begins_ignore_case : goal.decreases-begins_ignore_case
decreases-begins_ignore_case l = length l.word.now
