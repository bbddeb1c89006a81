use Rattle.std.proofs.Common.{◌≡◌, length}
use Rattle.std.specs.List.{fold}
use Rattle.imap_grammar.specs.ItemData.{items_data_of}
use Rattle.mail_talk.specs.Results.{later_body, last_body}
use Rattle.mail_talk.proofs.results.last_body.Given as goal

abbrev pub invariant-loop-rest : goal.invariant-loop-rest
invariant-loop-rest l = fold later_body l.body (items_data_of l.rest) ≡ last_body l.items

abbrev pub decreases-loop-rest : goal.decreases-loop-rest
decreases-loop-rest l = length l.rest
