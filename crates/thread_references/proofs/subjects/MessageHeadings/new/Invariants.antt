use Rattle.std.proofs.Common.{◌≡◌, map, take, [], true}
use Rattle.thread_places.specs.Dates.{in_order}
use Rattle.thread_references.specs.Subjects.{folded_subject}
use Rattle.thread_references.proofs.subjects.MessageHeadings.new.Given as goal

abbrev pub invariant-loop-place : goal.invariant-loop-place
invariant-loop-place l = record {
  subjects : l.subjects ≡ in_order [] (map folded_subject l.facts) (take l.place-index l.order);
  replies : l.replies.items ≡ in_order true (map (λ f. f.subject.reply) l.facts) (take l.place-index l.order);
}
