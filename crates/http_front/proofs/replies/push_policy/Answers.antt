use Rattle.std.specs.Prelude.{codes}
use Rattle.http_front.specs.Replies.{image_sources}
use Rattle.http_front.proofs.Parts.{two_parts}
use Rattle.http_front.proofs.replies.push_policy.Goals as goal

pub returns : goal.returns
returns c = two_parts _ c.extend_from_slice.new.self.items _ _ (image_sources c.args.images) (codes "\r\n") c.in_ok-extend_from_slice.ensures.items (rw c.image_sources.ensures at c.in_ok-push_line.ensures)
